-- What follows from the promises of a lent tray: each has one answer. Assumes nothing.
use Prim.Native.Nat.{ℕ}
use mathlib.Core.List.{List}
use mathlib.Core.Path.{◌≡◌, sym, ◌∙◌}
use Rattle.std.specs.Prelude.{Result}
use lib.IntN.{ℤ}
use Rattle.dimacs.specs.declared.Reason.{Reason}
use Rattle.ring.specs.declared.Tray.{Tray}
use Rattle.tray.specs.declared.Told.{Told}
use Rattle.tray.specs.Calls.{Put}
use Rattle.lent_tray.specs.Lent.{LentPut, LentTurn, LentWithdrawal}

-- Two permitted answers of a put are equal, and so are the trays after them.
pub one_lent_put : {t t₁ t₂ : Tray} {p : Put} {a₁ a₂ : Result ℕ Reason} → LentPut t p t₁ a₁ → LentPut t p t₂ a₂ → (a₁ ≡ a₂) × (t₁ ≡ t₂)
one_lent_put p q = (p.answer ∙ sym q.answer, p.tray ∙ sym q.tray)

-- Of a turn too, with the buffers.
pub one_lent_turn : {t t₁ t₂ : Tray} {area : List ℕ} {old n₁ n₂ : List ℤ} {a₁ a₂ : Result Told Reason} → LentTurn t area old n₁ t₁ a₁ → LentTurn t area old n₂ t₂ a₂ → (a₁ ≡ a₂) × (t₁ ≡ t₂) × (n₁ ≡ n₂)
one_lent_turn p q = (p.answer ∙ sym q.answer, p.tray ∙ sym q.tray, p.buffer ∙ sym q.buffer)

-- And of a withdrawal.
pub one_lent_withdrawal : {t t₁ t₂ : Tray} {k : ℕ} {a₁ a₂ : Result ℕ Reason} → LentWithdrawal t k t₁ a₁ → LentWithdrawal t k t₂ a₂ → (a₁ ≡ a₂) × (t₁ ≡ t₂)
one_lent_withdrawal p q = (p.answer ∙ sym q.answer, p.tray ∙ sym q.tray)
