-- What follows from a reader's promises: a call has one answer. Assumes nothing.
use mathlib.Core.List.{List}
use mathlib.Core.Path.{◌≡◌, ap, sym, ◌∙◌}
use lib.IntN.{ℤ}
use Rattle.clause.specs.Answers.{Next}
use Rattle.formula.specs.declared.Stepped.{Stepped}
use Rattle.formula.proofs.Runs.{one_step}
use Rattle.reader.specs.declared.Reader.{Reader}
use Rattle.reader.specs.Readers.{Reads}

-- Two permitted answers of a call are equal, and so are the readers and the buffers after them.
pub one_read : {r r₁ r₂ : Reader} {old n₁ n₂ : List ℤ} {a₁ a₂ : Next} → Reads r old n₁ r₁ a₁ → Reads r old n₂ r₂ a₂ → (a₁ ≡ a₂) × (r₁ ≡ r₂) × (n₁ ≡ n₂)
one_read p q =
    let e = one_step p.step q.step in
    (ap (λ (z : Stepped). z.answer) e.0, (λ i. record { text = (p.text ∙ sym q.text) i; cursor = (e.0 i).cursor }), e.1)
