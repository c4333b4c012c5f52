-- What a writer leaves to a host, by what the writer promises. Assumes nothing.
use Prim.Native.Nat.{ℕ}
use mathlib.Core.List.{List}
use mathlib.Core.Path.{◌≡◌, refl, sym, ap, ◌∙◌}
use Rattle.std.specs.Prelude.{Result, Err, IsErr}
use Rattle.std.specs.Result.{IsErrAnd}
use Rattle.std.proofs.lemmas.Result.{err_from_is_err_and}
use Rattle.dimacs.specs.Writing as def
use Rattle.dimacs.specs.declared.Format.{Format}
use Rattle.dimacs.specs.declared.Refusal.{Refusal}
use Rattle.writer.specs.Answers.{Writes}
use Rattle.answer_words.specs.Words.{written_kind, written_words}
use Rattle.by_number.specs.Lines.{line_in, LeavesLine}

-- Where no format is named, nothing is written.
pub in_none : {x : Result Format Refusal} (line : Format → def.Written) {old : List ℕ} {e : Refusal} {r : Result ℕ Refusal} → Err e ≡ x → IsErr r × IsErrAnd r (λ y. y ≡ e) → Writes (line_in x line) old old r
in_none line {r = r} e h = let p = err_from_is_err_and r h.1 in rw (sym e) (record { answer = cc; output = refl })

-- What is left of a writer's answer.
pub leaves : {d : def.Written} {old new said : List ℕ} {r : ℕ} (w : Result ℕ Refusal) → Writes d old new w → said ≡ written_words w → r ≡ written_kind w → LeavesLine d old new said r
leaves w p s k = record { kind = k ∙ ap written_kind p.answer; words = s ∙ ap written_words p.answer; output = p.output }

-- Two answers that the contract permits are equal, and so is what they leave.
pub one_line : {d : def.Written} {old n₁ n₂ said₁ said₂ : List ℕ} {r₁ r₂ : ℕ} → LeavesLine d old n₁ said₁ r₁ → LeavesLine d old n₂ said₂ r₂
    → (r₁ ≡ r₂) × (said₁ ≡ said₂) × (n₁ ≡ n₂)
one_line p q = (p.kind ∙ sym q.kind, p.words ∙ sym q.words, p.output ∙ sym q.output)
