-- Answers that are read to the end under limits and are within others, in number too, are read so under those. Assumes nothing.
use Prim.Native.Nat.{ℕ, ◌+◌, ◌≤◌, ◌<◌}
use mathlib.Core.List.{List, [], ◌∷◌}
use mathlib.Core.Logic.{◌⊎◌, inl, inr}
use mathlib.Core.Path.{◌≡◌, refl, ap}
use native.Mathlib.Omega.{arith}
use borrow.Author.Tests.{lt-ltb}
use lib.ListN.{length}
use Rattle.dimacs.specs.Names.{largest}
use Rattle.dimacs.specs.Clauses.{Answer, clause, ended, refused, Answered, says}
use Rattle.dimacs.specs.Texts.{one_more, next_clause}
use Rattle.dimacs.specs.Leniency.{handed_out, ReachesEnd, ClausesWithin}
use Rattle.dimacs.specs.declared.Format.{Format}
use Rattle.dimacs.specs.declared.Limits.{Limits}
use Rattle.dimacs.proofs.Clauses.{to_come, Placed}
use Rattle.dimacs.proofs.Texts.{next_clause_onward, by_next, answers_at, answer_then, answers_next}
use Rattle.dimacs.proofs.NarrowedClauses.{AnswerTrue, next_clause_narrowed}

-- Each answer after so many clauses is within the limits, up to the end.
abbrev pub AnswersTrue : Format → Limits → ℕ → List Answer → Type 0
AnswersTrue f limits count [] = ⊥
AnswersTrue f limits count (clause extra so ∷ l) = AnswerTrue f limits count (clause extra so) × AnswersTrue f limits (one_more count) l
AnswersTrue f limits count (ended ∷ l) = AnswerTrue f limits count ended
AnswersTrue f limits count (refused r so ∷ l) = ⊥

-- So they are where the clauses are within the limits and as many as are counted.
pub answers_by_counts : (f : Format) (limits : Limits) → limits.clauses ≤ largest → (l : List Answer) (count : ℕ) → ReachesEnd l → ClausesWithin f limits (handed_out l)
    → (limits.clauses ≡ 0) ⊎ (limits.clauses ≡ count + length (handed_out l)) → AnswersTrue f limits count l
answers_by_counts f limits m [] count e w n = absurd e
answers_by_counts f limits m (clause extra so ∷ l) count e w n = ((w.0, fewer n), answers_by_counts f limits m l (one_more count) e w.1 (onward n))
  where
    fewer : (limits.clauses ≡ 0) ⊎ (limits.clauses ≡ count + length ((extra, so) ∷ handed_out l)) → (limits.clauses ≡ 0) ⊎ (count < limits.clauses)
    fewer (inl z) = inl z
    fewer (inr z) = inr (omega (arith, z))

    onward : (limits.clauses ≡ 0) ⊎ (limits.clauses ≡ count + length ((extra, so) ∷ handed_out l)) → (limits.clauses ≡ 0) ⊎ (limits.clauses ≡ one_more count + length (handed_out l))
    onward (inl z) = inl z
    onward (inr z) = inr (rw (lt-ltb count largest (omega (arith, z, m))) (omega (arith, z)))
answers_by_counts f limits m (ended ∷ l) count e w n = go n
  where
    go : (limits.clauses ≡ 0) ⊎ (limits.clauses ≡ count + 0) → (limits.clauses ≡ 0) ⊎ (limits.clauses ≤ count)
    go (inl z) = inl z
    go (inr z) = inr (omega (arith, z))
answers_by_counts f limits m (refused r so ∷ l) count e w n = absurd e

module _ (s : List ℕ) (f : Format) (room : ℕ) (narrow wide : Limits) (any : wide.clauses ≡ 0) where
  -- Answers that are within the narrow limits are the same under both.
  abbrev SameAt : ℕ → ℕ → Type 0
  SameAt at count = AnswersTrue f narrow count (answers_at s f wide room at count) → answers_at s f narrow room at count ≡ answers_at s f wide room at count

  same_next : (at count e : ℕ) (x : Answer) (y : Answered) → (AnswerTrue f narrow count x → y ≡ says x e) → Placed s at e x → AnswersTrue f narrow count (answer_then s f wide room count e x)
      → ((n : ℕ) → to_come s n < to_come s at → SameAt n (one_more count)) → answer_then s f narrow room count y.place y.answer ≡ answer_then s f wide room count e x
  same_next at count e (clause extra so) y is p t next = rw (is t.0) (ap (λ l. clause extra so ∷ l) (next e p.fewer t.1))
  same_next at count e ended y is p t next = rw (is t) refl
  same_next at count e (refused r so) y is p t next = absurd t

  pub answers_narrowed : (at count : ℕ) → SameAt at count
  answers_narrowed =
      by_next s SameAt
      (λ at count next h.
      let d = next_clause s f wide room count at in
      rw (answers_next s f narrow room at count, answers_next s f wide room at count)
      (same_next at count d.place d.answer (next_clause s f narrow room count at) (next_clause_narrowed s narrow wide room f any count at) (next_clause_onward s f wide room count at)
      (rw (answers_next s f wide room at count) at h) next))
