-- The next answer, by whether the count of clauses is reached. Assumes nothing.
use Prim.Native.Nat.{ℕ}
use mathlib.Core.Bool.{Bool, true, false, cond, not, ◌&&◌}
use mathlib.Core.List.{List}
use mathlib.Core.Path.{◌≡◌, refl}
use lib.Dec.{eqb, leb}
use lib.ListN.{length}
use lib.IntN.{ℤ}
use Rattle.dimacs.specs.Tokens.{blanks, lines}
use Rattle.dimacs.specs.Clauses.{instead, absent, clause_at}
use Rattle.dimacs.specs.Texts.{next_clause}
use Rattle.dimacs.specs.declared.Format.{Format}
use Rattle.dimacs.specs.declared.Limits.{Limits}
use Rattle.dimacs.specs.declared.Absence.{Absence}
use Rattle.dimacs.specs.declared.Absence.TheVariants.{MayEnd, NoClause}
use Rattle.clause.specs.Answers.{answered_of, Answers}
use Rattle.clause.specs.declared.Answered.{Answered}
use Rattle.clause.proofs.Finishes.{instead_answers}
use Rattle.formula.specs.Cursors.{reached, absence_of}

module _ {X : Type 0} (f : Absence → X) (x : X) where
  -- A count that is not 0 and is reached.
  chosen_reached : (a b : Bool) → (not a && b) ≡ true → cond a (f MayEnd) (cond b x (f NoClause)) ≡ x
  chosen_reached true b h = cc
  chosen_reached false true h = refl
  chosen_reached false false h = cc

  chosen_open : (a b : Bool) → (not a && b) ≡ false → cond a (f MayEnd) (cond b x (f NoClause)) ≡ f (cond a MayEnd NoClause)
  chosen_open true b h = refl
  chosen_open false true h = cc
  chosen_open false false h = refl

module _ (s : List ℕ) (f : Format) (limits : Limits) (count place : ℕ) (old : List ℤ) {at : ℕ} (there : at ≡ lines s (blanks s place)) where
  pub looks_reached : {r : Answered} → reached limits.clauses count ≡ true → r ≡ answered_of (instead (absent s MayEnd at))
      → Answers (next_clause s f limits (length old) count place) old old r
  unfolding next_clause
  looks_reached t e =
      let room = length old in
      rw (chosen_reached (λ a. clause_at s limits room f a (lines s (blanks s place))) (instead (absent s MayEnd (lines s (blanks s place)))) (eqb limits.clauses 0) (leb limits.clauses count) t)
      (rw there at (instead_answers (absent s MayEnd at) old e))

  pub looks_open : {new : List ℤ} {r : Answered} {a : Absence} → reached limits.clauses count ≡ false → a ≡ absence_of limits.clauses
      → Answers (clause_at s limits (length old) f a at) old new r → Answers (next_clause s f limits (length old) count place) old new r
  unfolding next_clause
  looks_open t e h =
      let room = length old in
      rw (chosen_open (λ a. clause_at s limits room f a (lines s (blanks s place))) (instead (absent s MayEnd (lines s (blanks s place)))) (eqb limits.clauses 0) (leb limits.clauses count) t)
      (rw (there, e) at h)
