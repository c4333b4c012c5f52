-- The lines of clauses, read one after the other up to the end. Assumes nothing.
use Rattle.std.specs.Prelude.{None}
use Prim.Native.Nat.{ℕ, suc, ◌+◌, ◌≤◌}
use mathlib.Core.Bool.{cond}
use mathlib.Core.List.{List, [], ◌∷◌, ◌++◌, map}
use mathlib.Core.Path.{◌≡◌, ap, ◌∙◌}
use mathlib.Core.Logic.{◌⊎◌, inl, inr, ⊎_elim}
use native.Mathlib.Omega.{arith}
use borrow.Author.Tests.{le-leb, lt-leb, lt-ltb, eqb-true, eqb-false}
use lib.Dec.{leb, eqb}
use lib.ListN.{length, get_or}
use Rattle.dimacs.specs.Leniency.{Each}
use Rattle.dimacs.specs.Names.{ceiling, largest}
use Rattle.dimacs.specs.Clauses.{Answered, ended, says, instead, absent, clause_at}
use Rattle.dimacs.specs.Texts.{progress, one_more, next_clause, answer_at, settled, turn_by, turn, answers_from}
use Rattle.dimacs.specs.Writing.{clause_line}
use Rattle.dimacs.specs.declared.Format.{Format}
use Rattle.dimacs.specs.declared.Absence.TheVariants.{MayEnd, NoClause}
use Rattle.dimacs.specs.declared.Limits.{Limits}
use Rattle.dimacs.proofs.Tests.{chosen}
use Rattle.dimacs.proofs.Order.{end_permitted, clause_none}
use Rattle.dimacs.proofs.Texts.{answers_step}
use Rattle.read_back.specs.ReadBack.{Clause, ClauseFits, answer_of, clause_lines}
use Rattle.read_back.proofs.Ends.{Ends, start, ends_past, start_fits}
use Rattle.read_back.proofs.Tokens.{lines_none}
use Rattle.read_back.proofs.Clauses.{Opener, line_opens, clause_written}

pub lines_open : (f : Format) (cs : List Clause) → Opener (get_or (clause_lines f cs) 0 0)
unfolding clause_lines
lines_open f [] = omega arith
lines_open f (c ∷ cs) = line_opens f c.extra c.literals (clause_lines f cs)

-- No count of clauses applies; or the one that applies is reached with the n clauses still to come, and a count does not stay below it.
abbrev pub Counts : ℕ → ℕ → ℕ → Type 0
Counts limit count n = (limit ≡ 0) ⊎ ((limit ≡ count + n) × (limit ≤ largest))

one_more_lem : (limit count n : ℕ) → Counts limit count (suc n) → Counts limit (one_more count) n
one_more_lem limit count n (inl e) = inl e
one_more_lem limit count n (inr e) = rw (lt-ltb count largest (omega arith)) (inr (omega arith, e.1))

module _ (s : List ℕ) (f : Format) (limits : Limits) (low : limits.literals ≤ ceiling) (room : ℕ) where
  -- By whether a count applies and is reached.
  next_by : (r : List ℕ) (count : ℕ) (a : Answered) → Opener (get_or r 0 0) → Ends s r
      → (limits.clauses ≡ 0 → clause_at s limits room f MayEnd (start s r) ≡ a)
      → ((limits.clauses ≡ 0 → ⊥) → cond (leb limits.clauses count) (instead (absent s MayEnd (start s r))) (clause_at s limits room f NoClause (start s r)) ≡ a)
      → next_clause s f limits room count (start s r) ≡ a
  unfolding next_clause
  next_by r count a o h i j =
      rw (lines_none r o.bare h) (chosen (λ x. x ≡ a) (eqb limits.clauses 0) (λ e. i (eqb-true limits.clauses 0 e)) (λ e. j (eqb-false limits.clauses 0 e)))

  next_end : (count : ℕ) → Counts limits.clauses count 0 → Ends s [] → next_clause s f limits room count (start s []) ≡ says ended (start s [])
  next_end count n h =
      let l : length s ≤ start s [] = omega (arith, start_fits h) in
      next_by [] count (says ended (start s [])) (omega arith) h (λ _. clause_none s (start s []) l f limits room)
      (λ z. rw (le-leb limits.clauses count (⊎_elim (λ e. absurd (z e)) (λ e. omega arith) n)) (end_permitted s (start s []) l))

  next_line_lem : (c : Clause) (t : List ℕ) (count m : ℕ) → Counts limits.clauses count (suc m) → ClauseFits f limits room c
      → Ends s (clause_line f c.extra c.literals ++ t)
      → next_clause s f limits room count (start s (clause_line f c.extra c.literals ++ t)) ≡ says (answer_of c) (start s t)
  next_line_lem c t count m n k h =
      let read = clause_written s f limits room c t low k h in
      next_by (clause_line f c.extra c.literals ++ t) count (says (answer_of c) (start s t)) (line_opens f c.extra c.literals t) h (λ _. read MayEnd)
      (λ z. rw (lt-leb limits.clauses count (⊎_elim (λ e. absurd (z e)) (λ e. omega arith) n)) (read NoClause))

  turn_by_lem : (at count : ℕ) (d : Answered) → next_clause s f limits room count at ≡ d
      → turn s f limits room (progress at count None) ≡ turn_by (settled (progress at count None) d) d.answer
  unfolding turn answer_at
  turn_by_lem at count d e = rw e

  -- The clauses in their order, and the end.
  pub answers_written : (cs : List Clause) (count : ℕ) → Counts limits.clauses count (length cs) → Each (ClauseFits f limits room) cs → Ends s (clause_lines f cs)
      → answers_from s f limits room (progress (start s (clause_lines f cs)) count None) ≡ map answer_of cs ++ (ended ∷ [])
  unfolding clause_lines
  answers_written [] count n k h =
      answers_step s f limits room (progress (start s []) count None) ∙ rw (turn_by_lem (start s []) count _ (next_end count n h))
  answers_written (c ∷ cs) count n k h =
      let t = clause_lines f cs in
      let at = start s (clause_line f c.extra c.literals ++ t) in
      answers_step s f limits room (progress at count None)
      ∙ rw (turn_by_lem at count _ (next_line_lem c t count (length cs) n k.0 h))
      (ap (λ l. answer_of c ∷ l)
      (answers_written cs (one_more count) (one_more_lem limits.clauses count (length cs) n) k.1 (ends_past (clause_line f c.extra c.literals) t h)))
