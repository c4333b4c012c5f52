-- What is read under limits is within them, and what is read to its end has as many clauses as they count. Assumes nothing.
use Rattle.std.specs.Prelude.{Option, None, Some, Result, Ok, Err}
use Rattle.dimacs.specs.declared.Refusal.{Refusal}
use Prim.Native.Nat.{ℕ, ◌+◌, ◌≤◌, ◌<◌, min}
use mathlib.Core.Bool.{Bool}
use mathlib.Core.List.{List, [], ◌∷◌, ◌++◌}
use mathlib.Core.Logic.{◌⊎◌, inl, inr}
use mathlib.Core.Path.{◌≡◌}
use native.Mathlib.Omega.{arith}
use borrow.Author.Tests.{eqb-true, leb-true, leb-false, lt-ltb}
use lib.Dec.{leb, eqb}
use lib.ListN.{length}
use lib.IntN.{ℤ, nat_abs}
use Rattle.dimacs.specs.Loop.{Step}
use Rattle.dimacs.specs.Names.{refusal, number_of, ceiling, largest}
use Rattle.dimacs.specs.declared.Reason.{Reason}
use Rattle.dimacs.specs.Tokens.{unmoved, blanks, lines, Number, none, found, up_to, up_to_either_way, unsigned, braced, minus, braced_uint_at, int_at, end_of_line, line_ends}
use Rattle.dimacs.specs.Rows.{Row, ends, closes, stops, read_by, Reading, reads, on_int, next_int, row}
use Rattle.dimacs.specs.Clauses.{Literals, nothing, closed, stopped, on_row, next_row, literals, Answer, clause, ended, refused, says, instead, absent, Start, with_literals, without, start_by, start_at, closing, finish, clause_by, clause_at}
use Rattle.dimacs.specs.Texts.{one_more, next_clause}
use Rattle.dimacs.specs.Leniency.{handed_out, ReachesEnd, LiteralsWithin, GroupWithin, ClausesWithin}
use Rattle.dimacs.specs.declared.Format.{Format}
use Rattle.dimacs.specs.declared.Format.TheVariants.{Plain, Weighted, Grouped, Weighted2022}
use Rattle.dimacs.specs.declared.Limits.{Limits}
use Rattle.dimacs.specs.declared.Absence.{Absence}
use Rattle.dimacs.specs.declared.Absence.TheVariants.{MayEnd, NoClause}
use Rattle.dimacs.specs.declared.Int.{Int}
use Rattle.dimacs.specs.declared.Int.TheVariants as int
use Rattle.dimacs.proofs.Tests.{tested, chosen}
use Rattle.dimacs.proofs.Loops.{Leads}
use Rattle.dimacs.proofs.Rows.{row_kept}
use Rattle.dimacs.proofs.Clauses.{by_row, literals_kept, to_come, Placed}
use Rattle.dimacs.proofs.Texts.{next_clause_onward, by_next, answers_at, answer_then, answers_next}
use Rattle.dimacs.proofs.NarrowedRows.{sized, HeldWithin}
use Rattle.dimacs.proofs.NarrowedClauses.{ClauseWithin, IsEnd, end_only, AnswerTrue}
use Rattle.dimacs.proofs.NarrowedAnswers.{AnswersTrue}

within_more : (limit : ℕ) (so : List ℤ) (v : ℤ) → LiteralsWithin limit so → nat_abs v ≤ limit → LiteralsWithin limit (so ++ (v ∷ []))
within_more limit [] v h k = (k, tt)
within_more limit (x ∷ so) v h k = (h.0, within_more limit so v h.1 k)

-- A literal that is read is within the limit.
abbrev IntBound : ℕ → Int → Type 0
IntBound limit int.Missing = Unit {0}
IntBound limit (int.Zero e) = Unit {0}
IntBound limit (int.Literal v e) = nat_abs v ≤ limit
IntBound limit int.TooBig = Unit {0}

-- So are literals that close.
abbrev LiteralsBound : ℕ → Literals → Type 0
LiteralsBound limit nothing = Unit {0}
LiteralsBound limit (closed so e) = LiteralsWithin limit so
LiteralsBound limit (stopped r so) = Unit {0}

-- A clause that begins has its group within the limit.
abbrev StartBound : Format → ℕ → Start → Type 0
StartBound f groups (with_literals extra e x) = GroupWithin f groups extra
StartBound f groups (without i) = Unit {0}

-- A clause that is answered is within the limits.
abbrev ClauseBound : Format → Limits → Answer → Type 0
ClauseBound f limits (clause extra so) = ClauseWithin f limits (clause extra so)
ClauseBound f limits ended = Unit {0}
ClauseBound f limits (refused r so) = Unit {0}

-- An answer after so many clauses is true, unless it is a refusal.
abbrev AnswerBound : Format → Limits → ℕ → Answer → Type 0
AnswerBound f limits count (clause extra so) = AnswerTrue f limits count (clause extra so)
AnswerBound f limits count ended = AnswerTrue f limits count ended
AnswerBound f limits count (refused r so) = Unit {0}

module _ (s : List ℕ) (limit room : ℕ) where
  int_bound : (at : ℕ) → IntBound limit (int_at s limit at)
  unfolding int_at
  int_bound at = go (unmoved at (minus s at)) (unsigned s (minus s at))
    where
      go : (positive : Bool) (x : Number) → IntBound limit (up_to_either_way limit positive x)
      go positive none = tt
      go positive (found n e) =
          tested (eqb n 0) (λ z. rw z tt)
          (λ z. tested (leb n (min limit ceiling)) (λ y. rw (z, y) (omega (arith, sized positive n, leb-true n (min limit ceiling) y))) (λ y. rw (z, y) tt))

  row_bound : (r : Reading) → HeldWithin limit r → LiteralsWithin limit (read_by (row s limit room r))
  unfolding next_int
  row_bound = row_kept s limit room (HeldWithin limit) (λ w. LiteralsWithin limit (read_by w)) (λ r h. go r h (int_at s limit r.at) (int_bound r.at))
    where
      On : Step Reading Row → Type 0
      On = Leads (HeldWithin limit) (λ w. LiteralsWithin limit (read_by w))

      go : (r : Reading) → HeldWithin limit r → (i : Int) → IntBound limit i → On (on_int s limit room i r.at r.so)
      go r h int.Missing k = h
      go r h (int.Zero n) k = h
      go r h (int.Literal v n) k = chosen On (leb room (length r.so)) (λ _. h) (λ _. within_more limit r.so v h k)
      go r h int.TooBig k = h

  literals_bound : (at : ℕ) → LiteralsBound limit (literals s limit room at)
  unfolding literals next_row
  literals_bound at =
      literals_kept s limit room (HeldWithin limit) (LiteralsBound limit) (λ r h. go (length r.so) (row s limit room r) (row_bound r h)) (reads at []) tt
    where
      On : Step Reading Literals → Type 0
      On = Leads (HeldWithin limit) (LiteralsBound limit)

      go : (held : ℕ) (w : Row) → LiteralsWithin limit (read_by w) → On (on_row s limit room held w)
      go held (closes e so) h = h
      go held (stops r so) h = tt
      go held (ends e so) h = by_row s limit room On held e so tt tt tt (λ _. h)

any_group : (f : Format) (groups : ℕ) → ((extra : ℕ) → GroupWithin f groups extra) → (x : Start) → StartBound f groups x
any_group f groups h (with_literals extra e x) = h extra
any_group f groups h (without i) = tt

start_bound : (s : List ℕ) (f : Format) (groups : ℕ) (absence : Absence) (at : ℕ) → StartBound f groups (start_at s f groups absence at)
unfolding start_at braced_uint_at
start_bound s Plain groups absence at = tt
start_bound s Weighted groups absence at = any_group Weighted groups (λ _. tt) (start_at s Weighted groups absence at)
start_bound s Grouped groups absence at = go (braced s at)
  where
    go : (x : Number) → StartBound Grouped groups (start_by s (number_of Reason.GroupTooBig) absence at (up_to groups x))
    go none = tt
    go (found n e) = tested (leb n groups) (λ y. rw y (leb-true n groups y)) (λ y. rw y tt)
start_bound s Weighted2022 groups absence at = any_group Weighted2022 groups (λ _. tt) (start_at s Weighted2022 groups absence at)

module _ (s : List ℕ) (f : Format) (limits : Limits) (room : ℕ) where
  instead_bound : (i : Result ℕ Refusal) → ClauseBound f limits (instead i).answer
  instead_bound (Ok e) = tt
  instead_bound (Err r) = tt

  finish_bound : (extra at : ℕ) (x : Absence) → GroupWithin f limits.groups extra → (l : Literals) → LiteralsBound limits.literals l → ClauseBound f limits (finish s extra at x l).answer
  unfolding closing
  finish_bound extra at x g nothing h = instead_bound (absent s x at)
  finish_bound extra at x g (closed so e) h = go (end_of_line s e)
    where
      go : (y : Option ℕ) → ClauseBound f limits (line_ends y (says (clause extra so)) (says (refused (refusal s Reason.LineEndExpected e) so) e)).answer
      go None = tt
      go (Some n) = (g, h)
  finish_bound extra at x g (stopped r so) h = tt

  clause_bound : (absence : Absence) (at : ℕ) → ClauseBound f limits (clause_at s limits room f absence at).answer
  unfolding clause_at
  clause_bound absence at = go (start_at s f limits.groups absence at) (start_bound s f limits.groups absence at)
    where
      go : (x : Start) → StartBound f limits.groups x → ClauseBound f limits (clause_by s limits room x).answer
      go (with_literals extra e x) g = finish_bound extra e x g (literals s limits.literals room e) (literals_bound s limits.literals room e)
      go (without i) g = instead_bound i

  next_bound : (count at : ℕ) → AnswerBound f limits count (next_clause s f limits room count at).answer
  unfolding next_clause
  next_bound count at =
      tested (eqb limits.clauses 0)
      (λ z.
      let k = eqb-true limits.clauses 0 z in
      rw z (by (clause_at s limits room f MayEnd e).answer (clause_bound MayEnd e) (inl k) (λ _. inl k)))
      (λ z. tested (leb limits.clauses count)
      (λ y. rw (z, y) (reached (leb-true limits.clauses count y) (absent s MayEnd e)))
      (λ y. rw (z, y)
      (by (clause_at s limits room f NoClause e).answer (clause_bound NoClause e) (inr (leb-false limits.clauses count y))
      (λ h. absurd (end_only s limits limits room f NoClause e h).0))))
    where
      e : ℕ
      e = lines s (blanks s at)

      by : (x : Answer) → ClauseBound f limits x → (limits.clauses ≡ 0) ⊎ (count < limits.clauses) → (IsEnd x → (limits.clauses ≡ 0) ⊎ (limits.clauses ≤ count)) → AnswerBound f limits count x
      by (clause extra so) b m h = (b, m)
      by ended b m h = h tt
      by (refused r so) b m h = tt

      reached : limits.clauses ≤ count → (i : Result ℕ Refusal) → AnswerBound f limits count (instead i).answer
      reached h (Ok n) = inr h
      reached h (Err r) = tt

  -- Where the end is reached, each answer up to it is true.
  pub answers_true : (at count : ℕ) → ReachesEnd (answers_at s f limits room at count) → AnswersTrue f limits count (answers_at s f limits room at count)
  answers_true =
      by_next s (λ at count. ReachesEnd (answers_at s f limits room at count) → AnswersTrue f limits count (answers_at s f limits room at count))
      (λ at count next h.
      let d = next_clause s f limits room count at in
      rw (answers_next s f limits room at count)
      (go at count d.place d.answer (next_bound count at) (next_clause_onward s f limits room count at) next (rw (answers_next s f limits room at count) at h)))
    where
      go : (at count e : ℕ) (x : Answer) → AnswerBound f limits count x → Placed s at e x
          → ((n : ℕ) → to_come s n < to_come s at → ReachesEnd (answers_at s f limits room n (one_more count)) → AnswersTrue f limits (one_more count) (answers_at s f limits room n (one_more count)))
          → ReachesEnd (answer_then s f limits room count e x) → AnswersTrue f limits count (answer_then s f limits room count e x)
      go at count e (clause extra so) b p next h = (b, next e p.fewer h)
      go at count e ended b p next h = b
      go at count e (refused r so) b p next h = absurd h

-- Answers that are true up to the end have their clauses within the limits, and as many as are counted.
pub counts_by_answers : (f : Format) (limits : Limits) → limits.clauses ≤ largest → (l : List Answer) (count : ℕ) → (limits.clauses ≡ 0) ⊎ (count ≤ limits.clauses) → AnswersTrue f limits count l
    → ClausesWithin f limits (handed_out l) × ((limits.clauses ≡ 0) ⊎ (limits.clauses ≡ count + length (handed_out l)))
counts_by_answers f limits m [] count c t = absurd t
counts_by_answers f limits m (clause extra so ∷ l) count c t =
    let d = counts_by_answers f limits m l (one_more count) (onward t.0.1) t.1 in
    ((t.0.0, d.0), number t.0.1 d.1)
  where
    onward : (limits.clauses ≡ 0) ⊎ (count < limits.clauses) → (limits.clauses ≡ 0) ⊎ (one_more count ≤ limits.clauses)
    onward (inl z) = inl z
    onward (inr k) = inr (rw (lt-ltb count largest (omega (arith, k, m))) (omega (arith, k)))

    number : (limits.clauses ≡ 0) ⊎ (count < limits.clauses) → (limits.clauses ≡ 0) ⊎ (limits.clauses ≡ one_more count + length (handed_out l))
        → (limits.clauses ≡ 0) ⊎ (limits.clauses ≡ count + length ((extra, so) ∷ handed_out l))
    number (inl z) q = inl z
    number (inr k) (inl z) = inl z
    number (inr k) (inr q) = let more : limits.clauses ≡ count + 1 + length (handed_out l) = rw (lt-ltb count largest (omega (arith, k, m))) at q in inr (omega (arith, more))
counts_by_answers f limits m (ended ∷ l) count c t = (tt, number c t)
  where
    number : (limits.clauses ≡ 0) ⊎ (count ≤ limits.clauses) → (limits.clauses ≡ 0) ⊎ (limits.clauses ≤ count) → (limits.clauses ≡ 0) ⊎ (limits.clauses ≡ count + 0)
    number (inl z) q = inl z
    number (inr k) (inl z) = inl z
    number (inr k) (inr q) = inr (omega (arith, k, q))
counts_by_answers f limits m (refused r so ∷ l) count c t = absurd t
