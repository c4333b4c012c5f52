-- A clause that is read under limits and is within others, and the end where it may come, is read so under those. Assumes nothing.
use Rattle.std.specs.Prelude.{Option, None, Some, Result, Ok, Err}
use Rattle.dimacs.specs.declared.Refusal.{Refusal}
use Prim.Native.Nat.{ℕ, ◌≤◌, ◌<◌}
use mathlib.Core.List.{List}
use mathlib.Core.Logic.{◌⊎◌, inl, inr, ⊎_elim}
use mathlib.Core.Path.{◌≡◌, refl, sym, ◌∙◌, subst, subst⁻¹}
use native.Mathlib.Omega.{arith}
use borrow.Author.Tests.{eq-eqb, ne_eqb, le-leb, lt-leb, leb-true}
use lib.Dec.{leb, eqb}
use lib.ListN.{length}
use Rattle.dimacs.specs.Names.{number_of, refusal, largest}
use Rattle.dimacs.specs.declared.Reason.{Reason}
use Rattle.dimacs.specs.Tokens.{Number, none, found, up_to, braced, at_end, blanks, lines, uint_at, end_of_line, line_ends, braced_uint_at}
use Rattle.dimacs.specs.Clauses.{Literals, nothing, closed, stopped, literals, Answer, clause, ended, refused, says, instead, absent, Start, with_literals, without, start_by, start_in2022, start_at, closing, finish, clause_by, clause_at}
use Rattle.dimacs.specs.Texts.{next_clause}
use Rattle.dimacs.specs.Leniency.{LiteralsWithin, GroupWithin}
use Rattle.dimacs.specs.declared.Format.{Format}
use Rattle.dimacs.specs.declared.Format.TheVariants.{Plain, Weighted, Grouped, Weighted2022}
use Rattle.dimacs.specs.declared.Limits.{Limits}
use Rattle.dimacs.specs.declared.Absence.{Absence}
use Rattle.dimacs.specs.declared.Absence.TheVariants.{MayEnd, NoClause, NoLiterals}
use Rattle.dimacs.specs.declared.Uint.{Uint}
use Rattle.dimacs.specs.declared.Uint.TheVariants as uint
use Rattle.dimacs.proofs.Tests.{tested}
use Rattle.dimacs.proofs.Clauses.{starts_in_2022}
use Rattle.dimacs.proofs.Order.{end_permitted, clause_none}
use Rattle.dimacs.proofs.NarrowedRows.{ClosedWithin, literals_narrowed}

-- An answer is a clause, and its group and literals are within the limits.
abbrev pub ClauseWithin : Format → Limits → Answer → Type 0
ClauseWithin f limits (clause extra so) = GroupWithin f limits.groups extra × LiteralsWithin limits.literals so
ClauseWithin f limits ended = ⊥
ClauseWithin f limits (refused r so) = ⊥

-- An answer is the end.
abbrev pub IsEnd : Answer → Type 0
IsEnd (clause extra so) = ⊥
IsEnd ended = Unit {0}
IsEnd (refused r so) = ⊥

-- The end may come where this is meant if no number stands.
abbrev pub EndMay : Absence → Type 0
EndMay MayEnd = Unit {0}
EndMay NoClause = ⊥
EndMay NoLiterals = ⊥

-- A clause begins with literals at a place, after this weight or group.
abbrev BeginsAt : ℕ → ℕ → Start → Type 0
BeginsAt extra e (with_literals extra' e' i) = (extra' ≡ extra) × (e' ≡ e)
BeginsAt extra e (without i) = ⊥

-- Where a clause begins under the wide limit, with a group within the narrow one, it begins so under that.
abbrev StartNarrowed : Format → ℕ → Start → Start → Type 0
StartNarrowed f narrow x (with_literals extra e i) = GroupWithin f narrow extra → BeginsAt extra e x
StartNarrowed f narrow x (without i) = Unit {0}

no_clause_instead : (f : Format) (limits : Limits) (i : Result ℕ Refusal) → ClauseWithin f limits (instead i).answer → ⊥
no_clause_instead f limits (Ok e) h = h
no_clause_instead f limits (Err r) h = h

module _ (s : List ℕ) where
  start_by_narrowed : (f : Format) (narrow big : ℕ) (x y : Absence) (at : ℕ) (u : Uint) → StartNarrowed f narrow (start_by s big x at u) (start_by s big y at u)
  start_by_narrowed f narrow big x y at uint.Missing = tt
  start_by_narrowed f narrow big x y at uint.TooBig = tt
  start_by_narrowed f narrow big x y at (uint.Value n e) = λ _. (refl, refl)

  group_narrowed : (narrow wide big : ℕ) (x y : Absence) (at : ℕ) (n : Number)
      → StartNarrowed Grouped narrow (start_by s big x at (up_to narrow n)) (start_by s big y at (up_to wide n))
  group_narrowed narrow wide big x y at none = tt
  group_narrowed narrow wide big x y at (found n e) =
      tested (leb n wide) (λ z. rw z (λ g. rw (le-leb n narrow g) (refl, refl))) (λ z. rw z tt)

  start_in_2022_narrowed : (narrow : ℕ) (x y : Absence) (at : ℕ) → StartNarrowed Weighted2022 narrow (start_in2022 s x at) (start_in2022 s y at)
  start_in_2022_narrowed narrow x y at =
      starts_in_2022 s (StartNarrowed Weighted2022 narrow) x y at tt (λ _. (refl, refl)) tt
      (start_by_narrowed Weighted2022 narrow (number_of Reason.WeightTooBig) x y at (uint_at s largest at))

  start_narrowed : (f : Format) (narrow wide : ℕ) (x y : Absence) (at : ℕ) → StartNarrowed f narrow (start_at s f narrow x at) (start_at s f wide y at)
  unfolding start_at braced_uint_at
  start_narrowed Plain narrow wide x y at = λ _. (refl, refl)
  start_narrowed Weighted narrow wide x y at = start_by_narrowed Weighted narrow (number_of Reason.WeightTooBig) x y at (uint_at s largest at)
  start_narrowed Grouped narrow wide x y at = group_narrowed narrow wide (number_of Reason.GroupTooBig) x y at (braced s at)
  start_narrowed Weighted2022 narrow wide x y at = start_in_2022_narrowed narrow x y at

  -- Of a clause that is within the limits, the group and the literals are.
  finish_within : (f : Format) (limits : Limits) (extra at : ℕ) (y : Absence) (l : Literals) → ClauseWithin f limits (finish s extra at y l).answer
      → GroupWithin f limits.groups extra × ClosedWithin limits.literals l
  unfolding closing
  finish_within f limits extra at y nothing h = absurd (no_clause_instead f limits (absent s y at) h)
  finish_within f limits extra at y (closed so e) h = go (end_of_line s e) h
    where
      go : (x : Option ℕ) → ClauseWithin f limits (line_ends x (says (clause extra so)) (says (refused (refusal s Reason.LineEndExpected e) so) e)).answer
          → GroupWithin f limits.groups extra × LiteralsWithin limits.literals so
      go None k = absurd k
      go (Some n) k = k
  finish_within f limits extra at y (stopped r so) h = absurd h

  -- The end is answered at the end alone, and where it may come.
  absent_end : (x : Absence) (at : ℕ) → IsEnd (instead (absent s x at)).answer → EndMay x × (length s ≤ at)
  unfolding absent
  absent_end MayEnd at h = tested (at_end s at) (λ e. (tt, leb-true (length s) at e)) (λ e. let k : ⊥ = rw e at h in absurd k)
  absent_end NoClause at h = absurd h
  absent_end NoLiterals at h = absurd h

  -- Nothing is owed but what is where a clause would begin; or a weight or group is read, after which literals are.
  abbrev EndsBy : Absence → ℕ → Start → Type 0
  EndsBy y at (with_literals extra e x) = ((e ≡ at) × (x ≡ y)) ⊎ (x ≡ NoLiterals)
  EndsBy y at (without i) = IsEnd (instead i).answer → EndMay y × (length s ≤ at)

  start_by_end : (big : ℕ) (y : Absence) (at : ℕ) (u : Uint) → EndsBy y at (start_by s big y at u)
  start_by_end big y at uint.Missing = absent_end y at
  start_by_end big y at uint.TooBig = λ h. absurd h
  start_by_end big y at (uint.Value n e) = inr refl

  start_end : (f : Format) (groups : ℕ) (y : Absence) (at : ℕ) → EndsBy y at (start_at s f groups y at)
  unfolding start_at
  start_end Plain groups y at = inl (refl, refl)
  start_end Weighted groups y at = start_by_end (number_of Reason.WeightTooBig) y at (uint_at s largest at)
  start_end Grouped groups y at = start_by_end (number_of Reason.GroupTooBig) y at (braced_uint_at s groups at)
  start_end Weighted2022 groups y at =
      starts_in_2022 s (λ _. EndsBy y at) y y at (λ h. absurd h) (inr refl) (λ h. absurd h) (start_by_end (number_of Reason.WeightTooBig) y at (uint_at s largest at))

  finish_end : (extra at : ℕ) (y : Absence) (l : Literals) → IsEnd (finish s extra at y l).answer → IsEnd (instead (absent s y at)).answer
  unfolding closing
  finish_end extra at y nothing h = h
  finish_end extra at y (closed so e) h = absurd (go (end_of_line s e) h)
    where
      go : (x : Option ℕ) → IsEnd (line_ends x (says (clause extra so)) (says (refused (refusal s Reason.LineEndExpected e) so) e)).answer → ⊥
      go None k = k
      go (Some n) k = k
  finish_end extra at y (stopped r so) h = absurd h

-- The answer after so many clauses is within the limits: a clause that may come, or the end where no clause is owed.
abbrev pub AnswerTrue : Format → Limits → ℕ → Answer → Type 0
AnswerTrue f limits count (clause extra so) = ClauseWithin f limits (clause extra so) × ((limits.clauses ≡ 0) ⊎ (count < limits.clauses))
AnswerTrue f limits count ended = (limits.clauses ≡ 0) ⊎ (limits.clauses ≤ count)
AnswerTrue f limits count (refused r so) = ⊥

module _ (s : List ℕ) (narrow wide : Limits) (room : ℕ) (f : Format) where
  clause_narrowed : (x y : Absence) (at : ℕ) → ClauseWithin f narrow (clause_at s wide room f y at).answer → clause_at s narrow room f x at ≡ clause_at s wide room f y at
  unfolding clause_at
  clause_narrowed x y at = go (start_at s f narrow.groups x at) (start_at s f wide.groups y at) (start_narrowed s f narrow.groups wide.groups x y at)
    where
      closes_alike : (extra e : ℕ) (i j : Absence) (l m : Literals) → l ≡ m → ClosedWithin narrow.literals m → finish s extra e i l ≡ finish s extra e j m
      closes_alike extra e i j l nothing h k = absurd k
      closes_alike extra e i j l (closed so n) h k = rw h refl
      closes_alike extra e i j l (stopped r so) h k = absurd k

      go : (p q : Start) → StartNarrowed f narrow.groups p q → ClauseWithin f narrow (clause_by s wide room q).answer → clause_by s narrow room p ≡ clause_by s wide room q
      go p (without i) k h = absurd (no_clause_instead f narrow i h)
      go (without i) (with_literals extra e j) k h =
          absurd (k (finish_within s f narrow extra e j (literals s wide.literals room e) h).0)
      go (with_literals extra' e' i) (with_literals extra e j) k h =
          let d = finish_within s f narrow extra e j (literals s wide.literals room e) h in
          let b = k d.0 in
          rw (b.0, b.1)
          (closes_alike extra e i j (literals s narrow.literals room e) (literals s wide.literals room e) (literals_narrowed s narrow.literals wide.literals room e d.1) d.1)

  -- The end is answered at the end of the text alone, and where no clause is owed.
  pub end_only : (y : Absence) (at : ℕ) → IsEnd (clause_at s wide room f y at).answer → EndMay y × (length s ≤ at)
  unfolding clause_at
  end_only y at = go (start_at s f wide.groups y at) (start_end s f wide.groups y at)
    where
      go : (q : Start) → EndsBy s y at q → IsEnd (clause_by s wide room q).answer → EndMay y × (length s ≤ at)
      go (without i) k h = k h
      go (with_literals extra e x) k h = by k (absent_end s x e (finish_end s extra e x (literals s wide.literals room e) h))
        where
          by : ((e ≡ at) × (x ≡ y)) ⊎ (x ≡ NoLiterals) → EndMay x × (length s ≤ e) → EndMay y × (length s ≤ at)
          by (inl l) d = (subst EndMay l.1 d.0, rw l.0 at d.1)
          by (inr l) d = absurd (subst EndMay l d.0)

  pub next_clause_narrowed : wide.clauses ≡ 0 → (count at : ℕ) → AnswerTrue f narrow count (next_clause s f wide room count at).answer
      → next_clause s f narrow room count at ≡ next_clause s f wide room count at
  unfolding next_clause
  next_clause_narrowed w count at h =
      rw (eq-eqb wide.clauses 0 w) (go (clause_at s wide room f MayEnd e).answer refl (rw (eq-eqb wide.clauses 0 w) at h))
    where
      e : ℕ
      e = lines s (blanks s at)

      go : (x : Answer) → (clause_at s wide room f MayEnd e).answer ≡ x → AnswerTrue f narrow count x → next_clause s f narrow room count at ≡ clause_at s wide room f MayEnd e
      go (clause extra so) is k =
          let c = subst⁻¹ (ClauseWithin f narrow) is k.0 in
          ⊎_elim (λ z. rw (eq-eqb narrow.clauses 0 z) (clause_narrowed MayEnd MayEnd e c))
          (λ l. rw (ne_eqb narrow.clauses 0 (λ z. omega arith), lt-leb narrow.clauses count l) (clause_narrowed NoClause MayEnd e c)) k.1
      go ended is k =
          let l = (end_only MayEnd e (subst⁻¹ IsEnd is tt)).1 in
          let q = sym (clause_none s e l f wide room) in
          ⊎_elim (λ z. rw (eq-eqb narrow.clauses 0 z) (clause_none s e l f narrow room ∙ q))
          (λ n. tested (eqb narrow.clauses 0) (λ z. rw z (clause_none s e l f narrow room ∙ q))
          (λ z. rw (z, le-leb narrow.clauses count n) (end_permitted s e l ∙ q))) k
      go (refused r so) is k = absurd k
