-- A clause, and the next clause, under limits and under ones that allow more. Assumes nothing.
use Rattle.std.specs.Prelude.{Option, None, Some, Ok, Err}
use Prim.Native.Nat.{ℕ, ◌≤◌}
use mathlib.Core.List.{List}
use mathlib.Core.Path.{◌≡◌, refl}
use mathlib.Core.Logic.{◌⊎◌, inl, inr}
use native.Mathlib.Omega.{arith}
use borrow.Author.Tests.{eq-eqb, leb-true}
use lib.Dec.{leb, eqb}
use lib.ListN.{length}
use lib.IntN.{ℤ}
use Rattle.dimacs.specs.Names.{number_of, numbered, refusal, largest}
use Rattle.dimacs.specs.declared.Reason.{Reason}
use Rattle.dimacs.specs.Tokens.{at_end, blanks, lines, uint_at, end_of_line, line_ends, braced_uint_at}
use Rattle.dimacs.specs.Clauses.{Literals, nothing, closed, stopped, literals, Answer, clause, ended, refused, Answered, says, instead, absent, Start, with_literals, without, start_by, start_in2022, start_at, closing, finish, clause_by, clause_at}
use Rattle.dimacs.specs.Texts.{next_clause}
use Rattle.dimacs.specs.declared.Format.{Format}
use Rattle.dimacs.specs.declared.Format.TheVariants.{Plain, Weighted, Grouped, Weighted2022}
use Rattle.dimacs.specs.declared.Limits.{Limits}
use Rattle.dimacs.specs.declared.Absence.{Absence}
use Rattle.dimacs.specs.declared.Absence.TheVariants.{MayEnd, NoClause, NoLiterals}
use Rattle.dimacs.specs.declared.Uint.{Uint}
use Rattle.dimacs.specs.declared.Uint.TheVariants as uint
use Rattle.dimacs.proofs.Tests.{tested, chosen}
use Rattle.dimacs.proofs.Allows.{Allows}
use Rattle.dimacs.proofs.Spans.{EndCloses, end_closes}
use Rattle.dimacs.proofs.Clauses.{Placed, Onward, absent_onward, starts_in_2022, clause_at_onward}
use Rattle.dimacs.proofs.Order.{clause_none}
use Rattle.dimacs.proofs.WidenedNumbers.{UintWidened, uint_itself, group_widened}
use Rattle.dimacs.proofs.WidenedRows.{LiteralsPast, LiteralsWidened, literals_widened}

-- An answer that is read on from a place is past its clause there, or is not refused before.
abbrev pub AnswerPast : ℕ → ℕ → Answer → Type 0
AnswerPast at e (clause extra so) = at ≤ e
AnswerPast at e ended = Unit {0}
AnswerPast at e (refused r so) = at ≤ r.place

-- Where an answer is not refused it is the same under the wide limits, and where it is refused it is read on from there.
abbrev pub AnswerWidened : ℕ → Answer → Answered → Type 0
AnswerWidened e (clause extra so) y = y ≡ says (clause extra so) e
AnswerWidened e ended y = y ≡ says ended e
AnswerWidened e (refused r so) y = AnswerPast r.place y.place y.answer

-- The same, of an answer with its place.
abbrev pub Widened : Answered → Answered → Type 0
Widened x y = AnswerWidened x.place x.answer y

answered_itself : (d : Answered) → Widened d d
answered_itself d = go d.answer
  where
    go : (a : Answer) → AnswerWidened d.place a (says a d.place)
    go (clause extra so) = refl
    go ended = refl
    go (refused r so) = omega arith

onward_past : (s : List ℕ) (from at : ℕ) → from ≤ at → (d : Answered) → Onward s at d → AnswerPast from d.place d.answer
onward_past s from at h d = go d.answer
  where
    go : (a : Answer) → Placed s at d.place a → AnswerPast from d.place a
    go (clause extra so) k = omega (arith, k.on)
    go ended k = tt
    go (refused r so) k = omega (arith, k.on)

-- What it means that no number stands there: the same, or anything where a clause had to come, as that is refused.
abbrev pub AbsenceWidened : Absence → Absence → Type 0
AbsenceWidened MayEnd y = y ≡ MayEnd
AbsenceWidened NoClause y = Unit {0}
AbsenceWidened NoLiterals y = y ≡ NoLiterals

-- Both clauses begin with literals at one place, after the same weight or group.
abbrev StartsAlike : ℕ → ℕ → Absence → Start → Type 0
StartsAlike extra e x (with_literals extra' e' y) = (extra' ≡ extra) × (e' ≡ e) × AbsenceWidened x y
StartsAlike extra e x (without i) = ⊥

-- A clause begins alike, or is refused where it begins.
abbrev StartWidened : ℕ → Start → Start → Type 0
StartWidened at (with_literals extra e x) y = StartsAlike extra e x y
StartWidened at (without (Ok e)) y = y ≡ without (Ok e)
StartWidened at (without (Err r)) y = r.place ≤ at

module _ (s : List ℕ) where
  absent_widened : (x y : Absence) → AbsenceWidened x y → (at : ℕ) → Widened (instead (absent s x at)) (instead (absent s y at))
  unfolding absent numbered
  absent_widened MayEnd y h at = rw h (answered_itself (instead (absent s MayEnd at)))
  absent_widened NoClause y h at = onward_past s at at (omega arith) (instead (absent s y at)) (absent_onward s y at)
  absent_widened NoLiterals y h at = rw h (answered_itself (instead (absent s NoLiterals at)))

  no_start_widened : (x y : Absence) → AbsenceWidened x y → (at : ℕ) → StartWidened at (without (absent s x at)) (without (absent s y at))
  unfolding absent numbered
  no_start_widened MayEnd y h at = rw h (tested (at_end s at) (λ e. rw e refl) (λ e. rw e (omega arith)))
  no_start_widened NoClause y h at = omega arith
  no_start_widened NoLiterals y h at = omega arith

  start_by_widened : (big : ℕ) (x y : Absence) → AbsenceWidened x y → (at : ℕ) (u v : Uint) → UintWidened u v → StartWidened at (start_by s big x at u) (start_by s big y at v)
  unfolding numbered
  start_by_widened big x y h at uint.Missing v k = rw k (no_start_widened x y h at)
  start_by_widened big x y h at (uint.Value n e) v k = rw k (refl, refl, refl)
  start_by_widened big x y h at uint.TooBig v k = omega arith

  start_in_2022_widened : (x y : Absence) → AbsenceWidened x y → (at : ℕ) → StartWidened at (start_in2022 s x at) (start_in2022 s y at)
  unfolding numbered
  start_in_2022_widened x y h at =
      let u = uint_at s largest at in
      starts_in_2022 s (StartWidened at) x y at (omega arith) (refl, refl, refl) (omega arith) (start_by_widened (number_of Reason.WeightTooBig) x y h at u u (uint_itself u))

  start_widened : (f : Format) {narrow wide : ℕ} → narrow ≤ wide → (x y : Absence) → AbsenceWidened x y → (at : ℕ) → StartWidened at (start_at s f narrow x at) (start_at s f wide y at)
  unfolding start_at
  start_widened Plain g x y h at = (refl, refl, h)
  start_widened Weighted g x y h at =
      let u = uint_at s largest at in start_by_widened (number_of Reason.WeightTooBig) x y h at u u (uint_itself u)
  start_widened Grouped {narrow} {wide} g x y h at =
      start_by_widened (number_of Reason.GroupTooBig) x y h at (braced_uint_at s narrow at) (braced_uint_at s wide at) (group_widened s g at)
  start_widened Weighted2022 g x y h at = start_in_2022_widened x y h at

  -- A clause whose literals close past a place ends past it, or is refused there.
  closing_past : (from extra at : ℕ) (so : List ℤ) → from ≤ at → let d = closing s extra at so in AnswerPast from d.place d.answer
  unfolding closing numbered
  closing_past from extra at so h = go (end_of_line s at) (end_closes s at)
    where
      go : (x : Option ℕ) → EndCloses s at x
          → let d = line_ends x (says (clause extra so)) (says (refused (refusal s Reason.LineEndExpected at) so) at) in AnswerPast from d.place d.answer
      go None c = h
      go (Some e) c = omega (arith, c.on)

  finish_widened : (extra at : ℕ) (x y : Absence) → AbsenceWidened x y → (l m : Literals) → LiteralsWidened l m → Widened (finish s extra at x l) (finish s extra at y m)
  finish_widened extra at x y h nothing m k = rw k (absent_widened x y h at)
  finish_widened extra at x y h (closed so e) m k = rw k (answered_itself (closing s extra e so))
  finish_widened extra at x y h (stopped r so) m k = go m k
    where
      go : (l : Literals) → LiteralsPast r.place l → let d = finish s extra at y l in AnswerPast r.place d.place d.answer
      go nothing p = absurd p
      go (closed so' e) p = closing_past r.place extra e so' p
      go (stopped q so') p = p

module _ (s : List ℕ) {narrow wide : Limits} (a : Allows narrow wide) (room : ℕ) (f : Format) where
  clause_widened : (x y : Absence) → AbsenceWidened x y → (at : ℕ) → Widened (clause_at s narrow room f x at) (clause_at s wide room f y at)
  unfolding clause_at
  clause_widened x y h at =
      go (start_at s f narrow.groups x at) (start_at s f wide.groups y at) (start_widened s f a.groups x y h at) (clause_at_onward s wide room f y at)
    where
      go : (p q : Start) → StartWidened at p q → Onward s at (clause_by s wide room q) → Widened (clause_by s narrow room p) (clause_by s wide room q)
      go (with_literals extra e i) (with_literals extra' e' j) k o =
          rw (k.0, k.1)
          (finish_widened s extra e i j k.2 (literals s narrow.literals room e) (literals s wide.literals room e) (literals_widened s a.literals room e))
      go (with_literals extra e i) (without j) k o = absurd k
      go (without (Ok e)) q k o = rw k refl
      go (without (Err r)) q k o = onward_past s r.place at k (clause_by s wide room q) o

  -- The count is reached: at the end of the text both answer the end; elsewhere the narrow limits refuse a clause, and the wide ones read on.
  reached_widened : (at : ℕ) → Widened (instead (absent s MayEnd at)) (clause_at s wide room f MayEnd at)
  unfolding absent numbered
  reached_widened at =
      tested (at_end s at)
      (λ e. let l = leb-true (length s) at e in rw (e, clause_none s at l f wide room) refl)
      (λ e. rw e (onward_past s at at (omega arith) (clause_at s wide room f MayEnd at) (clause_at_onward s wide room f MayEnd at)))

  -- The same count of clauses is applied, or none is.
  pub next_clause_widened : (count at : ℕ) → Widened (next_clause s f narrow room count at) (next_clause s f wide room count at)
  unfolding next_clause clause_at
  next_clause_widened count at = go a.clauses
    where
      e : ℕ
      e = lines s (blanks s at)

      go : (wide.clauses ≡ narrow.clauses) ⊎ (wide.clauses ≡ 0) → Widened (next_clause s f narrow room count at) (next_clause s f wide room count at)
      go (inl h) =
          rw h
          (tested (eqb narrow.clauses 0) (λ z. rw z (clause_widened MayEnd MayEnd refl e))
          (λ z. tested (leb narrow.clauses count)
          (λ y. rw (z, y) (answered_itself (instead (absent s MayEnd e))))
          (λ y. rw (z, y) (clause_widened NoClause NoClause tt e))))
      go (inr h) =
          rw (eq-eqb wide.clauses 0 h)
          (chosen (λ d. Widened d (clause_at s wide room f MayEnd e)) (eqb narrow.clauses 0) (λ _. clause_widened MayEnd MayEnd refl e)
          (λ _. chosen (λ d. Widened d (clause_at s wide room f MayEnd e)) (leb narrow.clauses count) (λ _. reached_widened e) (λ _. clause_widened NoClause MayEnd tt e)))
