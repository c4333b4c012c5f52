-- A clause takes at least two bytes, or one where the text ends. Assumes nothing.
use Rattle.std.specs.Prelude.{Option, None, Some, Result, Ok, Err}
use Prim.Native.Nat.{ℕ, suc, ◌+◌, ◌-◌, ◌/◌, ◌≤◌, ◌<◌, max}
use mathlib.Core.List.{List, []}
use mathlib.Core.Path.{◌≡◌}
use native.Mathlib.Omega.{arith}
use borrow.Author.Tests.{leb-true}
use lib.Dec.{eqb}
use lib.ListN.{length}
use lib.IntN.{ℤ}
use Rattle.dimacs.specs.Loop.{Step, again, answer}
use Rattle.dimacs.specs.Names.{number_of, numbered, refusal, largest, hard}
use Rattle.dimacs.specs.declared.Reason.{Reason}
use Rattle.dimacs.specs.Bytes.{bytes}
use Rattle.dimacs.specs.Tokens.{unmoved, at_end, word, linebreaks, uint_at, braced_uint_at, end_of_line, line_ends}
use Rattle.dimacs.specs.Rows.{Row, ends, closes, stops, read_by, Reading, reads, row}
use Rattle.dimacs.specs.Clauses.{Literals, nothing, closed, stopped, on_row, next_row, literals_from, literals, Answer, clause, ended, refused, Answered, says, instead, absent, Start, with_literals, without, is_zero, literals_after, start_by, start_in2022, start_at, closing, finish, clause_by, clause_at}
use Rattle.dimacs.specs.declared.Format.{Format}
use Rattle.dimacs.specs.declared.Limits.{Limits}
use Rattle.dimacs.specs.declared.Format.TheVariants.{Plain, Weighted, Grouped, Weighted2022}
use Rattle.dimacs.specs.declared.Refusal.{Refusal}
use Rattle.dimacs.specs.declared.Absence.{Absence}
use Rattle.dimacs.specs.declared.Absence.TheVariants.{MayEnd, NoClause, NoLiterals}
use Rattle.dimacs.specs.declared.Uint.{Uint}
use Rattle.dimacs.specs.declared.Uint.TheVariants as uint
use Rattle.dimacs.proofs.Loops.{Leads, Falls, after, unrolled, kept}
use Rattle.dimacs.proofs.Tests.{tested, chosen}
use Rattle.dimacs.proofs.Spans.{Spans, then_spans, Moves, moves, moves_then, EndCloses, end_closes, word_spans, linebreaks_spans, UintMoves, uint_moves, braced_uint_moves}
use Rattle.dimacs.proofs.Rows.{RowSpans, row_spans, Grown, row_grows, left}

-- The literals close past a byte of their own, or are refused at a place within reach.
abbrev pub LiteralsSpan : List ℕ → ℕ → Literals → Type 0
LiteralsSpan s at nothing = Unit {0}
LiteralsSpan s at (closed so e) = Moves s at e
LiteralsSpan s at (stopped r so) = Spans s at r.place

-- No more literals are read than there is room for.
abbrev pub LiteralsFit : ℕ → Literals → Type 0
LiteralsFit room nothing = Unit {0}
LiteralsFit room (closed so e) = length so ≤ room
LiteralsFit room (stopped r so) = length so ≤ room

module _ (s : List ℕ) (limit room : ℕ) where
  -- What holds of every way on that a row opens.
  pub by_row : (P : Step Reading Literals → Type 0) (held at : ℕ) (so : List ℤ) → P (answer nothing) → P (answer (stopped (refusal s Reason.LiteralExpectedAfterLines at) so))
      → P (answer (stopped (refusal s Reason.LiteralExpected at) so)) → (Moves s at (linebreaks s at) → P (again (reads (linebreaks s at) so)))
      → P (on_row s limit room held (ends at so))
  by_row P held at so n a b c =
      chosen P (eqb (length so) 0) (λ _. n)
      (λ _. chosen P (eqb (length so) held) (λ _. a)
      (λ _. chosen P (unmoved at (linebreaks s at)) (λ _. b) (λ k. c (moves (linebreaks_spans s at) k))))

  literals_falls : (r : Reading) → Falls (left s) r (next_row s limit room r)
  unfolding next_row
  literals_falls r = go (row s limit room r) (row_spans s limit room r)
    where
      go : (w : Row) → RowSpans s r.at w → Falls (left s) r (on_row s limit room (length r.so) w)
      go (closes n so) h = tt
      go (stops x so) h = tt
      go (ends at so) h = by_row (Falls (left s) r) (length r.so) at so tt tt tt (λ m. omega arith)

  -- One row with the line ends after it, and then the rest.
  pub literals_step : (r : Reading) → literals_from s limit room r ≡ after (next_row s limit room r) (literals_from s limit room)
  unfolding literals_from
  literals_step r = unrolled (next_row s limit room) nothing (left s) literals_falls (suc (length s)) r (omega arith)

  -- What each row keeps, and each answer then has, the literals' answer has.
  pub literals_kept : (P : Reading → Type 0) (Q : Literals → Type 0) → ((r : Reading) → P r → Leads P Q (next_row s limit room r)) → (r : Reading) → P r
      → Q (literals_from s limit room r)
  unfolding literals_from
  literals_kept P Q keeps r = kept (next_row s limit room) nothing (left s) literals_falls P Q keeps (suc (length s)) r (omega arith)

  literals_keep : (at : ℕ) (r : Reading) → Spans s at r.at → Leads (λ x. Spans s at x.at) (LiteralsSpan s at) (next_row s limit room r)
  unfolding next_row numbered
  literals_keep at r h = go (row s limit room r) (row_spans s limit room r)
    where
      On : Step Reading Literals → Type 0
      On = Leads (λ x. Spans s at x.at) (LiteralsSpan s at)

      go : (w : Row) → RowSpans s r.at w → On (on_row s limit room (length r.so) w)
      go (closes n so) m = moves_then h m
      go (stops x so) m = then_spans h m
      go (ends e so) m =
          let k = then_spans h m in
          by_row On (length r.so) e so tt k k (λ _. then_spans k (linebreaks_spans s e))

  pub literals_span : (at : ℕ) → LiteralsSpan s at (literals s limit room at)
  unfolding literals
  literals_span at = literals_kept (λ x. Spans s at x.at) (LiteralsSpan s at) (literals_keep at) (reads at []) (omega arith)

  fit_keep : (r : Reading) → length r.so ≤ room → Leads (λ x. length x.so ≤ room) (LiteralsFit room) (next_row s limit room r)
  unfolding next_row
  fit_keep r h = go (row s limit room r) (row_grows s limit room r)
    where
      On : Step Reading Literals → Type 0
      On = Leads (λ x. length x.so ≤ room) (LiteralsFit room)

      go : (w : Row) → Grown room r.so (read_by w) → On (on_row s limit room (length r.so) w)
      go (closes n so) g = omega arith
      go (stops x so) g = omega arith
      go (ends e so) g = let k : length so ≤ room = omega arith in by_row On (length r.so) e so tt k k (λ _. k)

  pub literals_fit : (at : ℕ) → LiteralsFit room (literals s limit room at)
  unfolding literals
  literals_fit at = literals_kept (λ x. length x.so ≤ room) (LiteralsFit room) fit_keep (reads at []) (omega arith)

-- How many clauses may still come.
abbrev pub to_come : List ℕ → ℕ → ℕ
to_come s at = (length s + 1 - at) / 2

-- Past a clause, which leaves fewer to come.
pub record Clears (s : List ℕ) (at e : ℕ) : Type 0 where
  pub on : at < e
  pub within : e ≤ length s
  pub fewer : to_come s e < to_come s at

pub record Stops (s : List ℕ) (at e : ℕ) (r : Refusal) : Type 0 where
  pub on : at ≤ r.place
  pub within : r.place ≤ max at (length s)
  pub there : e ≡ r.place

-- Where an answer stands: past its clause, at the end of the text, or at the refusal's place.
abbrev pub Placed : List ℕ → ℕ → ℕ → Answer → Type 0
Placed s at e (clause extra so) = Clears s at e
Placed s at e ended = (Spans s at e) × (length s ≤ e)
Placed s at e (refused r so) = Stops s at e r

abbrev pub Onward : List ℕ → ℕ → Answered → Type 0
Onward s at d = Placed s at d.place d.answer

-- An answer from further on is one from here.
pub back : {s : List ℕ} {at a : ℕ} → Spans s at a → (d : Answered) → Onward s a d → Onward s at d
back {s} {at} {a} h d k = go d.answer k
  where
    go : (x : Answer) → Placed s a d.place x → Placed s at d.place x
    go (clause extra so) k = omega arith
    go ended k = omega arith
    go (refused r so) k = omega arith

-- A clause begins with literals within reach, or what is answered instead stands there.
abbrev pub StartPlaced : List ℕ → ℕ → Start → Type 0
StartPlaced s at (with_literals extra e absence) = Spans s at e
StartPlaced s at (without i) = Onward s at (instead i)

module _ (s : List ℕ) where
  pub absent_onward : (absence : Absence) (at : ℕ) → Onward s at (instead (absent s absence at))
  unfolding absent numbered
  absent_onward MayEnd at =
      chosen (λ i. Onward s at (instead i)) (at_end s at) (λ e. let l = leb-true (length s) at e in omega arith) (λ _. omega arith)
  absent_onward NoClause at = omega arith
  absent_onward NoLiterals at = omega arith

  start_by_placed : (big : ℕ) (absence : Absence) (at : ℕ) (u : Uint) → UintMoves s at u → StartPlaced s at (start_by s big absence at u)
  unfolding numbered
  start_by_placed big absence at uint.Missing m = absent_onward absence at
  start_by_placed big absence at uint.TooBig m = omega arith
  start_by_placed big absence at (uint.Value extra e) m = then_spans (omega arith) (linebreaks_spans s e)

  -- A clause of the 2022 form begins in one of four ways, and only that by its weight hangs on what an absent number means: here on two such meanings side by side.
  pub starts_in_2022 : (P : Start → Start → Type 0) (x y : Absence) (at : ℕ)
      → let header = without (Err (refusal s Reason.HeaderNotExpected at)) in P header header
      → let hardOne = literals_after s hard (word s (bytes "h") at) in P hardOne hardOne
      → let zero = without (Err (refusal s Reason.WeightZero at)) in P zero zero
      → let soft = start_by s (number_of Reason.WeightTooBig) in let weight = uint_at s largest at in P (soft x at weight) (soft y at weight)
      → P (start_in2022 s x at) (start_in2022 s y at)
  unfolding start_in2022
  starts_in_2022 P x y at header hardOne zero soft =
      tested (unmoved at (word s (bytes "p") at))
      (λ p. tested (unmoved at (word s (bytes "h") at))
      (λ h. tested (is_zero (uint_at s largest at)) (λ z. rw (p, h, z) zero) (λ z. rw (p, h, z) soft))
      (λ h. rw (p, h) hardOne))
      (λ p. rw p header)

  start_in_2022_placed : (absence : Absence) (at : ℕ) → StartPlaced s at (start_in2022 s absence at)
  unfolding numbered
  start_in_2022_placed absence at =
      let h = word s (bytes "h") at in
      starts_in_2022 (λ _. StartPlaced s at) absence absence at (omega arith) (then_spans (word_spans s (bytes "h") at) (linebreaks_spans s h)) (omega arith)
      (start_by_placed (number_of Reason.WeightTooBig) absence at (uint_at s largest at) (uint_moves s largest at))

  start_placed : (f : Format) (groups : ℕ) (absence : Absence) (at : ℕ) → StartPlaced s at (start_at s f groups absence at)
  unfolding start_at
  start_placed Plain groups absence at = omega arith
  start_placed Weighted groups absence at = start_by_placed (number_of Reason.WeightTooBig) absence at (uint_at s largest at) (uint_moves s largest at)
  start_placed Grouped groups absence at = start_by_placed (number_of Reason.GroupTooBig) absence at (braced_uint_at s groups at) (braced_uint_moves s groups at)
  start_placed Weighted2022 groups absence at = start_in_2022_placed absence at

  finish_onward : (extra at : ℕ) (absence : Absence) (l : Literals) → LiteralsSpan s at l → Onward s at (finish s extra at absence l)
  unfolding closing numbered
  finish_onward extra at absence nothing m = absent_onward absence at
  finish_onward extra at absence (closed so e) m = go (end_of_line s e) (end_closes s e)
    where
      go : (x : Option ℕ) → EndCloses s e x → Onward s at (line_ends x (says (clause extra so)) (says (refused (refusal s Reason.LineEndExpected e) so) e))
      go None c = omega arith
      go (Some n) c = omega arith
  finish_onward extra at absence (stopped r so) m = omega arith

module _ (s : List ℕ) (limits : Limits) (room : ℕ) where
  -- A clause ends within the text and leaves fewer to come; the end is at the text's end; a refusal's place is within reach.
  pub clause_at_onward : (f : Format) (absence : Absence) (at : ℕ) → Onward s at (clause_at s limits room f absence at)
  unfolding clause_at
  clause_at_onward f absence at = go (start_at s f limits.groups absence at) (start_placed s f limits.groups absence at)
    where
      go : (x : Start) → StartPlaced s at x → Onward s at (clause_by s limits room x)
      go (with_literals extra e a) h =
          let l = literals s limits.literals room e in
          back h (finish s extra e a l) (finish_onward s extra e a l (literals_span s limits.literals room e))
      go (without i) h = h

-- So does a clause, and what is read before a refusal.
abbrev pub AnswerFits : ℕ → Answer → Type 0
AnswerFits room (clause extra so) = length so ≤ room
AnswerFits room ended = Unit {0}
AnswerFits room (refused r so) = length so ≤ room

abbrev pub Fits : ℕ → Answered → Type 0
Fits room d = AnswerFits room d.answer

module _ (room : ℕ) where
  pub instead_fits : (i : Result ℕ Refusal) → Fits room (instead i)
  instead_fits (Ok at) = tt
  instead_fits (Err r) = omega arith

module _ (s : List ℕ) (limits : Limits) (room : ℕ) where
  finish_fits : (extra at : ℕ) (absence : Absence) (l : Literals) → LiteralsFit room l → Fits room (finish s extra at absence l)
  unfolding closing
  finish_fits extra at absence nothing h = instead_fits room (absent s absence at)
  finish_fits extra at absence (closed so e) h = go (end_of_line s e)
    where
      go : (x : Option ℕ) → Fits room (line_ends x (says (clause extra so)) (says (refused (refusal s Reason.LineEndExpected e) so) e))
      go None = h
      go (Some n) = h
  finish_fits extra at absence (stopped r so) h = h

  pub clause_at_fits : (f : Format) (absence : Absence) (at : ℕ) → Fits room (clause_at s limits room f absence at)
  unfolding clause_at
  clause_at_fits f absence at = go (start_at s f limits.groups absence at)
    where
      go : (x : Start) → Fits room (clause_by s limits room x)
      go (with_literals extra e a) = finish_fits extra e a (literals s limits.literals room e) (literals_fit s limits.literals room e)
      go (without i) = instead_fits room i
