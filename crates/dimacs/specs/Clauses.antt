-- A clause of each format.
use Rattle.std.specs.Prelude.{ℕ, suc, Bool, true, false, cond, List, [], length, eqb, ℤ, Result, Ok, Err}
use Rattle.dimacs.specs.Loop.{Step, again, answer, loop}
use Rattle.dimacs.specs.Names.{number_of, numbered, refusal, largest, hard}
use Rattle.dimacs.specs.declared.Reason.{Reason}
use Rattle.dimacs.specs.Bytes.{bytes}
use Rattle.dimacs.specs.Tokens.{unmoved, at_end, word, linebreaks, uint_at, braced_uint_at, end_of_line, line_ends}
use Rattle.dimacs.specs.Rows.{Row, ends, closes, stops, Reading, reads, row}
use Rattle.dimacs.specs.declared.Format.{Format}
use Rattle.dimacs.specs.declared.Limits.{Limits}
use Rattle.dimacs.specs.declared.Format.TheVariants.{Plain, Weighted, Grouped, Weighted2022}
use Rattle.dimacs.specs.declared.Refusal.{Refusal}
use Rattle.dimacs.specs.declared.Absence.{Absence}
use Rattle.dimacs.specs.declared.Absence.TheVariants.{MayEnd, NoClause, NoLiterals}
use Rattle.dimacs.specs.declared.Uint.{Uint}
use Rattle.dimacs.specs.declared.Uint.TheVariants as uint

-- What a list of literals comes to: no number stands at its place; they close, at the place past the 0 and the blanks after it; or a refusal, with the literals before it.
pub data Literals : Type 0 where
  nothing : Literals
  closed : List ℤ → ℕ → Literals
  stopped : Refusal → List ℤ → Literals

module _ (s : List ℕ) (limit room : ℕ) where
  -- By a row, after so many literals. Where it ends without its 0: no literal at all is nothing; a row that added none leaves one owed after the line ends
  -- before it; else line ends must come.
  abbrev pub on_row : ℕ → Row → Step Reading Literals
  on_row held (closes next so) = answer (closed so next)
  on_row held (stops r so) = answer (stopped r so)
  on_row held (ends at so) =
      let e = linebreaks s at in
      cond (eqb (length so) 0) (answer nothing)
      (cond (eqb (length so) held) (answer (stopped (refusal s Reason.LiteralExpectedAfterLines at) so))
      (cond (unmoved at e) (answer (stopped (refusal s Reason.LiteralExpected at) so)) (again (reads e so))))

  -- One row, and the line ends after it.
  unfoldable pub next_row : Reading → Step Reading Literals
  next_row r = on_row (length r.so) (row s limit room r)

  -- The literals from a state on.
  unfoldable pub literals_from : Reading → Literals
  literals_from = loop next_row nothing (suc (length s))

  -- The literals from a place on, up to the 0.
  unfoldable pub literals : ℕ → Literals
  literals at = literals_from (reads at [])

-- What a call for the next clause answers: a clause's weight or group, 0 if it has neither, and its literals; the end; or a refusal, with
-- the literals of the unfinished clause.
pub data Answer : Type 0 where
  clause : ℕ → List ℤ → Answer
  ended : Answer
  refused : Refusal → List ℤ → Answer

-- An answer, and the place where the next call begins.
pub record Answered : Type 0 where
  pub answer : Answer
  pub place : ℕ

-- An answer by its two parts.
abbrev pub says : Answer → ℕ → Answered
says a at = record { answer = a; place = at }

-- What is answered where no clause stands, with no literals.
abbrev pub instead : Result ℕ Refusal → Answered
instead (Ok at) = says ended at
instead (Err r) = says (refused r []) r.place

-- Clauses of the 2022 form are hard or soft.
abbrev pub has_hard : Format → Bool
has_hard Plain = false
has_hard Weighted = false
has_hard Grouped = false
has_hard Weighted2022 = true

-- How a clause begins: with literals from a place on, after its weight or group, 0 if it has neither, and with what it means if no number stands there; or not, with
-- what is answered instead.
pub data Start : Type 0 where
  with_literals : ℕ → ℕ → Absence → Start
  without : Result ℕ Refusal → Start

-- A weight of 0.
abbrev pub is_zero : Uint → Bool
is_zero uint.Missing = false
is_zero (uint.Value n next) = eqb n 0
is_zero uint.TooBig = false

module _ (s : List ℕ) where
  -- Where no number stands: the end of the text if it may come there, else a refusal.
  unfoldable pub absent : Absence → ℕ → Result ℕ Refusal
  absent MayEnd at = cond (at_end s at) (Ok at) (Err (refusal s Reason.ClauseExpected at))
  absent NoClause at = Err (refusal s Reason.ClauseExpected at)
  absent NoLiterals at = Err (refusal s Reason.LiteralsExpected at)

  -- After a weight, a group or the word `h`, line ends and comments may come; then literals must.
  abbrev pub literals_after : ℕ → ℕ → Start
  literals_after extra next = with_literals extra (linebreaks s next) NoLiterals

  -- By the weight or group at a place, which has a refusal number of its own where it is too big.
  abbrev pub start_by : ℕ → Absence → ℕ → Uint → Start
  start_by big absence at uint.Missing = without (absent absence at)
  start_by big absence at uint.TooBig = without (Err (numbered s big at))
  start_by big absence at (uint.Value extra next) = literals_after extra next

  -- By the weight of a soft clause of the 2022 form, which is not 0.
  abbrev pub soft_by : Absence → ℕ → Uint → Start
  soft_by absence at weight =
      cond (is_zero weight) (without (Err (refusal s Reason.WeightZero at))) (start_by (number_of Reason.WeightTooBig) absence at weight)

  -- How a clause of the 2022 form begins: a hard one with the word `h`, a soft one with its weight. The word `p` has a refusal of its own.
  unfoldable pub start_in2022 : Absence → ℕ → Start
  start_in2022 absence at =
      let p = word s (bytes "p") at in
      let h = word s (bytes "h") at in
      cond (unmoved at p)
      (cond (unmoved at h) (soft_by absence at (uint_at s largest at)) (literals_after hard h))
      (without (Err (refusal s Reason.HeaderNotExpected at)))

  -- How a clause begins: a plain one with its first number, others with a weight or with a group up to its limit, or as in the 2022 form.
  unfoldable pub start_at : Format → ℕ → Absence → ℕ → Start
  start_at Plain groups absence at = with_literals 0 at absence
  start_at Weighted groups absence at = start_by (number_of Reason.WeightTooBig) absence at (uint_at s largest at)
  start_at Grouped groups absence at = start_by (number_of Reason.GroupTooBig) absence at (braced_uint_at s groups at)
  start_at Weighted2022 groups absence at = start_in2022 absence at

  -- After the 0, a line end or the end of the text must stand on its line.
  unfoldable pub closing : ℕ → ℕ → List ℤ → Answered
  closing extra at so = line_ends (end_of_line s at) (says (clause extra so)) (says (refused (refusal s Reason.LineEndExpected at) so) at)

  -- How a clause ends, by its literals from a place on.
  abbrev pub finish : ℕ → ℕ → Absence → Literals → Answered
  finish extra at absence nothing = instead (absent absence at)
  finish extra at absence (closed so next) = closing extra next so
  finish extra at absence (stopped r so) = says (refused r so) r.place

module _ (s : List ℕ) (limits : Limits) (room : ℕ) where
  -- A clause by how it begins.
  abbrev pub clause_by : Start → Answered
  clause_by (with_literals extra at absence) = finish s extra at absence (literals s limits.literals room at)
  clause_by (without i) = instead i

  -- A clause at a place where no comment and no line end stands.
  unfoldable pub clause_at : Format → Absence → ℕ → Answered
  clause_at f absence at = clause_by (start_at s f limits.groups absence at)
