-- Solver logs: a verdict and an assignment.
use Rattle.std.specs.Prelude.{Option, None, Some}
use Rattle.std.specs.Prelude.{ℕ, suc, Bool, true, false, cond, ◌||◌, List, [], length, ℤ}
use Rattle.dimacs.specs.Loop.{Step, again, answer, loop}
use Rattle.dimacs.specs.Bytes.{bytes}
use Rattle.dimacs.specs.Names.{refusal, ceiling}
use Rattle.dimacs.specs.declared.Reason.{Reason}
use Rattle.dimacs.specs.Lined.{lined}
use Rattle.dimacs.specs.Tokens.{unmoved, at_end, blanks, next_line, fixed, strict_comment, end_of_line, line_ends}
use Rattle.dimacs.specs.Rows.{Row, ends, closes, stops, reads, row}
use Rattle.dimacs.specs.declared.Mode.{Mode}
use Rattle.dimacs.specs.declared.Rigor.{Rigor}
use Rattle.dimacs.specs.declared.Rigor.TheVariants.{Strict, Lenient}
use Rattle.dimacs.specs.declared.Refusal.{Refusal}
use Rattle.dimacs.specs.declared.Verdict.{Verdict}
use Rattle.dimacs.specs.declared.Verdict.TheVariants.{Yes, No, Unknown}
use Rattle.dimacs.specs.declared.Assignment.{Assignment}
use Rattle.dimacs.specs.declared.Assignment.TheVariants.{Unbegun, Begun, Closed}

-- What a log comes to: its verdict and all its literals, or a refusal, with all literals before it.
pub data LogAnswer : Type 0 where
  accepted : Option Verdict → List ℤ → LogAnswer
  refused_log : Refusal → List ℤ → LogAnswer

-- Reading a log: the place, the verdict, the assignment and its literals so far.
pub record Log : Type 0 where
  pub at : ℕ
  pub verdict : Option Verdict
  pub assignment : Assignment
  pub so : List ℤ

-- A state of reading by its four parts.
abbrev pub log_at : ℕ → Option Verdict → Assignment → List ℤ → Log
log_at at verdict assignment so = record { at = at; verdict = verdict; assignment = assignment; so = so }

-- No line is read yet, and the verdict is none unless a solution line comes.
abbrev pub log_begin : Log
log_begin = log_at 0 None Unbegun []

-- The 0 has closed the assignment.
abbrev pub is_closed : Assignment → Bool
is_closed Unbegun = false
is_closed Begun = false
is_closed Closed = true

-- The solution line has come.
abbrev pub is_said : Option Verdict → Bool
is_said (Some v) = true
is_said None = false

module _ (s : List ℕ) where
  -- A value line or solution line is read: a line end or the end of the text must follow.
  abbrev pub line_read : ℕ → Option Verdict → Assignment → List ℤ → Step Log LogAnswer
  line_read at verdict assignment so =
      line_ends (end_of_line s at) (λ next. again (log_at next verdict assignment so)) (answer (refused_log (refusal s Reason.LineEndExpected at) so))

  -- What follows the literals of a line.
  abbrev pub values_read : Option Verdict → Row → Step Log LogAnswer
  values_read verdict (ends at so) = line_read at verdict Begun so
  values_read verdict (closes next so) = line_read next verdict Closed so
  values_read verdict (stops r so) = answer (refused_log r so)

  -- A verdict by its word, or what follows where that does not stand.
  abbrev pub solution_is : Verdict → List ℕ → ℕ → Log → Step Log LogAnswer → Step Log LogAnswer
  solution_is v w at r otherwise =
      let e = fixed s w at in cond (unmoved at e) otherwise (line_read e (Some v) r.assignment r.so)

  -- After `s `, one of three words and at once a line end or the end of the text.
  unfoldable pub solution_line : ℕ → Log → Step Log LogAnswer
  solution_line at r =
      solution_is Yes (bytes "SATISFIABLE") at r
      (solution_is No (bytes "UNSATISFIABLE") at r
      (solution_is Unknown (bytes "UNKNOWN") at r
      (answer (refused_log (refusal s Reason.SolutionExpected at) r.so))))

  -- The end of the text may not come while the assignment is open.
  abbrev pub log_end : ℕ → Option Verdict → List ℤ → Assignment → LogAnswer
  log_end at verdict so Unbegun = accepted verdict so
  log_end at verdict so Begun = refused_log (refusal s Reason.AssignmentOpen at) so
  log_end at verdict so Closed = accepted verdict so

  -- A line of no permitted kind is refused, or skipped in a lenient reading.
  abbrev pub other_line : Rigor → Log → Step Log LogAnswer
  other_line Strict r = answer (refused_log (refusal s Reason.LogLineExpected r.at) r.so)
  other_line Lenient r = again (log_at (next_line s r.at) r.verdict r.assignment r.so)

module _ (s : List ℕ) (room : ℕ) where
  -- After `v `, blanks, and literals up to the line's end or the closing 0.
  unfoldable pub value_line : ℕ → Log → Step Log LogAnswer
  value_line at r = values_read s r.verdict (row s ceiling room (reads (blanks s at) r.so))

module _ (s : List ℕ) (rigor : Rigor) (room : ℕ) where
  -- A comment is skipped. Else in this order: `v ` while no 0 has closed the assignment; `s ` if no solution line came; the end of
  -- the text; any line in a lenient reading.
  unfoldable pub log_line : Log → Step Log LogAnswer
  log_line r =
      let at = r.at in
      let c = strict_comment s at in
      let v = fixed s (bytes "v ") at in
      let e = fixed s (bytes "s ") at in
      cond (unmoved at c)
      (cond (is_closed r.assignment || unmoved at v)
      (cond (is_said r.verdict || unmoved at e)
      (cond (at_end s at) (answer (log_end s at r.verdict r.so r.assignment)) (other_line s rigor r))
      (solution_line s e r))
      (value_line s room v r))
      (again (log_at c r.verdict r.assignment r.so))

  -- The log from a state on.
  unfoldable pub log_from : Log → LogAnswer
  log_from = loop log_line (accepted None []) (suc (length s))

-- The log s, read in a mode with room for so many literals in all.
unfoldable pub log : List ℕ → Mode → ℕ → LogAnswer
log s m room = log_from (lined m.ends s) m.rigor room log_begin
