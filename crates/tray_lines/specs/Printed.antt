-- The words for what a turn tells a job. The words at the end of each are those of a refusal, before its place, k, its line and its column.
use Rattle.std.specs.Prelude.{ℕ, List, take, ℤ, None, Some, Ok, Err}
use Rattle.dimacs.specs.Bytes.{bytes}
use Rattle.dimacs.specs.declared.Format.{Format}
use Rattle.clause.specs.Answers.{Next}
use Rattle.service.specs.declared.Said.{Said}
use Rattle.service.specs.declared.Said.TheVariants as saying
use Rattle.lines.specs.Printed.{printed_clause, printed_refusal, printed_opening}
use Rattle.lines.specs.declared.Words.{Words}

-- An answer of the reader, whose literals are the first of the buffer.
abbrev pub printed_next : Next → Format → List ℤ → Words → List ℕ
printed_next (Ok (Some c)) f lits w = printed_clause f c.extra (take c.count lits)
printed_next (Ok None) f lits w = bytes "end"
printed_next (Err x) f lits w = printed_refusal x.refusal x.count w

-- How a text opens, or an answer of the reader.
abbrev pub printed_said : Said → Format → List ℤ → Words → List ℕ
printed_said (saying.Opening o) f lits w = printed_opening o f w
printed_said (saying.Next n) f lits w = printed_next n f lits w
