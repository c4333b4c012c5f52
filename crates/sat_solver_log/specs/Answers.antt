-- The answer for a log by what two numbers name, and what the lent buffer holds after it.
use Rattle.std.specs.Prelude.{ℕ, List, [], Option, None, Some, Result, Ok, Err, ◌≡◌, ℤ}
use Rattle.dimacs.specs.Loop.{again, answer}
use Rattle.dimacs.specs.Names.{call_refusal}
use Rattle.dimacs.specs.Logs as def
use Rattle.dimacs.specs.declared.Reason.{Reason}
use Rattle.dimacs.specs.declared.Kind.{Kind}
use Rattle.dimacs.specs.declared.Kind.TheVariants as kind
use Rattle.dimacs.specs.Buffers.{laid}
use Rattle.rows.specs.declared.Stopped.{Stopped}
use Rattle.log_line.specs.Answers.{log_of, log_leaves}
use Rattle.log_line.specs.Lines as lines
use Rattle.log_line.specs.declared.Accepted.{Accepted}
use Rattle.sat_solver_log.specs.declared.Line.{Line}
use Rattle.sat_solver_log.specs.declared.Line.TheVariants.{Again, End}

-- What a line leads to: the next, the end of the log, or its refusal.
abbrev pub line_leads : Result Line Stopped → lines.Line
line_leads (Ok (Again r)) = again r
line_leads (Ok (End a)) = answer (Ok a)
line_leads (Err e) = answer (Err e)

-- Refusal 26: no log is named.
abbrev pub no_log : def.LogAnswer
no_log = def.refused_log (call_refusal Reason.FormatOrModeUnknown 0) []

-- The log s in the mode that is named, with room for so many literals in all, else refusal 26.
abbrev pub log_by : Option Kind → List ℕ → ℕ → def.LogAnswer
log_by (Some (kind.Log m)) s room = def.log s m room
log_by (Some (kind.Clauses f m)) s room = no_log
log_by None s room = no_log

-- An answer of the definition is given: the answer, and the buffer after it.
pub record Parses (d : def.LogAnswer) (old new : List ℤ) (r : Result Accepted Stopped) : Type 0 where
  pub answer : r ≡ log_of d
  pub buffer : new ≡ laid (log_leaves d) old
