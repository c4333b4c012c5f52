-- What the functions that read a line answer, by the definition. The literals so far are those at the front of the buffer.
use Rattle.std.specs.Prelude.{List, ◌≡◌, length, ℤ, Result, Ok, Err}
use Rattle.dimacs.specs.Loop.{Step, again, answer}
use Rattle.dimacs.specs.Logs as def
use Rattle.dimacs.specs.Buffers.{laid}
use Rattle.rows.specs.declared.Stopped.{Stopped}
use Rattle.log_line.specs.declared.Accepted.{Accepted}
use Rattle.log_line.specs.declared.Reading.{Reading}
use Rattle.log_line.specs.Answers.{log_of, log_leaves}

-- A state of the code with the literals so far is one of the definition.
abbrev pub log_state_of : Reading → List ℤ → def.Log
log_state_of r so = def.log_at r.place r.verdict r.assignment so

-- A state of the definition is one of the code with its literals counted.
abbrev pub reading_of : def.Log → Reading
reading_of l = record { place = l.at; verdict = l.verdict; assignment = l.assignment; count = length l.so }

-- What a line leads to in the code: where the next is read, or what the log comes to.
abbrev pub Line : Type 0
Line = Step Reading (Result Accepted Stopped)

-- What a line leads to, with its literals counted.
abbrev pub log_line_of : Step def.Log def.LogAnswer → Line
log_line_of (again l) = again (reading_of l)
log_line_of (answer a) = answer (log_of a)

-- A line that does not end the log leads to the next, unless it is refused.
abbrev pub leads : Result Reading Stopped → Line
leads (Ok r) = again r
leads (Err e) = answer (Err e)

-- The literals that a line leaves in the buffer.
abbrev pub line_leaves : Step def.Log def.LogAnswer → List ℤ
line_leaves (again l) = l.so
line_leaves (answer a) = log_leaves a

-- A line is read: what it leads to, and the buffer after it.
pub record ReadsLine (d : Step def.Log def.LogAnswer) (old new : List ℤ) (r : Line) : Type 0 where
  pub line : r ≡ log_line_of d
  pub buffer : new ≡ laid (line_leaves d) old
