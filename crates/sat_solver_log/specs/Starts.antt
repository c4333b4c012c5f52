-- Where a value line or a solution line starts, if it may come and stands.
use Rattle.std.specs.Prelude.{ℕ, cond, List, Option, None, Some}
use Rattle.dimacs.specs.Bytes.{bytes}
use Rattle.dimacs.specs.Tokens.{unmoved, fixed}
use Rattle.dimacs.specs.Logs as def
use Rattle.dimacs.specs.declared.Verdict.{Verdict}
use Rattle.dimacs.specs.declared.Assignment.{Assignment}

-- What stands at a place, by the place past it, which is the place itself where nothing stands.
abbrev pub found : ℕ → ℕ → Option ℕ
found at past = cond (unmoved at past) None (Some past)

-- Past `v ` while no 0 has closed the assignment.
abbrev pub value_start : List ℕ → Assignment → ℕ → Option ℕ
value_start s a at = cond (def.is_closed a) None (found at (fixed s (bytes "v ") at))

-- Past `s ` if no solution line came.
abbrev pub solution_start : List ℕ → Option Verdict → ℕ → Option ℕ
solution_start s verdict at = cond (def.is_said verdict) None (found at (fixed s (bytes "s ") at))
