-- The answer for a log by that of the definition, and the literals that it leaves in the lent buffer.
use Rattle.std.specs.Prelude.{ℕ, List, length, ℤ, Result, Ok, Err}
use Rattle.dimacs.specs.Names.{refused_spot}
use Rattle.dimacs.specs.Spots.{nowhere}
use Rattle.dimacs.specs.Logs as def
use Rattle.dimacs.specs.declared.Spot.{Spot}
use Rattle.rows.specs.Answers.{stopped_after}
use Rattle.rows.specs.declared.Stopped.{Stopped}
use Rattle.log_line.specs.declared.Accepted.{Accepted}

-- An accepted log is told by its verdict and its count of literals, a refusal by its number and place and the count of literals before it.
abbrev pub log_of : def.LogAnswer → Result Accepted Stopped
log_of (def.accepted v so) = Ok (record { verdict = v; count = length so })
log_of (def.refused_log r so) = Err (stopped_after (length so) r)

-- The number of the refusal, 0 where the log is accepted.
abbrev pub number_in : Result Accepted Stopped → ℕ
number_in (Ok a) = 0
number_in (Err e) = e.refusal.number

-- The place of the refusal, 0 where the log is accepted.
abbrev pub place_in : Result Accepted Stopped → ℕ
place_in (Ok a) = 0
place_in (Err e) = e.refusal.place

-- Line and column of the refusal, 0 and 0 where the log is accepted.
abbrev pub spot_in : Result Accepted Stopped → Spot
spot_in (Ok a) = nowhere
spot_in (Err e) = refused_spot e.refusal

-- k, how many literals were read.
abbrev pub k_in : Result Accepted Stopped → ℕ
k_in (Ok a) = a.count
k_in (Err e) = e.count

-- The literals that an answer leaves in the buffer.
abbrev pub log_leaves : def.LogAnswer → List ℤ
log_leaves (def.accepted v so) = so
log_leaves (def.refused_log r so) = so
