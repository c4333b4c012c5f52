-- `sat_solver_log::parse_log_as` meets its contract: what the log comes to stays the same over each line, and each is further on. Assumes nothing.
use Prim.Native.Nat.{◌-◌}
use lib.ListN.{length}
use Rattle.dimacs.specs.Lined.{lined}
use Rattle.sat_solver_log.proofs.Runs.{LogSoFar}
use Rattle.sat_solver_log.proofs.parse_log_as.Given as goal

abbrev pub invariant-loop-next : goal.invariant-loop-next
invariant-loop-next l = LogSoFar (lined l.mode.ends l.text) l.mode.rigor l.initial.lits l.lits l.reading

abbrev pub decreases-loop-next : goal.decreases-loop-next
decreases-loop-next l = length (lined l.mode.ends l.text) - l.reading.place
