-- The ticket is not among the jobs that the loop has passed. Assumes nothing.
use Rattle.ring.proofs.Leaving.{NotAmong}
use Rattle.ring.proofs.Tray.find.Given as goal

abbrev pub invariant-loop-i : goal.invariant-loop-i
invariant-loop-i l = NotAmong l.ticket l.self l.count l.i
