-- The jobs behind the one that leaves have moved up as far as the loop has come. Assumes nothing.
use Rattle.ring.specs.Ring.{how_many}
use Rattle.ring.proofs.Leaving.{Moving}
use Rattle.ring.proofs.Tray.close_up.Given as goal

abbrev pub invariant-loop-i : goal.invariant-loop-i
invariant-loop-i l = Moving (how_many l.initial.self) l.initial.self l.from l.self l.i
