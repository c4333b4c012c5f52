-- `ring::Tray::close_up` meets its contract: one job after the other moves up. Assumes nothing.
use native.Mathlib.Omega.{arith}
use Rattle.ring.proofs.Leaving.{moving_more, moving_done}
use Rattle.ring.proofs.Tray.close_up.Goals as goal

pub loop-i-preserved : goal.loop-i-preserved
loop-i-preserved c = moving_more c.loop-i.invariant (omega arith)

pub returns : goal.returns
returns c = rw c.how_many-left.ensures (moving_done c.loop-i.invariant (omega arith))
