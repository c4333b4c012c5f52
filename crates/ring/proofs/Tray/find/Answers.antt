-- `ring::Tray::find` meets its contract: none of the jobs passed has the ticket. Assumes nothing.
use native.Mathlib.Omega.{arith}
use Rattle.ring.proofs.Leaving.{not_among_none, not_among_more, ahead_found, ahead_nowhere}
use Rattle.ring.proofs.Tray.find.Goals as goal

pub loop-i-init : goal.loop-i-init
loop-i-init c = not_among_none c.args.ticket c.args.self c.how_many-count.result

pub returns-then-self-place : goal.returns-then-self-place
returns-then-self-place c = ahead_found c.loop-i.invariant c.how_many-count.ensures (omega arith) c.if-self-place.true

pub loop-i-preserved : goal.loop-i-preserved
loop-i-preserved c = not_among_more c.loop-i.invariant (omega arith) c.if-self-place.false

pub returns : goal.returns
returns c = ahead_nowhere c.loop-i.invariant c.how_many-count.ensures (omega arith)
