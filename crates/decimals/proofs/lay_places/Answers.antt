-- `decimals::lay_places` meets its contract: each turn lays the digit of the next place. Assumes nothing.
use Prim.Native.Nat.{◌+◌, ◌-◌}
use mathlib.Core.Path.{◌≡◌}
use native.Mathlib.Omega.{arith}
use Rattle.decimals.proofs.Pieces.{put_keeps_length}
use Rattle.decimals.proofs.Places.{next_room}
use Rattle.decimals.proofs.Laying.{lays_start, lays_next}
use Rattle.decimals.proofs.lay_places.Goals as goal

pub loop-k-init : goal.loop-k-init
loop-k-init c = (lays_start c.args.at c.args.high c.args.n c.args.out.now c.requires.0, c.requires.2)

pub lay_digit-laid-requires : goal.lay_digit-laid-requires
lay_digit-laid-requires c = let k = c.loop-k.k in let inv = c.loop-k.invariant in let next : k - 1 + 1 ≡ k = omega arith in
    (rw next inv.0.left_is, omega arith, omega arith, omega (arith, c.requires, inv.0.put.past, put_keeps_length inv.0.put, next_room c.args.low k c.args.high c.args.n (omega arith) (omega arith)))

pub loop-k-preserved : goal.loop-k-preserved
loop-k-preserved c = (lays_next c.loop-k.k c.args.high c.args.n (omega arith) (omega arith) c.loop-k.invariant.0 c.lay_digit-laid.ensures, omega arith)
