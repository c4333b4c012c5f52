-- `ring::front_job` meets its contract: no job is counted, or the first stands at the head. Assumes nothing.
use Prim.Native.Nat.{suc, ◌-◌}
use mathlib.Core.Path.{◌≡◌}
use native.Mathlib.Omega.{arith}
use Rattle.ring.specs.Ring.{how_many}
use Rattle.ring.proofs.front_job.Goals as goal

pub returns-then-tray-eq0 : goal.returns-then-tray-eq0
returns-then-tray-eq0 c = let n : how_many c.args.tray ≡ 0 = omega arith in rw n

pub returns : goal.returns
returns c = let n : how_many c.args.tray ≡ suc (how_many c.args.tray - 1) = omega arith in rw n
