-- `decimals::lay_digits` meets its contract: a number below a power has no digits from its place up. Assumes nothing.
use Prim.Native.Nat.{◌<◌}
use mathlib.Core.Path.{ap}
use native.Mathlib.Omega.{arith}
use lib.ListN.{length}
use Rattle.decimals.specs.Places.{tens}
use Rattle.decimals.proofs.Places.{by_places}
use Rattle.decimals.proofs.lay_digits.Goals as goal

pub lay_rest-requires : goal.lay_rest-requires
lay_rest-requires c =
    let few : c.args.n < tens 4 = omega (arith, c.power.ensures) in
    (omega arith, omega arith, omega arith, omega (arith, c.requires, ap length (by_places 4 c.args.n (omega arith) few)))

pub returns-then-n-power : goal.returns-then-n-power
returns-then-n-power c =
    let few : c.args.n < tens 4 = omega (arith, c.power.ensures) in
    rw (by_places 4 c.args.n (omega arith) few) c.lay_rest.ensures

pub lay_rest-requires-then-n-power-2 : goal.lay_rest-requires-then-n-power-2
lay_rest-requires-then-n-power-2 c =
    let few : c.args.n < tens 10 = omega (arith, c.power-2.ensures) in
    (omega arith, omega arith, omega arith, omega (arith, c.requires, ap length (by_places 10 c.args.n (omega arith) few)))

pub returns-then-n-power-2 : goal.returns-then-n-power-2
returns-then-n-power-2 c =
    let few : c.args.n < tens 10 = omega (arith, c.power-2.ensures) in
    rw (by_places 10 c.args.n (omega arith) few) c.lay_rest-then-n-power-2.ensures
