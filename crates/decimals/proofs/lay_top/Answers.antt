-- `decimals::lay_top` meets its contract: there are no digits, one or two. Assumes nothing.
use Prim.Native.Nat.{◌≤◌, ◌<◌}
use mathlib.Core.Path.{refl, ap, sym, ◌∙◌}
use native.Mathlib.Nat.{mod-eq_of_lt}
use native.Mathlib.Omega.{arith}
use lib.ListN.{length, length-set}
use Rattle.decimals.specs.Places.{tens}
use Rattle.decimals.proofs.Pieces.{put_nothing, put_then}
use Rattle.decimals.proofs.Places.{top_none, top_one, top_two}
use Rattle.decimals.proofs.Laying.{put_figure}
use Rattle.decimals.proofs.lay_top.Goals as goal

pub returns-then-n-power : goal.returns-then-n-power
returns-then-n-power c =
    let n = c.args.n in
    let small : n < tens 18 = omega (arith, c.power.ensures) in
    rw (top_none n small) (record { put = put_nothing c.args.at c.args.out.now; left_is = sym (mod-eq_of_lt {n = n} {m = tens 18} small) })

pub lay_nineteenth-requires : goal.lay_nineteenth-requires
lay_nineteenth-requires c =
    let some : tens 18 ≤ c.args.n = omega (arith, c.power.ensures) in
    let few : c.args.n < tens 19 = omega (arith, c.power-2.ensures) in
    (few, omega (arith, c.requires, ap length (top_one c.args.n some few)))

pub returns-then-n-power-2 : goal.returns-then-n-power-2
returns-then-n-power-2 c =
    let some : tens 18 ≤ c.args.n = omega (arith, c.power.ensures) in
    let few : c.args.n < tens 19 = omega (arith, c.power-2.ensures) in
    rw (top_one c.args.n some few) c.lay_nineteenth.ensures

pub bounds-out-at : goal.bounds-out-at
bounds-out-at c =
    omega (arith, c.requires, ap length (top_two c.args.n (omega (arith, c.power-2.ensures)) (omega (arith, c.ranges.n))))

pub lay_nineteenth-requires-2 : goal.lay_nineteenth-requires-2
lay_nineteenth-requires-2 c =
    let two = top_two c.args.n (omega (arith, c.power-2.ensures)) (omega (arith, c.ranges.n)) in
    (omega (arith, c.power-3.ensures, c.ranges.n), simp length-set (omega (arith, c.requires, ap length two)))

pub returns : goal.returns
returns c =
    let two = top_two c.args.n (omega (arith, c.power-2.ensures)) (omega (arith, c.ranges.n)) in
    let second = rw c.power-3.ensures at c.lay_nineteenth-2.ensures in
    rw two
    (record { put = put_then (put_figure c.args.at 1 refl) second.put; left_is = second.left_is ∙ omega (arith, c.power-2.ensures) })
