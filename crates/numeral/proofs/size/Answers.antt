-- `numeral::size` meets its contract: the digits up to i write v, which is below ten to the power of their count. Assumes nothing.
use Prim.Native.Nat.{◌+◌, ◌-◌, ◌^◌, ◌<◌}
use mathlib.Core.Path.{◌≡◌, ◌∙◌}
use Rattle.dimacs.specs.Names.{ceiling}
use Rattle.numeral.proofs.Runs.{digit_more, digit_stop, few_more, few_fit, written_is}
use native.Mathlib.Omega.{arith}
use Rattle.numeral.proofs.size.Goals as goal
use Rattle.numeral.proofs.size.Goals.{At-loop-i}

-- They write less than ten to the power of eight.
few : (c : At-loop-i) → c.loop-i.v < 10 ^ 8
few c = few_fit (c.loop-i.i - c.args.at) 8 (omega arith) c.loop-i.invariant.1

pub returns-then-d-gt9 : goal.returns-then-d-gt9
returns-then-d-gt9 c = c.written.ensures ∙ written_is ceiling (digit_stop c.loop-i.invariant.0 (omega arith) c.digit-d.ensures c.if-d-gt9.true) (omega (arith, few (goal.at.returns-then-d-gt9 c).At-loop-i))

pub overflow_mul-v : goal.overflow_mul-v
overflow_mul-v c = omega (arith, few (goal.at.overflow_mul-v c).At-loop-i)

pub overflow_add-v : goal.overflow_add-v
overflow_add-v c = omega (arith, few (goal.at.overflow_add-v c).At-loop-i)

pub loop-i-preserved : goal.loop-i-preserved
loop-i-preserved c = let inv = c.loop-i.invariant in let more : c.loop-i.i + 1 - c.args.at ≡ (c.loop-i.i - c.args.at) + 1 = omega arith in
    (digit_more inv.0 (omega arith) c.digit-d.ensures c.if-d-gt9.false, rw more (few_more (c.loop-i.i - c.args.at) inv.1 c.if-d-gt9.false), omega arith, omega arith)
