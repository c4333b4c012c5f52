-- `numeral::ascii_digits_multi` meets its contract: the digits up to i write v. Assumes nothing.
use Prim.Native.Nat.{◌+◌, ◌*◌, ◌≤◌}
use mathlib.Core.Path.{sym, ◌∙◌}
use Rattle.dimacs.specs.Names.{largest}
use Rattle.numeral.proofs.Runs.{digit_more, digit_above, digit_stop, digits_end, digits_value}
use borrow.Author.Tests.{ltb-true, ltb-false}
use Rattle.numeral.proofs.ascii_digits_multi.Goals as goal
use Rattle.numeral.proofs.ascii_digits_multi.Goals.{Else-overflows}

-- One digit more fits.
fits : (c : Else-overflows) → (c.loop-i.v * 10 + c.digit-d.result) ≤ largest
fits c = ltb-false largest _ (sym c.overflows.ensures ∙ c.if-overflows.false)

pub returns-then-d-gt9 : goal.returns-then-d-gt9
returns-then-d-gt9 c = let inv = c.loop-i.invariant in digits_value (digit_stop inv.0 c.loop-i-test.true c.digit-d.ensures c.if-d-gt9.true) inv.1

pub returns-then-overflows : goal.returns-then-overflows
returns-then-overflows c = digit_above c.loop-i.invariant.0 c.loop-i-test.true c.digit-d.ensures c.if-d-gt9.false (ltb-true largest _ (sym c.overflows.ensures ∙ c.if-overflows.true)) _ c.skip_digits.ensures

pub loop-i-preserved : goal.loop-i-preserved
loop-i-preserved c = (digit_more c.loop-i.invariant.0 c.loop-i-test.true c.digit-d.ensures c.if-d-gt9.false, fits c)

pub returns : goal.returns
returns c = let l = c.loop-i in rw c.max.ensures (digits_value (digits_end l.invariant.0 l.auto.i l.auto.i-end c.loop-i-test.false) l.invariant.1)
