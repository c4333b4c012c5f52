-- `decimals::lay_digit` meets its contract: where the power fits, the digit is how often it does. Assumes nothing.
use Prim.Native.Nat.{◌+◌, ◌≤◌}
use mathlib.Core.Path.{ap}
use native.Mathlib.Nat.{mod-lt}
use native.Mathlib.Omega.{arith}
use lib.ListN.{length}
use Rattle.decimals.specs.Places.{tens}
use Rattle.decimals.proofs.Digits.{tens_some, tens_rise}
use Rattle.decimals.proofs.Places.{tens_next, digit_some}
use Rattle.decimals.proofs.Laying.{lays_none, lays_digit}
use Rattle.decimals.proofs.lay_digit.Goals as goal

pub returns-then-n-once : goal.returns-then-n-once
returns-then-n-once c = lays_none c.args.at c.args.k c.args.n c.args.out.now c.requires.0 c.requires.1 (omega (arith, c.power-once.ensures))

pub first_digit-held-requires : goal.first_digit-held-requires
first_digit-held-requires c =
    let k = c.args.k in
    let once = c.power-once.ensures in
    (omega (arith, c.requires.0, once, tens_next k, mod-lt c.args.n (tens_some (k + 1))), omega (arith, once, tens_rise k 17 (omega arith)))

pub bounds-out-at : goal.bounds-out-at
bounds-out-at c =
    let fits : tens c.args.k ≤ c.args.n = omega (arith, c.power-once.ensures) in
    omega (arith, c.requires, ap length (digit_some c.args.k c.args.n fits))

pub returns : goal.returns
returns c =
    let fits : tens c.args.k ≤ c.args.n = omega (arith, c.power-once.ensures) in
    let held = rw c.power-once.ensures at c.first_digit-held.ensures in
    lays_digit c.args.at c.args.k c.args.n c.args.out.now c.requires.0 fits held c.digit_byte.ensures
