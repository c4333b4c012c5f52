-- `decimals::count_ten` meets its contract: each power that fits is one digit more. Assumes nothing.
use mathlib.Core.Path.{◌≡◌, ap, ◌∙◌}
use native.Mathlib.Omega.{arith}
use borrow.Author.Tests.{leb-true, leb-false}
use lib.Dec.{leb}
use mir.Val.{bool_byte}
use Rattle.dimacs.proofs.Tests.{tested}
use Rattle.decimals.specs.Places.{tens}
use Rattle.decimals.proofs.Digits.{digits_bounded, digits_below, digits_above}
use Rattle.decimals.proofs.count_ten.Goals as goal

pub loop-k-init : goal.loop-k-init
loop-k-init c = omega (arith, digits_bounded c.args.n)

pub loop-k-preserved : goal.loop-k-preserved
loop-k-preserved c =
    let n = c.args.n in
    let k = c.loop-k.k in
    let p : c.power.result ≡ tens k = c.power.ensures ∙ ap tens (omega arith) in
    tested (leb c.power.result n)
    (λ t. let one : c.from-count.result ≡ 1 = c.from-count.ensures ∙ ap bool_byte t in
    omega (arith, one, c.loop-k.invariant, digits_above k n (omega (arith, p, leb-true c.power.result n t))))
    (λ t. let none : c.from-count.result ≡ 0 = c.from-count.ensures ∙ ap bool_byte t in
    omega (arith, none, c.loop-k.invariant, digits_below k n c.loop-k.auto.k (omega (arith, p, leb-false c.power.result n t))))

pub returns : goal.returns
returns c = omega (arith, c.loop-k.invariant, digits_below 10 c.args.n (omega arith) c.requires)
