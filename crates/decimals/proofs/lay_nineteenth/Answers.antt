-- `decimals::lay_nineteenth` meets its contract: the power goes into the number as often as its sixteenth into the number's. Assumes nothing.
use Prim.Native.Nat.{◌+◌, ◌*◌, ◌/◌}
use mathlib.Core.Path.{ap, ◌∙◌}
use native.Mathlib.Omega.{arith}
use lib.Bits.{and_mask}
use Rattle.decimals.specs.Places.{tens, figure}
use Rattle.decimals.proofs.Laying.{put_figure}
use Rattle.decimals.proofs.Subtracting.{BySixteenths, by_sixteenths}
use Rattle.decimals.proofs.lay_nineteenth.Goals as goal

pub overflow_add-result-2 : goal.overflow_add-result-2
overflow_add-result-2 c =
    let held : BySixteenths c.args.n (tens 18 / 16) c.first_digit-held.result = by_sixteenths c.args.n (tens 18 / 16) (omega (arith, c.requires.0)) (rw c.power.ensures at c.first_digit-held.ensures) in
    record { fits = omega (arith, held.rest, and_mask c.args.n 4) }

pub returns : goal.returns
returns c =
    let held : BySixteenths c.args.n (tens 18 / 16) c.first_digit-held.result = by_sixteenths c.args.n (tens 18 / 16) (omega (arith, c.requires.0)) (rw c.power.ensures at c.first_digit-held.ensures) in
    record {
      put = put_figure c.args.at (c.args.n / tens 18) (c.digit_byte.ensures ∙ ap figure held.digit);
      left_is = ap (λ x. 16 * (c.first_digit-held.result / 16) + x) (and_mask c.args.n 4) ∙ held.rest;
    }
