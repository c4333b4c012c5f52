-- `decimals::first_digit` meets its contract: what is left after four subtractions is a remainder, and counts them. Assumes nothing.
use Prim.Native.Nat.{◌-◌, ◌*◌}
use mathlib.Core.Path.{refl}
use native.Mathlib.Omega.{arith}
use Rattle.decimals.proofs.Subtracting.{down_all, down_more, first_is}
use Rattle.decimals.proofs.first_digit.Goals as goal

pub returns : goal.returns
returns c = let all = down_all (16 * c.args.n) (16 * c.args.power - 1) (omega arith) in
    let eight = down_more 8 refl (omega arith) all c.less-below_8.ensures in
    let four = down_more 4 refl (omega arith) eight c.less-below_4.ensures in
    let two = down_more 2 refl (omega arith) four c.less-below_2.ensures in
    first_is c.args.n c.args.power c.requires.0 (down_more 1 (omega arith) (omega arith) two c.less.ensures)
