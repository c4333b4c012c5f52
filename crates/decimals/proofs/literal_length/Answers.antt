-- `decimals::literal_length` meets its contract: a literal is as long as its sign and its size. Assumes nothing.
use native.Mathlib.Omega.{arith}
use mir.Syntax.{w32}
use mir.Val.{to_z, of_z}
use mir.ValLaws.{to_z-of_z}
use Rattle.decimals.proofs.Digits.{digits_below}
use Rattle.decimals.proofs.Literals.{sign_few, literal_long, literal_small}
use Rattle.decimals.proofs.literal_length.Goals as goal

pub count_ten-requires : goal.count_ten-requires
count_ten-requires c = let f = c.ranges.literal in literal_small (to_z-of_z w32 _ f) c.magnitude.ensures f

pub overflow_add-result : goal.overflow_add-result
overflow_add-result c = let f = c.ranges.literal in let small = literal_small (to_z-of_z w32 _ f) c.magnitude.ensures f in
    record { fits = omega (arith, c.count_ten.ensures, c.sign_length.ensures, sign_few (to_z w32 (of_z w32 c.args.literal)), digits_below 10 c.magnitude.result (omega arith) small) }

pub returns : goal.returns
returns c = let f = c.ranges.literal in omega (arith, c.count_ten.ensures, c.sign_length.ensures, literal_long (to_z-of_z w32 _ f) c.magnitude.ensures)
