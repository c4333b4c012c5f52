-- `decimals::lacks_room` meets its contract: a number has at most 20 digits. Assumes nothing.
use Prim.Native.Nat.{◌+◌}
use mathlib.Core.Path.{ap, sym, ◌∙◌}
use native.Mathlib.Omega.{arith}
use borrow.Author.Tests.{le-ltb, lt-leb}
use lib.Dec.{ltb}
use lib.ListN.{length}
use Rattle.dimacs.specs.Writing.{digits}
use Rattle.decimals.proofs.Digits.{digits_bounded, digits_below}
use Rattle.decimals.proofs.Pieces.{room_tested}
use Rattle.decimals.proofs.lacks_room.Goals as goal

pub overflow_add-result : goal.overflow_add-result
overflow_add-result c = record { fits = omega (arith, c.requires, c.digit_count.ensures, digits_below 20 c.args.n (omega arith) (omega (arith, c.ranges.n))) }

pub returns-then-room-le-MOST : goal.returns-then-room-le-MOST
returns-then-room-le-MOST c =
    ap (λ many. ltb c.room_from-room.result (c.args.before + many)) c.digit_count.ensures
    ∙ room_tested c.args.long c.args.at (c.args.before + length (digits c.args.n)) c.room_from-room.ensures (omega (arith, digits_bounded c.args.n))

pub returns-else-room-le-MOST : goal.returns-else-room-le-MOST
returns-else-room-le-MOST c =
    let most = digits_below 20 c.args.n (omega arith) (omega (arith, c.ranges.n)) in
    lt-leb c.room_from-room.result 20 c.if-room-le-MOST.false
    ∙ sym (le-ltb c.args.long (c.args.at + (c.args.before + length (digits c.args.n))) (omega (arith, c.requires, c.room_from-room.ensures, c.if-room-le-MOST.false, most)))
