-- `decimals::put_literal` meets its contract: the size stands behind the minus, or over it. Assumes nothing.
use Prim.Native.Nat.{◌+◌}
use mathlib.Core.Path.{sym, ◌∙◌}
use native.Mathlib.Omega.{arith}
use borrow.Author.Tests.{ltb-true, ltb-false}
use lib.ListN.{length, length-set}
use mir.Syntax.{w32}
use mir.Val.{to_z, of_z}
use mir.ValLaws.{to_z-of_z}
use Rattle.dimacs.specs.Writing.{digits, signed_digits}
use Rattle.decimals.proofs.Digits.{digits_bounded}
use Rattle.decimals.proofs.Literals.{sign_few, literal_long, literal_put}
use Rattle.decimals.proofs.Pieces.{room_puts, no_room_puts_none}
use Rattle.decimals.proofs.put_literal.Goals as goal

pub lacks_room-requires : goal.lacks_room-requires
lacks_room-requires c = omega (arith, c.sign_length-before.ensures, sign_few (to_z w32 (of_z w32 c.args.literal)))

pub returns-then-lacks_room : goal.returns-then-lacks_room
returns-then-lacks_room c =
    let long = literal_long (to_z-of_z w32 _ c.ranges.literal) c.magnitude-size.ensures in
    let less = ltb-true (length c.args.out.now) (c.args.at + (c.sign_length-before.result + length (digits c.magnitude-size.result))) (sym c.lacks_room.ensures ∙ c.if-lacks_room.true) in
    no_room_puts_none c.args.at (signed_digits c.args.literal) c.args.out.now (omega (arith, less, long, c.sign_length-before.ensures))

pub bounds-out-at : goal.bounds-out-at
bounds-out-at c =
    let room = ltb-false (length c.args.out.now) (c.args.at + (c.sign_length-before.result + length (digits c.magnitude-size.result))) (sym c.lacks_room.ensures ∙ c.if-lacks_room.false) in
    omega (arith, room, digits_bounded c.magnitude-size.result)

pub lay_digits-requires : goal.lay_digits-requires
lay_digits-requires c =
    let room = ltb-false (length c.args.out.now) (c.args.at + (c.sign_length-before.result + length (digits c.magnitude-size.result))) (sym c.lacks_room.ensures ∙ c.if-lacks_room.false) in
    simp length-set (omega (arith, room))

pub returns : goal.returns
returns c =
    let long = literal_long (to_z-of_z w32 _ c.ranges.literal) c.magnitude-size.ensures in
    let room = ltb-false (length c.args.out.now) (c.args.at + (c.sign_length-before.result + length (digits c.magnitude-size.result))) (sym c.lacks_room.ensures ∙ c.if-lacks_room.false) in
    let laid = rw c.sign_length-before.ensures at c.lay_digits.ensures in
    room_puts c.args.at (signed_digits c.args.literal) c.args.out.now (omega (arith, room, long, c.sign_length-before.ensures)) (literal_put (to_z-of_z w32 _ c.ranges.literal) c.magnitude-size.ensures laid)
