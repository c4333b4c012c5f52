-- `decimals::put_digits_after` meets its contract: with room the byte stands at the place, and the digits from the next on. Assumes nothing.
use Prim.Native.Nat.{◌+◌}
use mathlib.Core.List.{◌∷◌}
use mathlib.Core.Path.{sym, ◌∙◌}
use native.Mathlib.Omega.{arith}
use borrow.Author.Tests.{ltb-true, ltb-false}
use lib.ListN.{length, length-set}
use Rattle.dimacs.specs.Writing.{digits}
use Rattle.decimals.proofs.Pieces.{room_puts, no_room_puts_none, put_after}
use Rattle.decimals.proofs.put_digits_after.Goals as goal

pub returns-then-lacks_room : goal.returns-then-lacks_room
returns-then-lacks_room c =
    let less = ltb-true (length c.args.out.now) (c.args.at + (1 + length (digits c.args.n))) (sym c.lacks_room.ensures ∙ c.if-lacks_room.true) in
    no_room_puts_none c.args.at (c.args.byte ∷ digits c.args.n) c.args.out.now (omega (arith, less))

pub bounds-out-at : goal.bounds-out-at
bounds-out-at c =
    omega (arith, ltb-false (length c.args.out.now) (c.args.at + (1 + length (digits c.args.n))) (sym c.lacks_room.ensures ∙ c.if-lacks_room.false))

pub lay_digits-requires : goal.lay_digits-requires
lay_digits-requires c =
    let room = ltb-false (length c.args.out.now) (c.args.at + (1 + length (digits c.args.n))) (sym c.lacks_room.ensures ∙ c.if-lacks_room.false) in
    simp length-set (omega (arith, room))

pub returns : goal.returns
returns c =
    let room = ltb-false (length c.args.out.now) (c.args.at + (1 + length (digits c.args.n))) (sym c.lacks_room.ensures ∙ c.if-lacks_room.false) in
    room_puts c.args.at (c.args.byte ∷ digits c.args.n) c.args.out.now (omega (arith, room)) (put_after c.lay_digits.ensures)
