-- `decimals::put_digits` meets its contract: with room the digits are laid. Assumes nothing.
use Prim.Native.Nat.{◌+◌}
use mathlib.Core.Path.{sym, ◌∙◌}
use native.Mathlib.Omega.{arith}
use borrow.Author.Tests.{ltb-true, ltb-false}
use lib.ListN.{length}
use Rattle.dimacs.specs.Writing.{digits}
use Rattle.decimals.proofs.Pieces.{room_puts, no_room_puts_none}
use Rattle.decimals.proofs.put_digits.Goals as goal

pub returns-then-lacks_room : goal.returns-then-lacks_room
returns-then-lacks_room c =
    let less = ltb-true (length c.args.out.now) (c.args.at + (0 + length (digits c.args.n))) (sym c.lacks_room.ensures ∙ c.if-lacks_room.true) in
    no_room_puts_none c.args.at (digits c.args.n) c.args.out.now (omega (arith, less))

pub lay_digits-requires : goal.lay_digits-requires
lay_digits-requires c =
    omega (arith, ltb-false (length c.args.out.now) (c.args.at + (0 + length (digits c.args.n))) (sym c.lacks_room.ensures ∙ c.if-lacks_room.false))

pub returns : goal.returns
returns c =
    let room = ltb-false (length c.args.out.now) (c.args.at + (0 + length (digits c.args.n))) (sym c.lacks_room.ensures ∙ c.if-lacks_room.false) in
    room_puts c.args.at (digits c.args.n) c.args.out.now (omega (arith, room)) c.lay_digits.ensures
