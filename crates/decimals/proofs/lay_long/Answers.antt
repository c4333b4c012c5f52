-- `decimals::lay_long` meets its contract: the digits of all places, in three parts. Assumes nothing.
use native.Mathlib.Omega.{arith}
use Rattle.decimals.specs.Places.{digits_from}
use Rattle.decimals.proofs.Pieces.{put_then, put_keeps_length}
use Rattle.decimals.proofs.Places.{long_is, long_length}
use Rattle.decimals.proofs.lay_long.Goals as goal

pub lay_top-top-requires : goal.lay_top-top-requires
lay_top-top-requires c = omega (arith, c.requires, long_length c.args.n (omega (arith, c.ranges.n)))

pub lay_places-middle-requires : goal.lay_places-middle-requires
lay_places-middle-requires c =
    let top = c.lay_top-top.ensures in
    (top.left_is, omega arith, omega arith, omega arith, omega (arith, c.requires, long_length c.args.n (omega (arith, c.ranges.n)), top.put.past, put_keeps_length top.put))

pub lay_rest-requires : goal.lay_rest-requires
lay_rest-requires c =
    let middle = c.lay_places-middle.ensures in
    let top = c.lay_top-top.ensures in (
      middle.left_is,
      omega arith,
      omega arith,
      omega (
        arith,
        c.requires,
        long_length c.args.n (omega (arith, c.ranges.n)),
        top.put.past,
        put_keeps_length top.put,
        middle.put.past,
        put_keeps_length middle.put,
      ),
    )

pub returns : goal.returns
returns c =
    let n = c.args.n in
    rw (long_is n (omega (arith, c.ranges.n)))
    (put_then {a = digits_from 18 2 n} c.lay_top-top.ensures.put (put_then {a = digits_from 9 9 n} c.lay_places-middle.ensures.put c.lay_rest.ensures))
