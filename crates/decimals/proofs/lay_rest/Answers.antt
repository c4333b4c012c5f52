-- `decimals::lay_rest` meets its contract: the last digit is what is left behind the others. Assumes nothing.
use native.Mathlib.Omega.{arith}
use Rattle.decimals.proofs.Pieces.{put_keeps_length}
use Rattle.decimals.proofs.Places.{rest-length}
use Rattle.decimals.proofs.Laying.{lays_last}
use Rattle.decimals.proofs.lay_rest.Goals as goal

pub lay_places-laid-requires : goal.lay_places-laid-requires
lay_places-laid-requires c = (c.requires.0, omega arith, c.requires.1, c.requires.2, omega (arith, c.requires.3, rest-length c.args.high c.args.n c.requires.1))

pub bounds-out-place : goal.bounds-out-place
bounds-out-place c =
    let laid = c.lay_places-laid.ensures.put in
    omega (arith, c.requires.3, laid.past, rest-length c.args.high c.args.n c.requires.1, put_keeps_length laid)

pub overflow_add-result : goal.overflow_add-result
overflow_add-result c =
    record { fits = omega (arith, c.requires.3, c.lay_places-laid.ensures.put.past, rest-length c.args.high c.args.n c.requires.1, c.well_formed.0) }

pub returns : goal.returns
returns c =
    let whole = lays_last c.args.high c.args.n c.requires.1 c.lay_places-laid.ensures c.digit_byte.ensures in
    record { past = omega (arith, whole.past); output = whole.output }
