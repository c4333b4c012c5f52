-- `writer::put_literals` meets its contract: each turn puts the next literal and its space. Assumes nothing.
use mathlib.Core.Path.{◌≡◌}
use native.Mathlib.Omega.{arith}
use borrow.Author.Rules.{rules}
use lib.IntN.{pos}
use lib.ListN.{get_or}
use mir.Syntax.{w32}
use mir.Val.{to_z, of_z}
use Rattle.dimacs.specs.Bytes.{bytes}
use Rattle.dimacs.specs.Writing.{signed_digits}
use Rattle.decimals.proofs.Pieces.{put_then}
use Rattle.writer.proofs.Pieces.{PutBefore, put_one, whole_before}
use Rattle.writer.proofs.Literals.{listed_none, listed_long, listed_room, listed_more}
use Rattle.writer.proofs.put_literals.Goals as goal
use Rattle.writer.proofs.put_literals.Goals.{After-put_literal-place}

past_literal : (c : After-put_literal-place) → let l = c.loop-lit in PutBefore (bytes " ") l.place (signed_digits (get_or c.args.lits.now c.loop-lit.lit-index (pos 0))) l.out c.put_literal-place.new.out c.put_literal-place.result
past_literal c = let l = c.loop-lit in let x = (get_or c.args.lits.now c.loop-lit.lit-index (pos 0)) in
    let z : to_z w32 (of_z w32 x) ≡ x = search rules in
    whole_before l.place (signed_digits x) (bytes " ") l.out (listed_room l.invariant c.loop-lit-test.true c.requires) (rw z at c.put_literal-place.ensures)

pub loop-lit-init : goal.loop-lit-init
loop-lit-init c = listed_none _ _ _

pub bounds-out-place : goal.bounds-out-place
bounds-out-place c = omega (arith, past_literal (goal.at.bounds-out-place c).After-put_literal-place)

pub overflow_add-place : goal.overflow_add-place
overflow_add-place c = omega (arith, past_literal (goal.at.overflow_add-place c).After-put_literal-place, listed_long c.loop-lit.invariant, c.well_formed)

pub loop-lit-preserved : goal.loop-lit-preserved
loop-lit-preserved c = listed_more c.loop-lit.invariant c.loop-lit-test.true
    (put_then (past_literal (goal.at.loop-lit-preserved c).After-put_literal-place).put (put_one c.put_literal-place.result 32 c.put_literal-place.new.out))
