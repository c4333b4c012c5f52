-- `measures::left_after` meets its contract: the literals that come leave of what is left what all of them leave of the room. Assumes nothing.
use mathlib.Core.Path.{◌≡◌, ap, ◌∙◌}
use native.Mathlib.Omega.{arith}
use borrow.Author.Rules.{rules}
use lib.IntN.{pos}
use lib.ListN.{length, get_or}
use mir.Syntax.{w32}
use mir.Val.{to_z, of_z}
use Rattle.dimacs.specs.Writing.{item}
use Rattle.measures.proofs.Literals.{items_taken, leaves_next, leaves_none, leaves_all}
use Rattle.measures.proofs.left_after.Goals as goal
use Rattle.measures.proofs.left_after.Goals.{After-item_length-long}

long_is : (c : After-item_length-long) → c.item_length-long.result ≡ length (item (get_or c.args.lits.now c.loop-lit.lit-index (pos 0)))
long_is c =
    let x = get_or c.args.lits.now c.loop-lit.lit-index (pos 0) in
    let z : to_z w32 (of_z w32 x) ≡ x = search rules in
    c.item_length-long.ensures ∙ ap (λ v. length (item v)) z

pub loop-lit-init : goal.loop-lit-init
loop-lit-init c = record { same = items_taken c.args.room c.args.lits.now }

pub returns-then-left-long : goal.returns-then-left-long
returns-then-left-long c = leaves_none c.loop-lit.invariant c.loop-lit-test.true (long_is (goal.at.returns-then-left-long c).After-item_length-long) (omega (arith, c.if-left-long.true))

pub loop-lit-preserved : goal.loop-lit-preserved
loop-lit-preserved c = leaves_next c.loop-lit.invariant c.loop-lit-test.true (long_is (goal.at.loop-lit-preserved c).After-item_length-long)

pub returns : goal.returns
returns c = leaves_all c.loop-lit.invariant c.loop-lit-test.false
