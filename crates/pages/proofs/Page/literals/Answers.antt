-- `pages::Page::literals` meets its contract: each turn lays the next literal. Assumes nothing.
use mathlib.Core.Path.{◌≡◌}
use borrow.Author.Rules.{rules}
use lib.IntN.{pos}
use lib.ListN.{get_or}
use mir.Syntax.{w32}
use mir.Val.{to_z, of_z}
use Rattle.pages.specs.Printed.{printed_literal}
use Rattle.pages.proofs.Pages.{laid_next}
use Rattle.pages.proofs.Page.literals.Goals as goal

pub loop-v-preserved : goal.loop-v-preserved
loop-v-preserved c = let x = get_or c.args.lits.now c.loop-v.v-index (pos 0) in
    let z : to_z w32 (of_z w32 x) ≡ x = search rules in
    laid_next printed_literal c.args.lits.now (pos 0) c.loop-v-test.true c.loop-v.invariant (rw z at c.literal.ensures)
