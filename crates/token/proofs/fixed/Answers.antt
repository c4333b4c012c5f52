-- `token::fixed` meets its contract: what is left of the word stands at i if all of it stands at the start. Assumes nothing.
use Prim.Native.Nat.{◌<◌}
use mathlib.Core.Path.{◌≡◌, sym, ◌∙◌}
use native.Mathlib.Omega.{arith}
use borrow.Author.Rules.{rules}
use lib.ListN.{length, get_or}
use Rattle.dimacs.proofs.Words.{begins_differs, begins_short, begins_all, fixed_no, fixed_is}
use Rattle.token.proofs.Begins.{begins_more}
use Rattle.token.proofs.fixed.Goals as goal

pub returns-in_default : goal.returns-in_default
returns-in_default c =
    let s = c.args.text.now in
    let w = c.args.w.now in
    let l = c.loop-b in
    let inside : l.i < length s = search rules in
    let differs : get_or s l.i 0 ≡ get_or w l.b-index 0 → ⊥ = search rules in
    sym (fixed_no w s c.args.at (sym l.invariant.2 ∙ begins_differs w s l.b-index l.i c.loop-b-test.true inside differs))

pub returns-in_default-2 : goal.returns-in_default-2
returns-in_default-2 c =
    let l = c.loop-b in sym (fixed_no c.args.w.now c.args.text.now c.args.at (sym l.invariant.2 ∙ begins_short c.args.w.now c.args.text.now l.b-index l.i c.loop-b-test.true (search rules)))

pub loop-b-preserved : goal.loop-b-preserved
loop-b-preserved c =
    let s = c.args.text.now in
    let w = c.args.w.now in
    let l = c.loop-b in
    let inside : l.i < length s = search rules in
    let same : get_or s l.i 0 ≡ get_or w l.b-index 0 = search rules in
    (omega (arith, c.loop-b-test.true), omega (arith, l.invariant.1), begins_more w s l.b-index l.i c.loop-b-test.true inside same ∙ l.invariant.2)

pub returns : goal.returns
returns c =
    let l = c.loop-b in
    omega (arith, l.invariant.0, l.invariant.1, c.loop-b-test.false, fixed_is c.args.w.now c.args.text.now c.args.at (sym l.invariant.2 ∙ begins_all c.args.w.now c.args.text.now l.b-index l.i (omega (arith, c.loop-b-test.false))))
