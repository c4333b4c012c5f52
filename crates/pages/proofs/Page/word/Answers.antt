-- `pages::Page::word` meets its contract: each turn lays the next byte. Assumes nothing.
use native.Mathlib.Numerals.{add-one}
use lib.Seq.{take-suc}
use mathlib.Core.Path.{refl}
use native.Mathlib.Omega.{arith}
use Rattle.pages.proofs.Pages.{laid_then, laid_at}
use Rattle.pages.proofs.Page.word.Goals as goal

pub loop-b-preserved : goal.loop-b-preserved
loop-b-preserved c = let h = c.loop-b-test.true in
    laid_at {a = c.byte.new.self} refl (omega arith) (rw (add-one, take-suc c.args.w.now _ 0 h) (laid_then c.loop-b.invariant c.byte.ensures))
