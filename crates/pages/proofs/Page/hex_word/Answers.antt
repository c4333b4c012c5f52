-- `pages::Page::hex_word` meets its contract: each turn lays the next byte in hex. Assumes nothing.
use Rattle.pages.specs.Printed.{printed_hex}
use Rattle.pages.proofs.Pages.{laid_next}
use Rattle.pages.proofs.Page.hex_word.Goals as goal

pub loop-b-preserved : goal.loop-b-preserved
loop-b-preserved c = laid_next printed_hex c.args.w.now 0 c.loop-b-test.true c.loop-b.invariant c.hex.ensures
