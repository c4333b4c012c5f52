-- `lines::weight` meets its contract: the number, and the colon behind it. Assumes nothing.
use Rattle.pages.proofs.Pages.{laid_then}
use Rattle.lines.proofs.weight.Goals as goal

pub returns : goal.returns
returns c = laid_then c.number.ensures c.byte.ensures
