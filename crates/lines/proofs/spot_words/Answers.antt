-- `lines::spot_words` meets its contract: a labelled number, then another. Assumes nothing.
use Rattle.pages.proofs.Pages.{laid_then}
use Rattle.lines.proofs.spot_words.Goals as goal

pub returns : goal.returns
returns c = laid_then c.labelled.ensures c.labelled-2.ensures
