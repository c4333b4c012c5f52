-- `lines::header_words` meets its contract: the counts one after the other. Assumes nothing.
use Rattle.pages.proofs.Pages.{laid_then}
use Rattle.lines.proofs.header_words.Goals as goal

pub returns : goal.returns
returns c = laid_then (laid_then c.labelled.ensures c.number.ensures) c.third.ensures
