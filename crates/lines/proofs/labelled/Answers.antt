-- `lines::labelled` meets its contract: a word, then a number. Assumes nothing.
use Rattle.pages.proofs.Pages.{laid_then}
use Rattle.lines.proofs.labelled.Goals as goal

pub returns : goal.returns
returns c = laid_then c.word.ensures c.number.ensures
