-- `lines::header_line` meets its contract: words, then the line end. Assumes nothing.
use Rattle.pages.proofs.Pages.{laid_then}
use Rattle.lines.proofs.header_line.Goals as goal

pub returns : goal.returns
returns c = laid_then c.header_words.ensures c.byte.ensures
