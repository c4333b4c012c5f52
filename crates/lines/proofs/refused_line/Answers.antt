-- `lines::refused_line` meets its contract: words, then the line end. Assumes nothing.
use Rattle.pages.proofs.Pages.{laid_then}
use Rattle.lines.proofs.refused_line.Goals as goal

pub returns : goal.returns
returns c = laid_then c.refused_at.ensures c.byte.ensures
