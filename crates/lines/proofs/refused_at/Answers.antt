-- `lines::refused_at` meets its contract: a labelled number, then another. Assumes nothing.
use Rattle.pages.proofs.Pages.{laid_then}
use Rattle.lines.proofs.refused_at.Goals as goal

pub returns : goal.returns
returns c = laid_then c.labelled.ensures c.labelled-2.ensures
