-- `lines::refused_words` meets its contract: number and place, k, and line and column. Assumes nothing.
use Rattle.pages.proofs.Pages.{laid_then}
use Rattle.lines.proofs.refused_words.Goals as goal

pub returns : goal.returns
returns c = laid_then (laid_then c.refused_at.ensures c.labelled.ensures) c.spot_words.ensures
