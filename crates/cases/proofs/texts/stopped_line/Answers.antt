-- `cases::stopped_line` meets its contract: its pieces in order. Assumes nothing.
use Rattle.pages.proofs.Pages.{laid_then}
use Rattle.cases.proofs.texts.stopped_line.Goals as goal

pub returns : goal.returns
returns c = laid_then (laid_then c.refused_words.ensures c.stop_word.ensures) c.byte.ensures
