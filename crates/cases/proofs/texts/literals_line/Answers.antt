-- `cases::literals_line` meets its contract: its pieces in order. Assumes nothing.
use Rattle.pages.proofs.Pages.{laid_then}
use Rattle.cases.proofs.texts.literals_line.Goals as goal

pub returns : goal.returns
returns c = laid_then (laid_then c.word.ensures c.literals.ensures) c.byte.ensures
