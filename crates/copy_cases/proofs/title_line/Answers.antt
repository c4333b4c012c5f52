-- `copy_cases::title_line` meets its contract: a name, a number and a word. Assumes nothing.
use Rattle.pages.proofs.Pages.{laid_then}
use Rattle.copy_cases.proofs.title_line.Goals as goal

pub returns : goal.returns
returns c = laid_then (laid_then c.name.ensures c.number.ensures) c.word.ensures
