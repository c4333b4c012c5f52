-- `cases::accepted_lines` meets its contract: one line after the other. Assumes nothing.
use Rattle.pages.proofs.Pages.{laid_then}
use Rattle.cases.proofs.texts.accepted_lines.Goals as goal

pub returns : goal.returns
returns c = laid_then c.verdict_line.ensures c.literals_line.ensures
