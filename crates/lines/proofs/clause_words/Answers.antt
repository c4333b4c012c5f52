-- `lines::clause_words` meets its contract: the word, the weight or group, the literals. Assumes nothing.
use Rattle.pages.proofs.Pages.{laid_then}
use Rattle.lines.proofs.clause_words.Goals as goal

pub returns : goal.returns
returns c = laid_then (laid_then c.word.ensures c.lead.ensures) c.literals.ensures
