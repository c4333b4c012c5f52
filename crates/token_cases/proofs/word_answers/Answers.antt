-- `token_cases::word_answers` meets its contract: one answer after the other. Assumes nothing.
use Rattle.pages.proofs.Pages.{laid_then}
use Rattle.token_cases.proofs.word_answers.Goals as goal

pub returns : goal.returns
returns c =
    rw (c.fixed.ensures, c.fixed-2.ensures, c.word.ensures, c.word-2.ensures) at
    (laid_then (laid_then (laid_then c.number.ensures c.number-2.ensures) c.number-3.ensures) c.number-4.ensures)
