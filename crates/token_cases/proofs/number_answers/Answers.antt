-- `token_cases::number_answers` meets its contract: one answer after the other. Assumes nothing.
use Rattle.pages.proofs.Pages.{laid_then}
use Rattle.token_cases.proofs.number_answers.Goals as goal

pub returns : goal.returns
returns c =
    rw (c.uint.ensures, c.braced_uint.ensures, c.int.ensures) at
    (laid_then (laid_then c.uint_words.ensures c.uint_words-2.ensures) c.int_words.ensures)
