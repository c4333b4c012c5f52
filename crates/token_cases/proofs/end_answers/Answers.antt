-- `token_cases::end_answers` meets its contract: one answer after the other. Assumes nothing.
use Rattle.pages.proofs.Pages.{laid_then}
use Rattle.token_cases.proofs.end_answers.Goals as goal

pub returns : goal.returns
returns c =
    let to_line = laid_then (laid_then c.test_answers.ensures c.number.ensures) c.number-2.ensures in
    rw (c.skip_whitespace.ensures, c.interactive_skip_line.ensures, c.interactive_newline.ensures, c.interactive_end_of_line.ensures) at
    (laid_then (laid_then to_line c.number-3.ensures) c.end_of_line_words.ensures)
