-- `token_cases::token_line` meets its contract: one group of answers after the other, and the line end. Assumes nothing.
use Rattle.pages.proofs.Pages.{laid_then}
use Rattle.token_cases.proofs.token_line.Goals as goal

pub returns : goal.returns
returns c =
    let to_words = laid_then (laid_then c.end_answers.ensures c.line_answers.ensures) c.word_answers.ensures in
    laid_then (laid_then to_words c.number_answers.ensures) c.word.ensures
