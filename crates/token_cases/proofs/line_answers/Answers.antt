-- `token_cases::line_answers` meets its contract: one answer after the other. Assumes nothing.
use Rattle.pages.proofs.Pages.{laid_then}
use Rattle.token_cases.proofs.line_answers.Goals as goal

pub returns : goal.returns
returns c =
    let to_comment = laid_then (laid_then c.number.ensures c.number-2.ensures) c.number-3.ensures in
    rw (c.newline.ensures, c.line_past.ensures, c.interactive_strict_comment.ensures, c.comments_and_newlines.ensures, c.non_terminating_linebreaks.ensures) at
    (laid_then (laid_then to_comment c.number-4.ensures) c.number-5.ensures)
