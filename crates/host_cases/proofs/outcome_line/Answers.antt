-- `host_cases::outcome_line` meets its contract: two numbers, those that `latchtwig_check` leaves, and the line end. Assumes nothing.
use Rattle.pages.proofs.Pages.{laid_then}
use Rattle.host_cases.proofs.outcome_line.Goals as goal

pub returns : goal.returns
returns c =
    let both = laid_then c.plain_number.ensures c.number.ensures in
    rw (c.latchtwig_place.ensures, c.from.ensures, c.latchtwig_refusal.ensures) at (laid_then (laid_then both c.checked_words.ensures) c.byte.ensures)
