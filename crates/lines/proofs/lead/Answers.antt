-- `lines::lead` meets its contract: a group stands in braces. Assumes nothing.
use Rattle.pages.proofs.Pages.{laid_then}
use Rattle.lines.proofs.lead.Goals as goal

pub returns-in-Grouped : goal.returns-in-Grouped
returns-in-Grouped c = let f = c.in-Grouped.is in
    rw f (laid_then (laid_then c.word-in-Grouped.ensures c.plain_number.ensures) c.word-in-Grouped-2.ensures)
