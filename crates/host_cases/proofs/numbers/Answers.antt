-- `host_cases::numbers` meets its contract: one number after the other. Assumes nothing.
use Rattle.pages.proofs.Pages.{laid_then}
use Rattle.host_cases.proofs.numbers.Goals as goal

pub returns : goal.returns
returns c = laid_then (laid_then (laid_then c.number.ensures c.number-2.ensures) c.number-3.ensures) c.number-4.ensures
