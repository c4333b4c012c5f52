-- `token_cases::uint_words` meets its contract: by what was read. Assumes nothing.
use Rattle.pages.proofs.Pages.{laid_then}
use Rattle.token_cases.proofs.uint_words.Goals as goal

pub returns-in-Value : goal.returns-in-Value
returns-in-Value c = rw c.in-Value.is (laid_then c.number.ensures c.next_place.ensures)
