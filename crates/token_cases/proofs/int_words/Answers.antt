-- `token_cases::int_words` meets its contract: by what was read. Assumes nothing.
use Rattle.std.proofs.Common.{◌≡◌, rules, w32, to_z}
use mir.Val.{of_z}
use Rattle.pages.proofs.Pages.{laid_then}
use Rattle.token_cases.proofs.int_words.Goals as goal

pub returns-in-Zero : goal.returns-in-Zero
returns-in-Zero c = rw c.in-Zero.is (laid_then c.number.ensures c.next_place.ensures)

pub returns-in-Literal : goal.returns-in-Literal
returns-in-Literal c =
    -- The literal, stored and read again.
    let back : to_z w32 (of_z w32 c.in-Literal.v) ≡ c.in-Literal.v = search rules in
    rw c.in-Literal.is (laid_then (rw back at c.literals.ensures) c.next_place-in-Literal.ensures)
