-- `token_cases::test_answers` meets its contract: one answer after the other. Assumes nothing.
use Rattle.std.proofs.Common.{◌≡◌, Bool, true, false, refl}
use mir.Val.{bool_byte}
use Rattle.pages.proofs.Pages.{laid_then}
use Rattle.token_cases.specs.Answers.{bit}
use Rattle.token_cases.proofs.test_answers.Goals as goal

bit_is : (t : Bool) → bool_byte t ≡ bit t
bit_is true = refl
bit_is false = refl

pub returns : goal.returns
returns c =
    rw (c.from.ensures, c.eof.ensures, bit_is _, c.from-2.ensures, c.is_end_of_word.ensures, bit_is _) at
    (laid_then c.plain_number.ensures c.number.ensures)
