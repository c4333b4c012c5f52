-- `pages::Page::plain_number` meets its contract: a number of 64 bits has at most twenty digits. Assumes nothing.
use native.Mathlib.Omega.{arith}
use Rattle.decimals.proofs.Digits.{digits_below}
use Rattle.dimacs.specs.Writing.{digits}
use Rattle.pages.proofs.Pages.{Stands, whole_stands}
use Rattle.pages.proofs.Page.plain_number.Goals as goal
use Rattle.pages.proofs.Page.plain_number.Goals.{After-put_digits-long}

-- The number stands in the buffer.
stands : (c : After-put_digits-long) → Stands (digits c.args.n) c.put_digits-long.new.out c.put_digits-long.result
stands c = whole_stands (digits c.args.n) c.put_digits-long.ensures (omega (arith, digits_below 20 c.args.n (omega arith) (omega arith)))

pub returns : goal.returns
returns c = let e = (stands (goal.at.returns c).After-put_digits-long).part in
    rw e at c.word.ensures
