-- `by_number::header_line` meets its contract, by what the number of the format names. Assumes nothing.
use mathlib.Core.Path.{sym}
use Rattle.by_number.proofs.Left.{in_none}
use Rattle.by_number.proofs.header_line.Goals as goal

pub returns-in_err-named : goal.returns-in_err-named
returns-in_err-named c = in_none _ c.in_err-named.ensures c.from_residual.ensures

pub returns : goal.returns
returns c = rw (sym c.in_ok-named.ensures) c.write_header.ensures
