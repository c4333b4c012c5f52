-- `writer::write_clause` meets its contract: the weight is judged, and then the line is written. Assumes nothing.
use mathlib.Core.Path.{sym}
use Rattle.dimacs.specs.Writing.{write_clause}
use Rattle.writer.proofs.Lines.{refused_not, allowed_not}
use Rattle.writer.proofs.write_clause.Goals as goal

pub returns-in_err-refuse_unless : goal.returns-in_err-refuse_unless
unfolding write_clause
returns-in_err-refuse_unless c = rw (sym c.lacks_weight.ensures) (refused_not _ _ _ c.in_err-refuse_unless.ensures c.from_residual.ensures)

pub returns : goal.returns
unfolding write_clause
returns c = rw (sym c.lacks_weight.ensures) (allowed_not _ _ c.in_ok-refuse_unless.ensures c.write_line.ensures)
