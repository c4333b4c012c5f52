-- `writer::write_hard_clause` meets its contract: the format is judged, and then the line is written. Assumes nothing.
use mathlib.Core.Path.{sym}
use Rattle.dimacs.specs.Writing.{write_hard_clause}
use Rattle.writer.proofs.Lines.{refused, allowed}
use Rattle.writer.proofs.write_hard_clause.Goals as goal

pub returns-in_err-refuse_unless : goal.returns-in_err-refuse_unless
unfolding write_hard_clause
returns-in_err-refuse_unless c = rw (sym c.has_hard.ensures) (refused _ _ _ c.in_err-refuse_unless.ensures c.from_residual.ensures)

pub returns : goal.returns
unfolding write_hard_clause
returns c = rw (sym c.has_hard.ensures) (allowed _ _ c.in_ok-refuse_unless.ensures c.write_line.ensures)
