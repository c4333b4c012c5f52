-- `dimacs::spot_of` meets its contract: line and column are counted byte by byte up to the place, and past the text's end they are those of the end. Assumes nothing.
use Rattle.std.proofs.Common.{sym, ◌∙◌, arith}
use Rattle.dimacs.proofs.Spots.{counted_start, counted_fits, counted_line, counted_column, spot_beyond}
use Rattle.dimacs.proofs.+spot_of.Goals as goal
use Rattle.dimacs.proofs.+spot_of.Goals.{then-ends_line, else-ends_line}

pub returns-then-text-place : goal.returns-then-text-place
returns-then-text-place t c = c.spot_of.ensures ∙ sym (spot_beyond _ _ c.args.place (omega arith))

pub loop-i-init : goal.loop-i-init
loop-i-init t c = (omega arith, omega arith, counted_start _ _)

pub overflow_add-line : goal.overflow_add-line
overflow_add-line t c = omega (arith, counted_fits _ _ c.loop-i.invariant.2)

pub overflow_add-column : goal.overflow_add-column
overflow_add-column t c = omega (arith, counted_fits _ _ c.loop-i.invariant.2)

pub loop-i-preserved : goal.loop-i-preserved
loop-i-preserved t c =
    let so = c.loop-i.invariant.2 in (
      omega arith,
      omega arith,
      elim c.if-ends_line.branch [
        | then-ends_line w ↦ rw (w.line-is, w.column-is) (counted_line _ _ so (omega arith) (sym w.if-ends_line.true ∙ c.ends_line.ensures))
        | else-ends_line w ↦ rw (w.line-is, w.column-is) (counted_column _ _ so (omega arith) (sym w.if-ends_line.false ∙ c.ends_line.ensures))
      ],
    )
