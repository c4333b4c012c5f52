-- `writer::write_line` meets its contract: the literals are judged, then the length, and then the line is put. Assumes nothing.
use mathlib.Core.Path.{sym}
use borrow.Author.Tests.{leb-true}
use lib.ListN.{length}
use Rattle.dimacs.specs.Writing.{write_line}
use Rattle.writer.proofs.Lines.{refused, allowed, holds, written_at, left_fits, left_tested}
use Rattle.writer.proofs.write_line.Goals as goal

pub returns-in_err-refuse_unless : goal.returns-in_err-refuse_unless
unfolding write_line
returns-in_err-refuse_unless c = rw (sym c.writable-good.ensures) (refused _ _ _ c.in_err-refuse_unless.ensures c.from_residual.ensures)

pub returns-in_err-refuse_unless-2 : goal.returns-in_err-refuse_unless-2
unfolding write_line
returns-in_err-refuse_unless-2 c =
    let a = c.args in
    rw (sym c.writable-good.ensures, sym (left_tested a.format a.extra a.lits.now (length a.out.now) c.around_length.ensures c.left_after-room.ensures))
    (allowed _ _ c.in_ok-refuse_unless.ensures (refused _ _ _ c.in_err-refuse_unless-2.ensures c.from_residual-in_err-refuse_unless-2.ensures))

pub put_clause-requires : goal.put_clause-requires
put_clause-requires c =
    left_fits c.args.format c.args.extra c.args.lits.now (length c.args.out.now) c.around_length.ensures c.left_after-room.ensures (leb-true _ _ (holds _ _ c.in_ok-refuse_unless-2.ensures))

pub returns : goal.returns
unfolding write_line
returns c =
    let a = c.args in
    rw (sym c.writable-good.ensures, sym (left_tested a.format a.extra a.lits.now (length a.out.now) c.around_length.ensures c.left_after-room.ensures))
    (allowed _ _ c.in_ok-refuse_unless.ensures (allowed _ _ c.in_ok-refuse_unless-2.ensures (written_at (left_fits c.args.format c.args.extra c.args.lits.now (length c.args.out.now) c.around_length.ensures c.left_after-room.ensures (leb-true _ _ (holds _ _ c.in_ok-refuse_unless-2.ensures))) c.put_clause.ensures)))
