-- `writer::write_header` meets its contract: the format is judged, then the count of variables, then the length, and then the line is put. Assumes nothing.
use mathlib.Core.Path.{sym}
use native.Mathlib.Omega.{arith}
use borrow.Author.Tests.{leb-true}
use lib.ListN.{length}
use Rattle.dimacs.specs.Writing.{write_header}
use Rattle.writer.proofs.Lines.{refused, allowed, holds, written_at}
use Rattle.writer.proofs.write_header.Goals as goal

pub returns-in_err-refuse_unless : goal.returns-in_err-refuse_unless
unfolding write_header
returns-in_err-refuse_unless c = rw (sym c.has_header.ensures) (refused _ _ _ c.in_err-refuse_unless.ensures c.from_residual.ensures)

pub returns-in_err-refuse_unless-2 : goal.returns-in_err-refuse_unless-2
unfolding write_header
returns-in_err-refuse_unless-2 c =
    rw (sym c.has_header.ensures)
    (allowed _ _ c.in_ok-refuse_unless.ensures (refused _ _ _ c.in_err-refuse_unless-2.ensures c.from_residual-in_err-refuse_unless-2.ensures))

pub returns-in_err-refuse_unless-3 : goal.returns-in_err-refuse_unless-3
unfolding write_header
returns-in_err-refuse_unless-3 c =
    rw (sym c.has_header.ensures, sym c.header_length.ensures)
    (allowed _ _ c.in_ok-refuse_unless.ensures (allowed _ _ c.in_ok-refuse_unless-2.ensures (refused _ _ _ c.in_err-refuse_unless-3.ensures c.from_residual-in_err-refuse_unless-3.ensures)))

pub put_header-requires : goal.put_header-requires
put_header-requires c = omega (arith, c.header_length.ensures, leb-true c.header_length.result (length c.args.out.now) (holds _ _ c.in_ok-refuse_unless-3.ensures))

pub returns : goal.returns
unfolding write_header
returns c =
    rw (sym c.has_header.ensures, sym c.header_length.ensures)
    (allowed _ _ c.in_ok-refuse_unless.ensures (allowed _ _ c.in_ok-refuse_unless-2.ensures (allowed _ _ c.in_ok-refuse_unless-3.ensures (written_at (omega (arith, c.header_length.ensures, leb-true c.header_length.result (length c.args.out.now) (holds _ _ c.in_ok-refuse_unless-3.ensures))) c.put_header.ensures))))
