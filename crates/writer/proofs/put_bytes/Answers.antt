-- `writer::put_bytes` meets its contract: the piece is copied to the front. Assumes nothing.
use Rattle.writer.proofs.Pieces.{put_front}
use Rattle.writer.proofs.put_bytes.Goals as goal

pub returns : goal.returns
returns c = rw c.copy_from_slice.ensures.after (put_front c.args.piece.now c.args.out.now c.requires)
