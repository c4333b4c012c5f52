-- `writer::put_weight` meets its contract: the digits, and the space behind them. Assumes nothing.
use native.Mathlib.Omega.{arith}
use Rattle.dimacs.specs.Bytes.{bytes}
use Rattle.dimacs.specs.Writing.{digits}
use Rattle.decimals.proofs.Pieces.{put_then}
use Rattle.measures.proofs.Lines.{weight_long}
use Rattle.writer.proofs.Pieces.{PutBefore, put_one, whole_before}
use Rattle.writer.proofs.put_weight.Goals as goal
use Rattle.writer.proofs.put_weight.Goals.{After-put_digits-past}

past_digits : (c : After-put_digits-past) → PutBefore (bytes " ") 0 (digits c.args.weight) c.args.out.now c.put_digits-past.new.out c.put_digits-past.result
past_digits c = whole_before 0 (digits c.args.weight) (bytes " ") c.args.out.now (omega (arith, weight_long c.args.weight, c.requires)) c.put_digits-past.ensures

pub returns : goal.returns
returns c = put_then (past_digits (goal.at.returns c).After-put_digits-past).put (put_one c.put_digits-past.result 32 c.put_digits-past.new.out)
