-- `writer::put_lead` meets its contract: by format. Assumes nothing.
use mathlib.Core.List.{◌++◌}
use mathlib.Core.Path.{ap}
use native.Mathlib.Omega.{arith}
use lib.ListN.{length}
use Rattle.dimacs.specs.Bytes.{bytes}
use Rattle.dimacs.specs.Writing.{digits, lead}
use Rattle.decimals.proofs.Pieces.{put_then}
use Rattle.writer.proofs.Pieces.{PutBefore, put_two, whole_before}
use Rattle.writer.proofs.put_lead.Goals as goal
use Rattle.writer.proofs.put_lead.Goals.{After-put_digits_after-past}

past_group : (c : After-put_digits_after-past) → PutBefore (bytes "} ") 0 (bytes "{" ++ digits c.args.extra) c.args.out.now c.put_digits_after-past.new.out c.put_digits_after-past.result
past_group c = let e = ap (λ f. length (lead f c.args.extra)) c.in-Grouped.is in
    whole_before 0 (bytes "{" ++ digits c.args.extra) (bytes "} ") c.args.out.now (omega (arith, e, c.requires)) c.put_digits_after-past.ensures

pub returns-in-Grouped : goal.returns-in-Grouped
returns-in-Grouped c = let f = c.in-Grouped.is in rw f (put_then (past_group (goal.at.returns-in-Grouped c).After-put_digits_after-past).put (put_two c.put_digits_after-past.result 125 32 c.put_digits_after-past.new.out))
