-- `writer::put_clause` meets its contract: one piece after the other. Assumes nothing.
use mathlib.Core.List.{◌++◌}
use mathlib.Core.Path.{ap}
use native.Mathlib.Omega.{arith}
use lib.ListN.{length, length-append, length-set}
use Rattle.dimacs.specs.Bytes.{bytes}
use Rattle.dimacs.specs.Writing.{lead, items}
use Rattle.decimals.proofs.Pieces.{put_then}
use Rattle.writer.proofs.Pieces.{PutBefore, put_two, put_before, next_room, then_before}
use Rattle.measures.proofs.Lines.{clause_to_come}
use Rattle.writer.proofs.Lines.{clause_put}
use Rattle.writer.proofs.put_clause.Goals as goal
use Rattle.writer.proofs.put_clause.Goals.{After-put_lead-past_lead, After-put_literals-past}

-- From behind each piece: the line stands up to there, and the rest is to come.
past_start : (c : After-put_lead-past_lead) → PutBefore (items c.args.lits.now ++ bytes "0\n") 0 (lead c.args.format c.args.extra) c.args.out.now c.put_lead-past_lead.new.out c.put_lead-past_lead.result
past_start c = put_before c.put_lead-past_lead.ensures _ (omega (arith, c.requires, ap length (clause_to_come c.args.format c.args.extra c.args.lits.now)))

past_literals : (c : After-put_literals-past) → PutBefore (bytes "0\n") 0 (lead c.args.format c.args.extra ++ items c.args.lits.now) c.args.out.now c.put_literals-past.new.out c.put_literals-past.result
past_literals c =
    let room = ap length (clause_to_come c.args.format c.args.extra c.args.lits.now) in
    then_before (items c.args.lits.now) (bytes "0\n") (put_before c.put_lead-past_lead.ensures _ (omega (arith, c.requires, room))) c.put_literals-past.ensures

pub put_lead-past_lead-requires : goal.put_lead-past_lead-requires
put_lead-past_lead-requires c =
    omega (
      arith,
      c.requires,
      ap length (clause_to_come c.args.format c.args.extra c.args.lits.now),
      length-append (lead c.args.format c.args.extra) (items c.args.lits.now ++ bytes "0\n"),
    )

pub put_literals-past-requires : goal.put_literals-past-requires
put_literals-past-requires c = next_room (items c.args.lits.now) (bytes "0\n") (past_start (goal.at.put_literals-past-requires c).After-put_lead-past_lead)

pub bounds-out-past : goal.bounds-out-past
bounds-out-past c = omega (arith, past_literals (goal.at.bounds-out-past c).After-put_literals-past)

pub overflow_add-out : goal.overflow_add-out
overflow_add-out c = omega (arith, past_literals (goal.at.overflow_add-out c).After-put_literals-past, c.well_formed)

pub bounds-out-past-2 : goal.bounds-out-past-2
bounds-out-past-2 c = simp length-set (omega (arith, past_literals (goal.at.bounds-out-past-2 c).After-put_literals-past))

pub overflow_add-result : goal.overflow_add-result
overflow_add-result c = omega (arith, past_literals (goal.at.overflow_add-result c).After-put_literals-past, c.well_formed)

pub returns : goal.returns
returns c =
    rw (clause_put c.args.format c.args.extra c.args.lits.now)
    (put_then (past_literals (goal.at.returns c).After-put_literals-past).put (put_two c.put_literals-past.result 48 10 c.put_literals-past.new.out))
