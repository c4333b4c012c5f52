-- `writer::put_header` meets its contract: one piece after the other. Assumes nothing.
use mathlib.Core.List.{◌++◌}
use mathlib.Core.Path.{ap}
use native.Mathlib.Omega.{arith}
use lib.ListN.{length, length-append}
use Rattle.dimacs.specs.Bytes.{bytes}
use Rattle.dimacs.specs.Writing.{third_digits}
use Rattle.measures.specs.Lines.{header_start, header_count}
use Rattle.decimals.proofs.Pieces.{put_then}
use Rattle.writer.proofs.Pieces.{PutBefore, put_one, put_before, then_whole}
use Rattle.measures.proofs.Lines.{header_to_come}
use Rattle.writer.proofs.Lines.{header_put}
use Rattle.writer.proofs.put_header.Goals as goal
use Rattle.writer.proofs.put_header.Goals.{After-put_third-past}

-- From behind the third count: the line stands up to there, and the rest is to come.
past_third : (c : After-put_third-past) → let f = c.args.format in let h = c.args.header in PutBefore (bytes "\n") 0 (header_start f ++ header_count h.variables ++ header_count h.clauses ++ third_digits f h.third) c.args.out.now c.put_third-past.new.out c.put_third-past.result
past_third c =
    let f = c.args.format in
    let h = c.args.header in
    let third = third_digits f h.third in
    let clauses = header_count h.clauses in
    let variables = header_count h.variables in
    let past_start = put_before c.put_start-past_start.ensures (variables ++ (clauses ++ (third ++ bytes "\n"))) (omega (arith, c.requires, ap length (header_to_come f h))) in
    let past_variables = then_whole variables (clauses ++ (third ++ bytes "\n")) past_start c.put_digits_after-past_variables.ensures in
    let past_clauses = then_whole clauses (third ++ bytes "\n") past_variables c.put_digits_after-past_clauses.ensures in
    then_whole third (bytes "\n") past_clauses c.put_third-past.ensures

pub put_start-past_start-requires : goal.put_start-past_start-requires
put_start-past_start-requires c =
    let f = c.args.format in
    let h = c.args.header in
    omega (
      arith,
      c.requires,
      ap length (header_to_come f h),
      length-append (header_start f) (header_count h.variables ++ (header_count h.clauses ++ (third_digits f h.third ++ bytes "\n"))),
    )

pub bounds-out-past : goal.bounds-out-past
bounds-out-past c = omega (arith, past_third (goal.at.bounds-out-past c).After-put_third-past)

pub overflow_add-result : goal.overflow_add-result
overflow_add-result c = omega (arith, past_third (goal.at.overflow_add-result c).After-put_third-past, c.well_formed)

pub returns : goal.returns
returns c =
    rw (header_put c.args.format c.args.header)
    (put_then (past_third (goal.at.returns c).After-put_third-past).put (put_one c.put_third-past.result 10 c.put_third-past.new.out))
