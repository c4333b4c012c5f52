-- `sat_solver_log::parse_log_as` meets its contract: what the log comes to stays the same over each line, and each is further on. Assumes nothing.
use Rattle.dimacs.specs.Logs.{log}
use mathlib.Core.Path.{ap, ◌∙◌}
use Rattle.std.specs.Prelude.{Ok}
use Rattle.std.proofs.lemmas.Result.{err_from_is_err_and}
use Rattle.sat_solver_log.proofs.Runs.{log_so_far_start, log_so_far_on, log_so_far_answered}
use Rattle.sat_solver_log.proofs.parse_log_as.Goals as goal

pub loop-next-init : goal.loop-next-init
loop-next-init c = log_so_far_start _ _ _

pub loop-next-smaller : goal.loop-next-smaller
loop-next-smaller c = let g = c.in_ok-next.was ∙ ap Ok c.in-Again.is in (log_so_far_on c.loop-next.invariant (rw g at c.any_line.ensures)).1

pub loop-next-preserved : goal.loop-next-preserved
loop-next-preserved c = let g = c.in_ok-next.was ∙ ap Ok c.in-Again.is in (log_so_far_on c.loop-next.invariant (rw g at c.any_line.ensures)).0

pub returns-in-End : goal.returns-in-End
unfolding log
returns-in-End c = let g = c.in_ok-next.was ∙ ap Ok c.in-End.is in log_so_far_answered c.loop-next.invariant (rw g at c.any_line.ensures)

pub returns-in_err-next : goal.returns-in_err-next
unfolding log
returns-in_err-next c = let g = c.in_err-next.was in let p = err_from_is_err_and c.from_residual.result c.from_residual.ensures.1 in
    rw (p.1, p.2) (log_so_far_answered c.loop-next.invariant (rw g at c.any_line.ensures))
