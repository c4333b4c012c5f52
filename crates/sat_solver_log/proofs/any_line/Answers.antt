-- `sat_solver_log::any_line` meets its contract, by the kind of the line. Assumes nothing.
use mathlib.Core.Path.{ap, sym, ◌∙◌}
use Rattle.sat_solver_log.specs.Starts.{found}
use Rattle.sat_solver_log.proofs.Lines.{leads_again, leads_end, comment_line, value_line_lem, solution_line_lem, last_line, other_line_lem}
use Rattle.sat_solver_log.proofs.any_line.Goals as goal

pub returns-in-Some : goal.returns-in-Some
returns-in-Some c = comment_line _ _ _ _ _ c.requires _ (c.found.ensures ∙ ap (found _) c.interactive_strict_comment.ensures) c.in-Some.is

pub returns-in-Some-value_start : goal.returns-in-Some-value_start
returns-in-Some-value_start c = rw (leads_again _ _ c.map.ensures.cases)
    (value_line_lem _ _ _ _ _ c.requires _ (c.found.ensures ∙ ap (found _) c.interactive_strict_comment.ensures) c.in_default.is _ c.value_start.ensures c.in-Some-value_start.is c.value_line.ensures)

pub returns-in-Some-solution_start : goal.returns-in-Some-solution_start
returns-in-Some-solution_start c = rw (leads_again _ _ c.map-in-Some-solution_start.ensures.cases)
    (solution_line_lem _ _ _ _ _ c.requires _ (c.found.ensures ∙ ap (found _) c.interactive_strict_comment.ensures) c.in_default.is _ c.value_start.ensures c.in_default-value_start.is _ c.solution_start.ensures
    c.in-Some-solution_start.is c.solution_line.ensures)

pub returns-then-eof : goal.returns-then-eof
returns-then-eof c = rw (leads_end _ _ c.map-then-eof.ensures.cases)
    (last_line _ _ _ _ _ c.requires _ (c.found.ensures ∙ ap (found _) c.interactive_strict_comment.ensures) c.in_default.is _ c.value_start.ensures c.in_default-value_start.is _ c.solution_start.ensures
    c.in_default-solution_start.is (sym c.eof.ensures ∙ c.if-eof.true) c.log_end.ensures)

pub returns : goal.returns
returns c = rw (leads_again _ _ c.map-2.ensures.cases)
    (other_line_lem _ _ _ _ _ c.requires _ (c.found.ensures ∙ ap (found _) c.interactive_strict_comment.ensures) c.in_default.is _ c.value_start.ensures c.in_default-value_start.is _ c.solution_start.ensures
    c.in_default-solution_start.is (sym c.eof.ensures ∙ c.if-eof.false) c.other_line.ensures)
