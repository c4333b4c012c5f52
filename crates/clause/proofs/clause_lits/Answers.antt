-- `clause::clause_lits` meets its contract: each way out, and each way on, by what the row leads to. Assumes nothing.
use mathlib.Core.Path.{ap, ◌∙◌}
use Rattle.std.specs.Prelude.{Ok}
use Rattle.std.proofs.lemmas.Result.{err_from_is_err_and}
use Rattle.clause.proofs.RowByRow.{so_far_start, after_row}
use Rattle.clause.proofs.clause_lits.Goals as goal

pub loop-place-init : goal.loop-place-init
loop-place-init c = so_far_start _ _ _ _

pub returns-then-count-eq0 : goal.returns-then-count-eq0
returns-then-count-eq0 c = (after_row c.loop-place.invariant c.ints.ensures (c.in_ok-place.was ∙ ap Ok c.in-Ends.is)).none c.if-count-eq0.true

pub returns-then-count-held : goal.returns-then-count-held
returns-then-count-held c = (after_row c.loop-place.invariant c.ints.ensures (c.in_ok-place.was ∙ ap Ok c.in-Ends.is)).after_lines c.if-count-eq0.false c.if-count-held.true _ c.refuse.ensures

pub returns-then-past-place : goal.returns-then-past-place
returns-then-past-place c = (after_row c.loop-place.invariant c.ints.ensures (c.in_ok-place.was ∙ ap Ok c.in-Ends.is)).on_line c.if-count-eq0.false c.if-count-held.false _ c.non_terminating_linebreaks-past.ensures c.if-past-place.true _ c.refuse-then-past-place.ensures

pub loop-place-smaller : goal.loop-place-smaller
loop-place-smaller c = ((after_row c.loop-place.invariant c.ints.ensures (c.in_ok-place.was ∙ ap Ok c.in-Ends.is)).on c.if-count-eq0.false c.if-count-held.false _ c.non_terminating_linebreaks-past.ensures c.if-past-place.false).1

pub loop-place-preserved : goal.loop-place-preserved
loop-place-preserved c = ((after_row c.loop-place.invariant c.ints.ensures (c.in_ok-place.was ∙ ap Ok c.in-Ends.is)).on c.if-count-eq0.false c.if-count-held.false _ c.non_terminating_linebreaks-past.ensures c.if-past-place.false).0

pub returns-in-Closes : goal.returns-in-Closes
returns-in-Closes c = after_row c.loop-place.invariant c.ints.ensures (c.in_ok-place.was ∙ ap Ok c.in-Closes.is)

pub returns-in_err-place : goal.returns-in_err-place
returns-in_err-place c = let p = err_from_is_err_and c.from_residual.result c.from_residual.ensures.1 in
    rw (p.1, p.2) (after_row c.loop-place.invariant c.ints.ensures c.in_err-place.was)
