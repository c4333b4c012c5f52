-- A clause leaves fewer to come, whatever room it had.
use Rattle.std.proofs.Common.{refl, ap, ◌∙◌, Ok}
use Rattle.formula.proofs.Runs.{steps_lead}
use Rattle.listing.proofs.clauses.Goals as goal

pub loop-clause-smaller : goal.loop-clause-smaller
loop-clause-smaller c = (steps_lead _ _ _ _ _ _ refl c.next_clause-step.ensures (c.in_ok-clause.was ∙ ap Ok c.in-Some.is)).1
