-- `formula::read_on` meets its contract: what the text comes to stays the same over each clause, and fewer are to come. Assumes nothing.
use mathlib.Core.Path.{ap, sym, ◌∙◌}
use Rattle.std.specs.Prelude.{Ok}
use Rattle.formula.proofs.Runs.{steps_lead}
use Rattle.formula.proofs.read_on.Goals as goal

pub loop-stopped-smaller : goal.loop-stopped-smaller
loop-stopped-smaller c = let i = c.in-Ok-Some.is in let e = i ∙ ap Ok (rw i at c.in-Ok-Some.field-0-is) in
    (steps_lead _ _ _ _ _ _ c.loop-stopped.invariant.0 c.next_clause-step.ensures e).1

pub loop-stopped-preserved : goal.loop-stopped-preserved
loop-stopped-preserved c = let i = c.in-Ok-Some.is in let e = i ∙ ap Ok (rw i at c.in-Ok-Some.field-0-is) in
    let l = steps_lead _ _ _ _ _ _ c.loop-stopped.invariant.0 c.next_clause-step.ensures e in
    (c.next_clause-step.auto.lits ∙ c.loop-stopped.invariant.0, c.loop-stopped.invariant.1 ∙ l.0)

pub returns-in-Ok-None : goal.returns-in-Ok-None
returns-in-Ok-None c = let i = c.in-Ok-None.is in let e = i ∙ ap Ok (rw i at c.in-Ok-None.field-0-is) in
    sym (c.loop-stopped.invariant.1 ∙ steps_lead _ _ _ _ _ _ c.loop-stopped.invariant.0 c.next_clause-step.ensures e)

pub returns-in-Err : goal.returns-in-Err
returns-in-Err c = sym (c.loop-stopped.invariant.1 ∙ steps_lead _ _ _ _ _ _ c.loop-stopped.invariant.0 c.next_clause-step.ensures c.in-Err.is)
