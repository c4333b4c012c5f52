-- `clause::clause_at` meets its contract: how the clause begins, its literals, and how it ends. Assumes nothing.
use mathlib.Core.Path.{◌≡◌, ap, sym, ◌∙◌}
use Rattle.std.specs.Prelude.{Option, Result, Ok}
use Rattle.dimacs.specs.Clauses.{start_at, clause_at}
use Rattle.dimacs.specs.Lined.{lined}
use Rattle.dimacs.specs.declared.Reason.{Reason}
use Rattle.clause.specs.Begins.{start_of}
use Rattle.clause.specs.declared.Begin.{Begin}
use Rattle.clause.proofs.Finishes.{instead_at, literals_finish}
use Rattle.clause.proofs.clause_at.Goals as goal
use Rattle.clause.proofs.clause_at.Goals.{After-start_at}

-- How the clause begins, by what was seen before its literals.
begins : (c : After-start_at) {b : Result (Option Begin) Reason}
    → c.start_at.result ≡ b
    → start_of (lined c.args.ends c.args.text.now) c.args.absence c.args.at b ≡ start_at (lined c.args.ends c.args.text.now) c.args.format c.args.limits.groups c.args.absence c.args.at
begins c e = rw e at c.start_at.ensures

pub returns-in-Ok-None : goal.returns-in-Ok-None
returns-in-Ok-None c = let a = c.absent.ensures in
    instead_at _ _ _ _ _ _ (begins (goal.at.returns-in-Ok-None c).After-start_at (c.in-Ok-None.is ∙ ap Ok c.in-Ok-None.field-0-is)) (rw a at c.instead.ensures)

pub returns-in-Err : goal.returns-in-Err
returns-in-Err c = let r = c.refuse.ensures in
    instead_at _ _ _ _ _ _ (begins (goal.at.returns-in-Err c).After-start_at c.in-Err.is) (rw r at c.instead-in-Err.ensures)

pub returns-in-Ok-None-clause_lits : goal.returns-in-Ok-None-clause_lits
unfolding clause_at
returns-in-Ok-None-clause_lits c = let e = sym (begins (goal.at.returns-in-Ok-None-clause_lits c).After-start_at (c.in-Ok-Some.is ∙ ap Ok c.in-Ok-Some.field-0-is)) in
    let l = c.in-Ok-None-clause_lits.is ∙ ap Ok c.in-Ok-None-clause_lits.field-0-is in
    let a = c.absent-in-Ok-None-clause_lits.ensures in
    rw e (literals_finish _ _ _ _ _ _ _ c.clause_lits.ensures l _ (rw a at c.instead-in-Ok-None-clause_lits.ensures))

pub returns-in-Ok-Some-clause_lits : goal.returns-in-Ok-Some-clause_lits
unfolding clause_at
returns-in-Ok-Some-clause_lits c = let e = sym (begins (goal.at.returns-in-Ok-Some-clause_lits c).After-start_at (c.in-Ok-Some.is ∙ ap Ok c.in-Ok-Some.field-0-is)) in
    let l = c.in-Ok-Some-clause_lits.is ∙ ap Ok c.in-Ok-Some-clause_lits.field-0-is in
    rw e (literals_finish _ _ _ _ _ _ _ c.clause_lits.ensures l _ c.closing.ensures)

pub returns-in-Err-clause_lits : goal.returns-in-Err-clause_lits
unfolding clause_at
returns-in-Err-clause_lits c = let e = sym (begins (goal.at.returns-in-Err-clause_lits c).After-start_at (c.in-Ok-Some.is ∙ ap Ok c.in-Ok-Some.field-0-is)) in
    rw e (literals_finish _ _ _ _ _ _ _ c.clause_lits.ensures c.in-Err-clause_lits.is)
