-- `clause::clause_lits` meets its contract: each way out, and each way on, by what the row leads to. Assumes nothing.
use Prim.Native.Nat.{◌-◌}
use lib.ListN.{length}
use Rattle.dimacs.specs.Lined.{lined}
use Rattle.clause.proofs.RowByRow.{SoFar}
use Rattle.clause.proofs.clause_lits.Given as goal

abbrev pub invariant-loop-place : goal.invariant-loop-place
invariant-loop-place l = SoFar (lined l.ends l.text) l.limit l.at l.initial.lits l.lits l.from l.held

abbrev pub decreases-loop-place : goal.decreases-loop-place
decreases-loop-place l = length (lined l.ends l.text) - l.from
