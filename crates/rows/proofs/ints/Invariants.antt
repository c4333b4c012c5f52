-- `rows::ints` meets its contract: each way out, and each way on, by its law. Assumes nothing.
use Prim.Native.Nat.{◌-◌}
use lib.ListN.{length}
use Rattle.dimacs.specs.Lined.{lined}
use Rattle.rows.proofs.Buffer.{RowSoFar}
use Rattle.rows.proofs.ints.Given as goal

abbrev pub invariant-loop-next : goal.invariant-loop-next
invariant-loop-next l = RowSoFar (lined l.ends l.text) l.limit l.at l.held l.initial.lits l.lits l.place l.count

abbrev pub decreases-loop-next : goal.decreases-loop-next
decreases-loop-next l = length (lined l.ends l.text) - l.place
