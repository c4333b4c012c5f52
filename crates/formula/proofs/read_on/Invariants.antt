-- `formula::read_on` meets its contract: what the text comes to stays the same over each clause, and fewer are to come. Assumes nothing.
use mathlib.Core.Path.{◌≡◌}
use lib.ListN.{length}
use Rattle.dimacs.specs.Names.{own_room}
use Rattle.dimacs.proofs.Clauses.{to_come}
use Rattle.formula.specs.Whole.{outcome_from}
use Rattle.formula.proofs.read_on.Given as goal

abbrev pub invariant-loop-stopped : goal.invariant-loop-stopped
invariant-loop-stopped l = (length l.lits ≡ own_room) × (outcome_from l.text own_room l.initial.cursor ≡ outcome_from l.text own_room l.cursor)

abbrev pub decreases-loop-stopped : goal.decreases-loop-stopped
decreases-loop-stopped l = to_come l.text l.cursor.progress.place
