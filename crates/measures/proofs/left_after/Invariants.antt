-- `measures::left_after` meets its contract: the literals that come leave of what is left what all of them leave of the room. Assumes nothing.
use Rattle.measures.proofs.Literals.{Leaves}
use Rattle.measures.proofs.left_after.Given as goal

abbrev pub invariant-loop-lit : goal.invariant-loop-lit
invariant-loop-lit l = Leaves l.room l.lits l.left l.lit-index
