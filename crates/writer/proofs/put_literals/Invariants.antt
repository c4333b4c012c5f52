-- `writer::put_literals` meets its contract: each turn puts the next literal and its space. Assumes nothing.
use Rattle.writer.proofs.Literals.{Listed}
use Rattle.writer.proofs.put_literals.Given as goal

abbrev pub invariant-loop-lit : goal.invariant-loop-lit
invariant-loop-lit l = Listed l.at l.lits l.initial.out l.out l.place l.lit-index
