-- `token::interactive_skip_line` meets its contract: what is past the bytes that end no line from i is what is past them from the start. Assumes nothing.
use Prim.Native.Nat.{◌-◌}
use mathlib.Core.Path.{◌≡◌}
use lib.ListN.{length}
use Rattle.dimacs.specs.Lined.{also_ends}
use Rattle.dimacs.specs.declared.Ends.{Ends}
use Rattle.token.proofs.Returns.{Searched}
use Rattle.token.proofs.interactive_skip_line.Given as goal

-- The rule is known in the loop by the byte that ends a line beside LF.
abbrev pub invariant-loop-b : goal.invariant-loop-b
invariant-loop-b l = (rule : Ends) → l.also ≡ also_ends rule → Searched l.text l.at rule l.i

abbrev pub decreases-loop-b : goal.decreases-loop-b
decreases-loop-b l = length l.text - l.i
