-- `token::comments_and_newlines` meets its contract: what is past comments and line ends from i is what is past them from the start. Assumes nothing.
use Prim.Native.Nat.{◌-◌}
use mathlib.Core.Path.{◌≡◌}
use lib.ListN.{length}
use Rattle.dimacs.specs.Lined.{lined}
use Rattle.dimacs.specs.Tokens.{lines}
use Rattle.token.proofs.comments_and_newlines.Given as goal

abbrev pub invariant-loop-i : goal.invariant-loop-i
invariant-loop-i l = lines (lined l.ends l.text) l.i ≡ lines (lined l.ends l.text) l.at

abbrev pub decreases-loop-i : goal.decreases-loop-i
decreases-loop-i l = length (lined l.ends l.text) - l.i
