-- `decimals::count_ten` meets its contract: each power that fits is one digit more. Assumes nothing.
use Prim.Native.Nat.{min}
use mathlib.Core.Path.{◌≡◌}
use lib.ListN.{length}
use Rattle.dimacs.specs.Writing.{digits}
use Rattle.decimals.proofs.count_ten.Given as goal

abbrev pub invariant-loop-k : goal.invariant-loop-k
invariant-loop-k l = l.count ≡ min l.k (length (digits l.n))
