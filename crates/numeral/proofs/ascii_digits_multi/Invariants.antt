-- `numeral::ascii_digits_multi` meets its contract: the digits up to i write v. Assumes nothing.
use Prim.Native.Nat.{◌≤◌}
use Rattle.dimacs.specs.Names.{largest}
use Rattle.numeral.specs.Parts.{Read}
use Rattle.numeral.proofs.ascii_digits_multi.Given as goal

abbrev pub invariant-loop-i : goal.invariant-loop-i
invariant-loop-i l = Read l.value l.text l.at l.i l.v × (l.v ≤ largest)
