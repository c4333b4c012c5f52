-- `numeral::size` meets its contract: the digits up to i write v, which is below ten to the power of their count. Assumes nothing.
use Prim.Native.Nat.{◌-◌, ◌^◌, ◌≤◌, ◌<◌}
use Rattle.numeral.specs.Parts.{Read}
use Rattle.numeral.proofs.size.Given as goal

abbrev pub invariant-loop-i : goal.invariant-loop-i
invariant-loop-i l = Read 0 l.text l.at l.i l.v × (l.v < 10 ^ (l.i - l.at)) × (l.at ≤ l.i) × (l.i ≤ l.stop)
