-- `decimals::lay_places` meets its contract: each turn lays the digit of the next place. Assumes nothing.
use Prim.Native.Nat.{◌-◌, ◌%◌, ◌≤◌}
use Rattle.decimals.specs.Places.{tens, digits_from, Lays}
use Rattle.decimals.proofs.lay_places.Given as goal

abbrev pub invariant-loop-k : goal.invariant-loop-k
invariant-loop-k l = Lays l.at (digits_from l.k (l.high - l.k) l.n) (l.n % tens l.k) l.initial.out l.out l.laid.place l.laid.left × (l.low ≤ l.k)
