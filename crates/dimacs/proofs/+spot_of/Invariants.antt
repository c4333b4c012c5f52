-- `dimacs::spot_of` counts line and column byte by byte up to the place. The measure is the place.
use Rattle.std.proofs.Common.{◌≤◌, length}
use Rattle.dimacs.proofs.Spots.{Counted}
use Rattle.dimacs.proofs.+spot_of.Given as goal

abbrev pub invariant-loop-i : goal.invariant-loop-i
invariant-loop-i l = (l.i ≤ l.place) × (l.place ≤ length l.text) × Counted l.ends l.text l.i l.line l.column

abbrev pub decreases-spot_of : goal.decreases-spot_of
decreases-spot_of l = l.place
