-- `console::skip` meets its contract: what is passed over and what is left make up what was asked for. Assumes nothing.
use Rattle.std.proofs.Common.{◌≡◌, ℕ, ◌+◌, List, length}
use Rattle.std.specs.Io.KnownBytes.{Consumes}
use Rattle.console.proofs.skip.Given as goal

abbrev pub invariant-loop-left : goal.invariant-loop-left
invariant-loop-left g l = (bs : List ℕ) × (length bs + l.left ≡ l.length) × Consumes (g.R.Read.remaining l.initial.input) (g.R.Read.remaining l.input) bs

abbrev pub decreases-loop-left : goal.decreases-loop-left
decreases-loop-left g l = l.left
