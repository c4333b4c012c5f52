-- `token::fixed` meets its contract: what is left of the word stands at i if all of it stands at the start. Assumes nothing.
use Prim.Native.Nat.{◌+◌, ◌≤◌}
use mathlib.Core.Path.{◌≡◌}
use lib.ListN.{length, drop}
use Rattle.dimacs.specs.Tokens.{begins}
use Rattle.token.proofs.fixed.Given as goal

abbrev pub invariant-loop-b : goal.invariant-loop-b
invariant-loop-b l = (l.b-index ≤ length l.w) × (l.i ≡ l.at + l.b-index) × (begins (drop l.b-index l.w) (drop l.i l.text) ≡ begins l.w (drop l.at l.text))
