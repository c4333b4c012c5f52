-- Facts of each element of a list. Assumes nothing.
use Prim.Native.Nat.{suc, ◌≤◌}
use mathlib.Core.Bool.{Bool, true, false, cond}
use mathlib.Core.List.{List, [], ◌∷◌}
use mathlib.Core.Path.{◌≡◌, refl}
use native.Mathlib.Omega.{arith}
use lib.ListN.{length}
use Rattle.dimacs.specs.Tokens.{run}
use Rattle.dimacs.specs.Leniency.{Each}

-- What follows from a fact follows from it of each.
pub each_on : {A : Type 0} {P Q : A → Type 0} → ((a : A) → P a → Q a) → (l : List A) → Each P l → Each Q l
each_on f [] k = tt
each_on f (a ∷ l) k = (f a k.0, each_on f l k.1)

-- A run as long as the list is all of it.
pub run_all : {A : Type 0} (p : A → Bool) (l : List A) → length l ≤ run p l → Each (λ a. p a ≡ true) l
unfolding run
run_all p [] h = tt
run_all p (a ∷ l) h = go (p a) h (run_all p l)
  where
    go : (t : Bool) → suc (length l) ≤ cond t (suc (run p l)) 0 → (length l ≤ run p l → Each (λ a. p a ≡ true) l) → (t ≡ true) × Each (λ a. p a ≡ true) l
    go true h k = (refl, k (omega arith))
    go false h k = absurd (omega arith)
