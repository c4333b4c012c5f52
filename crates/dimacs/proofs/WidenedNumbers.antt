-- A number under a limit, and under one that is no lower. Assumes nothing.
use Prim.Native.Nat.{ℕ, ◌≤◌, min}
use mathlib.Core.Bool.{Bool, true}
use mathlib.Core.List.{List}
use mathlib.Core.Path.{◌≡◌, refl}
use native.Mathlib.Omega.{arith}
use borrow.Author.Tests.{le-leb, leb-true}
use lib.Dec.{leb, eqb}
use Rattle.dimacs.specs.Names.{ceiling}
use Rattle.dimacs.specs.Tokens.{unmoved, Number, none, found, up_to, up_to_either_way, unsigned, braced, minus, braced_uint_at, int_at}
use Rattle.dimacs.specs.declared.Uint.{Uint}
use Rattle.dimacs.specs.declared.Uint.TheVariants as uint
use Rattle.dimacs.specs.declared.Int.{Int}
use Rattle.dimacs.specs.declared.Int.TheVariants as int
use Rattle.dimacs.proofs.Tests.{tested, chosen}
use Rattle.dimacs.proofs.Order.{is_int}

-- A literal or 0 is the same under the higher limit, unless it was too big; then one stands there still.
abbrev pub IntWidened : Int → Int → Type 0
IntWidened int.Missing y = y ≡ int.Missing
IntWidened (int.Zero e) y = y ≡ int.Zero e
IntWidened (int.Literal v e) y = y ≡ int.Literal v e
IntWidened int.TooBig y = is_int y ≡ true

-- A weight or group is the same, unless it was too big.
abbrev pub UintWidened : Uint → Uint → Type 0
UintWidened uint.Missing y = y ≡ uint.Missing
UintWidened (uint.Value n e) y = y ≡ uint.Value n e
UintWidened uint.TooBig y = Unit {0}

pub uint_itself : (u : Uint) → UintWidened u u
uint_itself uint.Missing = refl
uint_itself (uint.Value n e) = refl
uint_itself uint.TooBig = tt

module _ (s : List ℕ) {narrow wide : ℕ} (h : narrow ≤ wide) where
  pub int_widened : (at : ℕ) → IntWidened (int_at s narrow at) (int_at s wide at)
  unfolding int_at
  int_widened at = go (unmoved at (minus s at)) (unsigned s (minus s at))
    where
      go : (positive : Bool) (x : Number) → IntWidened (up_to_either_way narrow positive x) (up_to_either_way wide positive x)
      go positive none = refl
      go positive (found n e) =
          tested (eqb n 0) (λ z. rw z refl)
          (λ z. tested (leb n (min narrow ceiling))
          (λ y. rw (z, y, le-leb n (min wide ceiling) (omega (arith, leb-true n (min narrow ceiling) y))) refl)
          (λ y. rw (z, y) (chosen (λ i. is_int i ≡ true) (leb n (min wide ceiling)) (λ _. refl) (λ _. refl))))

  pub group_widened : (at : ℕ) → UintWidened (braced_uint_at s narrow at) (braced_uint_at s wide at)
  unfolding braced_uint_at
  group_widened at = go (braced s at)
    where
      go : (x : Number) → UintWidened (up_to narrow x) (up_to wide x)
      go none = refl
      go (found n e) =
          tested (leb n narrow) (λ y. rw (y, le-leb n wide (omega (arith, leb-true n narrow y))) refl) (λ y. rw y tt)
