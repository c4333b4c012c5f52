-- A size of at most the ceiling, as an i32 that holds minus it: what the code's casts, differences and tests say of the size. Assumes nothing.
use Prim.Native.Nat.{ℕ, zero, suc, ◌≤◌, ◌<◌}
use mathlib.Core.Bool.{true, false}
use mathlib.Core.Path.{◌≡◌, refl, ap, sym, subst, ◌∙◌}
use native.Mathlib.Omega.{arith}
use borrow.Author.Tests.{ltb-true, ltb-false}
use lib.Dec.{ltb, leb-zero, leb-suc-suc, leb-suc-zero, lit<}
use lib.IntN.{ℤ, pos, neg_ℤ, neg_ℤ-neg_ℤ, +ℤ_idl, ◌-ℤ◌}
use lib.Signed.{lt_z}
use mir.Syntax.{w32}
use mir.Val.{SFits, to_z, of_z}
use mir.ValLaws.{to_z-of_z}
use Rattle.dimacs.specs.Names.{ceiling}

pub sfits_neg : (n : ℕ) → n ≤ ceiling → SFits w32 (neg_ℤ (pos n))
sfits_neg zero h = record { sfits = lit< tt }
sfits_neg (suc n) h = record { sfits = omega arith }

pub sfits_pos : (n : ℕ) → n ≤ ceiling → SFits w32 (pos n)
sfits_pos n h = record { sfits = omega arith }

-- Minus one size is below minus another if it is the larger.
lt_z_neg : (n m : ℕ) → lt_z (neg_ℤ (pos n)) (neg_ℤ (pos m)) ≡ ltb m n
lt_z_neg zero zero = refl
lt_z_neg zero (suc m) = sym (leb-suc-zero (suc m))
lt_z_neg (suc n) zero = sym (leb-suc-suc 0 n ∙ leb-zero n)
lt_z_neg (suc n) (suc m) = sym (leb-suc-suc (suc m) n)

-- `n as i32`, where n is at most the ceiling.
module _ (n : ℕ) (h : n ≤ ceiling) where
  narrow_is : to_z w32 n ≡ pos n
  narrow_is = to_z-of_z w32 (pos n) (sfits_pos n h)

  -- `0 - (n as i32)`
  negated_is : pos 0 -ℤ to_z w32 n ≡ neg_ℤ (pos n)
  negated_is = ap (λ z. pos 0 -ℤ z) narrow_is ∙ +ℤ_idl (neg_ℤ (pos n))

  pub negated_fits : SFits w32 (pos 0 -ℤ to_z w32 n)
  negated_fits = subst (SFits w32) (sym negated_is) (sfits_neg n h)

  pub negated_back : to_z w32 (of_z w32 (pos 0 -ℤ to_z w32 n)) ≡ neg_ℤ (pos n)
  negated_back = to_z-of_z w32 (pos 0 -ℤ to_z w32 n) negated_fits ∙ negated_is

  -- `0 - v`, where v is that difference.
  twice_is : pos 0 -ℤ to_z w32 (of_z w32 (pos 0 -ℤ to_z w32 n)) ≡ pos n
  twice_is = ap (λ z. pos 0 -ℤ z) negated_back ∙ +ℤ_idl (neg_ℤ (neg_ℤ (pos n))) ∙ neg_ℤ-neg_ℤ (pos n)

  pub twice_fits : SFits w32 (pos 0 -ℤ to_z w32 (of_z w32 (pos 0 -ℤ to_z w32 n)))
  twice_fits = subst (SFits w32) (sym twice_is) (sfits_pos n h)

  pub twice_back : to_z w32 (of_z w32 (pos 0 -ℤ to_z w32 (of_z w32 (pos 0 -ℤ to_z w32 n)))) ≡ pos n
  twice_back = to_z-of_z w32 (pos 0 -ℤ to_z w32 (of_z w32 (pos 0 -ℤ to_z w32 n))) twice_fits ∙ twice_is

  -- `v < floor`, where the floor is minus a limit of at most the ceiling.
  module _ (m : ℕ) (k : m ≤ ceiling) (floor : ℤ) (is : floor ≡ neg_ℤ (pos m)) where
    floor_back : to_z w32 (of_z w32 floor) ≡ neg_ℤ (pos m)
    floor_back = ap (λ z. to_z w32 (of_z w32 z)) is ∙ to_z-of_z w32 (neg_ℤ (pos m)) (sfits_neg m k)

    test_is : lt_z (to_z w32 (of_z w32 (pos 0 -ℤ to_z w32 n))) (to_z w32 (of_z w32 floor)) ≡ ltb m n
    test_is = (λ i. lt_z (negated_back i) (floor_back i)) ∙ lt_z_neg n m

    pub below_floor : lt_z (to_z w32 (of_z w32 (pos 0 -ℤ to_z w32 n))) (to_z w32 (of_z w32 floor)) ≡ true → m < n
    below_floor e = ltb-true m n (sym test_is ∙ e)

    pub above_floor : lt_z (to_z w32 (of_z w32 (pos 0 -ℤ to_z w32 n))) (to_z w32 (of_z w32 floor)) ≡ false → n ≤ m
    above_floor e = ltb-false m n (sym test_is ∙ e)
