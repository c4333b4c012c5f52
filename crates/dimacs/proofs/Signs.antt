-- A 32-bit number made wide, and its size. Assumes nothing.
use Prim.Native.Nat.{ℕ, ◌^◌, ◌<◌}
use mathlib.Core.Bool.{true, false}
use mathlib.Core.Path.{◌≡◌, refl, ap, sym, subst, ◌∙◌}
use native.Mathlib.Omega.{arith}
use borrow.Author.Tests.{ltb-true}
use lib.Dec.{T}
use lib.IntN.{ℤ, pos, negsuc, nat_abs, ◌-ℤ◌}
use lib.Signed.{mag, lt_z, non_neg}
use mir.Syntax.{w32, w64}
use mir.Val.{SFits, Fits, to_z, of_z}
use mir.ValLaws.{to_z-of_z}

pub size_small : (y : ℤ) → mag y < 2 ^ 31 → nat_abs y < 2 ^ 32
size_small (pos n) k = omega arith
size_small (negsuc n) k = omega arith

module _ (z : ℤ) (h : SFits w32 z) where
  narrow_back : to_z w32 (of_z w32 z) ≡ z
  narrow_back = to_z-of_z w32 z h

  wide_fits : SFits w64 z
  wide_fits = record { sfits = omega (arith, h.sfits) }

  pub cast_fits : SFits w64 (to_z w32 (of_z w32 z))
  cast_fits = subst (SFits w64) (sym narrow_back) wide_fits

  -- `literal as i64` is the literal.
  pub cast_back : to_z w64 (of_z w64 (to_z w32 (of_z w32 z))) ≡ z
  cast_back = to_z-of_z w64 (to_z w32 (of_z w32 z)) cast_fits ∙ narrow_back

  size_fits : SFits w64 (pos (nat_abs z))
  size_fits = record { sfits = omega (arith, size_small z h.sfits) }

  -- What is not negative and has the literal's size can be cast.
  pub size_holds : (y : ℤ) → y ≡ pos (nat_abs z) → T (non_neg y) × Fits w64 (nat_abs y)
  size_holds y e = subst (λ x. T (non_neg x) × Fits w64 (nat_abs x)) (sym e) (tt, record { fits = omega (arith, size_small z h.sfits) })

  below : (y : ℤ) → lt_z y (pos 0) ≡ true → pos 0 -ℤ y ≡ pos (nat_abs y)
  below (pos n) e = absurd (omega (arith, ltb-true n 0 e))
  below (negsuc n) e = ap pos (omega arith)

  at_least : (y : ℤ) → lt_z y (pos 0) ≡ false → y ≡ pos (nat_abs y)
  at_least (pos n) e = refl
  at_least (negsuc n) e = absurd (let k : ◌≡◌ {A = ℕ} 0 1 = cc in omega arith)

  -- The test `wide < 0`.
  module _ (e : lt_z (to_z w64 (of_z w64 (to_z w32 (of_z w32 z)))) (pos 0) ≡ true) where
    minus_is : pos 0 -ℤ to_z w64 (of_z w64 (to_z w32 (of_z w32 z))) ≡ pos (nat_abs z)
    minus_is = ap (λ y. pos 0 -ℤ y) cast_back ∙ below z (sym (ap (λ y. lt_z y (pos 0)) cast_back) ∙ e)

    pub minus_fits : SFits w64 (pos 0 -ℤ to_z w64 (of_z w64 (to_z w32 (of_z w32 z))))
    minus_fits = subst (SFits w64) (sym minus_is) size_fits

    pub minus_back : to_z w64 (of_z w64 (pos 0 -ℤ to_z w64 (of_z w64 (to_z w32 (of_z w32 z))))) ≡ pos (nat_abs z)
    minus_back = to_z-of_z w64 (pos 0 -ℤ to_z w64 (of_z w64 (to_z w32 (of_z w32 z)))) minus_fits ∙ minus_is

  pub not_below : lt_z (to_z w64 (of_z w64 (to_z w32 (of_z w32 z)))) (pos 0) ≡ false → to_z w64 (of_z w64 (to_z w32 (of_z w32 z))) ≡ pos (nat_abs z)
  not_below e = cast_back ∙ at_least z (sym (ap (λ y. lt_z y (pos 0)) cast_back) ∙ e)
