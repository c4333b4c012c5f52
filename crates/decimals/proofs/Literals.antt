-- A literal is its sign and its size. Assumes nothing.
use Prim.Native.Nat.{ℕ, ◌+◌, ◌≤◌, ◌<◌}
use Prim.Native.Char.{code}
use mathlib.Core.Bool.{true, false}
use mathlib.Core.List.{List, [], ◌∷◌, ◌++◌}
use mathlib.Core.Path.{◌≡◌, refl, ap, sym, ◌∙◌}
use native.Mathlib.Omega.{arith}
use borrow.Author.Tests.{ltb-true}
use lib.IntN.{ℤ, pos, negsuc, nat_abs}
use lib.Signed.{lt_z}
use lib.ListN.{length, set, length-append}
use mir.Syntax.{w32}
use mir.Val.{SFits}
use Rattle.dimacs.specs.Bytes.{bytes}
use Rattle.dimacs.specs.Writing.{digits, signed_digits}
use Rattle.dimacs.proofs.Signs.{size_small}
use Rattle.decimals.specs.Pieces.{PutAt}
use Rattle.decimals.specs.Places.{tens}
use Rattle.decimals.specs.Signs.{sign_of}
use Rattle.decimals.proofs.Digits.{digits_bounded}
use Rattle.decimals.proofs.Pieces.{put_after, put_over}

-- The sign stands before the digits.
signed_is : (l : ℤ) → signed_digits l ≡ sign_of l ++ digits (nat_abs l)
signed_is (pos n) = refl
signed_is (negsuc n) = refl

pub sign_below : (l : ℤ) → lt_z l (pos 0) ≡ true → sign_of l ≡ bytes "-"
sign_below (pos n) t = absurd (omega (arith, ltb-true n 0 t))
sign_below (negsuc n) t = refl

pub sign_from : (l : ℤ) → lt_z l (pos 0) ≡ false → sign_of l ≡ []
sign_from (pos n) t = refl
sign_from (negsuc n) t = absurd (let k : ◌≡◌ {A = ℕ} 0 1 = cc in omega arith)

pub sign_few : (l : ℤ) → length (sign_of l) ≤ 1
sign_few (pos n) = omega arith
sign_few (negsuc n) = omega arith

-- The digits behind the minus, or over it.
sign_put : (l : ℤ) {at r : ℕ} {old new : List ℕ} → PutAt (at + length (sign_of l)) (digits (nat_abs l)) (set old at (code "-")) new r → PutAt at (signed_digits l) old new r
sign_put (pos n) {at} p = let none : at + 0 ≡ at = omega arith in put_over (code "-") (digits n) (digits_bounded n).some (rw none at p)
sign_put (negsuc n) p = put_after p

-- A literal that was handed on as v, and its size.
module _ {l v : ℤ} (z : v ≡ l) {m : ℕ} (e : m ≡ nat_abs v) where
  pub negative_is : lt_z v (pos 0) ≡ true → signed_digits l ≡ code "-" ∷ digits m
  negative_is t = sym (ap signed_digits z) ∙ signed_is v ∙ rw (e, sign_below v t)

  pub positive_is : lt_z v (pos 0) ≡ false → signed_digits l ≡ digits m
  positive_is t = sym (ap signed_digits z) ∙ signed_is v ∙ rw (e, sign_from v t)

  -- It is as long as its sign and its size, and its size has at most ten digits.
  pub literal_long : length (signed_digits l) ≡ length (sign_of v) + length (digits m)
  literal_long = sym (ap (λ x. length (signed_digits x)) z) ∙ ap length (signed_is v) ∙ length-append (sign_of v) (digits (nat_abs v)) ∙ rw e

  pub literal_small : SFits w32 l → m < tens 10
  literal_small h = rw (e, z) (omega (arith, size_small l h.sfits))

  pub literal_put : {at r : ℕ} {old new : List ℕ} → PutAt (at + length (sign_of v)) (digits m) (set old at (code "-")) new r → PutAt at (signed_digits l) old new r
  literal_put p = rw (sym z) (sign_put v (rw e at p))
