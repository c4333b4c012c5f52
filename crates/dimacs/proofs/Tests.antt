-- Reasoning by a test. Assumes nothing.
use Prim.Native.Nat.{ℕ}
use mathlib.Core.Bool.{Bool, true, false, cond, ◌&&◌, ◌||◌}
use mathlib.Core.Path.{◌≡◌, refl}
use native.Mathlib.Omega.{arith}

-- What holds whatever a test says, holds.
pub tested : {P : Type 0} (t : Bool) → (t ≡ true → P) → (t ≡ false → P) → P
tested true f g = f refl
tested false f g = g refl

-- What holds of each side of a choice, where the test says so, holds of the choice.
pub chosen : {A : Type 0} (P : A → Type 0) (t : Bool) {a b : A} → (t ≡ true → P a) → (t ≡ false → P b) → P (cond t a b)
chosen P true f g = f refl
chosen P false f g = g refl

pub both_left : (a b : Bool) → a && b ≡ true → a ≡ true
both_left true b h = refl
both_left false b h = h

pub both_right : (a b : Bool) → a && b ≡ true → b ≡ true
both_right true b h = h
both_right false b h = absurd (let z : ◌≡◌ {A = ℕ} 0 1 = cc in omega arith)

pub neither_left : (a b : Bool) → a || b ≡ false → a ≡ false
neither_left true b h = absurd (let z : ◌≡◌ {A = ℕ} 0 1 = cc in omega arith)
neither_left false b h = refl

pub neither_right : (a b : Bool) → a || b ≡ false → b ≡ false
neither_right true b h = absurd (let z : ◌≡◌ {A = ℕ} 0 1 = cc in omega arith)
neither_right false b h = h

-- Whatever is wanted where true is false.
pub unlike : {X : Type 0} → true ≡ false → X
unlike e = let z : ◌≡◌ {A = ℕ} 0 1 = cc in absurd (omega arith)
