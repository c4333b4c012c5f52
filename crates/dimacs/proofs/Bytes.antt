-- The classes of bytes, from what a `match` or a test says of a byte. Assumes nothing.
use Prim.Native.Nat.{ℕ, ◌≤◌, ◌<◌}
use mathlib.Core.Bool.{Bool, true, false, ◌&&◌, ◌||◌}
use mathlib.Core.Path.{◌≡◌, refl}
use mathlib.Core.Logic.{◌⊎◌, inl, inr}
use borrow.Author.Tests.{eq-eqb, ne_eqb, le-leb, lt-leb}
use lib.Dec.{eqb, leb}
use Rattle.dimacs.specs.Bytes.{is_blank, is_digit, is_stop, is_not_lf}

or_true : (a b : Bool) → b ≡ true → a || b ≡ true
or_true true b h = refl
or_true false b h = h

pub and_false : (a b : Bool) → b ≡ false → a && b ≡ false
and_false true b h = h
and_false false b h = refl

pub is_blank_lem : (b : ℕ) → (b ≡ 9) ⊎ (b ≡ 32) → is_blank b ≡ true
is_blank_lem b (inl h) = rw (eq-eqb b 9 h)
is_blank_lem b (inr h) = or_true (eqb b 9) (eqb b 32) (eq-eqb b 32 h)

pub no_blank : (b : ℕ) → ((b ≡ 9) ⊎ (b ≡ 32) → ⊥) → is_blank b ≡ false
no_blank b h = rw (ne_eqb b 9 (λ e. h (inl e)), ne_eqb b 32 (λ e. h (inr e)))

pub is_digit_lem : (b : ℕ) → 48 ≤ b → b ≤ 57 → is_digit b ≡ true
is_digit_lem b h k = rw (le-leb 48 b h, le-leb b 57 k)

pub below_digit : (b : ℕ) → b < 48 → is_digit b ≡ false
below_digit b h = rw (lt-leb 48 b h)

pub above_digit : (b : ℕ) → 57 < b → is_digit b ≡ false
above_digit b h = and_false (leb 48 b) (leb b 57) (lt-leb b 57 h)

pub is_not_lf_lem : (b : ℕ) → (b ≡ 10 → ⊥) → is_not_lf b ≡ true
is_not_lf_lem b h = rw (ne_eqb b 10 h)

pub is_lf : (b : ℕ) → b ≡ 10 → is_not_lf b ≡ false
is_lf b h = rw (eq-eqb b 10 h)

-- The stops in two pairs, as a `match` has them: next to each other 9 and 10 would be a range.
pub is_stop_lf_space : (b : ℕ) → (b ≡ 10) ⊎ (b ≡ 32) → is_stop b ≡ true
is_stop_lf_space b (inl h) = or_true (is_blank b) (eqb b 13 || eqb b 10) (or_true (eqb b 13) (eqb b 10) (eq-eqb b 10 h))
is_stop_lf_space b (inr h) = rw (is_blank_lem b (inr h))

pub is_stop_tab_cr : (b : ℕ) → (b ≡ 9) ⊎ (b ≡ 13) → is_stop b ≡ true
is_stop_tab_cr b (inl h) = rw (is_blank_lem b (inl h))
is_stop_tab_cr b (inr h) = or_true (is_blank b) (eqb b 13 || eqb b 10) (rw (eq-eqb b 13 h))
