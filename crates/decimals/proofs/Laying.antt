-- Digits laid from the first to the last. Assumes nothing.
use Prim.Native.Nat.{ℕ, ◌+◌, ◌-◌, ◌*◌, ◌/◌, ◌%◌, ◌≤◌, ◌<◌}
use mathlib.Core.List.{List, [], ◌∷◌, ◌++◌}
use mathlib.Core.Path.{◌≡◌, refl, ap, sym, ◌∙◌}
use native.Mathlib.Nat.{mod-eq_of_lt}
use native.Mathlib.Omega.{arith}
use lib.ListN.{set}
use Rattle.decimals.specs.Pieces.{PutAt}
use Rattle.decimals.specs.Places.{tens, figure, digit_at, digits_from, Lays}
use Rattle.decimals.proofs.Digits.{tens_some}
use Rattle.decimals.proofs.Places.{tens_next, digit_none, digit_some, left_digit, left_rest, from_next, rest_is}
use Rattle.decimals.proofs.Pieces.{put_nothing, put_then}

-- A digit is one byte.
pub put_figure : (at d : ℕ) {byte : ℕ} {old : List ℕ} → byte ∷ [] ≡ figure d → PutAt at (figure d) old (set old at byte) (at + 1)
put_figure at d e = rw (sym e) (record { past = refl; output = refl })

pub lays_then : {at i l r r' place left : ℕ} {a b old mid new : List ℕ} → Lays at a r old mid i l → Lays i b r' mid new place left → Lays at (a ++ b) r' old new place left
lays_then x y = record { put = put_then x.put y.put; left_is = y.left_is }

-- Nothing is laid yet, and then from a high place down to the next.
pub lays_start : (at high n : ℕ) (old : List ℕ) {from : ℕ} → from ≡ n % tens high → Lays at (digits_from high (high - high) n) (n % tens high) old old at from
unfolding digits_from
lays_start at high n old e = let none : high - high ≡ 0 = omega arith in rw none (record { put = put_nothing at old; left_is = e })

pub lays_next : (k high n : ℕ) {at i l r place left : ℕ} {old mid new : List ℕ} → 1 ≤ k → k ≤ high → Lays at (digits_from k (high - k) n) r old mid i l
    → Lays i (digit_at (k - 1) n) (n % tens (k - 1)) mid new place left → Lays at (digits_from (k - 1) (high - (k - 1)) n) (n % tens (k - 1)) old new place left
lays_next k high n l h x y = rw (from_next k high n l h) (lays_then x y)

-- The last digit is what is left behind the others.
pub lays_last : (high n : ℕ) {at place left byte : ℕ} {old mid : List ℕ} → 1 ≤ high → Lays at (digits_from 1 (high - 1) n) (n % 10) old mid place left
    → byte ∷ [] ≡ figure (left % 16) → PutAt at (digits_from 0 high n) old (set mid place byte) (place + 1)
lays_last high n {place = place} h x e = rw (rest_is high n h) (put_then x.put (put_figure place (n % 10) (e ∙ ap figure (omega (arith, x.left_is)))))

module _ (at k n : ℕ) (old : List ℕ) {from : ℕ} (e : from ≡ n % tens (k + 1)) where
  -- At a place before the first digit nothing is laid.
  pub lays_none : 1 ≤ k → n < tens k → Lays at (digit_at k n) (n % tens k) old old at from
  lays_none h l =
      let all : n % tens (k + 1) ≡ n = mod-eq_of_lt {n = n} {m = tens (k + 1)} (omega (arith, tens_next k)) in
      rw (digit_none k n h l) (record { put = put_nothing at old; left_is = e ∙ all ∙ sym (mod-eq_of_lt {n = n} {m = tens k} l) })

  pub lays_digit : tens k ≤ n → {held byte : ℕ} → held ≡ 16 * (from % tens k) + from / tens k → byte ∷ [] ≡ figure (held % 16)
      → Lays at (digit_at k n) (n % tens k) old (set old at byte) (at + 1) (held / 16)
  lays_digit l {held} g b =
      let below : from ≡ n % (tens k * 10) = e ∙ ap (λ p. n % p) (tens_next k) in
      let digit : from / tens k ≡ n / tens k % 10 = rw below (left_digit (tens k) n (tens_some k)) in
      let rest : from % tens k ≡ n % tens k = rw below (left_rest (tens k) n (tens_some k)) in
      let last : held % 16 ≡ n / tens k % 10 = omega arith in
      rw (digit_some k n l) (record { put = put_figure at (n / tens k % 10) (b ∙ ap figure last); left_is = omega arith })
