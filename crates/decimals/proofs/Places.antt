-- The digits of a number are those at its places, and what is left behind some of them. Assumes nothing.
use Prim.Native.Nat.{ℕ, zero, suc, ◌+◌, ◌-◌, ◌*◌, ◌/◌, ◌%◌, ◌≤◌, ◌<◌}
use mathlib.Core.List.{List, [], ◌++◌, append_assoc, append-nil}
use mathlib.Core.Path.{◌≡◌, refl, ap, sym, ◌∙◌}
use native.Mathlib.Nat.{add-mul, mul_assoc, mul_comm, mul-le-mul_right, suc-mul, mod-lt, mod-mod, mod-eq_of_lt, div-add-mod', div-eq_of_lt, div-div-eq-div-mul, mul-add-div_right, mul-add-mod_self_right, le-div_iff_mul-le}
use native.Mathlib.Numerals.{add-one}
use native.Mathlib.Omega.{arith}
use borrow.Author.Tests.{ltb-true, ltb-false, lt-ltb, le-ltb}
use lib.Dec.{ltb}
use lib.ListN.{length, length-append}
use Rattle.dimacs.specs.Writing.{digits}
use Rattle.dimacs.proofs.Writing.{digits_one, digits_more}
use Rattle.dimacs.proofs.Tests.{tested}
use Rattle.decimals.specs.Places.{tens, figure, digit_at, digits_from}
use Rattle.decimals.proofs.Digits.{tens_some}

pub tens_next : (k : ℕ) → tens (k + 1) ≡ tens k * 10
tens_next k = ap tens (add-one k)

-- Before the last place a number has a digit exactly where it is not below the power of the place.
pub digit_none : (k n : ℕ) → 1 ≤ k → n < tens k → digit_at k n ≡ []
unfolding digit_at
digit_none zero n h l = absurd (omega arith)
digit_none (suc k) n h l = rw (lt-ltb n (tens (suc k)) l)

pub digit_some : (k n : ℕ) → tens k ≤ n → digit_at k n ≡ figure (n / tens k % 10)
unfolding digit_at
digit_some zero n l = ap (λ q. figure (q % 10)) (omega arith)
digit_some (suc k) n l = rw (le-ltb n (tens (suc k)) l)

-- The digits of a number, and none of 0.
abbrev head : ℕ → List ℕ
head zero = []
head (suc q) = digits (suc q)

head_is : (q : ℕ) → 1 ≤ q → head q ≡ digits q
head_is zero h = absurd (omega arith)
head_is (suc q) h = refl

-- The last digit stands behind those of the tenth.
digits_last : (n : ℕ) → digits n ≡ head (n / 10) ++ figure (n % 10)
digits_last n =
    tested (ltb n 10)
    (λ e. let l = ltb-true n 10 e in
    let none : n / 10 ≡ 0 = omega arith in
    let all : n % 10 ≡ n = omega arith in
    digits_one n l ∙ rw (none, all))
    (λ e. let l = ltb-false n 10 e in digits_more n l ∙ rw (head_is (n / 10) (omega arith)))

-- The digits of a number from a place up.
abbrev above : ℕ → ℕ → List ℕ
above zero n = digits n
above (suc k) n = head (n / tens (suc k))

above_more : (k n : ℕ) → above k n ≡ above (suc k) n ++ digit_at k n
unfolding digit_at
above_more zero n = digits_last n
above_more (suc k) n =
    let p = tens (suc k) in
    tested (ltb n p)
    (λ e. let l = ltb-true n p e in
    rw (lt-ltb n p l, div-eq_of_lt {n = n} {m = p} l, div-eq_of_lt {n = n} {m = p * 10} (omega arith)))
    (λ e. let l = ltb-false n p e in
    let some : 1 ≤ n / p = (le-div_iff_mul-le {x = 1} {y = n} (tens_some (suc k))).1 (omega arith) in
    rw (le-ltb n p l) (head_is (n / p) some ∙ digits_last (n / p) ∙ ap (λ q. head q ++ figure (n / p % 10)) (div-div-eq-div-mul n p 10)))

above_from : (many low n : ℕ) → above low n ≡ above (low + many) n ++ digits_from low many n
unfolding digits_from
above_from zero low n = let e : low + 0 ≡ low = omega arith in rw e (sym (append-nil (above low n)))
above_from (suc many) low n =
    let e : low + suc many ≡ suc low + many = omega arith in
    above_more low n ∙ ap (λ so. so ++ digit_at low n) (above_from many (suc low) n) ∙ rw e (append_assoc (above (suc low + many) n) (digits_from (suc low) many n) (digit_at low n))

-- A number has no digits but those at so many places, if it is below the power of the next.
pub by_places : (many n : ℕ) → 1 ≤ many → n < tens many → digits n ≡ digits_from 0 many n
by_places zero n h l = absurd (omega arith)
by_places (suc many) n h l =
    let e : 0 + suc many ≡ suc many = omega arith in
    above_from (suc many) 0 n ∙ rw (e, div-eq_of_lt {n = n} {m = tens (suc many)} l)

-- Digits at places one above the other.
pub from_split : (i j low n : ℕ) → digits_from low (i + j) n ≡ digits_from (low + i) j n ++ digits_from low i n
unfolding digits_from
from_split zero j low n =
    let none : low + 0 ≡ low = omega arith in
    let all : 0 + j ≡ j = omega arith in
    rw (none, all) (sym (append-nil (digits_from low j n)))
from_split (suc i) j low n =
    let up : low + suc i ≡ suc low + i = omega arith in
    let more : suc i + j ≡ suc (i + j) = omega arith in
    rw (up, more) (ap (λ so. so ++ digit_at low n) (from_split i j (suc low) n) ∙ append_assoc (digits_from (suc low + i) j n) (digits_from (suc low) i n) (digit_at low n))

pub from-length : (i j low n : ℕ) → length (digits_from low (i + j) n) ≡ length (digits_from (low + i) j n) + length (digits_from low i n)
from-length i j low n = ap length (from_split i j low n) ∙ length-append (digits_from (low + i) j n) (digits_from low i n)

-- At the two highest places of a 64-bit number. The highest power fits at most once.
module _ (n : ℕ) where
  pub top_none : n < tens 18 → digits_from 18 2 n ≡ []
  unfolding digits_from
  top_none h = rw (digit_none 19 n (omega arith) (omega arith), digit_none 18 n (omega arith) h)

  pub top_one : tens 18 ≤ n → n < tens 19 → digits_from 18 2 n ≡ figure (n / tens 18)
  unfolding digits_from
  top_one l h =
      let few : n / tens 18 % 10 ≡ n / tens 18 = omega arith in
      rw (digit_none 19 n (omega arith) h, digit_some 18 n l, few)

  pub top_two : tens 19 ≤ n → n < 2 * tens 19 → digits_from 18 2 n ≡ figure 1 ++ figure ((n - tens 19) / tens 18)
  unfolding digits_from
  top_two l h =
      let first : n / tens 19 % 10 ≡ 1 = omega arith in
      let second : n / tens 18 % 10 ≡ (n - tens 19) / tens 18 = omega arith in
      rw (digit_some 19 n l, digit_some 18 n (omega arith), first, second)

-- From a high place down to a place, and to the next.
pub from_next : (k high n : ℕ) → 1 ≤ k → k ≤ high → digits_from (k - 1) (high - (k - 1)) n ≡ digits_from k (high - k) n ++ digit_at (k - 1) n
unfolding digits_from
from_next k high n l h =
    let many : high - (k - 1) ≡ suc (high - k) = omega arith in
    let up : suc (k - 1) ≡ k = omega arith in
    rw (many, up)

-- Down to the last.
pub rest_is : (high n : ℕ) → 1 ≤ high → digits_from 0 high n ≡ digits_from 1 (high - 1) n ++ figure (n % 10)
unfolding digits_from digit_at
rest_is zero n h = absurd (omega arith)
rest_is (suc high) n h = let e : suc high - 1 ≡ high = omega arith in rw e

pub rest-length : (high n : ℕ) → 1 ≤ high → length (digits_from 0 high n) ≡ length (digits_from 1 (high - 1) n) + 1
rest-length high n h = ap length (rest_is high n h) ∙ length-append (digits_from 1 (high - 1) n) (figure (n % 10))

-- At all places of a 64-bit number.
pub long_is : (n : ℕ) → n < tens 20 → digits n ≡ digits_from 18 2 n ++ (digits_from 9 9 n ++ digits_from 0 9 n)
long_is n h = by_places 20 n (omega arith) h ∙ from_split 18 2 0 n ∙ ap (λ so. digits_from 18 2 n ++ so) (from_split 9 9 0 n)

pub long_length : (n : ℕ) → n < tens 20 → length (digits n) ≡ length (digits_from 18 2 n) + (length (digits_from 9 9 n) + length (digits_from 0 9 n))
long_length n h = ap length (long_is n h) ∙ length-append (digits_from 18 2 n) (digits_from 9 9 n ++ digits_from 0 9 n) ∙ ap (λ k. length (digits_from 18 2 n) + k) (length-append (digits_from 9 9 n) (digits_from 0 9 n))

-- The digits down to the next place are a part of those down to a lower one.
pub next_room : (low k high n : ℕ) → low < k → k ≤ high → length (digits_from k (high - k) n) + length (digit_at (k - 1) n) ≤ length (digits_from low (high - low) n)
next_room low k high n l h =
    let all : k - 1 - low + (high - (k - 1)) ≡ high - low = omega arith in
    let up : low + (k - 1 - low) ≡ k - 1 = omega arith in
    omega (
      arith,
      rw (all, up) at (from-length (k - 1 - low) (high - (k - 1)) low n),
      ap length (from_next k high n (omega arith) h),
      length-append (digits_from k (high - k) n) (digit_at (k - 1) n),
    )

-- What is left of a number by a product, by its two factors.
pub left_is : (q p n : ℕ) → 1 ≤ q → 1 ≤ p → n % (p * q) ≡ n / p % q * p + n % p
left_is q p n h l =
    let d = n / p in
    let high : d / q * q * p ≡ d / q * (p * q) = mul_assoc (d / q) q p ∙ ap (λ x. d / q * x) (mul_comm q p) in
    let split : d / q * q * p + d % q * p ≡ d * p = sym (add-mul (d / q * q) (d % q) p) ∙ ap (λ x. x * p) (div-add-mod' d q) in
    let whole : d / q * (p * q) + (d % q * p + n % p) ≡ n = omega (arith, high, split, div-add-mod' n p) in
    let small : d % q * p + n % p < p * q = omega (arith, suc-mul (d % q) p, mul-le-mul_right {m = suc (d % q)} {n = q} p (mod-lt d h), mul_comm p q, mod-lt n l) in
    ap (λ x. x % (p * q)) (sym whole) ∙ mul-add-mod_self_right (d / q) (p * q) (d % q * p + n % p) ∙ mod-eq_of_lt {n = d % q * p + n % p} {m = p * q} small

-- What is left of a number below a place: its digit at the next, and what is left below that.
pub left_digit : (p n : ℕ) → 1 ≤ p → n % (p * 10) / p ≡ n / p % 10
left_digit p n h =
    rw (left_is 10 p n (omega arith) h, mul-add-div_right {m = p} h (n / p % 10) (n % p), div-eq_of_lt {n = n % p} {m = p} (mod-lt n h)) (omega arith)

pub left_rest : (p n : ℕ) → 1 ≤ p → n % (p * 10) % p ≡ n % p
left_rest p n h = rw (left_is 10 p n (omega arith) h, mul-add-mod_self_right (n / p % 10) p (n % p)) (mod-mod n p)
