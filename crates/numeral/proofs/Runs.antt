-- The digits at a place, from what a loop has read of them; and what they tell. Assumes nothing.
use Prim.Native.Nat.{ℕ, ◌+◌, ◌-◌, ◌*◌, ◌/◌, ◌%◌, ◌^◌, ◌≤◌, ◌<◌, max}
use mathlib.Core.Bool.{true, cond}
use mathlib.Core.List.{List}
use mathlib.Core.Path.{◌≡◌, refl, ap, sym, ◌∙◌}
use native.Mathlib.Nat.{pow-suc, pow-le-pow_right}
use native.Mathlib.Numerals.{add-one}
use native.Mathlib.Omega.{arith}
use borrow.Author.Tests.{le-leb, lt-leb, leb-true, leb-false, eqb-true, eqb-false}
use lib.Bits.{bit_xor, xor_add_and, and_high}
use lib.Dec.{leb, eqb}
use lib.ListN.{length, get_or, drop}
use Rattle.dimacs.specs.Bytes.{is_digit}
use Rattle.dimacs.specs.Names.{largest}
use Rattle.dimacs.specs.Tokens.{past, decimal, word_ends, uint_at}
use Rattle.dimacs.proofs.Bytes.{is_digit_lem, below_digit, above_digit}
use Rattle.dimacs.proofs.Tests.{tested}
use Rattle.dimacs.proofs.Past.{past_more, past_end}
use Rattle.dimacs.proofs.Numbers.{decimal_on, decimal_more, All, none_there, none_past_end, unsigned_none, unsigned_joined, unsigned_found, by_none, by_value}
use Rattle.numeral.specs.Parts.{DigitOf, Read, digits_from, written_by}
use Rattle.numeral.specs.declared.Digits.{Digits}
use Rattle.std.specs.Prelude.{Some, None}

-- A byte against that of `0`, bit by bit: no digit differs from it by more than 9, and no other byte by less than 10.
module _ (b : ℕ) where
  differs_by : bit_xor b 48 + b / 16 % 4 * 32 ≡ b + 48
  differs_by = omega (arith, xor_add_and b 48, and_high b 2 4)

  digit_differs : 48 ≤ b → b ≤ 57 → bit_xor b 48 ≤ 9
  digit_differs low high = let three : b / 16 ≡ 3 = omega arith in omega (arith, rw three at differs_by)

  pub digit_is : DigitOf b (bit_xor b 48)
  digit_is =
      record {
        is = λ h. omega (arith, differs_by);
        no =
            λ h. tested (leb 48 b)
            (λ low. tested (leb b 57) (λ high. absurd (omega (arith, digit_differs (leb-true 48 b low) (leb-true b 57 high)))) (λ high. above_digit b (leb-false b 57 high)))
            (λ low. below_digit b (leb-false 48 b low));
      }

-- A number up to 9 says that a digit stands.
pub digit_there : {b d : ℕ} → DigitOf b d → d ≤ 9 → is_digit b ≡ true
digit_there {b} o h = let is = o.is h in is_digit_lem b (omega arith) (omega arith)

-- The answer, by its parts.
abbrev written : ℕ → ℕ → Digits
written v e = record { value = Some v; end = e }

abbrev above : ℕ → Digits
above e = record { value = None; end = e }

-- Where a loop over digits begins, none is read.
pub read_none : (w : ℕ) (s : List ℕ) (at : ℕ) → Read w s at at w
read_none w s at = record { ends = refl; value = refl }

module _ {w : ℕ} {s : List ℕ} {at i v : ℕ} (r : Read w s at i v) where
  -- What is told of the digits from i on is told of all.
  on_from : {e n : ℕ} → All v s i e n → All w s at e n
  on_from a = record { ends = sym r.ends ∙ a.ends; value = sym r.value ∙ a.value }

  pub digits_on : digits_from v s i ≡ digits_from w s at
  unfolding digits_from
  digits_on = rw (r.ends, r.value)

  -- At the text's end, or where the loop began.
  pub digits_end : at ≤ i → (at ≤ length s → i ≤ length s) → length s ≤ i → All w s at (max at (length s)) v
  digits_end on inside h =
      let there = past_end is_digit s i h in
      let ends : past is_digit s at ≡ max at (length s) =
      tested (leb at (length s)) (λ t. let e = inside (leb-true at (length s) t) in omega (arith, r.ends))
      (λ t. omega (arith, r.ends, past_end is_digit s at (omega (arith, leb-false at (length s) t)))) in
      record { ends = ends; value = sym r.value ∙ (none_past_end v s i h).value }

  -- A loop over digits, by the digit at its place.
  module _ {d : ℕ} (h : i < length s) (b : DigitOf (get_or s i 0) d) where
    one_more : d ≤ 9 → decimal (v * 10 + d) (drop (i + 1) s) ≡ decimal w (drop at s)
    one_more k =
        let is = b.is k in
        let same : v * 10 + d ≡ v * 10 + (get_or s i 0 - 48) = omega arith in
        rw same (decimal_more s v i h (is_digit_lem (get_or s i 0) (omega arith) (omega arith)) ∙ r.value)

    pub digit_more : d ≤ 9 → Read w s at (i + 1) (v * 10 + d)
    digit_more k =
        let is = b.is k in
        record { ends = past_more is_digit s i h (is_digit_lem (get_or s i 0) (omega arith) (omega arith)) ∙ r.ends; value = one_more k }

    pub digit_stop : 9 < d → All w s at i v
    digit_stop k = on_from (none_there v s i h (b.no k))

    -- The number is above whatever the digits up to this one are above.
    pub digit_above : d ≤ 9 → largest < v * 10 + d → (e : ℕ) → e ≡ past is_digit s i → above e ≡ digits_from w s at
    unfolding digits_from
    digit_above k l e is = rw (is, r.ends, lt-leb (decimal w (drop at s)) largest (omega (arith, decimal_on (v * 10 + d) (drop (i + 1) s), one_more k)))

-- So many digits write less than ten to that power.
pub few_fit : (k n : ℕ) {v : ℕ} → k ≤ n → v < 10 ^ k → v < 10 ^ n
few_fit k n h l = omega (arith, pow-le-pow_right {n = 10} (omega arith) {i = k} {j = n} h)

pub few_none : (k : ℕ) → 0 < 10 ^ k
few_none k = few_fit 0 k (omega arith) (omega arith)

pub few_more : (k : ℕ) {v d : ℕ} → v < 10 ^ k → d ≤ 9 → v * 10 + d < 10 ^ (k + 1)
few_more k h l = rw add-one (omega (arith, pow-suc 10 k))

-- What a loop answers where it ends.
pub digits_value : {w : ℕ} {s : List ℕ} {at e v : ℕ} → All w s at e v → v ≤ largest → written v e ≡ digits_from w s at
unfolding digits_from
digits_value {v} a h = rw (a.value, le-leb v largest h, a.ends)

-- The number at a place, once its digits are read and are within its limit.
pub written_is : {s : List ℕ} {at e v : ℕ} (limit : ℕ) → All 0 s at e v → v ≤ limit → written_by s at e v ≡ uint_at s limit at
unfolding written_by uint_at
written_is {s} {at} {e} limit a h =
    tested (eqb e at) (λ t. rw t (by_none limit (unsigned_none a (eqb-true e at t))))
    (λ t. tested (word_ends s e) (λ k. rw (t, k) (by_value limit (unsigned_found a (eqb-false e at t) k) h _ refl)) (λ k. rw (t, k) (by_none limit (unsigned_joined a k))))

-- What the answer tells: where the digits end, and what they write, or that it is above 64 bits.
module _ (s : List ℕ) (at : ℕ) (d : Digits) (is : d ≡ digits_from 0 s at) where
  pub digits_told : All 0 s at d.end (decimal 0 (drop at s))
  unfolding digits_from
  digits_told = record { ends = sym (ap (λ (x : Digits). x.end) is); value = refl }

  value_is : d.value ≡ cond (leb (decimal 0 (drop at s)) largest) (Some (decimal 0 (drop at s))) None
  unfolding digits_from
  value_is = ap (λ (x : Digits). x.value) is

  -- A number that they write.
  pub value_told : {v : ℕ} → d.value ≡ Some v → All 0 s at d.end v × (v ≤ largest)
  value_told {v} e =
      let n = decimal 0 (drop at s) in
      tested (leb n largest)
      (λ t. let same : Some v ≡ Some n = sym e ∙ (rw t at value_is) in let h : v ≡ n = cc in (rw (sym h) at digits_told, omega (arith, leb-true n largest t)))
      (λ t. let none : Some v ≡ None = sym e ∙ (rw t at value_is) in cc)

  pub above_told : d.value ≡ None → largest < decimal 0 (drop at s)
  above_told e =
      let n = decimal 0 (drop at s) in
      tested (leb n largest) (λ t. let some : None ≡ Some n = sym e ∙ (rw t at value_is) in cc) (λ t. leb-false n largest t)
