-- How long a number is in decimal, and its digits stored from the last to the first. Assumes nothing.
use Prim.Native.Nat.{ℕ, zero, suc, ◌+◌, ◌-◌, ◌/◌, ◌%◌, ◌≤◌, ◌<◌}
use Prim.Native.Char.{code}
use mathlib.Core.List.{List, [], ◌∷◌, ◌++◌}
use mathlib.Core.Path.{◌≡◌, ap, sym, ◌∙◌}
use native.Mathlib.Omega.{arith}
use borrow.Author.Tests.{ltb-true, ltb-false, leb-true, leb-false}
use lib.Dec.{ltb, leb}
use Rattle.std.specs.List.{prefix_len}
use lib.ListN.{length, set, length-append, length-set}
use lib.Seq.{sets, set_comm}
use Rattle.dimacs.specs.Writing.{digits}
use Rattle.dimacs.proofs.Writing.{digits_one, digits_more}
use Rattle.dimacs.proofs.Tests.{tested}
use Rattle.decimals.specs.Places.{tens}

pub one_long : (n : ℕ) → n < 10 → length (digits n) ≡ 1
one_long n h = ap length (digits_one n h)

pub more_long : (n : ℕ) → 10 ≤ n → length (digits n) ≡ length (digits (n / 10)) + 1
more_long n h = ap length (digits_more n h) ∙ length-append (digits (n / 10)) ((code "0" + n % 10) ∷ [])

-- A number has a digit, and not many more.
pub record DigitsBounded (n : ℕ) : Type 0 where
  pub some : 1 ≤ length (digits n)
  pub most : length (digits n) ≤ n / 10 + 1

bounded_below : (m n : ℕ) → n < m → DigitsBounded n
bounded_below zero n h = absurd (omega arith)
bounded_below (suc m) n h =
    tested (ltb n 10)
    (λ e. omega (arith, one_long n (ltb-true n 10 e)))
    (λ e. let l = ltb-false n 10 e in omega (arith, more_long n l, bounded_below m (n / 10) (omega arith)))

pub digits_bounded : (n : ℕ) → DigitsBounded n
digits_bounded n = bounded_below (suc n) n (omega arith)

pub tens_some : (k : ℕ) → 1 ≤ tens k
tens_some zero = omega arith
tens_some (suc k) = omega (arith, tens_some k)

-- A number below a power of ten has no more digits than that has zeros.
pub digits_below : (k n : ℕ) → 1 ≤ k → n < tens k → length (digits n) ≤ k
digits_below zero n l h = absurd (omega arith)
digits_below (suc zero) n l h = omega (arith, one_long n h)
digits_below (suc (suc k)) n l h =
    tested (ltb n 10)
    (λ e. omega (arith, one_long n (ltb-true n 10 e)))
    (λ e. omega (arith, more_long n (ltb-false n 10 e), digits_below (suc k) (n / 10) (omega arith) (omega arith)))

-- A number that is not has more.
pub digits_above : (k n : ℕ) → tens k ≤ n → suc k ≤ length (digits n)
digits_above zero n h = omega (arith, digits_bounded n)
digits_above (suc k) n h =
    let some : 10 ≤ n = omega (arith, tens_some k) in
    omega (arith, more_long n some, digits_above k (n / 10) (omega arith))

pub tens_rise : (j k : ℕ) → j ≤ k → tens j ≤ tens k
tens_rise j zero h = let e : j ≡ 0 = omega arith in rw e (omega arith)
tens_rise j (suc k) h =
    tested (ltb k j)
    (λ t. let e : j ≡ suc k = omega (arith, ltb-true k j t) in rw e (omega arith))
    (λ t. omega (arith, tens_rise j k (ltb-false k j t)))

-- The powers of ten of so many places from a place up.
abbrev pub powers : ℕ → ℕ → List ℕ
powers low zero = []
powers low (suc many) = tens low ∷ powers (suc low) many

module _ (n : ℕ) where
  -- A number has a digit for each that fits, beside those below the first.
  pub front_counted : (many low : ℕ) → 1 ≤ low → low ≤ length (digits n) → n < tens (low + many) → low + prefix_len (λ p. leb p n) (powers low many) ≡ length (digits n)
  front_counted zero low l h f = let none : low + 0 ≡ low = omega arith in omega (arith, h, digits_below low n l (rw none at f))
  front_counted (suc many) low l h f =
      tested (leb (tens low) n)
      (λ e. let up : low + suc many ≡ suc low + many = omega arith in
      rw e (omega (arith, front_counted many (suc low) (omega arith) (digits_above low n (leb-true (tens low) n e)) (rw up at f))))
      (λ e. rw e (omega (arith, h, digits_below low n l (leb-false (tens low) n e))))

-- The last of a run of stores may come first.
sets_last : {A : Type 0} (vs l : List A) (at : ℕ) (d : A) → sets l at (vs ++ (d ∷ [])) ≡ sets (set l (at + length vs) d) at vs
sets_last [] l at d = ap (λ k. set l k d) (omega arith)
sets_last (v ∷ vs) l at d =
    sets_last vs (set l at v) (suc at) d
    ∙ ap (λ x. sets x (suc at) vs) (set_comm l at (suc at + length vs) v d (λ e. omega (arith, e)) ∙ ap (λ k. set (set l k d) at v) (omega arith))

-- Digits stand behind place i, and what is left is to be stored up to there.
pub record Behind (at n : ℕ) (old out : List ℕ) (left i : ℕ) : Type 0 where
  pub place : i + 1 ≡ at + length (digits left)
  pub fewer : length (digits left) ≤ length (digits n)
  pub same : sets out at (digits left) ≡ sets old at (digits n)
  pub long : length out ≡ length old

pub behind_more : {at n : ℕ} {old out : List ℕ} {left i : ℕ} → Behind at n old out left i → 10 ≤ left
    → Behind at n old (set out i (code "0" + left % 10)) (left / 10) (i - 1)
behind_more {at} {n} {old} {out} {left} {i} h l =
    record {
      place = omega (arith, h.place, more_long left l, digits_bounded (left / 10));
      fewer = omega (arith, h.fewer, more_long left l);
      same =
          let e : i ≡ at + length (digits (left / 10)) = omega (arith, h.place, more_long left l) in
          rw e (sym (sets_last (digits (left / 10)) out at (code "0" + left % 10)) ∙ ap (sets out at) (sym (digits_more left l)) ∙ h.same);
      long = length-set out i (code "0" + left % 10) ∙ h.long;
    }

pub behind_all : {at n : ℕ} {old out : List ℕ} {left i : ℕ} → Behind at n old out left i → left < 10 → set out i (code "0" + left) ≡ sets old at (digits n)
behind_all {at} {n} {old} {out} {left} {i} h l =
    let k : i ≡ at = omega (arith, h.place, one_long left l) in
    rw k (ap (sets out at) (sym (digits_one left l)) ∙ h.same)
