-- A digit by subtraction: what is left, and how often a part was taken. Assumes nothing.
use Prim.Native.Nat.{ℕ, suc, ◌+◌, ◌-◌, ◌*◌, ◌/◌, ◌%◌, ◌≤◌, ◌<◌}
use mathlib.Core.Path.{◌≡◌, refl, ap, sym, ◌∙◌}
use native.Mathlib.Nat.{mul-suc, mul_left_comm, mod-lt, mod-eq_of_lt, div-add-mod', div-lt_iff_lt-mul, div-div-eq-div-mul, add-mul-mod_self_right, mul-add-mod_self_right}
use native.Mathlib.Omega.{arith}
use borrow.Author.Tests.{ltb-true, ltb-false, lt-ltb, le-ltb}
use lib.Dec.{ltb}
use Rattle.dimacs.proofs.Tests.{tested}
use Rattle.decimals.specs.Places.{less_part}
use Rattle.decimals.proofs.Places.{left_is}

-- Of a number some multiple of another is taken, and what is left is below a bound.
pub record Down (n once bound left : ℕ) : Type 0 where
  pub below : left < bound
  pub same : left % once ≡ n % once

pub down_all : (n once : ℕ) → n < 16 * once → Down n once (16 * once) n
down_all n once h = record { below = h; same = refl }

-- A multiple is taken, if it fits. Twice as much does not.
pub down_more : (times : ℕ) {n once bound left part r : ℕ} → part ≡ times * once → bound ≤ part + part → Down n once bound left → r ≡ less_part left part → Down n once part r
unfolding less_part
down_more times {n} {once} {bound} {left} {part} {r} e h d s =
    tested (ltb left part)
    (λ t. let l = ltb-true left part t in
    let stays : r ≡ left = s ∙ rw (lt-ltb left part l) in
    rw stays (record { below = l; same = d.same }))
    (λ t. let l = ltb-false left part t in
    let falls : r ≡ left - part = s ∙ rw (le-ltb left part l) in
    let again : left - part + times * once ≡ left = omega arith in
    rw falls
    (record {
      below = omega (arith, d.below);
      same = sym (add-mul-mod_self_right (left - part) times once) ∙ ap (λ x. x % once) again ∙ d.same;
    }))

-- What is below what was taken is the remainder.
down_last : {n once left : ℕ} → Down n once once left → left ≡ n % once
down_last {n} {once} {left} d = sym (mod-eq_of_lt {n = left} {m = once} d.below) ∙ d.same

-- Sixteen times a number, less one less than sixteen times a power as often as that fits: the digit stands in the last four bits.
digit_held : (n power : ℕ) → n < 10 * power → 16 * n % (16 * power - 1) ≡ 16 * (n % power) + n / power
digit_held n power h =
    let some : 1 ≤ power = omega arith in
    let once = 16 * power - 1 in
    let d = n / power in
    let rest = n % power in
    let next : suc once ≡ 16 * power = omega arith in
    let few : d < 10 = (div-lt_iff_lt-mul {x = n} {y = 10} some).1 h in
    let less : rest < power = mod-lt n some in
    let counted : d * once + d ≡ 16 * (d * power) = sym (mul-suc d once) ∙ ap (λ x. d * x) next ∙ mul_left_comm d 16 power in
    let whole : d * once + (16 * rest + d) ≡ 16 * n = omega (arith, counted, div-add-mod' n power) in
    ap (λ x. x % once) (sym whole) ∙ mul-add-mod_self_right d once (16 * rest + d) ∙ mod-eq_of_lt {n = 16 * rest + d} {m = once} (omega arith)

pub first_is : (n power : ℕ) {r : ℕ} → n < 10 * power → Down (16 * n) (16 * power - 1) (16 * power - 1) r → r ≡ 16 * (n % power) + n / power
first_is n power h d = down_last d ∙ digit_held n power h

-- The same by a sixteenth of both: the last four bits of the number are left too.
pub record BySixteenths (n power held : ℕ) : Type 0 where
  pub digit : held % 16 ≡ n / (16 * power)
  pub rest : 16 * (held / 16) + n % 16 ≡ n % (16 * power)

pub by_sixteenths : (n power : ℕ) {held : ℕ} → n / 16 < 10 * power → held ≡ 16 * (n / 16 % power) + n / 16 / power → BySixteenths n power held
by_sixteenths n power {held} h e =
    let some : 1 ≤ power = omega arith in
    let few : n / 16 / power < 10 = (div-lt_iff_lt-mul {x = n / 16} {y = 10} some).1 h in
    let last : held % 16 ≡ n / 16 / power = omega arith in
    record { digit = last ∙ div-div-eq-div-mul n 16 power; rest = omega (arith, left_is power 16 n some (omega arith)) }
