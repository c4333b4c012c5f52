-- The digits of a number, read: they are digits, and they write that number. Assumes nothing.
use Prim.Native.Nat.{ℕ, zero, suc, ◌+◌, ◌-◌, ◌*◌, ◌/◌, ◌%◌, ◌≤◌, ◌<◌}
use Prim.Native.Char.{code}
use mathlib.Core.List.{List, [], ◌∷◌, ◌++◌, append_assoc}
use mathlib.Core.Path.{◌≡◌}
use native.Mathlib.Omega.{arith}
use borrow.Author.Tests.{ltb-true, ltb-false}
use lib.Dec.{ltb}
use lib.ListN.{length, get_or, length-append}
use Rattle.dimacs.specs.Bytes.{is_digit}
use Rattle.dimacs.specs.Tokens.{run, decimal}
use Rattle.dimacs.specs.Writing.{digits}
use Rattle.dimacs.proofs.Tests.{tested}
use Rattle.dimacs.proofs.Bytes.{is_digit_lem}
use Rattle.dimacs.proofs.Writing.{digits_one, digits_more}

-- Bytes that write n, whatever follows them: they begin with a digit, all of them are digits, and they have the value n.
pub record Decimal (n : ℕ) (l : List ℕ) : Type 0 where
  pub some : 1 ≤ length l
  pub low : (t : List ℕ) → 48 ≤ get_or (l ++ t) 0 0
  pub high : (t : List ℕ) → get_or (l ++ t) 0 0 ≤ 57
  pub run_on : (t : List ℕ) → run is_digit (l ++ t) ≡ length l + run is_digit t
  pub value : (t : List ℕ) → decimal 0 (l ++ t) ≡ decimal n t

one : (n : ℕ) → n < 10 → Decimal n ((code "0" + n) ∷ [])
unfolding run decimal
one n h =
    let d = is_digit_lem (48 + n) (omega arith) (omega arith) in
    let e : 0 * 10 + (48 + n - 48) ≡ n = omega arith in
    record {
      some = omega arith;
      low = λ t. omega arith;
      high = λ t. omega arith;
      run_on = λ t. rw d (omega arith);
      value = λ t. rw (d, e);
    }

more : (n : ℕ) (l : List ℕ) → Decimal (n / 10) l → Decimal n (l ++ ((code "0" + n % 10) ∷ []))
unfolding run decimal
more n l k =
    let b = 48 + n % 10 in
    let d = is_digit_lem (48 + n % 10) (omega arith) (omega arith) in
    let e : n / 10 * 10 + (48 + n % 10 - 48) ≡ n = omega arith in
    record {
      some = simp length-append (omega (arith, k.some));
      low = λ t. rw (append_assoc l (b ∷ []) t) (k.low (b ∷ t));
      high = λ t. rw (append_assoc l (b ∷ []) t) (k.high (b ∷ t));
      run_on = λ t. rw (append_assoc l (b ∷ []) t, k.run_on (b ∷ t), d, length-append l (b ∷ [])) (omega arith);
      value = λ t. rw (append_assoc l (b ∷ []) t, k.value (b ∷ t), d, e);
    }

up_to : (m n : ℕ) → n < m → Decimal n (digits n)
up_to zero n h = absurd (omega arith)
up_to (suc m) n h =
    tested (ltb n 10)
    (λ e. let l = ltb-true n 10 e in rw (digits_one n l) (one n l))
    (λ e. let l = ltb-false n 10 e in rw (digits_more n l) (more n (digits (n / 10)) (up_to m (n / 10) (omega arith))))

pub digits_write : (n : ℕ) → Decimal n (digits n)
digits_write n = up_to (suc n) n (omega arith)
