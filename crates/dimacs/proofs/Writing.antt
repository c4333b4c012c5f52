-- The law of decimals: the digits of a number are those of its tenth, and then its last. Assumes nothing.
use Prim.Native.Nat.{ℕ, zero, suc, ◌+◌, ◌/◌, ◌%◌, ◌≤◌, ◌<◌}
use Prim.Native.Char.{code}
use mathlib.Core.List.{List, [], ◌∷◌, ◌++◌, append_assoc}
use mathlib.Core.Path.{◌≡◌, ap, sym, ◌∙◌}
use native.Mathlib.Omega.{arith}
use borrow.Author.Tests.{ltb-true, ltb-false, lt-ltb, le-ltb}
use lib.Dec.{ltb}
use Rattle.dimacs.specs.Loop.{again, answer, loop}
use Rattle.dimacs.specs.Writing.{Digits, next_digit, digits}
use Rattle.dimacs.proofs.Loops.{Falls, loop_after, enough}
use Rattle.dimacs.proofs.Tests.{tested, chosen}

abbrev before : ℕ → List ℕ → Digits
before n behind = record { left = n; behind = behind }

falls : (d : Digits) → Falls (λ x. x.left) d (next_digit d)
unfolding next_digit
falls d = chosen (Falls (λ x. x.left) d) (ltb d.left 10) (λ _. tt) (λ e. omega (arith, ltb-false d.left 10 e))

-- One step of writing.
last : (n : ℕ) (b : List ℕ) → n < 10 → next_digit (before n b) ≡ answer ((code "0" + n) ∷ b)
unfolding next_digit
last n b h = rw (lt-ltb n 10 h)

more : (n : ℕ) (b : List ℕ) → 10 ≤ n → next_digit (before n b) ≡ again (before (n / 10) ((code "0" + n % 10) ∷ b))
unfolding next_digit
more n b h = rw (le-ltb n 10 h)

-- What is behind stays behind.
behind : (m n : ℕ) (b : List ℕ) → n < m → loop next_digit [] m (before n b) ≡ loop next_digit [] m (before n []) ++ b
behind zero n b h = absurd (omega arith)
behind (suc m) n b h =
    tested (ltb n 10)
    (λ e. let l = ltb-true n 10 e in
    rw (loop_after next_digit [] m (before n b), loop_after next_digit [] m (before n []), last n b l, last n [] l))
    (λ e. let l = ltb-false n 10 e in
    let d = code "0" + n % 10 in
    let k : n / 10 < m = omega arith in
    rw (loop_after next_digit [] m (before n b), loop_after next_digit [] m (before n []), more n b l, more n [] l)
    (behind m (n / 10) (d ∷ b) k ∙ sym (ap (λ x. x ++ b) (behind m (n / 10) (d ∷ []) k) ∙ append_assoc (loop next_digit [] m (before (n / 10) [])) (d ∷ []) b)))

pub digits_one : (n : ℕ) → n < 10 → digits n ≡ (code "0" + n) ∷ []
unfolding digits
digits_one n h = loop_after next_digit [] n (before n []) ∙ rw (last n [] h)

pub digits_more : (n : ℕ) → 10 ≤ n → digits n ≡ digits (n / 10) ++ ((code "0" + n % 10) ∷ [])
unfolding digits
digits_more n h =
    loop_after next_digit [] n (before n [])
    ∙ rw (more n [] h)
    (enough next_digit [] (λ x. x.left) falls [] n (suc (n / 10)) (before (n / 10) ((code "0" + n % 10) ∷ [])) (omega arith) (omega arith)
    ∙ behind (suc (n / 10)) (n / 10) ((code "0" + n % 10) ∷ []) (omega arith))
