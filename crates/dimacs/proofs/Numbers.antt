-- Numbers: the digits at a place, and the cases that they settle. Assumes nothing.
use Prim.Native.Nat.{ℕ, suc, ◌+◌, ◌-◌, ◌*◌, ◌≤◌, ◌<◌, min}
use mathlib.Core.Bool.{Bool, true, false, cond}
use mathlib.Core.List.{List, [], ◌∷◌}
use mathlib.Core.Path.{◌≡◌, refl, sym, ◌∙◌, subst}
use native.Mathlib.Numerals.{add-one}
use native.Mathlib.Omega.{arith}
use borrow.Author.Tests.{eq-eqb, ne_eqb, le-leb, lt-leb, leb-true, leb-false}
use lib.Dec.{eqb, leb}
use lib.ListN.{length, get_or, drop, drop_of_length-le}
use lib.Seq.{drop-cons}
use lib.IntN.{ℤ, pos, neg_ℤ}
use Rattle.dimacs.specs.Bytes.{is_digit}
use Rattle.dimacs.specs.Tokens.{run, past, decimal, Number, none, found, blanks, word_ends, unsigned, braced, minus, up_to, up_to_either_way, uint_at, int_at}
use Rattle.dimacs.specs.Names.{ceiling}
use Rattle.dimacs.specs.declared.Uint.{Uint}
use Rattle.dimacs.specs.declared.Uint.TheVariants as uint
use Rattle.dimacs.specs.declared.Int.TheVariants as int
use Rattle.dimacs.proofs.Tests.{chosen}
use Rattle.dimacs.proofs.Past.{past_stop, past_end}

-- More digits make a number no smaller.
pub decimal_on : (v : ℕ) (r : List ℕ) → v ≤ decimal v r
unfolding decimal
decimal_on v [] = omega arith
decimal_on v (d ∷ r) = let h = decimal_on (v * 10 + (d - 48)) r in chosen (λ x. v ≤ x) (is_digit d) (λ _. omega arith) (λ _. omega arith)

-- The number that digits write, by its first digit; where none stands it is what was written before.
module _ (s : List ℕ) (v i : ℕ) (h : i < length s) where
  pub decimal_more : is_digit (get_or s i 0) ≡ true → decimal (v * 10 + (get_or s i 0 - 48)) (drop (i + 1) s) ≡ decimal v (drop i s)
  unfolding decimal
  decimal_more e = rw (add-one i, drop-cons s i 0 h, e)

  pub decimal_stop : is_digit (get_or s i 0) ≡ false → decimal v (drop i s) ≡ v
  unfolding decimal
  decimal_stop e = rw (drop-cons s i 0 h, e)

-- The digits at a place, after some that write w, end at e, and all of them write v.
pub record All (w : ℕ) (s : List ℕ) (at e v : ℕ) : Type 0 where
  pub ends : past is_digit s at ≡ e
  pub value : decimal w (drop at s) ≡ v

-- Where no digit stands they end at once.
module _ (w : ℕ) (s : List ℕ) (at : ℕ) where
  pub none_there : at < length s → is_digit (get_or s at 0) ≡ false → All w s at at w
  none_there h n = record { ends = past_stop is_digit s at h n; value = decimal_stop s w at h n }

  pub none_past_end : length s ≤ at → All w s at at w
  unfolding decimal
  none_past_end h = record { ends = past_end is_digit s at h; value = rw (drop_of_length-le s h) }

-- Where no digit stands the number is 0.
pub decimal_none : (v : ℕ) (r : List ℕ) → run is_digit r ≡ 0 → decimal v r ≡ v
unfolding decimal run
decimal_none v [] h = refl
decimal_none v (d ∷ r) h = go (is_digit d) h
  where
    go : (t : Bool) → cond t (suc (run is_digit r)) 0 ≡ 0 → cond t (decimal (v * 10 + (d - 48)) r) v ≡ v
    go true e = absurd (omega arith)
    go false e = refl

-- The cases of `unsigned`.
module _ {s : List ℕ} {at e v : ℕ} (a : All 0 s at e v) where
  pub unsigned_none : e ≡ at → unsigned s at ≡ none
  unfolding unsigned
  unsigned_none h = rw (a.ends, eq-eqb e at h)

  pub unsigned_joined : word_ends s e ≡ false → unsigned s at ≡ none
  unfolding unsigned
  unsigned_joined h = rw (a.ends, h) (chosen (λ x. x ≡ none) (eqb e at) (λ _. refl) (λ _. refl))

  pub unsigned_found : (e ≡ at → ⊥) → word_ends s e ≡ true → unsigned s at ≡ found v (blanks s e)
  unfolding unsigned
  unsigned_found h k = rw (a.ends, ne_eqb e at h, k, a.value)

module _ (s : List ℕ) (at : ℕ) where
  pub minus_is : get_or s at 0 ≡ 45 → minus s at ≡ at + 1
  unfolding minus
  minus_is h = rw (eq-eqb (get_or s at 0) 45 h)

  pub minus_no : (get_or s at 0 ≡ 45 → ⊥) → minus s at ≡ at
  unfolding minus
  minus_no h = rw (ne_eqb (get_or s at 0) 45 h)

-- The cases of `braced`.
module _ (s : List ℕ) (at : ℕ) where
  pub braced_no : (get_or s at 0 ≡ 123 → ⊥) → braced s at ≡ none
  unfolding braced
  braced_no h = rw (ne_eqb (get_or s at 0) 123 h)

  module _ (h : get_or s at 0 ≡ 123) {e v : ℕ} (a : All 0 s (at + 1) e v) where
    pub braced_none : e ≡ at + 1 → braced s at ≡ none
    unfolding braced
    braced_none k = rw (eq-eqb (get_or s at 0) 123 h, a.ends, eq-eqb e (at + 1) k)

    pub braced_open : (get_or s e 0 ≡ 125 → ⊥) → braced s at ≡ none
    unfolding braced
    braced_open n = rw (eq-eqb (get_or s at 0) 123 h, a.ends, ne_eqb (get_or s e 0) 125 n) (chosen (λ x. x ≡ none) (eqb e (at + 1)) (λ _. refl) (λ _. refl))

    pub braced_found : (e ≡ at + 1 → ⊥) → get_or s e 0 ≡ 125 → braced s at ≡ found v (blanks s (e + 1))
    unfolding braced
    braced_found k n = rw (eq-eqb (get_or s at 0) 123 h, a.ends, ne_eqb e (at + 1) k, eq-eqb (get_or s e 0) 125 n, a.value)

-- A number against its limit.
module _ (limit : ℕ) where
  pub by_none : {n : Number} → n ≡ none → uint.Missing ≡ up_to limit n
  by_none h = rw h

  pub by_value : {n : Number} {v e : ℕ} → n ≡ found v e → v ≤ limit → (next : ℕ) → next ≡ e → uint.Value v next ≡ up_to limit n
  by_value {v} h k next is = rw (h, le-leb v limit k, is)

  pub by_too_big : {n : Number} {v e : ℕ} → n ≡ found v e → limit < v → uint.TooBig ≡ up_to limit n
  by_too_big {v} h k = rw (h, lt-leb v limit k)

-- What an answer tells of the number that stands there.
abbrev pub UintTold : List ℕ → ℕ → ℕ → Uint → Type 0
UintTold s limit at uint.Missing = unsigned s at ≡ none
UintTold s limit at (uint.Value n e) = (unsigned s at ≡ found n e) × (n ≤ limit)
UintTold s limit at uint.TooBig = (n : ℕ) × (e : ℕ) × (unsigned s at ≡ found n e) × (limit < n)

uint_tells : (s : List ℕ) (limit at : ℕ) → UintTold s limit at (uint_at s limit at)
unfolding uint_at
uint_tells s limit at = go (unsigned s at) refl
  where
    go : (n : Number) → unsigned s at ≡ n → UintTold s limit at (up_to limit n)
    go none h = h
    go (found n e) h = chosen (UintTold s limit at) (leb n limit) (λ t. (h, leb-true n limit t)) (λ t. (n, e, h, leb-false n limit t))

pub uint_told : (s : List ℕ) (limit at : ℕ) {u r : Uint} → u ≡ r → u ≡ uint_at s limit at → UintTold s limit at r
uint_told s limit at e h = subst (UintTold s limit at) (sym h ∙ e) (uint_tells s limit at)

-- A signed number, from the count that stands past its minus.
module _ (s : List ℕ) (limit at from : ℕ) (is : from ≡ minus s at) where
  int_by : {n : Number} → unsigned s from ≡ n → int_at s limit at ≡ up_to_either_way limit (eqb from at) n
  unfolding int_at
  int_by h = rw (sym is, h)

  pub int_missing : UintTold s ceiling from uint.Missing → int.Missing ≡ int_at s limit at
  int_missing t = sym (int_by t)

  pub int_too_big : UintTold s ceiling from uint.TooBig → int.TooBig ≡ int_at s limit at
  int_too_big t = sym (int_by t.2 ∙ rw (ne_eqb t.0 0 (λ e. omega (arith, t.3)), lt-leb t.0 (min limit ceiling) (omega (arith, t.3))))

  module _ {n e : ℕ} (t : UintTold s ceiling from (uint.Value n e)) where
    pub int_zero : n ≡ 0 → int.Zero e ≡ int_at s limit at
    int_zero h = sym (int_by t.0 ∙ rw (eq-eqb n 0 h))

    pub int_beyond : (n ≡ 0 → ⊥) → min limit ceiling < n → int.TooBig ≡ int_at s limit at
    int_beyond h k = sym (int_by t.0 ∙ rw (ne_eqb n 0 h, lt-leb n (min limit ceiling) k))

    pub int_positive : (n ≡ 0 → ⊥) → n ≤ min limit ceiling → from ≡ at → (z : ℤ) → z ≡ pos n → int.Literal z e ≡ int_at s limit at
    int_positive h k p z so = sym (int_by t.0 ∙ rw (ne_eqb n 0 h, le-leb n (min limit ceiling) k, eq-eqb from at p, so))

    pub int_negative : (n ≡ 0 → ⊥) → n ≤ min limit ceiling → (from ≡ at → ⊥) → (z : ℤ) → z ≡ neg_ℤ (pos n) → int.Literal z e ≡ int_at s limit at
    int_negative h k p z so = sym (int_by t.0 ∙ rw (ne_eqb n 0 h, le-leb n (min limit ceiling) k, ne_eqb from at p, so))
