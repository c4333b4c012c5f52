-- The parts of a number as the code takes them: a digit, a run of them, the number they write, and minus its limit.
use Rattle.std.specs.Prelude.{ℕ, ◌+◌, ◌≤◌, ◌<◌, min, false, cond, Some, None, List, ◌≡◌, leb, ℤ, pos, neg_ℤ, drop}
use Prim.Native.Char.{code}
use Rattle.dimacs.specs.Bytes.{is_digit}
use Rattle.dimacs.specs.Names.{ceiling, largest}
use Rattle.dimacs.specs.Tokens.{past, decimal, unmoved, word_ends, blanks}
use Rattle.dimacs.specs.declared.Uint.{Uint}
use Rattle.dimacs.specs.declared.Uint.TheVariants as uint
use Rattle.numeral.specs.declared.Digits.{Digits}

-- A byte as a digit: a number up to 9 is the digit that it writes, and a number above 9 says that it writes none.
pub record DigitOf (b d : ℕ) : Type 0 where
  pub is : d ≤ 9 → b ≡ code "0" + d
  pub no : 9 < d → is_digit b ≡ false

-- Digits from a place on, after some that write w, are read up to i and write v with them: from i on the digits end where they end from that place on, and write the same number.
pub record Read (w : ℕ) (s : List ℕ) (at i v : ℕ) : Type 0 where
  pub ends : past is_digit s i ≡ past is_digit s at
  pub value : decimal v (drop i s) ≡ decimal w (drop at s)

-- The digits from a place on, after some that write v: the number that all of them write, if it is a 64-bit number, and where they end.
unfoldable pub digits_from : ℕ → List ℕ → ℕ → Digits
digits_from v s at =
    let n = decimal v (drop at s) in
    record { value = cond (leb n largest) (Some n) None; end = past is_digit s at }

-- The number at a place, from where its digits end and what they write.
unfoldable pub written_by : List ℕ → ℕ → ℕ → ℕ → Uint
written_by s at e value = cond (unmoved at e) uint.Missing (cond (word_ends s e) (uint.Value value (blanks s e)) uint.Missing)

-- Minus the limit of literals.
abbrev pub floor_of : ℕ → ℤ
floor_of limit = neg_ℤ (pos (min limit ceiling))
