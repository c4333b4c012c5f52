-- What the lines of a log say.
use Rattle.std.specs.Prelude.{ℕ, ◌+◌, ◌-◌, ◌<◌, true, false, List, ◌⊎◌, ◌≡◌, length, drop, Option, None, Some}
use Rattle.dimacs.specs.Bytes.{bytes, LF}
use Rattle.dimacs.specs.Tokens.{begins, byte_at, end_of_line}
use Rattle.dimacs.specs.declared.Verdict.{Verdict}
use Rattle.dimacs.specs.declared.Verdict.TheVariants.{Yes, No, Unknown}

-- A line begins where the text does, and past each LF.
abbrev pub LineAt : List ℕ → ℕ → Type 0
LineAt s at = (at ≡ 0) ⊎ (byte_at s (at - 1) ≡ LF)

-- No line before a place begins with `s `.
abbrev pub NoneBefore : List ℕ → ℕ → Type 0
NoneBefore s n = (i : ℕ) → i < n → LineAt s i → begins (bytes "s ") (drop i s) ≡ false

-- A line is these bytes, which a line end or the end of the text closes, and no line before it begins with `s `.
pub record FirstIs (s w : List ℕ) : Type 0 where
  pub at : ℕ
  pub line : LineAt s at
  pub stands : begins w (drop at s) ≡ true
  pub closed : end_of_line s (at + length w) ≡ None → ⊥
  pub first : NoneBefore s at

-- The lines of a log say a verdict: the first that begins with `s ` has its word, or none begins so.
abbrev pub LinesSay : List ℕ → Option Verdict → Type 0
LinesSay s (Some Yes) = FirstIs s (bytes "s SATISFIABLE")
LinesSay s (Some No) = FirstIs s (bytes "s UNSATISFIABLE")
LinesSay s (Some Unknown) = FirstIs s (bytes "s UNKNOWN")
LinesSay s None = NoneBefore s (length s)
