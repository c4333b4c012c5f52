-- A count of a header by itself: what it is and the place past it, or its refusal.
use Rattle.std.specs.Prelude.{ℕ, cond, List, Result, Ok, Err}
use Rattle.dimacs.specs.Names.{refusal, largest}
use Rattle.dimacs.specs.Tokens.{uint_at}
use Rattle.dimacs.specs.Header.{has_third}
use Rattle.dimacs.specs.declared.Format.{Format}
use Rattle.dimacs.specs.declared.Reason.{Reason}
use Rattle.dimacs.specs.declared.Refusal.{Refusal}
use Rattle.dimacs.specs.declared.Uint.{Uint}
use Rattle.dimacs.specs.declared.Uint.TheVariants.{Missing, TooBig, Value}

module _ (s : List ℕ) where
  -- By the number at a place; one reason where none stands, another where it is too big.
  abbrev pub count_by : Reason → Reason → ℕ → Uint → Result (ℕ × ℕ) Refusal
  count_by none big at Missing = Err (refusal s none at)
  count_by none big at TooBig = Err (refusal s big at)
  count_by none big at (Value n next) = Ok (n, next)

  -- A count up to a limit.
  abbrev pub count_at : ℕ → Reason → Reason → ℕ → Result (ℕ × ℕ) Refusal
  count_at limit none big at = count_by none big at (uint_at s limit at)

  -- The third count, or 0 where the format has none.
  abbrev pub third_at : Format → ℕ → Result (ℕ × ℕ) Refusal
  third_at f at = cond (has_third f) (count_at largest Reason.ThirdCountExpected Reason.ThirdCountTooBig at) (Ok (0, at))
