-- The digits of a number, place by place. Places are counted from the last digit's, which is 0.
use Rattle.std.specs.Prelude.{ℕ, zero, suc, ◌+◌, ◌-◌, ◌*◌, ◌/◌, ◌%◌, cond, List, [], ◌∷◌, ◌++◌, ◌≡◌, ltb}
use Prim.Native.Char.{code}
use Rattle.decimals.specs.Pieces.{PutAt}

-- One and so many zeros behind it.
abbrev pub tens : ℕ → ℕ
tens zero = 1
tens (suc k) = tens k * 10

-- A digit as it is written.
abbrev pub figure : ℕ → List ℕ
figure d = (code "0" + d) ∷ []

-- The digit of a number at a place: there is always one at the last, and none before the first.
unfoldable pub digit_at : ℕ → ℕ → List ℕ
digit_at zero n = figure (n % 10)
digit_at (suc k) n = cond (ltb n (tens (suc k))) [] (figure (n / tens (suc k) % 10))

-- The digits of a number at so many places from a place up.
unfoldable pub digits_from : ℕ → ℕ → ℕ → List ℕ
digits_from low zero n = []
digits_from low (suc many) n = digits_from (suc low) many n ++ digit_at low n

-- A number less a part, if that fits.
unfoldable pub less_part : ℕ → ℕ → ℕ
less_part n part = cond (ltb n part) n (n - part)

-- Digits are put, and what is left of the number behind them is known.
pub record Lays (at : ℕ) (piece : List ℕ) (rest : ℕ) (old new : List ℕ) (place left : ℕ) : Type 0 where
  pub put : PutAt at piece old new place
  pub left_is : left ≡ rest
