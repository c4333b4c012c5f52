-- Texts as lists of bytes, the bytes that the formats name, and their classes.
use Rattle.std.specs.Prelude.{ℕ, Bool, not, ◌&&◌, ◌||◌, List, [], ◌∷◌, leb, eqb}
use Prim.Native.Char.{code}
use Prim.Native.String.{String}
use Prim.Native.String as text

-- The bytes of a quoted text.
abbrev pub bytes : String → List ℕ
bytes text.[] = []
bytes (text.◌∷◌ c r) = code c ∷ bytes r

-- The byte that ends a line.
abbrev pub LF : ℕ
LF = code "\n"

-- The byte that may stand before it.
abbrev pub CR : ℕ
CR = code "\r"

-- Blanks are tab and space.
abbrev pub is_blank : ℕ → Bool
is_blank b = eqb b (code "\t") || eqb b (code " ")

-- Digits are the ten of ASCII.
abbrev pub is_digit : ℕ → Bool
is_digit b = leb (code "0") b && leb b (code "9")

-- A word or number ends at tab, space, CR or LF.
abbrev pub is_stop : ℕ → Bool
is_stop b = is_blank b || (eqb b CR || eqb b LF)

-- Any other byte goes on with a word.
abbrev pub is_not_stop : ℕ → Bool
is_not_stop b = not (is_stop b)

-- Any other byte goes on with a line.
abbrev pub is_not_lf : ℕ → Bool
is_not_lf b = not (eqb b LF)
