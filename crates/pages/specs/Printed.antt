-- Numbers, literals and words as the programs print them.
use Rattle.std.specs.Prelude.{ℕ, ◌+◌, ◌-◌, ◌/◌, ◌%◌, cond, ltb, ℤ, List, [], ◌∷◌, ◌++◌, flat_map}
use Prim.Native.Char.{code}
use Rattle.dimacs.specs.Bytes.{bytes}
use Rattle.dimacs.specs.Writing.{digits, signed_digits}

-- A number after a space.
abbrev pub printed_number : ℕ → List ℕ
printed_number n = bytes " " ++ digits n

-- A literal after a space.
abbrev pub printed_literal : ℤ → List ℕ
printed_literal l = bytes " " ++ signed_digits l

-- Literals, each after a space.
abbrev pub printed_literals : List ℤ → List ℕ
printed_literals so = flat_map printed_literal so

-- The digit of a number below 16.
abbrev pub hex_digit : ℕ → ℕ
hex_digit d = cond (ltb d 10) (code "0" + d) (code "a" + (d - 10))

-- A byte in hex.
abbrev pub printed_hex : ℕ → List ℕ
printed_hex b = hex_digit (b / 16) ∷ hex_digit (b % 16) ∷ []

-- A word in hex.
abbrev pub printed_hex_word : List ℕ → List ℕ
printed_hex_word w = flat_map printed_hex w
