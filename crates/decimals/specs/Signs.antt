-- The sign of a literal.
use Rattle.std.specs.Prelude.{ℕ, List, [], ℤ, pos, negsuc}
use Rattle.dimacs.specs.Bytes.{bytes}

-- A minus, or nothing.
abbrev pub sign_of : ℤ → List ℕ
sign_of (pos n) = []
sign_of (negsuc n) = bytes "-"
