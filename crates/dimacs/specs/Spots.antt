-- The line and the column of a place in a text as it is read.
use Rattle.std.specs.Prelude.{ℕ, ◌+◌, cond, List, [], ◌∷◌, eqb, take}
use Rattle.dimacs.specs.Bytes.{LF}
use Rattle.dimacs.specs.declared.Spot.{Spot}

-- A spot by its line and its column.
abbrev pub line_and_column : ℕ → ℕ → Spot
line_and_column line column = record { line = line; column = column }

-- No line and no column: those of a refusal where no text is at fault.
abbrev pub nowhere : Spot
nowhere = line_and_column 0 0

-- One byte on: LF begins a line, any other byte is one column more.
abbrev pub byte_on : ℕ → Spot → Spot
byte_on b p = cond (eqb b LF) (line_and_column (p.line + 1) 1) (line_and_column p.line (p.column + 1))

-- So many bytes on.
unfoldable pub bytes_on : List ℕ → Spot → Spot
bytes_on [] p = p
bytes_on (b ∷ r) p = bytes_on r (byte_on b p)

-- Where a place stands: as many bytes on from line 1 and column 1 as there are before it.
abbrev pub spot_of : List ℕ → ℕ → Spot
spot_of s at = bytes_on (take at s) (line_and_column 1 1)
