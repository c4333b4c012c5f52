-- What the writers answer, as numbers and values, and what they leave in the output.
use Rattle.std.specs.Prelude.{ℕ, List, [], ◌≡◌, length, Result, Ok, Err}
use Rattle.dimacs.specs.Names.{refused_spot}
use Rattle.dimacs.specs.Spots.{nowhere}
use Rattle.dimacs.specs.Buffers.{laid}
use Rattle.dimacs.specs.Writing as def
use Rattle.dimacs.specs.declared.Refusal.{Refusal}
use Rattle.dimacs.specs.declared.Spot.{Spot}

-- A line is told by its length.
abbrev pub written_of : def.Written → Result ℕ Refusal
written_of (def.written line) = Ok (length line)
written_of (def.unwritten r) = Err r

-- The bytes that were written.
abbrev pub bytes_written : def.Written → List ℕ
bytes_written (def.written line) = line
bytes_written (def.unwritten r) = []

-- The number of the refusal, 0 where a line was written.
abbrev pub number_in : Result ℕ Refusal → ℕ
number_in (Ok n) = 0
number_in (Err r) = r.number

-- The place of the refusal, the index of the literal at fault if one is; 0 where a line was written.
abbrev pub place_in : Result ℕ Refusal → ℕ
place_in (Ok n) = 0
place_in (Err r) = r.place

-- Line and column: a writer reads no text.
abbrev pub spot_in : Result ℕ Refusal → Spot
spot_in (Ok n) = nowhere
spot_in (Err r) = refused_spot r

-- k: a writer reads no literals of a text.
abbrev pub k_in : Result ℕ Refusal → ℕ
k_in (Ok n) = 0
k_in (Err r) = 0

-- How long a line an answer tells of, 0 if of none.
abbrev pub line_length : Result ℕ Refusal → ℕ
line_length (Ok n) = n
line_length (Err r) = 0

-- The answer, and the output after it: the line, then what it held.
pub record Writes (d : def.Written) (old new : List ℕ) (r : Result ℕ Refusal) : Type 0 where
  pub answer : r ≡ written_of d
  pub output : new ≡ laid (bytes_written d) old
