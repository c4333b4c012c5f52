-- A piece of a line put into a lent output.
use Rattle.std.specs.Prelude.{ℕ, ◌+◌, cond, List, [], ◌≡◌, leb, length}
use Rattle.std.proofs.lemmas.List.Edits.{sets}

-- The place past the piece is answered, and the output holds the piece at its place and is else as it was.
pub record PutAt (at : ℕ) (piece old new : List ℕ) (r : ℕ) : Type 0 where
  pub past : r ≡ at + length piece
  pub output : new ≡ sets old at piece

-- The piece, or nothing if it would end past the output.
abbrev pub if_room : ℕ → List ℕ → List ℕ → List ℕ
if_room at piece out = cond (leb (at + length piece) (length out)) piece []
