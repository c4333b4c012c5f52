-- A piece laid into a lent page.
use Rattle.std.specs.Prelude.{ℕ, ◌-◌, ◌≡◌, List, length, take}
use Rattle.decimals.specs.Pieces.{PutAt}
use Rattle.pages.specs.declared.Page.{Page}

-- As much of a piece as the page has room for from the place on.
abbrev pub fitting : ℕ → List ℕ → List ℕ → List ℕ
fitting at piece page = take (length page - at) piece

-- The piece stands in the page from the place on, cut off where the page ends; the page is else as it was, and the place past the piece is answered.
pub record Lays (at : ℕ) (piece old new : List ℕ) (r : ℕ) : Type 0 where
  pub puts : PutAt at (fitting at piece old) old new r

-- A piece is laid where the page goes on, which is the one that was lent and then goes on past the piece.
pub record Laid (piece : List ℕ) (old new : Page) : Type 0 where
  pub same_page : new.bytes.ghost_name ≡ old.bytes.ghost_name
  pub lays : Lays old.at piece old.bytes.now new.bytes.now new.at
