-- What ends a line. Where a CR that no LF follows does too, a text is read as if LF stood in its place.
use Rattle.std.specs.Prelude.{ℕ, ◌+◌, cond, not, ◌&&◌, List, [], ◌∷◌, ◌≡◌, eqb, get_or}
use Rattle.dimacs.specs.Bytes.{LF, CR}
use Rattle.dimacs.specs.declared.Ends.{Ends}
use Rattle.dimacs.specs.declared.Ends.TheVariants.{LineFeed, AlsoReturn}

-- A byte as it is read before the next one.
abbrev pub line_byte : Ends → ℕ → ℕ → ℕ
line_byte LineFeed b next = b
line_byte AlsoReturn b next = cond (eqb b CR && not (eqb next LF)) LF b

-- A text as it is read: as long, with LF for each CR that ends a line alone. Past its end stands 0, which is no LF.
unfoldable pub lined : Ends → List ℕ → List ℕ
lined rule [] = []
lined rule (b ∷ r) = line_byte rule b (get_or r 0 0) ∷ lined rule r

-- The byte that ends a line wherever it stands, beside LF, as the code asks what ends a line.
abbrev pub also_ends : Ends → ℕ
also_ends LineFeed = LF
also_ends AlsoReturn = CR

-- No CR stands alone.
abbrev pub NoLoneReturn : List ℕ → Type 0
NoLoneReturn s = (i : ℕ) → get_or s i 0 ≡ CR → get_or s (i + 1) 0 ≡ LF
