-- Whether a text begins with a word, byte by byte. Assumes nothing.
use Prim.Native.Nat.{ℕ, ◌+◌, ◌<◌}
use mathlib.Core.List.{List}
use mathlib.Core.Path.{◌≡◌, sym}
use native.Mathlib.Numerals.{add-one}
use borrow.Author.Tests.{eq-eqb}
use lib.ListN.{length, get_or, drop}
use lib.Seq.{drop-cons}
use Rattle.dimacs.specs.Tokens.{begins}

-- Where one byte of the word stands, the word stands from there if the rest of it does.
pub begins_more : (w s : List ℕ) (k i : ℕ) → k < length w → i < length s → get_or s i 0 ≡ get_or w k 0 → begins (drop (k + 1) w) (drop (i + 1) s) ≡ begins (drop k w) (drop i s)
unfolding begins
begins_more w s k i h l e = rw (add-one k, add-one i, drop-cons w k 0 h, drop-cons s i 0 l, eq-eqb (get_or w k 0) (get_or s i 0) (sym e))
