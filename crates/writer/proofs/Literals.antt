-- Literals put one after the other. Assumes nothing.
use Prim.Native.Nat.{ℕ, ◌+◌, ◌≤◌, ◌<◌}
use mathlib.Core.List.{List}
use mathlib.Core.Path.{◌≡◌, ap}
use native.Mathlib.Omega.{arith}
use lib.IntN.{ℤ, pos}
use lib.ListN.{length, get_or, take}
use Rattle.dimacs.specs.Writing.{item, items}
use Rattle.decimals.specs.Pieces.{PutAt}
use Rattle.decimals.proofs.Pieces.{put_keeps_length, put_nothing, put_then}
use Rattle.measures.proofs.Literals.{items_next, items_some}
use Rattle.writer.proofs.Pieces.{put_before}

-- The first literals are put.
pub record Listed (at : ℕ) (lits : List ℤ) (old out : List ℕ) (place i : ℕ) : Type 0 where
  pub puts : PutAt at (items (take i lits)) old out place

pub listed_none : (at : ℕ) (lits : List ℤ) (old : List ℕ) → Listed at lits old old at 0
unfolding items
listed_none at lits old = record { puts = put_nothing at old }

module _ {at : ℕ} {lits : List ℤ} {old out : List ℕ} {place i : ℕ} (h : Listed at lits old out place i) where
  pub listed_long : length out ≡ length old
  listed_long = put_keeps_length h.puts

  pub listed_room : i < length lits → at + length (items lits) ≤ length old → place + length (item (get_or lits i (pos 0))) ≤ length out
  listed_room l k =
      let x = get_or lits i (pos 0) in
      (put_before h.puts (item x) (omega (arith, k, items_some lits (i + 1), ap length (items_next lits i l)))).room

  pub listed_more : {new : List ℕ} {r : ℕ} → i < length lits → PutAt place (item (get_or lits i (pos 0))) out new r → Listed at lits old new r (i + 1)
  listed_more l k = record { puts = rw (items_next lits i l) (put_then h.puts k) }
