-- Pieces of a line put with room for the rest. Assumes nothing.
use Prim.Native.Nat.{ℕ, ◌+◌, ◌≤◌}
use mathlib.Core.List.{List, [], ◌∷◌, ◌++◌}
use mathlib.Core.Path.{◌≡◌, refl, ap, sym, ◌∙◌}
use native.Mathlib.Numerals.{add-one}
use native.Mathlib.Omega.{arith}
use lib.Dec.{leb}
use lib.ListN.{length, set, drop, length-append}
use lib.Seq.{sets-eq}
use Rattle.dimacs.proofs.Tests.{chosen}
use Rattle.decimals.specs.Pieces.{PutAt, if_room}
use Rattle.decimals.proofs.Pieces.{puts_whole, put_nothing, put_then, put_keeps_length}

-- No piece is put, whatever room there is.
pub put_nothing_if_room : (at : ℕ) (old : List ℕ) → PutAt at (if_room at [] old) old old at
put_nothing_if_room at old = chosen (λ piece. PutAt at piece old old at) (leb (at + length {A = ℕ} []) (length old)) (λ t. put_nothing at old) (λ t. put_nothing at old)

-- A piece is put, and behind it there is room for the rest.
pub record PutBefore (rest : List ℕ) (at : ℕ) (piece old new : List ℕ) (r : ℕ) : Type 0 where
  pub put : PutAt at piece old new r
  pub room : r + length rest ≤ length new
  pub long : length new ≡ length old

pub put_before : {at : ℕ} {a old mid : List ℕ} {i : ℕ} → PutAt at a old mid i → (rest : List ℕ) → at + length (a ++ rest) ≤ length old → PutBefore rest at a old mid i
put_before {at} {a} {old} {mid} {i} h rest k =
    let l = put_keeps_length h in
    record { put = h; room = omega (arith, k, h.past, l, length-append a rest); long = l }

-- A piece that is put if it has room is put whole.
pub whole_before : (at : ℕ) (a rest old : List ℕ) → at + length (a ++ rest) ≤ length old → {mid : List ℕ} {i : ℕ} → PutAt at (if_room at a old) old mid i → PutBefore rest at a old mid i
whole_before at a rest old k h = put_before (puts_whole at a old (omega (arith, k, length-append a rest)) h) rest k

-- One piece more.
module _ {at : ℕ} {a old mid : List ℕ} {i : ℕ} (b rest : List ℕ) (h : PutBefore (b ++ rest) at a old mid i) where
  pub next_room : i + length b ≤ length mid
  next_room = omega (arith, h.room, length-append b rest)

  pub then_before : {new : List ℕ} {r : ℕ} → PutAt i b mid new r → PutBefore rest at (a ++ b) old new r
  then_before {r = r} k =
      let l = put_keeps_length k in
      record { put = put_then h.put k; room = omega (arith, h.room, k.past, l, length-append b rest); long = l ∙ h.long }

  pub then_whole : {new : List ℕ} {r : ℕ} → PutAt i (if_room i b mid) mid new r → PutBefore rest at (a ++ b) old new r
  then_whole k = then_before (puts_whole i b mid next_room k)

-- Bytes that are stored one by one.
pub put_one : (at a : ℕ) (old : List ℕ) → PutAt at (a ∷ []) old (set old at a) (at + 1)
put_one at a old = record { past = refl; output = refl }

pub put_two : (at a b : ℕ) (old : List ℕ) → PutAt at (a ∷ b ∷ []) old (set (set old at a) (at + 1) b) (at + 2)
put_two at a b old = record { past = refl; output = rw (add-one at) }

-- A piece that is copied to the output's front.
pub put_front : (piece old : List ℕ) → length piece ≤ length old → PutAt 0 piece old (piece ++ drop (length piece) old) (length piece)
put_front piece old h =
    let k : 0 + length piece ≡ length piece = omega arith in
    record { past = omega arith; output = sym (sets-eq piece old 0 (omega arith) ∙ ap (λ n. piece ++ drop n old) k) }
