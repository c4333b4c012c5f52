-- A piece is put where there is room for it, and pieces one after the other. Assumes nothing.
use Prim.Native.Nat.{ℕ, suc, ◌+◌, ◌-◌, ◌≤◌, ◌<◌}
use mathlib.Core.List.{List, [], ◌∷◌, ◌++◌}
use mathlib.Core.Path.{◌≡◌, refl, ap, sym, ◌∙◌}
use native.Mathlib.Numerals.{add-one}
use native.Mathlib.Omega.{arith}
use borrow.Author.Tests.{ltb-true, ltb-false, lt-ltb, le-ltb, le-leb, lt-leb}
use lib.Dec.{ltb}
use lib.ListN.{length, set, length-append}
use lib.Seq.{sets, set-set, length-sets}
use Rattle.dimacs.proofs.Tests.{tested}
use Rattle.decimals.specs.Pieces.{PutAt, if_room}

-- Bytes are more than the room from a place on exactly if they would end past the output.
pub room_tested : (long at many : ℕ) {room : ℕ} → room ≡ long - at → 1 ≤ many → ltb room many ≡ ltb long (at + many)
room_tested long at many {room} e h =
    tested (ltb room many)
    (λ t. t ∙ sym (lt-ltb long (at + many) (omega (arith, ltb-true room many t))))
    (λ t. t ∙ sym (le-ltb long (at + many) (omega (arith, ltb-false room many t))))

module _ (at : ℕ) (piece old : List ℕ) where
  whole : at + length piece ≤ length old → if_room at piece old ≡ piece
  whole h = rw (le-leb (at + length piece) (length old) h)

  -- Where there is room the whole piece is put, and where a piece is put with room, it is whole.
  pub room_puts : at + length piece ≤ length old → {new : List ℕ} {r : ℕ} → PutAt at piece old new r → PutAt at (if_room at piece old) old new r
  room_puts h p = rw (whole h) p

  pub puts_whole : at + length piece ≤ length old → {new : List ℕ} {r : ℕ} → PutAt at (if_room at piece old) old new r → PutAt at piece old new r
  puts_whole h p = rw (whole h) at p

  pub no_room_puts_none : length old < at + length piece → PutAt at (if_room at piece old) old old at
  no_room_puts_none h = rw (lt-leb (at + length piece) (length old) h) (record { past = omega arith; output = refl })

-- A byte, and a piece behind it.
pub put_after : {at byte : ℕ} {piece old new : List ℕ} {r : ℕ} → PutAt (at + 1) piece (set old at byte) new r → PutAt at (byte ∷ piece) old new r
put_after {at} {byte} {piece} {old} p = record { past = omega (arith, p.past); output = p.output ∙ ap (λ k. sets (set old at byte) k piece) (add-one at) }

-- A piece over a byte.
pub put_over : {at : ℕ} (byte : ℕ) (piece : List ℕ) {old new : List ℕ} {r : ℕ} → 1 ≤ length piece → PutAt at piece (set old at byte) new r → PutAt at piece old new r
put_over byte [] h p = absurd (omega arith)
put_over {at} byte (x ∷ so) {old} h p = record { past = p.past; output = p.output ∙ ap (λ l. sets l (suc at) so) (set-set old at byte x) }

-- Two answers that the contract permits are equal, and leave the same output.
pub one_piece : {at : ℕ} {piece old n₁ n₂ : List ℕ} {r₁ r₂ : ℕ} → PutAt at piece old n₁ r₁ → PutAt at piece old n₂ r₂ → (r₁ ≡ r₂) × (n₁ ≡ n₂)
one_piece a b = (a.past ∙ sym b.past, a.output ∙ sym b.output)

pub sets-append : {A : Type 0} (a b l : List A) (at : ℕ) → sets l at (a ++ b) ≡ sets (sets l at a) (at + length a) b
sets-append [] b l at = ap (λ k. sets l k b) (omega arith)
sets-append (x ∷ a) b l at = sets-append a b (set l at x) (suc at) ∙ ap (λ k. sets (sets (set l at x) (suc at) a) k b) (omega arith)

-- No piece is put.
pub put_nothing : (at : ℕ) (old : List ℕ) → PutAt at [] old old at
put_nothing at old = record { past = omega arith; output = refl }

-- A piece, and another from where it ends.
pub put_then : {at : ℕ} {a b old mid new : List ℕ} {i r : ℕ} → PutAt at a old mid i → PutAt i b mid new r → PutAt at (a ++ b) old new r
put_then {at} {a} {b} {old} {mid} {new} {i} {r} h k =
    record {
      past = omega (arith, h.past, k.past, length-append a b);
      output = k.output ∙ rw (h.output, h.past) (sym (sets-append a b old at));
    }

pub put_keeps_length : {at : ℕ} {a old new : List ℕ} {r : ℕ} → PutAt at a old new r → length new ≡ length old
put_keeps_length {at} {a} {old} h = ap length h.output ∙ length-sets old at a
