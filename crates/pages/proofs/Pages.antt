-- Pieces laid into a page one after the other. Assumes nothing.
use Prim.Native.Nat.{ℕ, zero, suc, ◌+◌, ◌-◌, ◌≤◌, ◌<◌}
use mathlib.Core.List.{List, [], ◌∷◌, ◌++◌}
use Rattle.std.specs.List.{flat_map}
use mathlib.Core.Path.{◌≡◌, ap, sym, ◌∙◌}
use native.Mathlib.Numerals.{add-one}
use native.Mathlib.Omega.{arith}
use lib.ListN.{length, get_or, take, length-take}
use lib.Seq.{take-suc, take-nil, take_at, sets-eq, length-take-le}
use Rattle.std.proofs.lemmas.List.{flat_map_more}
use Rattle.decimals.specs.Pieces.{PutAt, if_room}
use Rattle.decimals.proofs.Pieces.{one_piece, put_nothing, put_then, put_keeps_length, puts_whole}
use Rattle.pages.specs.Pages.{Lays, Laid}
use Rattle.pages.specs.declared.Page.{Page}

-- So many of two lists are so many of the first, and what is left of them of the second.
take-append : {A : Type 0} (n : ℕ) (p q : List A) → take n (p ++ q) ≡ take n p ++ take (n - length p) q
take-append zero p q = let none : 0 ≡ 0 - length p = omega arith in ap (λ m. take m q) none
take-append (suc n) [] q = let all : suc n ≡ suc n - 0 = omega arith in ap (λ m. take m q) all
take-append (suc n) (x ∷ p) q =
    let less : n - length p ≡ suc n - suc (length p) = omega arith in
    ap (λ r. x ∷ r) (take-append n p q ∙ ap (λ m. take n p ++ take m q) less)

-- A piece, and another from where it ends or is cut off: the two laid as one, whatever room there is.
pub lay_then : {at : ℕ} {p q old mid new : List ℕ} {i r : ℕ} → Lays at p old mid i → Lays i q mid new r → Lays at (p ++ q) old new r
lay_then {at} {p} {q} {old} {mid} {new} {i} {r} h k =
    let long = put_keeps_length h.puts in
    let left : length mid - i ≡ length old - at - length p = omega (arith, long, h.puts.past, length-take (length old - at) p) in
    record { puts = rw (take-append (length old - at) p q, sym left) (put_then h.puts k.puts) }

-- Two answers that the contract permits are equal, and leave the same page.
pub one_laying : {at : ℕ} {p old n₁ n₂ : List ℕ} {r₁ r₂ : ℕ} → Lays at p old n₁ r₁ → Lays at p old n₂ r₂ → (r₁ ≡ r₂) × (n₁ ≡ n₂)
one_laying a b = one_piece a.puts b.puts

-- So are two pages that the contract permits: they go on at one place, hold the same bytes, and are the page that was lent.
pub one_laid : {p : List ℕ} {old a b : Page} → Laid p old a → Laid p old b → (a.at ≡ b.at) × (a.bytes.now ≡ b.bytes.now) × (a.bytes.ghost_name ≡ b.bytes.ghost_name)
one_laid h k = let same = one_laying h.lays k.lays in (same.0, same.1, h.same_page ∙ sym k.same_page)

pub lay_nothing : (at : ℕ) (old : List ℕ) → Lays at [] old old at
lay_nothing at old = record { puts = rw (take-nil (length old - at)) (put_nothing at old) }

-- A piece stands at the front of a buffer, and its length is told.
pub record Stands (piece buffer : List ℕ) (long : ℕ) : Type 0 where
  pub within : long ≤ length buffer
  pub told : long ≡ length (take long buffer)
  pub part : take long buffer ≡ piece

-- So does one that was put there and has room.
put_stands : {piece old new : List ℕ} {r : ℕ} → PutAt 0 piece old new r → length piece ≤ length old → Stands piece new r
put_stands {piece} {old} {new} {r} p h =
    let l = put_keeps_length p in
    let inside : r ≤ length new = omega (arith, l, p.past) in
    record {
      within = inside;
      told = sym (length-take-le r new inside);
      part = rw (p.output, p.past, sets-eq piece old 0 (omega arith)) (take_at piece _ (0 + length piece) (omega arith));
    }

pub whole_stands : (piece : List ℕ) {old new : List ℕ} {r : ℕ} → PutAt 0 (if_room 0 piece old) old new r → length piece ≤ length old → Stands piece new r
whole_stands piece {old} p h = put_stands (puts_whole 0 piece old (omega arith) p) h

-- So does what is laid from a page's front: as much of the piece as the page has room for.
pub laid_stands : {piece old new : List ℕ} {r : ℕ} → Lays 0 piece old new r → Stands (take (length old) piece) new r
laid_stands {piece} {old} h =
    let all : length old - 0 ≡ length old = omega arith in
    put_stands (rw all at h.puts) (omega (arith, length-take (length old) piece))

-- One piece laid, and then another.
pub laid_then : {p q : List ℕ} {old mid new : Page} → Laid p old mid → Laid q mid new → Laid (p ++ q) old new
laid_then h k = record { same_page = k.same_page ∙ h.same_page; lays = lay_then h.lays k.lays }

-- A page goes on at its place, whatever way that is told.
pub laid_at : {p : List ℕ} {old a b : Page} → b.bytes ≡ a.bytes → b.at ≡ a.at → Laid p old a → Laid p old b
laid_at e i h = record { same_page = ap (λ m. m.ghost_name) e ∙ h.same_page; lays = rw (e, i) h.lays }

-- The pieces of so many elements of a list, and then that of the next.
pub laid_next : {A : Type 0} (f : A → List ℕ) (l : List A) {i : ℕ} (d : A) {old mid new : Page} → i < length l →
    Laid (flat_map f (take i l)) old mid → Laid (f (get_or l i d)) mid new → Laid (flat_map f (take (i + 1) l)) old new
laid_next f l {i} d h a b = rw (add-one, take-suc l i d h, ← flat_map_more f [] (take i l) (get_or l i d)) (laid_then a b)
