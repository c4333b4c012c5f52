-- Line and column of a place: how they go on from byte to byte, what the line counts, that both are at least 1, and that they give the place back. Assumes nothing.
use Prim.Native.Nat.{ℕ, zero, suc, ◌+◌, ◌-◌, ◌≤◌, ◌<◌}
use mathlib.Core.Bool.{true, false, cond}
use mathlib.Core.List.{List, [], ◌∷◌, ◌++◌}
use mathlib.Core.Path.{◌≡◌, refl, ap, sym, ◌∙◌, subst}
use native.Mathlib.Numerals.{add-one}
use native.Mathlib.Omega.{arith}
use lib.Dec.{eqb}
use lib.ListN.{length, get_or, take, length-take}
use lib.Seq.{take_all, take-suc}
use Rattle.dimacs.specs.Bytes.{LF}
use Rattle.dimacs.specs.Lined.{lined}
use Rattle.dimacs.specs.Spots.{line_and_column, byte_on, bytes_on, spot_of}
use Rattle.dimacs.specs.declared.Ends.{Ends}
use Rattle.dimacs.specs.declared.Spot.{Spot}
use Rattle.dimacs.proofs.Tests.{tested, chosen}
use Rattle.dimacs.proofs.Lined.{lined-length, ended_lined, inside_lined}

-- How many LF there are.
unfoldable pub count_lf : List ℕ → ℕ
count_lf [] = 0
count_lf (b ∷ r) = cond (eqb b LF) 1 0 + count_lf r

-- How many bytes there are up to and with so many LF.
unfoldable pub through_lf : List ℕ → ℕ → ℕ
through_lf [] n = 0
through_lf (b ∷ r) zero = 0
through_lf (b ∷ r) (suc n) = suc (through_lf r (cond (eqb b LF) n (suc n)))

-- Where a line begins: past the LF that ends the line before it.
abbrev pub line_start : List ℕ → ℕ → ℕ
line_start s line = through_lf s (line - 1)

bytes_on_on : (s t : List ℕ) (p : Spot) → bytes_on (s ++ t) p ≡ bytes_on t (bytes_on s p)
unfolding bytes_on
bytes_on_on [] t p = refl
bytes_on_on (b ∷ r) t p = bytes_on_on r t (byte_on b p)

bytes_on_line : (s : List ℕ) (p : Spot) → (bytes_on s p).line ≡ p.line + count_lf s
unfolding bytes_on count_lf
bytes_on_line [] p = omega arith
bytes_on_line (b ∷ r) p =
    bytes_on_line r (byte_on b p)
    ∙ tested (eqb b LF) (λ e. rw e (omega arith)) (λ e. rw e (omega arith))

-- So many bytes on, the line is no earlier, and line and column together are at most so many more.
record Further (n : ℕ) (p q : Spot) : Type 0 where
  line : p.line ≤ q.line
  column : 1 ≤ q.column
  both : q.line + q.column ≤ p.line + p.column + n

bytes_on_further : (s : List ℕ) (p : Spot) → 1 ≤ p.column → Further (length s) p (bytes_on s p)
unfolding bytes_on
bytes_on_further [] p h = record { line = omega arith; column = h; both = omega arith }
bytes_on_further (b ∷ r) p h =
    chosen (λ q. Further (suc (length r)) p (bytes_on r q)) (eqb b LF)
    (λ _.
    let f = bytes_on_further r (line_and_column (p.line + 1) 1) (omega arith) in
    record { line = omega (arith, f.line); column = f.column; both = omega (arith, f.both) })
    (λ _.
    let f = bytes_on_further r (line_and_column p.line (p.column + 1)) (omega arith) in
    record { line = f.line; column = f.column; both = omega (arith, f.both) })

module _ (s : List ℕ) (at : ℕ) where
  further : Further (length (take at s)) (line_and_column 1 1) (spot_of s at)
  further = bytes_on_further (take at s) (line_and_column 1 1) (omega arith)

  -- The line is one more than the LF before the place.
  pub line_counts : (spot_of s at).line ≡ 1 + count_lf (take at s)
  line_counts = bytes_on_line (take at s) (line_and_column 1 1)

  pub line_from_1 : 1 ≤ (spot_of s at).line
  line_from_1 = further.line

  pub column_from_1 : 1 ≤ (spot_of s at).column
  column_from_1 = further.column

  -- Both are at most one more than the place.
  pub spot_fits : ((spot_of s at).line ≤ at + 1) × ((spot_of s at).column ≤ at + 1)
  spot_fits = let f = further in (omega (arith, f.column, f.both, length-take at s), omega (arith, f.line, f.both, length-take at s))

  -- Line and column of the next place.
  pub spot_next : at < length s → spot_of s (at + 1) ≡ byte_on (get_or s at 0) (spot_of s at)
  unfolding bytes_on
  spot_next h = rw (add-one at, take-suc s at 0 h) (bytes_on_on (take at s) (get_or s at 0 ∷ []) (line_and_column 1 1))

  -- A place past the end stands where the end does.
  pub spot_past_end : length s ≤ at → spot_of s at ≡ spot_of s (length s)
  spot_past_end h = rw (take_all at s h, take_all (length s) s (omega arith))

through_none : (s : List ℕ) → through_lf s 0 ≡ 0
unfolding through_lf
through_none [] = refl
through_none (b ∷ r) = refl

-- Where a place stands, so many bytes on from another: on the same line, or on one that begins past so many LF.
data Onward (s : List ℕ) (at : ℕ) (p q : Spot) : Type 0 where
  same_line : q.line ≡ p.line → q.column ≡ p.column + at → Onward s at p q
  later_line : (n : ℕ) → q.line ≡ p.line + suc n → through_lf s (suc n) + q.column ≡ at + 1 → Onward s at p q

onward : (s : List ℕ) (at : ℕ) (p : Spot) → at ≤ length s → Onward s at p (bytes_on (take at s) p)
unfolding bytes_on through_lf
onward s zero p h = same_line refl (omega arith)
onward [] (suc k) p h = absurd (omega arith)
onward (b ∷ r) (suc k) p h =
    chosen (λ q. Onward (b ∷ r) (suc k) p (bytes_on (take k r) q)) (eqb b LF)
    (λ e. let q = line_and_column (p.line + 1) 1 in past_lf e (bytes_on (take k r) q) (onward r k q (omega arith)))
    (λ e. let q = line_and_column p.line (p.column + 1) in past_other e (bytes_on (take k r) q) (onward r k q (omega arith)))
  where
    past_lf : eqb b LF ≡ true → (q : Spot) → Onward r k (line_and_column (p.line + 1) 1) q → Onward (b ∷ r) (suc k) p q
    past_lf e q (same_line l c) = later_line 0 (omega arith) (rw e (omega (arith, through_none r)))
    past_lf e q (later_line n l c) = later_line (suc n) (omega arith) (rw e (omega arith))

    past_other : eqb b LF ≡ false → (q : Spot) → Onward r k (line_and_column p.line (p.column + 1)) q → Onward (b ∷ r) (suc k) p q
    past_other e q (same_line l c) = same_line l (omega arith)
    past_other e q (later_line n l c) = later_line n l (rw e (omega arith))

-- Line and column give the place back.
pub place_back : (s : List ℕ) (at : ℕ) → at ≤ length s → let p = spot_of s at in line_start s p.line + (p.column - 1) ≡ at
unfolding through_lf
place_back s at h = go (spot_of s at) (column_from_1 s at) (onward s at (line_and_column 1 1) h)
  where
    go : (q : Spot) → 1 ≤ q.column → Onward s at (line_and_column 1 1) q → line_start s q.line + (q.column - 1) ≡ at
    go q k (same_line l c) =
        let z : q.line - 1 ≡ 0 = omega arith in
        rw z (omega (arith, through_none s))
    go q k (later_line n l c) =
        let z : q.line - 1 ≡ suc n = omega arith in
        rw z (omega arith)

-- Line and column as the code has counted them up to a place, by what ends a line.
pub record Counted (rule : Ends) (s : List ℕ) (at line column : ℕ) : Type 0 where
  pub within : at ≤ length s
  pub so : spot_of (lined rule s) at ≡ line_and_column line column

module _ (rule : Ends) (s : List ℕ) where
  pub counted_start : Counted rule s 0 1 1
  unfolding bytes_on
  counted_start = record { within = omega arith; so = refl }

  pub counted_fits : {at line column : ℕ} → Counted rule s at line column → (line ≤ at + 1) × (column ≤ at + 1)
  counted_fits {at} c = subst (λ p. (p.line ≤ at + 1) × (p.column ≤ at + 1)) c.so (spot_fits (lined rule s) at)

  -- By whether a line ends with the byte at the place.
  module _ {at line column : ℕ} (c : Counted rule s at line column) (h : at < length s) where
    on : spot_of (lined rule s) (at + 1) ≡ byte_on (get_or (lined rule s) at 0) (line_and_column line column)
    on = spot_next (lined rule s) at (inside_lined rule s h) ∙ ap (byte_on (get_or (lined rule s) at 0)) c.so

    pub counted_line : true ≡ eqb (get_or (lined rule s) at 0) LF → Counted rule s (at + 1) (line + 1) 1
    counted_line e = record { within = omega arith; so = on ∙ rw (sym e) }

    pub counted_column : false ≡ eqb (get_or (lined rule s) at 0) LF → Counted rule s (at + 1) line (column + 1)
    counted_column e = record { within = omega arith; so = on ∙ rw (sym e) }

  -- The count has come to its place.
  pub counted_place : {at line column : ℕ} (place : ℕ) → Counted rule s at line column → at ≤ place → place ≤ at → spot_of (lined rule s) place ≡ line_and_column line column
  counted_place {at} place c h k = let e : place ≡ at = omega arith in ap (spot_of (lined rule s)) e ∙ c.so

  -- A place past the end of a text as it is read stands where the end does.
  pub spot_beyond : (place : ℕ) → length s ≤ place → spot_of (lined rule s) place ≡ spot_of (lined rule s) (length s)
  spot_beyond place h = spot_past_end (lined rule s) place (ended_lined rule s h) ∙ ap (spot_of (lined rule s)) (lined-length rule s)
