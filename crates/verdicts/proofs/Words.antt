-- Words that stand at a place, and words that then do not. Assumes nothing.
use Prim.Native.Nat.{ℕ, ◌+◌, ◌<◌}
use mathlib.Core.Bool.{true, false}
use mathlib.Core.List.{List, [], ◌∷◌, ◌++◌}
use mathlib.Core.Path.{◌≡◌, refl, sym, ◌∙◌}
use native.Mathlib.Omega.{arith}
use borrow.Author.Tests.{ne_eqb, eqb-true, eqb-false, leb-true, leb-false}
use lib.Dec.{leb, eqb}
use lib.ListN.{length, get_or, drop}
use Rattle.dimacs.specs.Tokens.{begins, unmoved, fixed}
use Rattle.dimacs.proofs.Tests.{tested, unlike, both_left, both_right}
use Rattle.dimacs.proofs.Words.{begins_short, fixed_no, fixed_is}
use Rattle.dimacs.proofs.WordEnds.{begins-cons}

-- Where a word stands, none stands that begins with another byte.
pub other_word : (a b : ℕ) (u w r : List ℕ) → (a ≡ b → ⊥) → begins (a ∷ u) r ≡ true → begins (b ∷ w) r ≡ false
unfolding begins
other_word a b u w [] n h = refl
other_word a b u w (x ∷ r) n h = rw (ne_eqb b x (λ e. n (eqb-true a x (both_left (eqb a x) (begins u r) h) ∙ sym e)))

-- Nor does one that differs after a common beginning.
pub words_differ : (u : List ℕ) (a b : ℕ) (v w r : List ℕ) → (a ≡ b → ⊥) → begins (u ++ (a ∷ v)) r ≡ true → begins (u ++ (b ∷ w)) r ≡ true → ⊥
unfolding begins
words_differ [] a b v w r n h k = unlike (sym k ∙ other_word a b v w r n h)
words_differ (x ∷ u) a b v w [] n h k = unlike (sym h)
words_differ (x ∷ u) a b v w (y ∷ r) n h k =
    words_differ u a b v w r n (both_right (eqb x y) (begins (u ++ (a ∷ v)) r) h) (both_right (eqb x y) (begins (u ++ (b ∷ w)) r) k)

-- Of two words side by side the first stands.
pub begins_first : (u w r : List ℕ) → begins (u ++ w) r ≡ true → begins u r ≡ true
unfolding begins
begins_first [] w r h = refl
begins_first (x ∷ u) w [] h = h
begins_first (x ∷ u) w (y ∷ r) h = rw (both_left (eqb x y) (begins (u ++ w) r) h) (begins_first u w r (both_right (eqb x y) (begins (u ++ w) r) h))

-- Two words side by side are one.
pub begins_both : (u w s : List ℕ) (at : ℕ) → begins u (drop at s) ≡ true → begins w (drop (at + length u) s) ≡ true → begins (u ++ w) (drop at s) ≡ true
begins_both [] w s at h k = let i : at + 0 ≡ at = omega arith in rw i at k
begins_both (b ∷ u) w s at h k =
    tested (leb (length s) at)
    (λ e. unlike (sym h ∙ begins_short (b ∷ u) s 0 at (omega arith) (leb-true (length s) at e)))
    (λ e.
    let l = leb-false (length s) at e in
    let q = sym (begins-cons b u s at l) ∙ h in
    let i : at + length (b ∷ u) ≡ at + 1 + length u = omega arith in
    begins-cons b (u ++ w) s at l
    ∙ rw (both_left (eqb b (get_or s at 0)) (begins u (drop (at + 1) s)) q)
    (begins_both u w s (at + 1) (both_right (eqb b (get_or s at 0)) (begins u (drop (at + 1) s)) q) (rw i at k)))

-- A word that was found stands.
pub fixed_stands : (s w : List ℕ) (at : ℕ) → unmoved at (fixed s w at) ≡ false → begins w (drop at s) ≡ true
fixed_stands s w at h = tested (begins w (drop at s)) (λ e. e) (λ e. absurd (eqb-false (fixed s w at) at h (fixed_no w s at e)))

-- One that was not does not.
pub fixed_stands_not : (s w : List ℕ) (at : ℕ) → 0 < length w → unmoved at (fixed s w at) ≡ true → begins w (drop at s) ≡ false
fixed_stands_not s w at l h = tested (begins w (drop at s)) (λ e. absurd (omega (arith, fixed_is w s at e, eqb-true (fixed s w at) at h))) (λ e. e)

-- Where a word stands the text has not ended.
pub stands_within : (s w : List ℕ) (at : ℕ) → 0 < length w → begins w (drop at s) ≡ true → at < length s
stands_within s w at l h = tested (leb (length s) at) (λ e. unlike (sym h ∙ begins_short w s 0 at l (leb-true (length s) at e))) (λ e. leb-false (length s) at e)
