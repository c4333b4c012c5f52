-- Words, byte by byte and case by case. Assumes nothing.
use Prim.Native.Nat.{ℕ, ◌+◌, ◌≤◌, ◌<◌}
use mathlib.Core.Bool.{Bool, true, false}
use mathlib.Core.List.{List, []}
use mathlib.Core.Path.{◌≡◌, sym}
use native.Mathlib.Omega.{arith}
use borrow.Author.Tests.{eq-eqb, ne_eqb, lt-leb}
use lib.ListN.{length, get_or, drop, drop_of_length-le}
use lib.Seq.{drop-cons}
use Rattle.dimacs.specs.Bytes.{is_stop}
use Rattle.dimacs.specs.Tokens.{begins, blanks, fixed, word_ends, word}

pub word_ends_at : (s : List ℕ) (at : ℕ) (t : Bool) → at < length s → is_stop (get_or s at 0) ≡ t → word_ends s at ≡ t
unfolding word_ends
word_ends_at s at t h e = rw (lt-leb (length s) at h) e

-- What a comparison of w with the text asks, at the k-th byte of w and the i-th of the text.
module _ (w s : List ℕ) (k i : ℕ) where
  pub begins_differs : k < length w → i < length s → (get_or s i 0 ≡ get_or w k 0 → ⊥) → begins (drop k w) (drop i s) ≡ false
  unfolding begins
  begins_differs h l n = rw (drop-cons w k 0 h, drop-cons s i 0 l, ne_eqb (get_or w k 0) (get_or s i 0) (λ e. n (sym e)))

  pub begins_short : k < length w → length s ≤ i → begins (drop k w) (drop i s) ≡ false
  unfolding begins
  begins_short h l = rw (drop-cons w k 0 h, drop_of_length-le s l)

  pub begins_all : length w ≤ k → begins (drop k w) (drop i s) ≡ true
  unfolding begins
  begins_all h = rw (drop_of_length-le w h)

-- A word of no bytes does not stand.
pub no_word : (s : List ℕ) (at : ℕ) → word s [] at ≡ at
unfolding word fixed begins
no_word s at = rw (eq-eqb (at + 0) at (omega arith))

module _ (w s : List ℕ) (at : ℕ) where
  pub fixed_no : begins w (drop at s) ≡ false → fixed s w at ≡ at
  unfolding fixed
  fixed_no h = rw h

  pub fixed_is : begins w (drop at s) ≡ true → fixed s w at ≡ at + length w
  unfolding fixed
  fixed_is h = rw h

  -- By a place e that a call found.
  module _ (e : ℕ) (is : e ≡ fixed s w at) where
    pub word_none : e ≡ at → word s w at ≡ at
    unfolding word
    word_none h = rw (sym is, eq-eqb e at h)

    pub word_is : (e ≡ at → ⊥) → word_ends s e ≡ true → word s w at ≡ blanks s e
    unfolding word
    word_is h k = rw (sym is, ne_eqb e at h, k)

    pub word_goes_on : (e ≡ at → ⊥) → word_ends s e ≡ false → word s w at ≡ at
    unfolding word
    word_goes_on h k = rw (sym is, ne_eqb e at h, k)
