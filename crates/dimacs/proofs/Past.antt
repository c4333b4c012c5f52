-- Runs of elements that pass a test: where the one at i passes, the run from i is one longer than the run from i + 1, and else it is empty.
-- So `past p s i`, which every loop over bytes computes, is `past p s (i + 1)` where the byte at i passes the test, and else i. Assumes nothing.
use Prim.Native.Nat.{ℕ, suc, ◌+◌, ◌≤◌, ◌<◌}
use mathlib.Core.Bool.{Bool, true, false}
use mathlib.Core.List.{List}
use mathlib.Core.Path.{◌≡◌}
use native.Mathlib.Numerals.{add-one}
use native.Mathlib.Omega.{arith}
use lib.ListN.{length, get_or, drop, drop_of_length-le}
use lib.Seq.{drop-cons}
use Rattle.dimacs.specs.Tokens.{run, past}

module _ {A : Type 0} (p : A → Bool) (l : List A) (d : A) (i : ℕ) where
  pub run_more : i < length l → p (get_or l i d) ≡ true → run p (drop i l) ≡ suc (run p (drop (i + 1) l))
  unfolding run
  run_more h e = rw (add-one, drop-cons l i d h, e)

  pub run_stop : i < length l → p (get_or l i d) ≡ false → run p (drop i l) ≡ 0
  unfolding run
  run_stop h e = rw (drop-cons l i d h, e)

  pub run_end : length l ≤ i → run p (drop i l) ≡ 0
  unfolding run
  run_end h = rw (drop_of_length-le l h)

module _ (p : ℕ → Bool) (s : List ℕ) (i : ℕ) where
  pub past_more : i < length s → p (get_or s i 0) ≡ true → past p s (i + 1) ≡ past p s i
  unfolding past
  past_more h e = omega (arith, run_more p s 0 i h e)

  pub past_stop : i < length s → p (get_or s i 0) ≡ false → past p s i ≡ i
  unfolding past
  past_stop h e = omega (arith, run_stop p s 0 i h e)

  pub past_end : length s ≤ i → past p s i ≡ i
  unfolding past
  past_end h = omega (arith, run_end p s 0 i h)
