-- Numbers that no byte holds name nothing, as the largest byte does. Assumes nothing.
use Prim.Native.Nat.{ℕ, ◌<◌, min}
use mathlib.Core.Path.{◌≡◌, sym, ap, ◌∙◌}
use native.Mathlib.Omega.{arith}
use lib.Dec.{ltb, eqb}
use borrow.Author.Tests.{ltb-true, ltb-false, ne_eqb}
use Rattle.dimacs.specs.Names.{kind_in, kind_of}
use Rattle.dimacs.proofs.Tests.{tested}

-- A number brought down to a byte is k if it was k, for each k below the largest byte.
same_name : (n k : ℕ) → k < 255 → eqb (min n 255) k ≡ eqb n k
same_name n k h =
    tested (ltb n 255)
    (λ t. let b = ltb-true n 255 t in ap (λ x. eqb x k) (omega arith))
    (λ t. let b = ltb-false n 255 t in ne_eqb (min n 255) k (λ e. omega arith) ∙ sym (ne_eqb n k (λ e. omega arith)))

mode_narrowed : (f m : ℕ) → kind_of f (min m 255) ≡ kind_of f m
unfolding kind_of
mode_narrowed f m = rw (same_name m 0 (omega arith), same_name m 1 (omega arith), same_name m 2 (omega arith), same_name m 3 (omega arith))

format_narrowed : (f m : ℕ) → kind_of (min f 255) m ≡ kind_of f m
unfolding kind_of kind_in
format_narrowed f m = rw (same_name f 0 (omega arith), same_name f 1 (omega arith), same_name f 2 (omega arith), same_name f 3 (omega arith), same_name f 4 (omega arith))

-- What two numbers name, once they are brought down to bytes.
pub named : (f m : ℕ) {f' m' : ℕ} → f' ≡ min f 255 → m' ≡ min m 255 → kind_of f' m' ≡ kind_of f m
named f m {f'} {m'} ef em = rw (ef, em) (mode_narrowed (min f 255) m ∙ format_narrowed f m)
