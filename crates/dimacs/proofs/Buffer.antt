-- The lent buffer while literals are added: those read so far stand at its front, and the rest is as it came. Assumes nothing.
use Prim.Native.Nat.{ℕ, ◌+◌, ◌-◌, ◌≤◌, ◌<◌}
use mathlib.Core.List.{List}
use mathlib.Core.Path.{◌≡◌, refl, ap, sym, ◌∙◌}
use native.Mathlib.Omega.{arith}
use lib.ListN.{length, take, drop, set, length-set, length-append, length-drop, take-append-drop}
use lib.Seq.{length-take-le, drop-set-lt, drop-drop, drop_at, take_at}
use lib.IntN.{ℤ}
use Rattle.dimacs.specs.Buffers.{laid}

pub record Kept (old lits : List ℤ) (count : ℕ) : Type 0 where
  pub fits : count ≤ length lits
  pub same : length lits ≡ length old
  pub rest : drop count lits ≡ drop count old

-- A buffer as it came holds any of its literals.
pub kept_unchanged : {old : List ℤ} {count : ℕ} → count ≤ length old → Kept old old count
kept_unchanged h = record { fits = h; same = refl; rest = refl }

module _ {old lits : List ℤ} {count : ℕ} (h : Kept old lits count) where
  pub kept_count : length (take count lits) ≡ count
  kept_count = length-take-le count lits h.fits

  pub kept_in_place : lits ≡ laid (take count lits) old
  kept_in_place = sym (take-append-drop count lits) ∙ rw (kept_count, h.rest)

  pub kept_full : length lits ≤ count → length old ≤ length (take count lits)
  kept_full k = omega (arith, kept_count, h.same)

  pub kept_room : count < length lits → length (take count lits) < length old
  kept_room k = omega (arith, kept_count, h.same)

  -- One literal more.
  pub kept_put : (v : ℤ) → count < length lits → Kept old (set lits count v) (count + 1)
  kept_put v k =
      record {
        fits = simp length-set (omega arith);
        same = length-set lits count v ∙ h.same;
        rest = drop-set-lt (count + 1) lits count v (omega arith) ∙ sym (drop-drop 1 count lits) ∙ ap (drop 1) h.rest ∙ drop-drop 1 count old;
      }

  -- Past as many literals or more, the buffer is as it came.
  pub kept_beyond : (n : ℕ) → count ≤ n → drop n lits ≡ drop n old
  kept_beyond n k =
      let e : count + (n - count) ≡ n = omega arith in
      rw e at (sym (drop-drop (n - count) count lits) ∙ ap (drop (n - count)) h.rest ∙ drop-drop (n - count) count old)

  -- A callee that adds literals leaves those at the front of the buffer, and the rest as it came.
  pub kept_adds : (so : List ℤ) → count ≤ length so → length so ≤ length lits → Kept old (laid so lits) (length so)
  kept_adds so k l =
      record {
        fits = simp length-append (omega arith);
        same = length-append so (drop (length so) lits) ∙ omega (arith, length-drop (length so) lits, h.same);
        rest = drop_at so (drop (length so) lits) (length so) refl ∙ kept_beyond (length so) k;
      }

pub laid_first : (so lits : List ℤ) → take (length so) (laid so lits) ≡ so
laid_first so lits = take_at so (drop (length so) lits) (length so) refl
