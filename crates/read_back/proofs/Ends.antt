-- The ends of a text, and the places where they begin. Assumes nothing.
use Prim.Native.Nat.{ℕ, ◌+◌, ◌-◌}
use mathlib.Core.Bool.{Bool}
use mathlib.Core.List.{List, [], ◌∷◌, ◌++◌, append_assoc}
use mathlib.Core.Path.{◌≡◌, refl, ap, sym, ◌∙◌}
use native.Mathlib.Omega.{arith}
use lib.ListN.{length, get_or, drop, length-append}
use lib.Seq.{drop_at, get_or-drop}
use Rattle.dimacs.specs.Tokens.{run, past}

-- The text s ends with r.
pub record Ends (s r : List ℕ) : Type 0 where
  front : List ℕ
  whole : front ++ r ≡ s

-- The place where the end r begins.
pub start : List ℕ → List ℕ → ℕ
start s r = length s - length r

pub ends_all : (s : List ℕ) → Ends s s
ends_all s = record { front = []; whole = refl }

pub ends_past : {s : List ℕ} (w r : List ℕ) → Ends s (w ++ r) → Ends s r
ends_past w r h = record { front = h.front ++ w; whole = append_assoc h.front w r ∙ h.whole }

-- Past the bytes w and one more.
pub ends_after : {s : List ℕ} (w : List ℕ) (b : ℕ) (r : List ℕ) → Ends s (w ++ (b ∷ r)) → Ends s r
ends_after w b r h = ends_past (b ∷ []) r (ends_past w (b ∷ r) h)

pub start_all : (s : List ℕ) → start s s ≡ 0
unfolding start
start_all s = omega arith

module _ {s r : List ℕ} (h : Ends s r) where
  front_length : length h.front ≡ start s r
  unfolding start
  front_length = omega (arith, length-append h.front r, ap length h.whole)

  pub start_fits : start s r + length r ≡ length s
  start_fits = omega (arith, front_length, length-append h.front r, ap length h.whole)

  pub drop_start : drop (start s r) s ≡ r
  drop_start = ap (drop (start s r)) (sym h.whole) ∙ drop_at h.front r (start s r) front_length

  -- A run of bytes goes on as it does at the beginning of r.
  pub past_start : (p : ℕ → Bool) → past p s (start s r) ≡ start s r + run p r
  unfolding past
  past_start p = rw drop_start

  -- The byte there is the first of r, or 0 if r is empty, as past the end.
  pub byte_start : get_or s (start s r) 0 ≡ get_or r 0 0
  byte_start = rw drop_start at (let e : start s r + 0 ≡ start s r = omega arith in rw e at (sym (get_or-drop (start s r) s 0 0)))

-- Past the bytes w.
pub start_past : {s : List ℕ} (w r : List ℕ) → Ends s (w ++ r) → start s (w ++ r) + length w ≡ start s r
start_past w r h = omega (arith, start_fits h, start_fits (ends_past w r h), length-append w r)
