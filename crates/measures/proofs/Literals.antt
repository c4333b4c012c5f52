-- Literals one after the other, and the room that they take. Assumes nothing.
use Prim.Native.Nat.{ℕ, suc, ◌+◌, ◌-◌, ◌≤◌, ◌<◌}
use mathlib.Core.Bool.{Bool, cond}
use mathlib.Core.List.{List, [], ◌∷◌, ◌++◌, append_assoc, append-nil}
use mathlib.Core.Path.{◌≡◌, refl, ap, sym, ◌∙◌}
use native.Mathlib.Numerals.{add-one}
use native.Mathlib.Omega.{arith}
use lib.IntN.{ℤ, pos, negsuc, nat_abs}
use lib.ListN.{length, get_or, take, drop, drop_of_length-le, length-append, take-append-drop}
use lib.Seq.{take-suc, take_all}
use Rattle.dimacs.specs.Bytes.{bytes}
use Rattle.std.specs.List.{fold, prefix_len}
use Rattle.std.proofs.lemmas.List.{drop_more}
use Rattle.decimals.proofs.Digits.{digits_bounded}
use Rattle.dimacs.specs.Tokens.{run}
use Rattle.dimacs.specs.Writing.{signed_digits, item, items}

-- A run is the longest front that passes.
pub run_front : {A : Type 0} (p : A → Bool) (l : List A) → prefix_len p l ≡ run p l
unfolding run
run_front p [] = refl
run_front p (x ∷ l) = ap (λ n. cond (p x) n 0) (ap (λ n. 1 + n) (run_front p l) ∙ omega arith)

-- The literals are taken from the room one after the other.
pub items_taken : (room : ℕ) (lits : List ℤ) → fold (λ left l. left - length (item l)) room lits ≡ room - length (items lits)
unfolding items
items_taken room [] = omega arith
items_taken room (l ∷ lits) = let e = items_taken (room - length (item l)) lits in omega (arith, length-append (item l) (items lits))

-- What the literals from a place on leave of what is left is what all of them leave of the room.
pub record Leaves (room : ℕ) (lits : List ℤ) (left i : ℕ) : Type 0 where
  pub same : fold (λ left l. left - length (item l)) left (drop i lits) ≡ room - length (items lits)

module _ {room : ℕ} {lits : List ℤ} {left i : ℕ} (h : Leaves room lits left i) where
  pub leaves_all : length lits ≤ i → left ≡ room - length (items lits)
  leaves_all l = ap (fold (λ left l. left - length (item l)) left) (sym (drop_of_length-le lits l)) ∙ h.same

  module _ {long : ℕ} (l : i < length lits) (e : long ≡ length (item (get_or lits i (pos 0)))) where
    pub leaves_next : Leaves room lits (left - long) (i + 1)
    leaves_next = record { same = rw e (sym (ap (fold (λ left l. left - length (item l)) left) (drop_more lits i (pos 0) l)) ∙ h.same) }

    pub leaves_none : left < long → 0 ≡ room - length (items lits)
    leaves_none k = omega (arith, items_taken (left - long) (drop (i + 1) lits), leaves_next.same)

-- Literals, and then more.
items-append : (a b : List ℤ) → items (a ++ b) ≡ items a ++ items b
unfolding items
items-append [] b = refl
items-append (l ∷ a) b = ap (λ r. item l ++ r) (items-append a b) ∙ sym (append_assoc (item l) (items a) (items b))

items_one : (l : ℤ) → items (l ∷ []) ≡ item l
unfolding items
items_one l = append-nil (item l)

module _ (lits : List ℤ) (i : ℕ) where
  pub items_next : i < length lits → items (take (i + 1) lits) ≡ items (take i lits) ++ item (get_or lits i (pos 0))
  items_next h =
      let x = get_or lits i (pos 0) in
      rw (add-one, take-suc lits i (pos 0) h) (items-append (take i lits) (x ∷ []) ∙ ap (λ r. items (take i lits) ++ r) (items_one x))

  pub items_all : length lits ≤ i → items (take i lits) ≡ items lits
  items_all h = ap items (take_all i lits h)

  pub items_some : length (items (take i lits)) ≤ length (items lits)
  items_some =
      let e = ap length (ap items (sym (take-append-drop i lits)) ∙ items-append (take i lits) (drop i lits)) ∙ length-append (items (take i lits)) (items (drop i lits)) in
      omega (arith, e)

pub item_long : (l : ℤ) → length (item l) ≡ length (signed_digits l) + 1
item_long l = length-append (signed_digits l) (bytes " ")

-- A literal is not long, whatever it is.
pub signed_few : (l : ℤ) → length (signed_digits l) ≤ nat_abs l + 2
signed_few (pos n) = omega (arith, digits_bounded n)
signed_few (negsuc n) = omega (arith, digits_bounded (suc n))
