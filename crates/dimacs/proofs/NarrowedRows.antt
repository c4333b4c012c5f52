-- Numbers, rows and literals that are read under a limit and are within another are read so under that one. Assumes nothing.
use Prim.Native.Nat.{ℕ, zero, suc, ◌≤◌, min}
use mathlib.Core.Bool.{Bool, true, false}
use mathlib.Core.List.{List, [], ◌∷◌, ◌++◌}
use mathlib.Core.Path.{◌≡◌, refl}
use native.Mathlib.Omega.{arith}
use borrow.Author.Tests.{le-leb, leb-true, leb-false}
use lib.Dec.{leb, eqb}
use lib.ListN.{length}
use lib.IntN.{ℤ, nat_abs}
use Rattle.dimacs.specs.Loop.{Step}
use Rattle.dimacs.specs.Names.{ceiling}
use Rattle.dimacs.specs.Tokens.{unmoved, linebreaks, Number, none, found, with_sign, up_to_either_way, unsigned, minus, int_at}
use Rattle.dimacs.specs.Rows.{Row, ends, closes, stops, read_by, Reading, reads, on_int, next_int, row}
use Rattle.dimacs.specs.Clauses.{Literals, nothing, closed, stopped, on_row, next_row, literals_from, literals}
use Rattle.dimacs.specs.Leniency.{LiteralsWithin}
use Rattle.dimacs.specs.declared.Int.{Int}
use Rattle.dimacs.specs.declared.Int.TheVariants as int
use Rattle.dimacs.proofs.Tests.{tested, chosen}
use Rattle.dimacs.proofs.Loops.{Leads, Along, along}
use Rattle.dimacs.proofs.Rows.{row_kept, row_ends, row_closes, row_takes}
use Rattle.dimacs.proofs.Clauses.{literals_step, literals_kept}
use Rattle.dimacs.proofs.Literals.{closed_by}

within_front : (limit : ℕ) (so more : List ℤ) → LiteralsWithin limit (so ++ more) → LiteralsWithin limit so
within_front limit [] more h = tt
within_front limit (v ∷ so) more h = (h.0, within_front limit so more h.1)

within_last : (limit : ℕ) (so : List ℤ) (v : ℤ) → LiteralsWithin limit (so ++ (v ∷ [])) → nat_abs v ≤ limit
within_last limit [] v h = h.0
within_last limit (x ∷ so) v h = within_last limit so v h.1

pub sized : (positive : Bool) (n : ℕ) → nat_abs (with_sign positive n) ≡ n
sized true n = refl
sized false zero = refl
sized false (suc n) = refl

-- No number, a 0, or a literal within the limit.
abbrev IntWithin : ℕ → Int → Type 0
IntWithin limit int.Missing = Unit {0}
IntWithin limit (int.Zero e) = Unit {0}
IntWithin limit (int.Literal v e) = nat_abs v ≤ limit
IntWithin limit int.TooBig = ⊥

-- A row is not refused, and its literals are within the limit.
abbrev RowWithin : ℕ → Row → Type 0
RowWithin limit (ends e so) = LiteralsWithin limit so
RowWithin limit (closes e so) = LiteralsWithin limit so
RowWithin limit (stops r so) = ⊥

-- Literals close, and are within the limit.
abbrev pub ClosedWithin : ℕ → Literals → Type 0
ClosedWithin limit nothing = ⊥
ClosedWithin limit (closed so e) = LiteralsWithin limit so
ClosedWithin limit (stopped r so) = ⊥

-- So are the literals so far.
abbrev pub HeldWithin : ℕ → Reading → Type 0
HeldWithin limit r = LiteralsWithin limit r.so

module _ (s : List ℕ) (narrow wide room : ℕ) where
  int_narrowed : (at : ℕ) → IntWithin narrow (int_at s wide at) → int_at s narrow at ≡ int_at s wide at
  unfolding int_at
  int_narrowed at = go (unmoved at (minus s at)) (unsigned s (minus s at))
    where
      go : (positive : Bool) (x : Number) → IntWithin narrow (up_to_either_way wide positive x) → up_to_either_way narrow positive x ≡ up_to_either_way wide positive x
      go positive none h = refl
      go positive (found n e) h =
          tested (eqb n 0) (λ z. rw z refl)
          (λ z. tested (leb n (min wide ceiling))
          (λ y.
          let k : nat_abs (with_sign positive n) ≤ narrow = rw (z, y) at h in
          rw (z, y, le-leb n (min narrow ceiling) (omega (arith, k, sized positive n, leb-true n (min wide ceiling) y))) refl)
          (λ y. let k : ⊥ = rw (z, y) at h in absurd k))

  int_along : (r : Reading) → Along (HeldWithin narrow) (RowWithin narrow) (row s narrow room) r (next_int s wide room r)
  unfolding next_int
  int_along r = go (int_at s wide r.at) (int_narrowed r.at)
    where
      at : ℕ
      at = r.at

      so : List ℤ
      so = r.so

      On : Step Reading Row → Type 0
      On = Along (HeldWithin narrow) (RowWithin narrow) (row s narrow room) r

      go : (i : Int) → (IntWithin narrow i → int_at s narrow at ≡ i) → On (on_int s wide room i at so)
      go int.Missing k = λ h. (h, row_ends s narrow room at so (k tt))
      go (int.Zero n) k = λ h. (h, row_closes s narrow room at so (k tt))
      go (int.Literal v n) k =
          chosen On (leb room (length so)) (λ _ h. absurd h)
          (λ f h. (within_front narrow so (v ∷ []) h, row_takes s narrow room at so (k (within_last narrow so v h)) (leb-false room (length so) f)))
      go int.TooBig k = λ h. absurd h

  row_narrowed : (r : Reading) → RowWithin narrow (row s wide room r) → row s narrow room r ≡ row s wide room r
  row_narrowed = along (HeldWithin narrow) (RowWithin narrow) (row s narrow room) (next_int s wide room) (row s wide room) (row_kept s wide room) int_along

  held_on : (from r : Reading) → (HeldWithin narrow r → HeldWithin narrow from)
      → Leads (λ x. HeldWithin narrow x → HeldWithin narrow from) (λ w. LiteralsWithin narrow (read_by w) → HeldWithin narrow from) (next_int s wide room r)
  unfolding next_int
  held_on from r h = go (int_at s wide r.at)
    where
      On : Step Reading Row → Type 0
      On = Leads (λ x. HeldWithin narrow x → HeldWithin narrow from) (λ w. LiteralsWithin narrow (read_by w) → HeldWithin narrow from)

      go : (i : Int) → On (on_int s wide room i r.at r.so)
      go int.Missing = h
      go (int.Zero n) = h
      go (int.Literal v n) = chosen On (leb room (length r.so)) (λ _. h) (λ _ k. h (within_front narrow r.so (v ∷ []) k))
      go int.TooBig = h

  -- The literals of a row begin with those before it.
  row_held : (r : Reading) → LiteralsWithin narrow (read_by (row s wide room r)) → HeldWithin narrow r
  row_held r =
      row_kept s wide room (λ x. HeldWithin narrow x → HeldWithin narrow r) (λ w. LiteralsWithin narrow (read_by w) → HeldWithin narrow r) (held_on r) r (λ h. h)

  row_along : (r : Reading) → Along (HeldWithin narrow) (ClosedWithin narrow) (literals_from s narrow room) r (next_row s wide room r)
  unfolding next_row
  row_along r = go (row s wide room r) (row_narrowed r) (row_held r)
    where
      On : Step Reading Literals → Type 0
      On = Along (HeldWithin narrow) (ClosedWithin narrow) (literals_from s narrow room) r

      go : (w : Row) → (RowWithin narrow w → row s narrow room r ≡ w) → (LiteralsWithin narrow (read_by w) → HeldWithin narrow r) → On (on_row s wide room (length r.so) w)
      go (closes e so) k l = λ h. (l h, closed_by s narrow room r (k h))
      go (stops x so) k l = λ h. absurd h
      go (ends e so) k l =
          chosen On (eqb (length so) 0) (λ _ h. absurd h)
          (λ z. chosen On (eqb (length so) (length r.so)) (λ _ h. absurd h)
          (λ y. chosen On (unmoved e (linebreaks s e)) (λ _ h. absurd h) (λ x h. (l h, rw (k h, z, y, x) at (literals_step s narrow room r)))))

  pub literals_narrowed : (at : ℕ) → ClosedWithin narrow (literals s wide room at) → literals s narrow room at ≡ literals s wide room at
  unfolding literals
  literals_narrowed at =
      along (HeldWithin narrow) (ClosedWithin narrow) (literals_from s narrow room) (next_row s wide room) (literals_from s wide room) (literals_kept s wide room) row_along (reads at [])
