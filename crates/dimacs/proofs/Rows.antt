-- Reading a row of literals: one law for each way that a number at a place leads, and what holds of every row. Assumes nothing.
use Prim.Native.Nat.{ℕ, suc, ◌-◌, ◌≤◌, ◌<◌, max}
use mathlib.Core.List.{List, [], ◌∷◌, ◌++◌}
use mathlib.Core.Path.{◌≡◌, ◌∙◌, subst}
use native.Mathlib.Omega.{arith}
use borrow.Author.Tests.{le-leb, lt-leb, leb-false}
use lib.Dec.{leb}
use lib.ListN.{length, length-append}
use lib.IntN.{ℤ}
use Rattle.dimacs.specs.Loop.{Step}
use Rattle.dimacs.specs.Names.{numbered, refusal}
use Rattle.dimacs.specs.declared.Reason.{Reason}
use Rattle.dimacs.specs.Tokens.{int_at}
use Rattle.dimacs.specs.Rows.{Row, ends, closes, stops, read_by, Reading, reads, on_int, next_int, row}
use Rattle.dimacs.specs.declared.Int.{Int}
use Rattle.dimacs.specs.declared.Int.TheVariants as int
use Rattle.dimacs.proofs.Loops.{Leads, Falls, after, unrolled, kept}
use Rattle.dimacs.proofs.Tests.{chosen}
use Rattle.dimacs.proofs.Spans.{Spans, Moves, moves_then, IntMoves, int_moves}

-- A row ends, or is refused, within reach, and closes past a byte of its own.
abbrev pub RowSpans : List ℕ → ℕ → Row → Type 0
RowSpans s at (ends e so) = Spans s at e
RowSpans s at (closes e so) = Moves s at e
RowSpans s at (stops r so) = Spans s at r.place

-- Literals are added, and only while there is room.
pub record Grown (room : ℕ) (so more : List ℤ) : Type 0 where
  pub on : length so ≤ length more
  pub within : length more ≤ max room (length so)

-- What is left to a reader of literals.
abbrev pub left : List ℕ → Reading → ℕ
left s r = length s - r.at

module _ (s : List ℕ) (limit room : ℕ) where
  row_falls : (r : Reading) → Falls (left s) r (next_int s limit room r)
  unfolding next_int
  row_falls r = go (int_at s limit r.at) (int_moves s limit r.at)
    where
      go : (i : Int) → IntMoves s r.at i → Falls (left s) r (on_int s limit room i r.at r.so)
      go int.Missing m = tt
      go (int.Zero n) m = tt
      go (int.Literal v n) m = chosen (Falls (left s) r) (leb room (length r.so)) (λ _. tt) (λ _. omega arith)
      go int.TooBig m = tt

  -- One number, and then the rest of the row.
  row_step : (r : Reading) → row s limit room r ≡ after (next_int s limit room r) (row s limit room)
  unfolding row
  row_step r = unrolled (next_int s limit room) (ends 0 []) (left s) row_falls (suc (length s)) r (omega arith)

  -- What each number keeps, and each answer then has, the row's answer has.
  pub row_kept : (P : Reading → Type 0) (Q : Row → Type 0) → ((r : Reading) → P r → Leads P Q (next_int s limit room r)) → (r : Reading) → P r → Q (row s limit room r)
  unfolding row
  row_kept P Q keeps r = kept (next_int s limit room) _ (left s) row_falls P Q keeps (suc (length s)) r (omega arith)

  spans_on : (at : ℕ) (r : Reading) → Spans s at r.at → Leads (λ x. Spans s at x.at) (RowSpans s at) (next_int s limit room r)
  unfolding next_int numbered
  spans_on at r h = go (int_at s limit r.at) (int_moves s limit r.at)
    where
      On : Step Reading Row → Type 0
      On = Leads (λ x. Spans s at x.at) (RowSpans s at)

      go : (i : Int) → IntMoves s r.at i → On (on_int s limit room i r.at r.so)
      go int.Missing m = h
      go (int.Zero n) m = moves_then h m
      go (int.Literal v n) m = chosen On (leb room (length r.so)) (λ _. h) (λ _. omega arith)
      go int.TooBig m = h

  pub row_spans : (r : Reading) → RowSpans s r.at (row s limit room r)
  row_spans r = row_kept (λ x. Spans s r.at x.at) (RowSpans s r.at) (spans_on r.at) r (omega arith)

  grows_on : (so : List ℤ) (r : Reading) → Grown room so r.so → Leads (λ x. Grown room so x.so) (λ x. Grown room so (read_by x)) (next_int s limit room r)
  unfolding next_int
  grows_on so r h = go (int_at s limit r.at)
    where
      On : Step Reading Row → Type 0
      On = Leads (λ x. Grown room so x.so) (λ x. Grown room so (read_by x))

      go : (i : Int) → On (on_int s limit room i r.at r.so)
      go int.Missing = h
      go (int.Zero n) = h
      go (int.Literal v n) =
          chosen On (leb room (length r.so)) (λ _. h)
          (λ e. let l = leb-false room (length r.so) e in omega (arith, length-append r.so (v ∷ [])))
      go int.TooBig = h

  pub row_grows : (r : Reading) → Grown room r.so (read_by (row s limit room r))
  row_grows r = row_kept (λ x. Grown room r.so x.so) (λ x. Grown room r.so (read_by x)) (grows_on r.so) r (omega arith)

module _ (s : List ℕ) (limit room at : ℕ) (so : List ℤ) where
  on : {i : Int} → int_at s limit at ≡ i → row s limit room (reads at so) ≡ after (on_int s limit room i at so) (row s limit room)
  unfolding next_int
  on e = rw e at (row_step s limit room (reads at so))

  pub row_ends : int_at s limit at ≡ int.Missing → row s limit room (reads at so) ≡ ends at so
  row_ends e = on e

  pub row_closes : {n : ℕ} → int_at s limit at ≡ int.Zero n → row s limit room (reads at so) ≡ closes n so
  row_closes e = on e

  pub row_too_big : int_at s limit at ≡ int.TooBig → row s limit room (reads at so) ≡ stops (refusal s Reason.LiteralTooBig at) so
  row_too_big e = on e

  pub row_full : {v : ℤ} {n : ℕ} → int_at s limit at ≡ int.Literal v n → room ≤ length so
      → row s limit room (reads at so) ≡ stops (refusal s Reason.BufferFull at) so
  row_full e h = on e ∙ rw (le-leb room (length so) h)

  pub row_takes : {v : ℤ} {n : ℕ} → int_at s limit at ≡ int.Literal v n → length so < room
      → row s limit room (reads at so) ≡ row s limit room (reads n (so ++ (v ∷ [])))
  row_takes e h = on e ∙ rw (lt-leb room (length so) h)

-- What is left falls with each literal.
pub takes_falls : (s : List ℕ) (limit at : ℕ) {v : ℤ} {n : ℕ} → int_at s limit at ≡ int.Literal v n → length s - n < length s - at
takes_falls s limit at e = let m = subst (IntMoves s at) e (int_moves s limit at) in omega arith
