-- The loop over a row: those read so far stand at the front of the buffer, and the row from here on is the row from the start. Assumes nothing.
use Prim.Native.Nat.{ℕ, ◌+◌, ◌<◌}
use mathlib.Core.List.{List, [], ◌∷◌, ◌++◌}
use mathlib.Core.Path.{◌≡◌, refl, sym, ◌∙◌}
use native.Mathlib.Numerals.{add-one}
use native.Mathlib.Omega.{arith}
use lib.ListN.{length, take, set}
use lib.Seq.{take_all, take-length, take-suc-set}
use lib.IntN.{ℤ}
use Rattle.dimacs.specs.Rows.{Row, ends, closes, stops, reads, row}
use Rattle.dimacs.specs.declared.Refusal.{Refusal}
use Rattle.dimacs.proofs.Buffer as buffer
use Rattle.dimacs.proofs.Buffer.{Kept, kept_unchanged, kept_count, kept_in_place}
use Rattle.std.specs.Prelude.{Result, Ok, Err, min, leb}
use Rattle.std.proofs.Math.Nat.{min-eq_left, min-eq_right}
use borrow.Author.Tests.{leb-true, leb-false}
use Rattle.dimacs.proofs.Tests.{tested}
use Rattle.rows.specs.Answers.{ReadsRow, stopped_after}
use Rattle.rows.specs.declared.Row as answer
use Rattle.rows.specs.declared.Row.TheVariants.{Ends, Closes}
use Rattle.rows.specs.declared.Stopped.{Stopped}

-- Two permitted answers are equal, and so are the buffers after them.
pub one_row : {d : Row} {old n₁ n₂ : List ℤ} {r₁ r₂ : Result answer.Row Stopped} → ReadsRow d old n₁ r₁ → ReadsRow d old n₂ r₂ → (r₁ ≡ r₂) × (n₁ ≡ n₂)
one_row p q = (p.row ∙ sym q.row, p.buffer ∙ sym q.buffer)

pub record RowSoFar (s : List ℕ) (limit at held : ℕ) (old lits : List ℤ) (place count : ℕ) : Type 0 where
  pub kept : Kept old lits count
  pub so_far : row s limit (length old) (reads at (take held old)) ≡ row s limit (length old) (reads place (take count lits))

-- A row begins after the literals that it is told of, or after all where the buffer has not so many.
pub row_so_far_begin : {s : List ℕ} {limit at : ℕ} {old : List ℤ} (held count : ℕ) → count ≡ min held (length old) → RowSoFar s limit at held old old at count
row_so_far_begin {old = old} held count e =
    tested (leb held (length old))
    (λ z. let n : count ≡ held = e ∙ min-eq_left (leb-true held (length old) z) in rw n (record { kept = kept_unchanged (leb-true held (length old) z); so_far = refl }))
    (λ z. let n : count ≡ length old = e ∙ min-eq_right (omega (arith, leb-false held (length old) z)) in
    rw n (record { kept = kept_unchanged (omega arith); so_far = rw (take_all held old (omega (arith, leb-false held (length old) z)), take-length old) }))

module _ {s : List ℕ} {limit at held : ℕ} {old lits : List ℤ} {place count : ℕ} (h : RowSoFar s limit at held old lits place count) where
  pub row_so_far_ends : {n : ℕ} → row s limit (length old) (reads place (take count lits)) ≡ ends n (take count lits)
      → ReadsRow (row s limit (length old) (reads at (take held old))) old lits (Ok (Ends n count))
  row_so_far_ends e = record { row = rw (h.so_far ∙ e, kept_count h.kept); buffer = rw (h.so_far ∙ e) (kept_in_place h.kept) }

  pub row_so_far_closes : {n : ℕ} → row s limit (length old) (reads place (take count lits)) ≡ closes n (take count lits)
      → ReadsRow (row s limit (length old) (reads at (take held old))) old lits (Ok (Closes n count))
  row_so_far_closes e = record { row = rw (h.so_far ∙ e, kept_count h.kept); buffer = rw (h.so_far ∙ e) (kept_in_place h.kept) }

  pub row_so_far_stops : {x : Refusal} (r : Refusal) → r ≡ x → row s limit (length old) (reads place (take count lits)) ≡ stops x (take count lits)
      → ReadsRow (row s limit (length old) (reads at (take held old))) old lits (Err (stopped_after count r))
  row_so_far_stops r is e = record { row = rw (h.so_far ∙ e, kept_count h.kept, is); buffer = rw (h.so_far ∙ e) (kept_in_place h.kept) }

  -- One literal more.
  pub row_so_far_puts : (v : ℤ) (q : ℕ) → count < length lits
      → row s limit (length old) (reads place (take count lits)) ≡ row s limit (length old) (reads q (take count lits ++ (v ∷ [])))
      → RowSoFar s limit at held old (set lits count v) q (count + 1)
  row_so_far_puts v q k e = record { kept = buffer.kept_put h.kept v k; so_far = h.so_far ∙ e ∙ rw (add-one, take-suc-set lits count v k) }
