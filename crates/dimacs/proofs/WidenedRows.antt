-- A row of literals, and the literals of a clause, under a limit and under one that is no lower. Assumes nothing.
use Prim.Native.Nat.{ℕ, ◌≤◌}
use mathlib.Core.Bool.{true}
use mathlib.Core.List.{List, [], ◌∷◌, ◌++◌}
use mathlib.Core.Path.{◌≡◌, refl, sym, subst⁻¹}
use native.Mathlib.Omega.{arith}
use borrow.Author.Tests.{eqb-true, leb-true, leb-false}
use lib.Dec.{leb, eqb}
use lib.ListN.{length, length-append}
use lib.IntN.{ℤ}
use Rattle.dimacs.specs.Loop.{Step, again, answer}
use Rattle.dimacs.specs.Names.{numbered}
use Rattle.dimacs.specs.Tokens.{unmoved, linebreaks, int_at}
use Rattle.dimacs.specs.Rows.{Row, ends, closes, stops, read_by, Reading, reads, on_int, next_int, row}
use Rattle.dimacs.specs.Clauses.{Literals, nothing, closed, stopped, on_row, next_row, literals_from, literals}
use Rattle.dimacs.specs.declared.Int.{Int}
use Rattle.dimacs.specs.declared.Int.TheVariants as int
use Rattle.dimacs.proofs.Tests.{tested, chosen, unlike}
use Rattle.dimacs.proofs.Loops.{Leads, after, Beside, same_step, beside}
use Rattle.dimacs.proofs.Spans.{linebreaks_spans, IntMoves, int_moves}
use Rattle.dimacs.proofs.Rows.{RowSpans, row_spans, Grown, row_grows, row_kept, row_ends, row_closes, row_too_big, row_full, row_takes}
use Rattle.dimacs.proofs.Clauses.{literals_step, literals_kept}
use Rattle.dimacs.proofs.Literals.{closed_by}
use Rattle.dimacs.proofs.Order.{is_int}
use Rattle.dimacs.proofs.WidenedNumbers.{IntWidened, int_widened}

-- A row that reads on from a place comes to nothing before it, and has a literal if it ends without its 0.
abbrev pub RowPast : ℕ → Row → Type 0
RowPast at (ends e so) = (at ≤ e) × (1 ≤ length so)
RowPast at (closes e so) = at ≤ e
RowPast at (stops r so) = at ≤ r.place

-- Where a row is not refused it is the same under the higher limit, and where it is refused it reads on from there.
abbrev pub RowWidened : Row → Row → Type 0
RowWidened (ends e so) y = y ≡ ends e so
RowWidened (closes e so) y = y ≡ closes e so
RowWidened (stops r so) y = RowPast r.place y

-- Literals that read on from a place come to nothing before it, and there are some.
abbrev pub LiteralsPast : ℕ → Literals → Type 0
LiteralsPast at nothing = ⊥
LiteralsPast at (closed so e) = at ≤ e
LiteralsPast at (stopped r so) = at ≤ r.place

-- Literals are the same, or read on.
abbrev pub LiteralsWidened : Literals → Literals → Type 0
LiteralsWidened nothing y = y ≡ nothing
LiteralsWidened (closed so e) y = y ≡ closed so e
LiteralsWidened (stopped r so) y = LiteralsPast r.place y

literals_itself : (l : Literals) → LiteralsWidened l l
literals_itself nothing = refl
literals_itself (closed so e) = refl
literals_itself (stopped r so) = omega arith

-- Reading is at a place or past it, and has a literal.
abbrev ReadOn : ℕ → Reading → Type 0
ReadOn at r = (at ≤ r.at) × (1 ≤ length r.so)

module _ (s : List ℕ) (limit room : ℕ) where
  row_past : (at : ℕ) (r : Reading) → ReadOn at r → RowPast at (row s limit room r)
  row_past at r b = go (row s limit room r) (row_spans s limit room r) (row_grows s limit room r)
    where
      go : (w : Row) → RowSpans s r.at w → Grown room r.so (read_by w) → RowPast at w
      go (ends e so) p g = (omega (arith, b.0), omega (arith, b.1))
      go (closes e so) p g = omega (arith, b.0)
      go (stops x so) p g = omega (arith, b.0)

  -- Where a number stands, the row reads on from it.
  row_reads_on : (r : Reading) → is_int (int_at s limit r.at) ≡ true → RowPast r.at (row s limit room r)
  unfolding numbered
  row_reads_on r h = go (int_at s limit r.at) refl (int_moves s limit r.at) h
    where
      at : ℕ
      at = r.at

      so : List ℤ
      so = r.so

      go : (i : Int) → int_at s limit at ≡ i → IntMoves s at i → is_int i ≡ true → RowPast at (row s limit room (reads at so))
      go int.Missing e m k = unlike (sym k)
      go (int.Zero n) e m k = rw (row_closes s limit room at so e) (omega arith)
      go int.TooBig e m k = rw (row_too_big s limit room at so e) (omega arith)
      go (int.Literal v n) e m k =
          tested (leb room (length so))
          (λ f. rw (row_full s limit room at so e (leb-true room (length so) f)) (omega arith))
          (λ f. rw (row_takes s limit room at so e (leb-false room (length so) f))
          (row_past at (reads n (so ++ (v ∷ []))) (omega arith, omega (arith, length-append so (v ∷ [])))))

  -- What a row that reads on leads to.
  row_leads : (at held : ℕ) (w : Row) → RowPast at w → Leads (ReadOn at) (LiteralsPast at) (on_row s limit room held w)
  unfolding numbered
  row_leads at held (closes e so) h = h
  row_leads at held (stops r so) h = h
  row_leads at held (ends e so) h =
      let q = linebreaks s e in
      chosen On (eqb (length so) 0) (λ z. absurd (omega (arith, eqb-true (length so) 0 z, h.1)))
      (λ _. chosen On (eqb (length so) held) (λ _. h.0)
      (λ _. chosen On (unmoved e q) (λ _. h.0) (λ _. (omega (arith, linebreaks_spans s e, h.0), h.1))))
    where
      On : Step Reading Literals → Type 0
      On = Leads (ReadOn at) (LiteralsPast at)

  literals_past : (at : ℕ) (r : Reading) → ReadOn at r → LiteralsPast at (literals_from s limit room r)
  unfolding next_row
  literals_past at = literals_kept s limit room (ReadOn at) (LiteralsPast at) (λ r b. row_leads at (length r.so) (row s limit room r) (row_past at r b))

  -- Literals whose row reads on from a place come to nothing before it.
  literals_read_on : (at : ℕ) (r : Reading) → RowPast at (row s limit room r) → LiteralsPast at (literals_from s limit room r)
  unfolding next_row
  literals_read_on at r h = rw (literals_step s limit room r) (go (next_row s limit room r) (row_leads at (length r.so) (row s limit room r) h))
    where
      go : (t : Step Reading Literals) → Leads (ReadOn at) (LiteralsPast at) t → LiteralsPast at (after t (literals_from s limit room))
      go (again x) b = literals_past at x b
      go (answer l) b = b

module _ (s : List ℕ) {narrow wide : ℕ} (h : narrow ≤ wide) (room : ℕ) where
  int_beside : (r : Reading) → Beside RowWidened (row s wide room) r (next_int s narrow room r)
  unfolding next_int numbered
  int_beside r = go (int_at s narrow r.at) (int_widened s h r.at)
    where
      at : ℕ
      at = r.at

      so : List ℤ
      so = r.so

      On : Step Reading Row → Type 0
      On = Beside RowWidened (row s wide room) r

      go : (i : Int) → IntWidened i (int_at s wide at) → On (on_int s narrow room i at so)
      go int.Missing k = row_ends s wide room at so k
      go (int.Zero n) k = row_closes s wide room at so k
      go (int.Literal v n) k =
          chosen On (leb room (length so)) (λ f. subst⁻¹ (RowPast at) (row_full s wide room at so k (leb-true room (length so) f)) (omega arith))
          (λ f. row_takes s wide room at so k (leb-false room (length so) f))
      go int.TooBig k = row_reads_on s wide room r k

  pub row_widened : (r : Reading) → RowWidened (row s narrow room r) (row s wide room r)
  row_widened = beside RowWidened (row s wide room) (next_int s narrow room) (row s narrow room) (row_kept s narrow room) int_beside

  row_beside : (r : Reading) → Beside LiteralsWidened (literals_from s wide room) r (next_row s narrow room r)
  unfolding next_row
  row_beside r = go (row s narrow room r) (row_widened r)
    where
      go : (w : Row) → RowWidened w (row s wide room r) → Beside LiteralsWidened (literals_from s wide room) r (on_row s narrow room (length r.so) w)
      go (ends e so) k =
          same_step LiteralsWidened (literals_from s wide room) literals_itself r (on_row s wide room (length r.so) (ends e so)) (rw k at (literals_step s wide room r))
      go (closes e so) k = closed_by s wide room r k
      go (stops x so) k = literals_read_on s wide room x.place r k

  pub literals_widened : (at : ℕ) → LiteralsWidened (literals s narrow room at) (literals s wide room at)
  unfolding literals
  literals_widened at =
      beside LiteralsWidened (literals_from s wide room) (next_row s narrow room) (literals_from s narrow room) (literals_kept s narrow room) row_beside (reads at [])
