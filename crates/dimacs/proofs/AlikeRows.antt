-- Two texts with the same first bytes have the same rows and literals among them. Assumes nothing.
use Prim.Native.Nat.{ℕ, zero, suc, ◌+◌, ◌-◌, ◌≤◌, ◌<◌}
use mathlib.Core.List.{List, [], ◌∷◌, ◌++◌}
use mathlib.Core.Path.{◌≡◌, refl, ap, sym, ◌∙◌, subst}
use native.Mathlib.Omega.{arith}
use borrow.Author.Tests.{eqb-true, eqb-false, leb-true, leb-false}
use lib.Dec.{leb, eqb}
use lib.ListN.{length, length-append}
use lib.IntN.{ℤ}
use Rattle.dimacs.specs.Bytes.{is_digit, is_not_stop}
use Rattle.dimacs.specs.Names.{numbered}
use Rattle.dimacs.specs.Tokens.{past, unmoved, linebreaks, minus, int_at}
use Rattle.dimacs.specs.Rows.{Row, ends, closes, stops, read_by, Reading, reads, row}
use Rattle.dimacs.specs.Clauses.{Literals, nothing, closed, stopped, literals_from, literals}
use Rattle.dimacs.specs.Seen.{word_seen}
use Rattle.dimacs.specs.declared.Int.{Int}
use Rattle.dimacs.specs.declared.Int.TheVariants as int
use Rattle.dimacs.proofs.Tests.{tested}
use Rattle.dimacs.proofs.Spans.{past_spans, IntMoves, int_moves, linebreaks_spans}
use Rattle.dimacs.proofs.Rows.{RowSpans, row_spans, Grown, row_grows, row_ends, row_closes, row_too_big, row_full, row_takes}
use Rattle.dimacs.proofs.Literals.{closed_by, stopped_by, nothing_there, none_after_lines, none_on_line, breaks}
use Rattle.dimacs.proofs.WordEnds.{NoLFBefore, IntEnds, int_ends, int_in_word, no_word_at_break}
use Rattle.dimacs.proofs.Alike.{Alike, numbered_same, linebreaks_same}
use Rattle.dimacs.proofs.AlikeWords.{IntAlike, int_same}

-- The bytes that settle what a row comes to are among the first n.
abbrev pub RowSeen : ℕ → List ℕ → Row → Type 0
RowSeen n s (ends e so) = word_seen s e ≤ n
RowSeen n s (closes e so) = e < n
RowSeen n s (stops r so) = word_seen s r.place ≤ n

-- A row that adds no literal ends where it begins, and its 0 is not closed by LF.
abbrev pub RowTold : List ℕ → Reading → Row → Type 0
RowTold s r (ends e so) = length so ≡ length r.so → e ≡ r.at
RowTold s r (closes e so) = NoLFBefore s e
RowTold s r (stops x so) = Unit {0}

-- A row that is seen has the two bytes at its start among the first n.
pub row_reach : (n : ℕ) (s : List ℕ) (at : ℕ) (w : Row) → RowSpans s at w → RowSeen n s w → at + 2 ≤ n
row_reach n s at (ends e so) h k = omega (arith, past_spans s e is_not_stop)
row_reach n s at (closes e so) h k = omega arith
row_reach n s at (stops r so) h k = omega (arith, past_spans s r.place is_not_stop)

told_on : (room : ℕ) (s : List ℕ) (at e : ℕ) (so more : List ℤ) → length so < length more → (w : Row) → Grown room more (read_by w)
    → RowTold s (reads e more) w → RowTold s (reads at so) w
told_on room s at e so more l (ends c so') g h = λ z. absurd (omega (arith, g.on))
told_on room s at e so more l (closes c so') g h = h
told_on room s at e so more l (stops x so') g h = tt

module _ {n : ℕ} {s t : List ℕ} (a : Alike n s t) (limit room : ℕ) where
  -- What a row comes to is the same if it is seen.
  abbrev pub RowFollows : Reading → Row → Type 0
  RowFollows r w = RowTold s r w × (RowSeen n s w → row t limit room r ≡ w)

  int_is : (at : ℕ) {i : Int} → int_at s limit at ≡ i → at < n → past is_digit s (minus s at) < n → IntAlike n i (int_at t limit at)
  int_is at e h k = subst (λ i. IntAlike n i (int_at t limit at)) e (int_same a limit at h k)

  int_by_word : (at : ℕ) {i : Int} → int_at s limit at ≡ i → word_seen s at ≤ n → IntAlike n i (int_at t limit at)
  int_by_word at e h = int_is at e (omega (arith, past_spans s at is_not_stop)) (omega (arith, int_in_word s at))

  row_by : (m at : ℕ) (so : List ℤ) → length s - at < m → RowFollows (reads at so) (row s limit room (reads at so))
  unfolding numbered
  row_by zero at so h = absurd (omega arith)
  row_by (suc m) at so h = go (int_at s limit at) refl (int_moves s limit at) (int_ends s limit at) (λ e more l. row_by m e more l)
    where
      go : (i : Int) → int_at s limit at ≡ i → IntMoves s at i → IntEnds s at i
          → ((e : ℕ) (more : List ℤ) → length s - e < m → RowFollows (reads e more) (row s limit room (reads e more)))
          → RowFollows (reads at so) (row s limit room (reads at so))
      go int.Missing e m f next = rw (row_ends s limit room at so e) ((λ _. refl), (λ k. row_ends t limit room at so (int_by_word at e k)))
      go (int.Zero c) e m f next =
          rw (row_closes s limit room at so e)
          (f.1, λ k. row_closes t limit room at so (int_is at e (omega arith) (omega (arith, f.0)) k))
      go int.TooBig e m f next = rw (row_too_big s limit room at so e) (tt, λ k. row_too_big t limit room at so (int_by_word at e k) ∙ ap (λ r. stops r so) (numbered_same a _ at k))
      go (int.Literal v c) e m f next =
          tested (leb room (length so))
          (λ y.
          let l = leb-true room (length so) y in
          rw (row_full s limit room at so e l) (tt, λ k. row_full t limit room at so (int_by_word at e k).1 l ∙ ap (λ r. stops r so) (numbered_same a _ at k)))
          (λ y.
          let l = leb-false room (length so) y in
          let more = so ++ (v ∷ []) in
          let w = row s limit room (reads c more) in
          let q = next c more (omega arith) in
          rw (row_takes s limit room at so e l) (
            told_on room s at c so more (omega (arith, length-append so (v ∷ []))) w (row_grows s limit room (reads c more)) q.0,
            λ k.
                let z = row_reach n s c w (row_spans s limit room (reads c more)) k in
                let i = int_is at e (omega arith) (omega (arith, f.0)) in
                row_takes t limit room at so (i.1 ∙ ap (int.Literal v) (i.2 (omega arith))) l ∙ q.1 k,
          ))

  pub row_same : (r : Reading) → RowFollows r (row s limit room r)
  row_same r = row_by (suc (length s - r.at)) r.at r.so (omega arith)

-- The bytes that settle what the literals come to are among the first n. That there are none is said only where none are read yet.
abbrev pub LiteralsSeen : ℕ → List ℕ → Reading → Literals → Type 0
LiteralsSeen n s r nothing = length r.so ≡ 0 → word_seen s r.at ≤ n
LiteralsSeen n s r (closed so e) = e < n
LiteralsSeen n s r (stopped x so) = word_seen s x.place ≤ n

-- The 0 is not closed by LF.
abbrev pub LiteralsTold : List ℕ → Literals → Type 0
LiteralsTold s nothing = Unit {0}
LiteralsTold s (closed so e) = NoLFBefore s e
LiteralsTold s (stopped x so) = Unit {0}

seen_on : (n : ℕ) (s : List ℕ) (r : Reading) (e : ℕ) (so : List ℤ) → (length so ≡ 0 → ⊥) → (l : Literals) → LiteralsSeen n s r l → LiteralsSeen n s (reads e so) l
seen_on n s r e so z nothing h = λ y. absurd (z y)
seen_on n s r e so z (closed so' c) h = h
seen_on n s r e so z (stopped x so') h = h

module _ {n : ℕ} {s t : List ℕ} (a : Alike n s t) (limit room : ℕ) where
  -- What the literals come to is the same if it is seen.
  abbrev pub LiteralsFollow : Reading → Literals → Type 0
  LiteralsFollow r l = LiteralsTold s l × (LiteralsSeen n s r l → (r.at + 2 ≤ n) × (literals_from t limit room r ≡ l))

  literals_by : (m at : ℕ) (so : List ℤ) → length s - at < m → LiteralsFollow (reads at so) (literals_from s limit room (reads at so))
  unfolding numbered
  literals_by zero at so h = absurd (omega arith)
  literals_by (suc m) at so h =
      let r = reads at so in
      go (row s limit room r) refl (row_spans s limit room r) (row_grows s limit room r) (row_same a limit room r) (λ e more l. literals_by m e more l)
    where
      go : (w : Row) → row s limit room (reads at so) ≡ w → RowSpans s at w → Grown room so (read_by w) → RowFollows a limit room (reads at so) w
          → ((e : ℕ) (more : List ℤ) → length s - e < m → LiteralsFollow (reads e more) (literals_from s limit room (reads e more)))
          → LiteralsFollow (reads at so) (literals_from s limit room (reads at so))
      go (closes e more) is p g f next =
          rw (closed_by s limit room (reads at so) is)
          (f.0, λ k. (row_reach n s at (closes e more) p k, closed_by t limit room (reads at so) (f.1 k)))
      go (stops x more) is p g f next =
          rw (stopped_by s limit room (reads at so) is)
          (tt, λ k. (row_reach n s at (stops x more) p k, stopped_by t limit room (reads at so) (f.1 k)))
      go (ends e more) is p g f next =
          let r = reads at so in
          let q = linebreaks s e in
          tested (eqb (length more) 0)
          (λ y.
          let z = eqb-true (length more) 0 y in
          let o : length so ≡ 0 = omega (arith, g.on) in
          rw (nothing_there s limit room r is z) (
            tt,
            λ k.
                let l : word_seen s e ≤ n = rw (f.0 (z ∙ sym o)) (k o) in
                (row_reach n s at (ends e more) p l, nothing_there t limit room r (f.1 l) z),
          ))
          (λ y.
          let z = eqb-false (length more) 0 y in
          tested (eqb (length more) (length so))
          (λ y'.
          let z' = eqb-true (length more) (length so) y' in
          rw (none_after_lines s limit room r is z z')
          (tt, λ k. (row_reach n s at (ends e more) p k, none_after_lines t limit room r (f.1 k) z z' ∙ ap (λ x. stopped x more) (numbered_same a _ e k))))
          (λ y'.
          let z' = eqb-false (length more) (length so) y' in
          tested (unmoved e q)
          (λ b.
          let u = eqb-true q e b in
          rw (none_on_line s limit room r is z z' q refl u) (
            tt,
            λ k. (
              row_reach n s at (ends e more) p k,
              none_on_line t limit room r (f.1 k) z z' q (sym (linebreaks_same a e (omega (arith, past_spans s e is_not_stop)))) u
                  ∙ ap (λ x. stopped x more) (numbered_same a _ e k),
            ),
          ))
          (λ b.
          let u = eqb-false q e b in
          let v = linebreaks_spans s e in
          let rest = next q more (omega arith) in
          rw (breaks s limit room r is z z' q refl u) (
            rest.0,
            λ k.
                let d = rest.1 (seen_on n s r q more z (literals_from s limit room (reads q more)) k) in
                let l : word_seen s e ≤ n = omega (arith, no_word_at_break s e b, d.0) in
                (row_reach n s at (ends e more) p l, breaks t limit room r (f.1 l) z z' q (sym (linebreaks_same a e d.0)) u ∙ d.1),
          ))))

  pub literals_same : (at : ℕ) → LiteralsFollow (reads at []) (literals s limit room at)
  unfolding literals
  literals_same at = literals_by (suc (length s - at)) at [] (omega arith)
