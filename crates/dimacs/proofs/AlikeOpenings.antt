-- Two texts with the same first bytes open in the same way if their opening is settled by them. Assumes nothing.
use Rattle.std.specs.Prelude.{Option, None, Some, Result, Ok, Err}
use Rattle.dimacs.specs.declared.Refusal.{Refusal}
use Prim.Native.Nat.{ℕ, ◌+◌, ◌≤◌, ◌<◌}
use mathlib.Core.List.{List}
use mathlib.Core.Path.{◌≡◌, refl, ap}
use native.Mathlib.Omega.{arith}
use borrow.Author.Tests.{eqb-true}
use Rattle.dimacs.specs.Bytes.{bytes, is_not_stop}
use Rattle.dimacs.specs.Names.{numbered, refusal, ceiling, largest}
use Rattle.dimacs.specs.declared.Reason.{Reason}
use Rattle.dimacs.specs.Tokens.{unmoved, blanks, lines, word, uint_at, end_of_line, line_ends}
use Rattle.dimacs.specs.Header.{has_header, has_third, format_word, header_of, counted, header_end, third_there, third_count, clause_count, variable_count, after_p, opening_of}
use Rattle.dimacs.specs.Seen.{word_seen, opening_seen}
use Rattle.dimacs.specs.declared.Format.{Format}
use Rattle.dimacs.specs.declared.Format.TheVariants.{Plain, Weighted, Grouped, Weighted2022}
use Rattle.dimacs.specs.declared.Header.{Header}
use Rattle.dimacs.specs.declared.Opening.{Opening}
use Rattle.dimacs.specs.declared.Opening.TheVariants as opening
use Rattle.dimacs.specs.declared.Uint.{Uint}
use Rattle.dimacs.specs.declared.Uint.TheVariants as uint
use Rattle.dimacs.proofs.Tests.{tested}
use Rattle.dimacs.proofs.Spans.{past_spans, lines_spans, UintMoves, uint_moves}
use Rattle.dimacs.proofs.WordEnds.{word_moved, NoStops, NoLFBefore, UintEnds, uint_ends}
use Rattle.dimacs.proofs.Alike.{Alike, numbered_same, blanks_same, lines_same}
use Rattle.dimacs.proofs.AlikeWords.{word_same, EndSeen, line_ends_same, end_same, UintSeen, uint_follows}

-- No format's word has a stop.
format_no_stops : (f : Format) → NoStops (format_word f)
format_no_stops Plain = (refl, (refl, (refl, tt)))
format_no_stops Weighted = (refl, (refl, (refl, (refl, tt))))
format_no_stops Grouped = (refl, (refl, (refl, (refl, tt))))
format_no_stops Weighted2022 = tt

module _ {n : ℕ} {s t : List ℕ} (a : Alike n s t) where
  -- What follows a place is the same if it is seen, and so is the byte there.
  abbrev Follows : ℕ → Result Opening Refusal → Result Opening Refusal → Type 0
  Follows at x y = opening_seen s x ≤ n → (at < n) × (y ≡ x)

  counted_same : (none big : Reason) (limit at : ℕ) (then then' : ℕ → ℕ → Result Opening Refusal) → ((v e : ℕ) → NoLFBefore s e → Follows e (then v e) (then' v e))
      → Follows at (counted s none big at then (uint_at s limit at)) (counted t none big at then' (uint_at t limit at))
  unfolding numbered
  counted_same none big limit at then then' next = go (uint_at s limit at) (uint_moves s limit at) (uint_ends s limit at) (uint_follows a limit at)
    where
      go : (u : Uint) → UintMoves s at u → UintEnds s at u → (UintSeen n s at u → uint_at t limit at ≡ u)
          → Follows at (counted s none big at then u) (counted t none big at then' (uint_at t limit at))
      go uint.Missing m f is k = (omega (arith, past_spans s at is_not_stop), rw (is k) (ap Err (numbered_same a _ at k)))
      go uint.TooBig m f is k = (omega (arith, past_spans s at is_not_stop), rw (is k) (ap Err (numbered_same a _ at k)))
      go (uint.Value v e) m f is k = let q = next v e f.1 k in (omega (arith, q.0), rw (is q.0) q.1)

  header_end_same : (h : Header) (at : ℕ) → NoLFBefore s at → Follows at (header_end s h at) (header_end t h at)
  unfolding header_end numbered
  header_end_same h at o k =
      let l = go (end_of_line s at) k in
      let q = end_same a at o l in
      (q.0, rw q.1 (line_ends_same a _ at (λ next. Ok (opening.Header h next)) Err (end_of_line s at) l))
    where
      go : (x : Option ℕ) → opening_seen s (line_ends x (λ next. Ok (opening.Header h next)) (Err (refusal s Reason.LineEndExpected at))) ≤ n → EndSeen n s at x
      go None k = k
      go (Some e) k = k

  third_same : (f : Format) (v c at : ℕ) → NoLFBefore s at → Follows at (third_count s f v c at) (third_count t f v c at)
  unfolding third_count third_there
  third_same f v c at o =
      tested (has_third f)
      (λ y. rw y (counted_same Reason.ThirdCountExpected Reason.ThirdCountTooBig largest at _ _ (λ x e o. header_end_same (header_of v c x) e o)))
      (λ y. rw y (header_end_same (header_of v c 0) at o))

  clause_count_same : (f : Format) (v at : ℕ) → Follows at (clause_count s f v at) (clause_count t f v at)
  unfolding clause_count
  clause_count_same f v at = counted_same Reason.ClauseCountExpected Reason.ClauseCountTooBig largest at _ _ (λ c e o. third_same f v c e o)

  variable_count_same : (f : Format) (at : ℕ) → Follows at (variable_count s f at) (variable_count t f at)
  unfolding variable_count
  variable_count_same f at = counted_same Reason.VariableCountExpected Reason.VariableCountTooBig ceiling at _ _ (λ v e _. clause_count_same f v e)

  after_p_same : (f : Format) (at : ℕ) → Follows at (after_p s f at) (after_p t f at)
  unfolding after_p numbered
  after_p_same f at k =
      let w = format_word f in
      let e = word s w at in
      tested (unmoved at e)
      (λ y.
      let l : word_seen s at ≤ n = rw y at k in
      let z = eqb-true e at y in
      let o = past_spans s at is_not_stop in
      (omega arith, rw (y, word_same a w at (format_no_stops f) (omega arith) (omega arith), y) (ap Err (numbered_same a _ at l))))
      (λ y.
      let l : opening_seen s (variable_count s f e) ≤ n = rw y at k in
      let q = variable_count_same f e l in
      let o = word_moved s w at y in
      (omega (arith, q.0), rw (y, word_same a w at (format_no_stops f) (omega (arith, q.0)) q.0, y) q.1))

  pub opening_same : (f : Format) → opening_seen s (opening_of s f) ≤ n → opening_of t f ≡ opening_of s f
  unfolding opening_of
  opening_same f k =
      let i = lines s (blanks s 0) in
      let w = bytes "p" in
      let e = word s w i in
      tested (has_header f)
      (λ x. tested (unmoved i e)
      (λ y.
      let l : i + 2 ≤ n = rw (x, y) at k in
      let z = eqb-true e i y in
      rw (x, place l, word_same a w i (refl, tt) (omega arith) (omega arith), y))
      (λ y.
      let l : opening_seen s (after_p s f e) ≤ n = rw (x, y) at k in
      let q = after_p_same f e l in
      let o = word_moved s w i y in
      rw (x, place (omega (arith, q.0)), word_same a w i (refl, tt) (omega (arith, q.0)) q.0, y) q.1))
      (λ x.
      let l : i + 2 ≤ n = rw x at k in
      rw (x, place l))
    where
      place : lines s (blanks s 0) + 2 ≤ n → lines t (blanks t 0) ≡ lines s (blanks s 0)
      place h = rw (blanks_same a 0 (omega (arith, lines_spans s (blanks s 0)))) (lines_same a (blanks s 0) h)
