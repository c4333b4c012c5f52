-- Two texts with the same first bytes have the same words and numbers among them. What a number is hangs on no byte past its word; where the blanks after it
-- end is the same if they end among those bytes. Assumes nothing.
use Rattle.std.specs.Prelude.{Option, None, Some}
use Prim.Native.Nat.{ℕ, zero, suc, ◌+◌, ◌-◌, ◌*◌, ◌≤◌, ◌<◌, min}
use Prim.Native.Char.{code}
use mathlib.Core.Bool.{Bool, true, false, cond, not}
use mathlib.Core.List.{List, [], ◌∷◌}
use mathlib.Core.Path.{◌≡◌, refl, ap, sym, ◌∙◌, subst}
use native.Mathlib.Omega.{arith}
use borrow.Author.Tests.{ne_eqb, lt-leb, eqb-true, eqb-false, leb-true}
use lib.Dec.{leb, eqb}
use lib.ListN.{length, get_or, drop}
use Rattle.dimacs.specs.Bytes.{is_digit, is_stop, is_not_stop, LF}
use Rattle.dimacs.specs.Names.{ceiling, numbered}
use Rattle.dimacs.specs.Tokens.{past, begins, decimal, unmoved, Number, none, found, up_to, up_to_either_way, byte_at, blanks, fixed, word_ends, word, unsigned, braced, minus, uint_at, braced_uint_at, int_at, line_end, end_of_line, line_ends}
use Rattle.dimacs.specs.Clauses.{is_zero}
use Rattle.dimacs.specs.Seen.{line_seen, word_seen}
use Rattle.dimacs.specs.declared.Int.{Int}
use Rattle.dimacs.specs.declared.Int.TheVariants as int
use Rattle.dimacs.specs.declared.Refusal.{Refusal}
use Rattle.dimacs.specs.declared.Uint.{Uint}
use Rattle.dimacs.specs.declared.Uint.TheVariants as uint
use Rattle.dimacs.proofs.Tests.{tested, unlike}
use Rattle.dimacs.proofs.Past.{past_more}
use Rattle.dimacs.proofs.Spans.{past_spans, fixed_spans, blanks_spans, line_end_spans, UintMoves, braced_uint_moves}
use Rattle.dimacs.proofs.Lines.{line_end_lf}
use Rattle.dimacs.proofs.Words.{fixed_no, fixed_is}
use Rattle.dimacs.proofs.Numbers.{decimal_more, decimal_stop}
use Rattle.dimacs.proofs.WordEnds.{NoStops, begins-cons, uint_ends, UintEnds, GroupEnds, braced_uint_ends, group_in_word, digits_in_word, line_end_long, NoLFBefore, begins_run}
use Rattle.dimacs.proofs.Alike.{Alike, past_same, numbered_same, blanks_same, line_end_same}

-- A number that is the same but for the place past the blanks after it, and that too if it is before n.
abbrev pub NumberAlike : ℕ → Number → Number → Type 0
NumberAlike n none x = x ≡ none
NumberAlike n (found v e) x = (e' : ℕ) × (x ≡ found v e') × (e < n → e' ≡ e)

abbrev pub UintAlike : ℕ → Uint → Uint → Type 0
UintAlike n uint.Missing x = x ≡ uint.Missing
UintAlike n (uint.Value v e) x = (e' : ℕ) × (x ≡ uint.Value v e') × (e < n → e' ≡ e)
UintAlike n uint.TooBig x = x ≡ uint.TooBig

abbrev pub IntAlike : ℕ → Int → Int → Type 0
IntAlike n int.Missing x = x ≡ int.Missing
IntAlike n (int.Zero e) x = e < n → x ≡ int.Zero e
IntAlike n (int.Literal v e) x = (e' : ℕ) × (x ≡ int.Literal v e') × (e < n → e' ≡ e)
IntAlike n int.TooBig x = x ≡ int.TooBig

up_to_alike : (n limit : ℕ) (x y : Number) → NumberAlike n x y → UintAlike n (up_to limit x) (up_to limit y)
up_to_alike n limit none y h = rw h
up_to_alike n limit (found v e) y h =
    rw h.1
    (tested (leb v limit) (λ k. rw k (h.0, refl, h.2)) (λ k. rw k refl))

either_way_alike : (n limit : ℕ) (p : Bool) (x y : Number) → NumberAlike n x y → IntAlike n (up_to_either_way limit p x) (up_to_either_way limit p y)
either_way_alike n limit p none y h = rw h
either_way_alike n limit p (found v e) y h =
    rw h.1
    (tested (eqb v 0) (λ k. rw k (λ l. ap int.Zero (h.2 l)))
    (λ k. rw k (tested (leb v (min limit ceiling)) (λ l. rw l (h.0, refl, h.2)) (λ l. rw l refl))))

module _ {n : ℕ} {s t : List ℕ} (a : Alike n s t) where
  -- A word with no stop stands in both or in neither if the word there is the same, or so many bytes as it has.
  begins_same : (w : List ℕ) (at : ℕ) → NoStops w → min (past is_not_stop s at + 1) (at + length w) ≤ n → begins w (drop at t) ≡ begins w (drop at s)
  unfolding begins
  begins_same [] at o h = refl
  begins_same (b ∷ w) at o h =
      let l : at < n = omega (arith, past_spans s at is_not_stop) in
      begins-cons b w t at (omega arith)
      ∙ tested (is_stop (get_or s at 0))
      (λ e. rw (a.same at l, ne_eqb b (get_or s at 0) (λ z. unlike (sym o.0 ∙ ap is_not_stop z ∙ ap not e))))
      (λ e. rw (a.same at l, begins_same w (at + 1) o.1 (omega (arith, past_more is_not_stop s at (omega arith) (ap not e)))))
      ∙ sym (begins-cons b w s at (omega arith))

  -- A word of so many bytes stands in both or in neither if so many are the same.
  all_begins_same : (w : List ℕ) (at : ℕ) → at + length w ≤ n → begins w (drop at t) ≡ begins w (drop at s)
  unfolding begins
  all_begins_same [] at h = refl
  all_begins_same (b ∷ w) at h =
      begins-cons b w t at (omega arith)
      ∙ (rw (a.same at (omega arith), all_begins_same w (at + 1) (omega arith)))
      ∙ sym (begins-cons b w s at (omega arith))

  pub all_fixed_same : (w : List ℕ) (at : ℕ) → at + length w ≤ n → fixed t w at ≡ fixed s w at
  unfolding fixed
  all_fixed_same w at h = rw (all_begins_same w at h)

  pub word_ends_same : (at : ℕ) → at < n → word_ends t at ≡ word_ends s at
  unfolding word_ends
  word_ends_same at h = rw (lt-leb (length t) at (omega arith), lt-leb (length s) at (omega arith), a.same at h)

  module _ (w : List ℕ) (at : ℕ) (o : NoStops w) (h : min (past is_not_stop s at + 1) (at + length w + 1) ≤ n) where
    pub fixed_same : fixed t w at ≡ fixed s w at
    unfolding fixed
    fixed_same = rw (begins_same w at o (omega arith))

    fixed_before : fixed s w at < n
    fixed_before =
        tested (begins w (drop at s))
        (λ e. omega (arith, fixed_is w s at e, begins_run is_not_stop w s at o e, past_spans s (at + length w) is_not_stop))
        (λ e. omega (arith, fixed_no w s at e, past_spans s at is_not_stop))

    -- The word stands in both or in neither, wherever the blanks after it end.
    pub word_stands_same : unmoved at (word t w at) ≡ unmoved at (word s w at)
    unfolding word
    word_stands_same =
        let e = fixed s w at in
        rw (fixed_same, word_ends_same e fixed_before)
        (tested (unmoved at e) (λ y. rw y)
        (λ y. tested (word_ends s e)
        (λ z.
        let o = eqb-false e at y in
        let f = fixed_spans s at w in
        rw (y, z, ne_eqb (blanks t e) at (λ q. omega (arith, blanks_spans t e)), ne_eqb (blanks s e) at (λ q. omega (arith, blanks_spans s e))))
        (λ z. rw (y, z))))

    pub word_same : word s w at < n → word t w at ≡ word s w at
    unfolding word
    word_same k =
        let e = fixed s w at in
        rw (fixed_same, word_ends_same e fixed_before)
        (tested (unmoved at e) (λ y. rw y)
        (λ y. tested (word_ends s e)
        (λ z. let l : blanks s e < n = rw (y, z) at k in rw (y, z, blanks_same a e l))
        (λ z. rw (y, z))))

  decimal_by : (m v at : ℕ) → n - at < m → past is_digit s at < n → decimal v (drop at t) ≡ decimal v (drop at s)
  decimal_by zero v at h k = absurd (omega arith)
  decimal_by (suc m) v at h k =
      let l : at < n = omega (arith, past_spans s at is_digit) in
      let q = a.same at l in
      tested (is_digit (get_or s at 0))
      (λ e.
      let o = past_more is_digit s at (omega arith) e in
      sym (decimal_more t v at (omega arith) (ap is_digit q ∙ e)) ∙ ap (λ d. decimal (v * 10 + (d - 48)) (drop (at + 1) t)) q
      ∙ decimal_by m (v * 10 + (get_or s at 0 - 48)) (at + 1) (omega arith) (omega arith) ∙ decimal_more s v at (omega arith) e)
      (λ e. decimal_stop t v at (omega arith) (ap is_digit q ∙ e) ∙ sym (decimal_stop s v at (omega arith) e))

  decimal_same : (at : ℕ) → past is_digit s at < n → decimal 0 (drop at t) ≡ decimal 0 (drop at s)
  decimal_same at = decimal_by (suc (n - at)) 0 at (omega arith)

  pub unsigned_same : (at : ℕ) → past is_digit s at < n → NumberAlike n (unsigned s at) (unsigned t at)
  unfolding unsigned
  unsigned_same at h =
      let e = past is_digit s at in
      rw (past_same a is_digit at h, word_ends_same e h, decimal_same at h)
      (tested (unmoved at e) (λ y. rw y refl)
      (λ y. tested (word_ends s e) (λ z. rw (y, z) (blanks t e, refl, blanks_same a e)) (λ z. rw (y, z) refl)))

  -- Of digits in braces it matters only after a brace where they end.
  pub braced_same : (at : ℕ) → at < n → (eqb (byte_at s at) (code "{") ≡ true → past is_digit s (at + 1) < n) → NumberAlike n (braced s at) (braced t at)
  unfolding braced
  braced_same at h k =
      let e = past is_digit s (at + 1) in
      tested (eqb (byte_at s at) (code "{"))
      (λ y.
      rw (a.same at h, y, past_same a is_digit (at + 1) (k y), decimal_same (at + 1) (k y), a.same e (k y))
      (tested (unmoved (at + 1) e) (λ z. rw z refl)
      (λ z. tested (eqb (byte_at s e) (code "}")) (λ w. rw (z, w) (blanks t (e + 1), refl, blanks_same a (e + 1))) (λ w. rw (z, w) refl))))
      (λ y. rw (a.same at h, y) refl)

  minus_same : (at : ℕ) → at < n → minus t at ≡ minus s at
  unfolding minus
  minus_same at h = rw (a.same at h)

  pub int_same : (limit at : ℕ) → at < n → past is_digit s (minus s at) < n → IntAlike n (int_at s limit at) (int_at t limit at)
  unfolding int_at
  int_same limit at h k =
      rw (minus_same at h)
      (either_way_alike n limit (unmoved at (minus s at)) (unsigned s (minus s at)) (unsigned t (minus s at)) (unsigned_same (minus s at) k))

  pub uint_same : (limit at : ℕ) → past is_digit s at < n → UintAlike n (uint_at s limit at) (uint_at t limit at)
  unfolding uint_at
  uint_same limit at h = up_to_alike n limit (unsigned s at) (unsigned t at) (unsigned_same at h)

  pub braced_uint_same : (limit at : ℕ) → at < n → (eqb (byte_at s at) (code "{") ≡ true → past is_digit s (at + 1) < n)
      → UintAlike n (braced_uint_at s limit at) (braced_uint_at t limit at)
  unfolding braced_uint_at
  braced_uint_same limit at h k = up_to_alike n limit (braced s at) (braced t at) (braced_same at h k)

-- The bytes that settle how a line is closed are among the first n.
abbrev pub EndSeen : ℕ → List ℕ → ℕ → Option ℕ → Type 0
EndSeen n s at None = word_seen s at ≤ n
EndSeen n s at (Some e) = line_seen s e ≤ n

-- The bytes that settle a count, weight or group are among the first n.
abbrev pub UintSeen : ℕ → List ℕ → ℕ → Uint → Type 0
UintSeen n s at uint.Missing = word_seen s at ≤ n
UintSeen n s at (uint.Value v e) = e < n
UintSeen n s at uint.TooBig = word_seen s at ≤ n

module _ {n : ℕ} {s t : List ℕ} (a : Alike n s t) where
  -- A line end that stands hangs on no byte past it.
  line_end_there : (at : ℕ) → unmoved at (line_end s at) ≡ false → line_end s at ≤ n → line_end t at ≡ line_end s at
  line_end_there at h k =
      tested (eqb (byte_at s at) LF)
      (λ e.
      let z = eqb-true (byte_at s at) LF e in
      let o = line_end_lf s at z in
      line_end_lf t at (a.same at (omega arith) ∙ z) ∙ sym o)
      (λ e. line_end_same a at (omega (arith, line_end_long s at e h)))

  -- Where no line end stands, what is refused is the same.
  pub line_ends_same : {A : Type 0} (number at : ℕ) (then : ℕ → A) (why : Refusal → A) (x : Option ℕ) → EndSeen n s at x
      → line_ends x then (why (numbered t number at)) ≡ line_ends x then (why (numbered s number at))
  line_ends_same number at then why None k = ap why (numbered_same a number at k)
  line_ends_same number at then why (Some e) k = refl

  -- How a line is closed is the same if it is seen, and so is the byte there. Before the end of a text that closes it stands no LF.
  pub end_same : (at : ℕ) → NoLFBefore s at → EndSeen n s at (end_of_line s at) → (at < n) × (end_of_line t at ≡ end_of_line s at)
  unfolding end_of_line
  end_same at h k =
      let e = line_end s at in
      tested (leb (length s) at)
      (λ y.
      let q : at + 1 ≤ n = rw (y, ne_eqb (byte_at s (at - 1)) LF h) at k in
      absurd (omega (arith, leb-true (length s) at y)))
      (λ y. tested (unmoved at e)
      (λ z.
      let q : word_seen s at ≤ n = rw (y, z) at k in
      let l : at + 2 ≤ n = omega (arith, past_spans s at is_not_stop) in
      (omega arith, rw (y, lt-leb (length t) at (omega arith), line_end_same a at l)))
      (λ z.
      let q : line_seen s e ≤ n = rw (y, z) at k in
      let l : e ≤ n = within (eqb (byte_at s (e - 1)) LF) q in
      let m : at < n = omega (arith, line_end_spans s at, eqb-false e at z) in
      (m, rw (y, lt-leb (length t) at (omega arith), line_end_there at z l))))
    where
      within : (b : Bool) {e : ℕ} → cond b e (e + 1) ≤ n → e ≤ n
      within true h = h
      within false h = omega arith

  seen_value : {v e : ℕ} {x : Uint} → UintAlike n (uint.Value v e) x → e < n → x ≡ uint.Value v e
  seen_value h k = h.1 ∙ ap (uint.Value _) (h.2 k)

  -- A weight is 0 in both or in neither if its word is seen.
  pub zero_same : (limit at : ℕ) → word_seen s at ≤ n → is_zero (uint_at t limit at) ≡ is_zero (uint_at s limit at)
  zero_same limit at h = go (uint_at s limit at) (uint_same a limit at (omega (arith, digits_in_word s at)))
    where
      go : (u : Uint) → UintAlike n u (uint_at t limit at) → is_zero (uint_at t limit at) ≡ is_zero u
      go uint.Missing k = ap is_zero k
      go (uint.Value v e) k = ap is_zero k.1
      go uint.TooBig k = ap is_zero k

  -- A count, weight or group is the same if it is seen.
  pub uint_follows : (limit at : ℕ) → UintSeen n s at (uint_at s limit at) → uint_at t limit at ≡ uint_at s limit at
  uint_follows limit at = go (uint_at s limit at) refl (uint_ends s limit at)
    where
      go : (u : Uint) → uint_at s limit at ≡ u → UintEnds s at u → UintSeen n s at u → uint_at t limit at ≡ u
      go uint.Missing e f k = subst (λ u. UintAlike n u (uint_at t limit at)) e (uint_same a limit at (omega (arith, digits_in_word s at)))
      go (uint.Value v c) e f k = seen_value (subst (λ u. UintAlike n u (uint_at t limit at)) e (uint_same a limit at (omega (arith, f.0)))) k
      go uint.TooBig e f k = subst (λ u. UintAlike n u (uint_at t limit at)) e (uint_same a limit at (omega (arith, digits_in_word s at)))

  pub braced_uint_follows : (limit at : ℕ) → UintSeen n s at (braced_uint_at s limit at) → braced_uint_at t limit at ≡ braced_uint_at s limit at
  braced_uint_follows limit at = go (braced_uint_at s limit at) refl (braced_uint_moves s limit at) (braced_uint_ends s limit at)
    where
      alike : (u : Uint) → braced_uint_at s limit at ≡ u → at < n → (eqb (byte_at s at) (code "{") ≡ true → past is_digit s (at + 1) < n) → UintAlike n u (braced_uint_at t limit at)
      alike u e h k = subst (λ u. UintAlike n u (braced_uint_at t limit at)) e (braced_uint_same a limit at h k)

      by_word : word_seen s at ≤ n → eqb (byte_at s at) (code "{") ≡ true → past is_digit s (at + 1) < n
      by_word k y = omega (arith, group_in_word s at y)

      go : (u : Uint) → braced_uint_at s limit at ≡ u → UintMoves s at u → GroupEnds s at u → UintSeen n s at u → braced_uint_at t limit at ≡ u
      go uint.Missing e m f k = alike uint.Missing e (omega (arith, past_spans s at is_not_stop)) (by_word k)
      go (uint.Value v c) e m f k = seen_value (alike (uint.Value v c) e (omega arith) (λ y. omega (arith, f))) k
      go uint.TooBig e m f k = alike uint.TooBig e (omega (arith, past_spans s at is_not_stop)) (by_word k)
