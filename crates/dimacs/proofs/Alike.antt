-- Two texts with the same first bytes have the same tokens among them. Assumes nothing.
use Prim.Native.Nat.{ℕ, zero, suc, ◌+◌, ◌-◌, ◌≤◌, ◌<◌}
use Prim.Native.Char.{code}
use mathlib.Core.Bool.{Bool}
use mathlib.Core.List.{List}
use mathlib.Core.Path.{◌≡◌, refl, ap, sym, ◌∙◌}
use native.Mathlib.Omega.{arith}
use borrow.Author.Tests.{lt-ltb, eqb-true, eqb-false, ltb-false}
use lib.Dec.{ltb, eqb}
use lib.ListN.{length, get_or, take, length-take}
use lib.Seq.{ext_get_or, get_or-take}
use Rattle.dimacs.specs.Bytes.{is_blank, is_not_lf, is_not_stop}
use Rattle.dimacs.specs.Names.{numbered}
use Rattle.dimacs.specs.Tokens.{past, unmoved, byte_at, blanks, line_end, next_line, newline, line_past, lines, linebreaks}
use Rattle.dimacs.specs.Seen.{word_seen}
use Rattle.dimacs.proofs.Tests.{tested}
use Rattle.dimacs.proofs.Past.{past_more, past_stop}
use Rattle.dimacs.proofs.Spans.{past_spans, lines_spans, blanks_spans, newline_spans}
use Rattle.dimacs.proofs.Lines.{lines_stop, lines_on}

-- Two texts of at least n bytes each, with the same first n.
pub record Alike (n : ℕ) (s t : List ℕ) : Type 0 where
  pub first : n ≤ length s
  pub second : n ≤ length t
  pub same : (i : ℕ) → i < n → get_or t i 0 ≡ get_or s i 0

module _ {n : ℕ} {s t : List ℕ} (a : Alike n s t) where
  past_by : (p : ℕ → Bool) (m at : ℕ) → n - at < m → past p s at < n → past p t at ≡ past p s at
  past_by p zero at h k = absurd (omega arith)
  past_by p (suc m) at h k =
      let l : at < n = omega (arith, past_spans s at p) in
      tested (p (get_or s at 0))
      (λ e.
      let o = past_more p s at (omega arith) e in
      sym (past_more p t at (omega arith) (ap p (a.same at l) ∙ e)) ∙ past_by p m (at + 1) (omega arith) (omega arith) ∙ o)
      (λ e. past_stop p t at (omega arith) (ap p (a.same at l) ∙ e) ∙ sym (past_stop p s at (omega arith) e))

  -- A run that ends before the n-th byte ends there.
  pub past_same : (p : ℕ → Bool) (at : ℕ) → past p s at < n → past p t at ≡ past p s at
  past_same p at = past_by p (suc (n - at)) at (omega arith)

  take_same : (at : ℕ) → at ≤ n → take at t ≡ take at s
  take_same at h =
      ext_get_or 0 (take at t) (take at s) (omega (arith, a.first, a.second, length-take at s, length-take at t))
      (λ i k.
      let l : i < at = omega (arith, length-take at t) in
      get_or-take at t i 0 l ∙ a.same i (omega arith) ∙ sym (get_or-take at s i 0 l))

  -- A refusal is the same if the word at its place is seen: its line and its column hang on the bytes before that place.
  pub numbered_same : (number at : ℕ) → word_seen s at ≤ n → numbered t number at ≡ numbered s number at
  unfolding numbered
  numbered_same number at h = rw (take_same at (omega (arith, past_spans s at is_not_stop)))

  pub blanks_same : (at : ℕ) → blanks s at < n → blanks t at ≡ blanks s at
  blanks_same at = past_same is_blank at

  pub line_end_same : (at : ℕ) → at + 2 ≤ n → line_end t at ≡ line_end s at
  unfolding line_end
  line_end_same at h = rw (a.same at (omega arith), a.same (at + 1) (omega arith))

  pub next_line_same : (at : ℕ) → next_line s at < n → next_line t at ≡ next_line s at
  unfolding next_line
  next_line_same at h =
      tested (ltb (past is_not_lf s at) (length s))
      (λ e.
      let k : past is_not_lf s at + 1 < n = rw e at h in
      rw (past_same is_not_lf at (omega arith), e, lt-ltb (past is_not_lf s at) (length t) (omega arith)))
      (λ e.
      let k : past is_not_lf s at < n = rw e at h in
      absurd (omega (arith, ltb-false (past is_not_lf s at) (length s) e)))

  pub newline_same : (at : ℕ) → at + 2 ≤ n → newline s at < n → newline t at ≡ newline s at
  unfolding newline
  newline_same at h k =
      tested (unmoved at (line_end s at))
      (λ e. rw (line_end_same at h, e))
      (λ e.
      let l : blanks s (line_end s at) < n = rw e at k in
      rw (line_end_same at h, e, blanks_same (line_end s at) l))

  pub line_past_same : (at : ℕ) → at + 2 ≤ n → line_past s at < n → line_past t at ≡ line_past s at
  unfolding line_past
  line_past_same at h k =
      tested (eqb (byte_at s at) (code "c"))
      (λ e.
      let l : next_line s (at + 1) < n = rw e at k in
      rw (a.same at (omega arith), e, next_line_same (at + 1) l))
      (λ e. rw (a.same at (omega arith), e, line_end_same at h))

  lines_by : (m at : ℕ) → length s - at < m → lines s at + 2 ≤ n → lines t at ≡ lines s at
  lines_by zero at h k = absurd (omega arith)
  lines_by (suc m) at h k =
      let p = line_past s at in
      let l : at + 2 ≤ n = omega (arith, lines_spans s at) in
      tested (unmoved at p)
      (λ e.
      let z = eqb-true p at e in
      lines_stop t at (line_past t at) refl (line_past_same at l (omega arith) ∙ z) ∙ sym (lines_stop s at p refl z))
      (λ e.
      let z = eqb-false p at e in
      let b = blanks s p in
      let o = lines_on s at p refl z b refl in
      let w : b + 2 ≤ n = omega (arith, lines_spans s b) in
      let q = line_past_same at l (omega (arith, blanks_spans s p)) in
      sym (lines_on t at (line_past t at) refl (λ y. z (sym q ∙ y)) b (sym (blanks_same p (omega arith)) ∙ ap (blanks t) (sym q))).1
      ∙ lines_by m b (omega arith) (omega arith) ∙ o.1)

  pub lines_same : (at : ℕ) → lines s at + 2 ≤ n → lines t at ≡ lines s at
  lines_same at = lines_by (suc (length s - at)) at (omega arith)

  pub linebreaks_same : (at : ℕ) → linebreaks s at + 2 ≤ n → linebreaks t at ≡ linebreaks s at
  unfolding linebreaks
  linebreaks_same at h =
      tested (unmoved at (newline s at))
      (λ e.
      let k : at + 2 ≤ n = rw e at h in
      rw (newline_same at k (omega (arith, eqb-true (newline s at) at e)), e))
      (λ e.
      let k : lines s (newline s at) + 2 ≤ n = rw e at h in
      let l = lines_spans s (newline s at) in
      rw (newline_same at (omega (arith, newline_spans s at)) (omega arith), e, lines_same (newline s at) k))
