-- Line ends and comments, case by case. Assumes nothing.
use Rattle.std.specs.Prelude.{Some}
use Prim.Native.Nat.{ℕ, suc, ◌+◌, ◌-◌, ◌≤◌, ◌<◌}
use mathlib.Core.Bool.{Bool, true, false, ◌&&◌}
use mathlib.Core.List.{List}
use mathlib.Core.Path.{◌≡◌, refl, sym, ◌∙◌}
use native.Mathlib.Omega.{arith}
use borrow.Author.Tests.{eq-eqb, ne_eqb, lt-ltb, le-ltb, lt-leb, eqb-true}
use lib.Dec.{eqb}
use lib.ListN.{length, get_or, get_or-eq_default}
use Rattle.dimacs.specs.Bytes.{is_not_lf}
use Rattle.dimacs.specs.Tokens.{past, blanks, line_end, next_line, end_of_line, newline, line_past, comment_or_newline, lines, linebreaks}
use Rattle.dimacs.proofs.Bytes.{is_lf}
use Rattle.dimacs.proofs.Past.{past_stop, past_end}
use Rattle.dimacs.proofs.Spans.{line_past_moved, lines_step}

-- Past the end there is no byte but 0.
pub no_byte : (s : List ℕ) (i b : ℕ) → length s ≤ i → get_or s i 0 ≡ suc b → ⊥
no_byte s i b h e = omega (arith, get_or-eq_default s 0 h)

module _ (s : List ℕ) (at : ℕ) where
  pub line_end_lf : get_or s at 0 ≡ 10 → line_end s at ≡ at + 1
  unfolding line_end
  line_end_lf h = rw (eq-eqb (get_or s at 0) 10 h)

  pub line_end_crlf : get_or s at 0 ≡ 13 → get_or s (at + 1) 0 ≡ 10 → line_end s at ≡ at + 2
  unfolding line_end
  line_end_crlf h k = rw (ne_eqb (get_or s at 0) 10 (λ e. omega arith), eq-eqb (get_or s at 0) 13 h, eq-eqb (get_or s (at + 1) 0) 10 k)

  pub line_end_no : (get_or s at 0 ≡ 10 → ⊥) → (get_or s at 0 ≡ 13 → get_or s (at + 1) 0 ≡ 10 → ⊥) → line_end s at ≡ at
  unfolding line_end
  line_end_no h k = rw (ne_eqb (get_or s at 0) 10 h, no (eqb (get_or s at 0) 13) (eqb (get_or s (at + 1) 0) 10) (λ e. ne_eqb (get_or s (at + 1) 0) 10 (k (eqb-true (get_or s at 0) 13 e))))
    where
      no : (a b : Bool) → (a ≡ true → b ≡ false) → a && b ≡ false
      no true b h = h refl
      no false b h = refl

  -- By a line end e that a call found, or did not.
  module _ (e : ℕ) (is : e ≡ line_end s at) where
    pub end_at_line : at < length s → (e ≡ at → ⊥) → end_of_line s at ≡ Some e
    unfolding end_of_line
    end_at_line h n = rw (lt-leb (length s) at h, sym is, ne_eqb e at n)

    pub newline_no : e ≡ at → newline s at ≡ at
    unfolding newline
    newline_no n = rw (sym is, eq-eqb e at n)

  -- By where a search for LF stands.
  module _ (i : ℕ) (so : past is_not_lf s i ≡ past is_not_lf s at) where
    pub next_line_lf : i < length s → get_or s i 0 ≡ 10 → next_line s at ≡ i + 1
    unfolding next_line
    next_line_lf h e = rw (sym so ∙ past_stop is_not_lf s i h (is_lf (get_or s i 0) e), lt-ltb i (length s) h)

    pub next_line_end : length s ≤ i → next_line s at ≡ i
    unfolding next_line
    next_line_end h = rw (sym so ∙ past_end is_not_lf s i h, le-ltb i (length s) h)

  pub line_past_end : (get_or s at 0 ≡ 99 → ⊥) → line_past s at ≡ line_end s at
  unfolding line_past
  line_past_end h = rw (ne_eqb (get_or s at 0) 99 h)

  -- What a loop over comments and line ends asks, of the place that its call gave: the measure falls, and the rest is the same.
  module _ (a : ℕ) (is : a ≡ line_past s at) where
    pub lines_stop : a ≡ at → lines s at ≡ at
    unfolding comment_or_newline
    lines_stop h = rw (lines_step s at, eq-eqb (line_past s at) at (sym is ∙ h))

    pub lines_on : (a ≡ at → ⊥) → (b : ℕ) → b ≡ blanks s a → (length s - b < length s - at) × (lines s b ≡ lines s at)
    unfolding comment_or_newline
    lines_on n b so =
        let k = ne_eqb (line_past s at) at (λ e. n (is ∙ e)) in
        (rw (so, is) (line_past_moved s at k), sym (rw (lines_step s at, k, so, is)))

  module _ (a : ℕ) (is : a ≡ newline s at) where
    pub linebreaks_no : a ≡ at → linebreaks s at ≡ at
    unfolding linebreaks
    linebreaks_no h = rw (sym is, eq-eqb a at h)
