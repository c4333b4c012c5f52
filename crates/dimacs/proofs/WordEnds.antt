-- Where words, numbers and lines end in a text: digits end within their word, and before the place past a number stands no LF. Assumes nothing.
use Prim.Native.Nat.{ℕ, zero, suc, ◌+◌, ◌-◌, ◌≤◌, ◌<◌, min}
use Prim.Native.Char.{code}
use mathlib.Core.Bool.{Bool, true, false, ◌&&◌}
use mathlib.Core.List.{List, [], ◌∷◌}
use mathlib.Core.Path.{◌≡◌, refl, ap, sym, ◌∙◌}
use native.Mathlib.Numerals.{add-one}
use native.Mathlib.Omega.{arith}
use borrow.Author.Tests.{ne_eqb, eqb-true, eqb-false, leb-true, leb-false}
use lib.Dec.{leb, eqb}
use lib.ListN.{length, get_or, drop}
use lib.Seq.{drop-cons}
use Rattle.dimacs.specs.Bytes.{LF, CR, is_blank, is_digit, is_not_stop}
use Rattle.dimacs.specs.Names.{ceiling}
use Rattle.dimacs.specs.Tokens.{past, unmoved, Number, none, found, up_to, up_to_either_way, byte_at, blanks, line_end, newline, linebreaks, fixed, word_ends, word, decimal, unsigned, braced, minus, uint_at, braced_uint_at, int_at, begins}
use Rattle.dimacs.specs.declared.Int.{Int}
use Rattle.dimacs.specs.declared.Int.TheVariants as int
use Rattle.dimacs.specs.declared.Uint.{Uint}
use Rattle.dimacs.specs.declared.Uint.TheVariants as uint
use Rattle.dimacs.proofs.Tests.{tested, chosen, unlike, both_left, both_right}
use Rattle.dimacs.proofs.Bytes.{below_digit}
use Rattle.dimacs.proofs.Past.{past_more, past_stop, past_end}
use Rattle.dimacs.proofs.Spans.{past_spans, blanks_spans, standing}
use Rattle.dimacs.proofs.Lines.{line_end_no, newline_no, linebreaks_no}
use Rattle.dimacs.proofs.Words.{begins_differs, begins_short, fixed_no, fixed_is, word_none, word_is, word_goes_on}
use Rattle.dimacs.proofs.Numbers.{minus_is, minus_no}

-- A word that stands is left behind.
pub word_moved : (s w : List ℕ) (at : ℕ) → unmoved at (word s w at) ≡ false → at + length w ≤ word s w at
word_moved s w at h =
    tested (begins w (drop at s))
    (λ b.
    let e = fixed s w at in
    let z = fixed_is w s at b in
    tested (unmoved at e) (λ y. absurd (none (word_none w s at e refl (eqb-true e at y))))
    (λ y. tested (word_ends s e)
    (λ o. rw (word_is w s at e refl (eqb-false e at y) o) (omega (arith, blanks_spans s e)))
    (λ o. absurd (none (word_goes_on w s at e refl (eqb-false e at y) o)))))
    (λ b. absurd (none (word_none w s at (fixed s w at) refl (fixed_no w s at b))))
  where
    none : word s w at ≡ at → ⊥
    none e = eqb-false (word s w at) at h e

-- Each byte of a word passes a test.
abbrev pub Passes : (ℕ → Bool) → List ℕ → Type 0
Passes p [] = Unit {0}
Passes p (b ∷ w) = (p b ≡ true) × Passes p w

-- No byte of a word stops words.
abbrev pub NoStops : List ℕ → Type 0
NoStops = Passes is_not_stop

pub begins-cons : (b : ℕ) (w s : List ℕ) (i : ℕ) → i < length s → begins (b ∷ w) (drop i s) ≡ eqb b (get_or s i 0) && begins w (drop (i + 1) s)
unfolding begins
begins-cons b w s i h = rw (add-one i, drop-cons s i 0 h)

-- A word does not stand where another byte does.
pub word_no : (b : ℕ) (w s : List ℕ) (at : ℕ) → (get_or s at 0 ≡ b → ⊥) → word s (b ∷ w) at ≡ at
word_no b w s at h =
    word_none (b ∷ w) s at (fixed s (b ∷ w) at) refl
    (fixed_no (b ∷ w) s at
    (tested (leb (length s) at)
    (λ e. begins_short (b ∷ w) s 0 at (omega arith) (leb-true (length s) at e))
    (λ e. begins_differs (b ∷ w) s 0 at (omega arith) (leb-false (length s) at e) h)))

-- A run goes on after the bytes with which it begins.
pub begins_run : (p : ℕ → Bool) (w s : List ℕ) (at : ℕ) → Passes p w → begins w (drop at s) ≡ true → past p s (at + length w) ≡ past p s at
begins_run p [] s at o h = let i : at + 0 ≡ at = omega arith in rw i
begins_run p (b ∷ w) s at o h =
    tested (leb (length s) at)
    (λ e. unlike (sym h ∙ begins_short (b ∷ w) s 0 at (omega arith) (leb-true (length s) at e)))
    (λ e.
    let l = leb-false (length s) at e in
    let q = sym (begins-cons b w s at l) ∙ h in
    let z = eqb-true b (get_or s at 0) (both_left (eqb b (get_or s at 0)) (begins w (drop (at + 1) s)) q) in
    let i : at + length (b ∷ w) ≡ at + 1 + length w = omega arith in
    rw i
    (begins_run p w s (at + 1) o.1 (both_right (eqb b (get_or s at 0)) (begins w (drop (at + 1) s)) q)
    ∙ past_more p s at l (ap p (sym z) ∙ o.0)))

-- From the place past a run, a run of a weaker test ends where it ends from the start.
pub past_through : (p q : ℕ → Bool) → ((b : ℕ) → p b ≡ true → q b ≡ true) → (s : List ℕ) (m at : ℕ) → length s - at < m → past q s (past p s at) ≡ past q s at
past_through p q h s zero at k = absurd (omega arith)
past_through p q h s (suc m) at k =
    tested (leb (length s) at) (λ e. rw (past_end p s at (leb-true (length s) at e)))
    (λ e. let l = leb-false (length s) at e in
    tested (p (get_or s at 0))
    (λ y. rw (sym (past_more p s at l y)) (past_through p q h s m (at + 1) (omega arith) ∙ past_more q s at l (h (get_or s at 0) y)))
    (λ y. rw (past_stop p s at l y)))

-- Each byte of a run passes its test.
pub past_passes : (p : ℕ → Bool) (s : List ℕ) (m at i : ℕ) → length s - at < m → at ≤ i → i < past p s at → p (get_or s i 0) ≡ true
past_passes p s zero at i h k l = absurd (omega arith)
past_passes p s (suc m) at i h k l =
    let o : at < length s = omega (arith, past_spans s at p) in
    tested (p (get_or s at 0))
    (λ e. tested (eqb i at) (λ y. rw (eqb-true i at y) e)
    (λ y. past_passes p s m (at + 1) i (omega arith) (omega (arith, eqb-false i at y)) (omega (arith, past_more p s at o e))))
    (λ e. absurd (omega (arith, past_stop p s at o e)))

digit_no_stop : (b : ℕ) → is_digit b ≡ true → is_not_stop b ≡ true
digit_no_stop b h = rw (ne_eqb b 9 (no 9 (below_digit 9 (omega arith))), ne_eqb b 32 (no 32 (below_digit 32 (omega arith))), ne_eqb b 13 (no 13 (below_digit 13 (omega arith))), ne_eqb b 10 (no 10 (below_digit 10 (omega arith))))
  where
    no : (c : ℕ) → is_digit c ≡ false → b ≡ c → ⊥
    no c k e = unlike (sym h ∙ ap is_digit e ∙ k)

-- Digits are no further than the word.
pub digits_in_word : (s : List ℕ) (at : ℕ) → past is_digit s at ≤ past is_not_stop s at
digits_in_word s at = omega (arith, past_through is_digit is_not_stop digit_no_stop s (suc (length s - at)) at (omega arith), past_spans s (past is_digit s at) is_not_stop)

-- The byte before a place is no LF.
abbrev pub NoLFBefore : List ℕ → ℕ → Type 0
NoLFBefore s at = get_or s (at - 1) 0 ≡ 10 → ⊥

module _ (s : List ℕ) where
  no_lf : (p : ℕ → Bool) → p 10 ≡ false → (at : ℕ) → at < past p s at → NoLFBefore s (past p s at)
  no_lf p h at k e = unlike (sym (past_passes p s (suc (length s - at)) at (past p s at - 1) (omega arith) (omega arith) (omega arith)) ∙ ap p e ∙ h)

  blanks_no_lf : (at : ℕ) → NoLFBefore s at → NoLFBefore s (blanks s at)
  blanks_no_lf at h =
      tested (unmoved at (blanks s at)) (λ e. rw (eqb-true (blanks s at) at e) h)
      (λ e. no_lf is_blank refl at (omega (arith, blanks_spans s at, eqb-false (blanks s at) at e)))

  -- The place past a number is not before the end of its digits, and no LF stands before it.
  abbrev pub NumberEnds : ℕ → Number → Type 0
  NumberEnds at none = Unit {0}
  NumberEnds at (found v e) = (past is_digit s at ≤ e) × NoLFBefore s e

  abbrev pub UintEnds : ℕ → Uint → Type 0
  UintEnds at uint.Missing = Unit {0}
  UintEnds at (uint.Value v e) = (past is_digit s at ≤ e) × NoLFBefore s e
  UintEnds at uint.TooBig = Unit {0}

  abbrev pub IntEnds : ℕ → Int → Type 0
  IntEnds at int.Missing = Unit {0}
  IntEnds at (int.Zero e) = (past is_digit s (minus s at) ≤ e) × NoLFBefore s e
  IntEnds at (int.Literal v e) = (past is_digit s (minus s at) ≤ e) × NoLFBefore s e
  IntEnds at int.TooBig = Unit {0}

  unsigned_ends : (at : ℕ) → NumberEnds at (unsigned s at)
  unfolding unsigned
  unsigned_ends at =
      let e = past is_digit s at in
      chosen (NumberEnds at) (unmoved at e) (λ _. tt)
      (λ y. chosen (NumberEnds at) (word_ends s e)
      (λ _. ((blanks_spans s e).on, blanks_no_lf e (no_lf is_digit refl at (omega (arith, past_spans s at is_digit, eqb-false e at y))))) (λ _. tt))

  pub uint_ends : (limit at : ℕ) → UintEnds at (uint_at s limit at)
  unfolding uint_at
  uint_ends limit at = go (unsigned s at) (unsigned_ends at)
    where
      go : (x : Number) → NumberEnds at x → UintEnds at (up_to limit x)
      go none h = tt
      go (found v e) h = chosen (UintEnds at) (leb v limit) (λ _. h) (λ _. tt)

  pub int_ends : (limit at : ℕ) → IntEnds at (int_at s limit at)
  unfolding int_at
  int_ends limit at = go (unsigned s (minus s at)) (unsigned_ends (minus s at))
    where
      go : (x : Number) → NumberEnds (minus s at) x → IntEnds at (up_to_either_way limit (unmoved at (minus s at)) x)
      go none h = tt
      go (found v e) h = chosen (IntEnds at) (eqb v 0) (λ _. h) (λ _. chosen (IntEnds at) (leb v (min limit ceiling)) (λ _. h) (λ _. tt))

  -- The place past a group is not before the end of its digits.
  abbrev pub GroupEnds : ℕ → Uint → Type 0
  GroupEnds at uint.Missing = Unit {0}
  GroupEnds at (uint.Value v e) = past is_digit s (at + 1) ≤ e
  GroupEnds at uint.TooBig = Unit {0}

  pub braced_uint_ends : (limit at : ℕ) → GroupEnds at (braced_uint_at s limit at)
  unfolding braced_uint_at braced
  braced_uint_ends limit at =
      let e = past is_digit s (at + 1) in
      chosen (λ x. GroupEnds at (up_to limit x)) (eqb (byte_at s at) (code "{"))
      (λ _. chosen (λ x. GroupEnds at (up_to limit x)) (unmoved (at + 1) e) (λ _. tt)
      (λ _. chosen (λ x. GroupEnds at (up_to limit x)) (eqb (byte_at s e) (code "}"))
      (λ _. chosen (GroupEnds at) (leb (decimal 0 (drop (at + 1) s)) limit) (λ _. omega (arith, blanks_spans s (e + 1))) (λ _. tt))
      (λ _. tt)))
      (λ _. tt)

  -- Digits past a minus are no further than the word either.
  pub int_in_word : (at : ℕ) → past is_digit s (minus s at) ≤ past is_not_stop s at
  int_in_word at =
      tested (eqb (byte_at s at) (code "-"))
      (λ e.
      let z = eqb-true (byte_at s at) 45 e in
      rw (minus_is s at z) (omega (arith, digits_in_word s (at + 1), past_more is_not_stop s at (standing s at 44 e) (rw z))))
      (λ e. rw (minus_no s at (eqb-false (byte_at s at) 45 e)) (digits_in_word s at))

  -- Nor are those past a brace.
  pub group_in_word : (at : ℕ) → eqb (byte_at s at) (code "{") ≡ true → past is_digit s (at + 1) ≤ past is_not_stop s at
  group_in_word at e = omega (arith, digits_in_word s (at + 1), past_more is_not_stop s at (standing s at 122 e) (rw (eqb-true (byte_at s at) 123 e)))

  -- Where a line end stands there is no word.
  pub no_word_at_line_end : (at : ℕ) → (line_end s at ≡ at → ⊥) → past is_not_stop s at ≡ at
  no_word_at_line_end at h =
      tested (leb (length s) at) (λ e. past_end is_not_stop s at (leb-true (length s) at e))
      (λ e. tested (is_not_stop (get_or s at 0))
      (λ y. absurd (h (line_end_no s at (λ z. unlike (sym y ∙ ap is_not_stop z)) (λ z _. unlike (sym y ∙ ap is_not_stop z)))))
      (λ y. past_stop is_not_stop s at (leb-false (length s) at e) y))

  pub no_word_at_break : (at : ℕ) → unmoved at (linebreaks s at) ≡ false → past is_not_stop s at ≡ at
  no_word_at_break at h =
      no_word_at_line_end at
      (λ e. eqb-false (linebreaks s at) at h (linebreaks_no s at (newline s at) refl (newline_no s at (line_end s at) refl e)))

-- A line end that does not begin with LF is CR LF.
pub line_end_long : (s : List ℕ) (at : ℕ) → eqb (byte_at s at) LF ≡ false → unmoved at (line_end s at) ≡ false → line_end s at ≡ at + 2
unfolding line_end
line_end_long s at e h =
    tested (eqb (byte_at s at) CR && eqb (byte_at s (at + 1)) LF) (λ y. rw (e, y))
    (λ y. let k : unmoved at at ≡ false = rw (e, y) at h in absurd (eqb-false at at k refl))
