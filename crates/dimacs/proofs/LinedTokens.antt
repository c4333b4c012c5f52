-- The tokens to which CR and LF are alike, and the word a reader stopped at, in a text as it is read. Assumes nothing.
use Prim.Native.Nat.{ℕ, zero, suc, ◌+◌, ◌-◌, ◌*◌, ◌≤◌, min}
use Prim.Native.Char.{code}
use mathlib.Core.Bool.{Bool, true, false, cond, ◌&&◌, ◌||◌}
use mathlib.Core.List.{List, [], ◌∷◌}
use mathlib.Core.Path.{◌≡◌, refl, ap, sym, ◌∙◌}
use native.Mathlib.Numerals.{add-one}
use native.Mathlib.Omega.{arith}
use borrow.Author.Tests.{eq-eqb, eqb-true, eqb-false, leb-true, leb-false}
use lib.Dec.{eqb, leb}
use lib.ListN.{length, get_or, take, drop, drop_of_length-le}
use lib.Seq.{drop-cons}
use Rattle.dimacs.specs.Bytes.{bytes, LF, CR, is_blank, is_digit, is_stop, is_not_stop}
use Rattle.dimacs.specs.Lined.{line_byte, lined}
use Rattle.dimacs.specs.Names.{longest_word}
use Rattle.dimacs.specs.Tokens.{run, past, begins, decimal, at_end, blanks, line_end, fixed, word_ends, word, unsigned, braced, minus, uint_at, braced_uint_at, int_at, stopped_at}
use Rattle.dimacs.specs.Header.{format_word}
use Rattle.dimacs.specs.declared.Format.{Format}
use Rattle.dimacs.specs.declared.Format.TheVariants.{Plain, Weighted, Grouped, Weighted2022}
use Rattle.dimacs.specs.declared.Ends.{Ends}
use Rattle.dimacs.specs.declared.Ends.TheVariants.{LineFeed, AlsoReturn}
use Rattle.dimacs.proofs.Lines.{line_end_lf}
use Rattle.dimacs.proofs.Tests.{tested, unlike}
use Rattle.dimacs.proofs.Lined.{lined-length, lined-drop, lined_byte, alike, other_byte, ended_lined, inside_lined, byte_other, byte_before_lf, byte_as_is, byte_return, eqb_lined}

-- A word in which neither CR nor LF stands.
abbrev pub on_one_line : List ℕ → Bool
on_one_line [] = true
on_one_line (b ∷ w) = cond (eqb b CR || eqb b LF) false (on_one_line w)

module _ (rule : Ends) where
  pub run_lined : (p : ℕ → Bool) → p LF ≡ p CR → (s : List ℕ) → run p (lined rule s) ≡ run p s
  unfolding run lined
  run_lined p same [] = refl
  run_lined p same (b ∷ r) = rw (alike rule p same b (get_or r 0 0), run_lined p same r)

  pub past_lined : (p : ℕ → Bool) → p LF ≡ p CR → (s : List ℕ) (at : ℕ) → past p (lined rule s) at ≡ past p s at
  unfolding past
  past_lined p same s at = rw (lined-drop rule at s, run_lined p same (drop at s))

  decimal_lined : (v : ℕ) (s : List ℕ) → decimal v (lined rule s) ≡ decimal v s
  unfolding decimal lined
  decimal_lined v [] = refl
  decimal_lined v (d ∷ r) =
      let d' = line_byte rule d (get_or r 0 0) in
      rw (decimal_lined (v * 10 + (d' - code "0")) r) (alike rule (λ x. decimal v (x ∷ r)) refl d (get_or r 0 0))

  begins_lined : (w s : List ℕ) → on_one_line w ≡ true → begins w (lined rule s) ≡ begins w s
  unfolding begins lined
  begins_lined [] s h = refl
  begins_lined (a ∷ w) [] h = refl
  begins_lined (a ∷ w) (b ∷ r) h =
      tested (eqb a CR)
      (λ t. unlike (sym (rw t at h)))
      (λ t. tested (eqb a LF)
      (λ u. unlike (sym (rw (t, u) at h)))
      (λ u. rw (begins_lined w r (rw (t, u) at h)) (alike rule (λ x. eqb a x && begins w r) (rw (t, u)) b (get_or r 0 0))))

  module _ (s : List ℕ) where
    pub blanks_lined : (at : ℕ) → blanks (lined rule s) at ≡ blanks s at
    blanks_lined = past_lined is_blank refl s

    pub end_lined : (at : ℕ) → at_end (lined rule s) at ≡ at_end s at
    end_lined at = rw (lined-length rule s)

    pub fixed_lined : (w : List ℕ) (at : ℕ) → on_one_line w ≡ true → fixed (lined rule s) w at ≡ fixed s w at
    unfolding fixed
    fixed_lined w at h = rw (lined-drop rule at s, begins_lined w (drop at s) h)

    word_ends_lined : (at : ℕ) → word_ends (lined rule s) at ≡ word_ends s at
    unfolding word_ends
    word_ends_lined at = rw (lined-length rule s, lined_byte rule s at, alike rule is_stop refl (get_or s at 0) (get_or s (at + 1) 0))

    pub word_lined : (w : List ℕ) (at : ℕ) → on_one_line w ≡ true → word (lined rule s) w at ≡ word s w at
    unfolding word
    word_lined w at h = rw (fixed_lined w at h, word_ends_lined (fixed s w at), blanks_lined (fixed s w at))

    pub p_lined : (at : ℕ) → word (lined rule s) (bytes "p") at ≡ word s (bytes "p") at
    p_lined at = word_lined (bytes "p") at refl

    pub h_lined : (at : ℕ) → word (lined rule s) (bytes "h") at ≡ word s (bytes "h") at
    h_lined at = word_lined (bytes "h") at refl

    pub format_word_lined : (f : Format) (at : ℕ) → word (lined rule s) (format_word f) at ≡ word s (format_word f) at
    format_word_lined Plain at = word_lined (format_word Plain) at refl
    format_word_lined Weighted at = word_lined (format_word Weighted) at refl
    format_word_lined Grouped at = word_lined (format_word Grouped) at refl
    format_word_lined Weighted2022 at = word_lined (format_word Weighted2022) at refl

    unsigned_lined : (at : ℕ) → unsigned (lined rule s) at ≡ unsigned s at
    unfolding unsigned
    unsigned_lined at =
        let d = past is_digit s at in
        rw (past_lined is_digit refl s at, word_ends_lined d, lined-drop rule at s, decimal_lined 0 (drop at s), blanks_lined d)

    braced_lined : (at : ℕ) → braced (lined rule s) at ≡ braced s at
    unfolding braced
    braced_lined at =
        let d = past is_digit s (at + 1) in
        rw (past_lined is_digit refl s (at + 1), eqb_lined rule s (code "{") refl refl at, eqb_lined rule s (code "}") refl refl d, lined-drop rule (at + 1) s, decimal_lined 0 (drop (at + 1) s), blanks_lined (d + 1))

    minus_lined : (at : ℕ) → minus (lined rule s) at ≡ minus s at
    unfolding minus
    minus_lined at = rw (eqb_lined rule s (code "-") refl refl at)

    pub uint_lined : (limit at : ℕ) → uint_at (lined rule s) limit at ≡ uint_at s limit at
    unfolding uint_at
    uint_lined limit at = rw (unsigned_lined at)

    pub braced_uint_lined : (limit at : ℕ) → braced_uint_at (lined rule s) limit at ≡ braced_uint_at s limit at
    unfolding braced_uint_at
    braced_uint_lined limit at = rw (braced_lined at)

    pub int_lined : (limit at : ℕ) → int_at (lined rule s) limit at ≡ int_at s limit at
    unfolding int_at
    int_lined limit at = rw (minus_lined at, unsigned_lined (minus s at))

  -- Bytes that stop no word are read as they are.
  unstopped_lined : (n : ℕ) (s : List ℕ) → n ≤ run is_not_stop s → take n (lined rule s) ≡ take n s
  unfolding run lined
  unstopped_lined zero s h = refl
  unstopped_lined (suc n) [] h = refl
  unstopped_lined (suc n) (b ∷ r) h =
      tested (is_stop b)
      (λ t. absurd (let k : suc n ≤ 0 = rw t at h in omega arith))
      (λ t. let k : suc n ≤ suc (run is_not_stop r) = rw t at h in
      rw (other_byte rule b (get_or r 0 0) (λ e. unlike (sym (ap is_stop e) ∙ t)), unstopped_lined n r (omega arith)))

  -- The word a reader stopped at is a part of the text itself: its first byte ends no line, and no other stops a word.
  module _ (s : List ℕ) (at : ℕ) (no : line_end (lined rule s) at ≡ at) where
    first_lined : get_or (lined rule s) at 0 ≡ get_or s at 0
    first_lined =
        tested (eqb (get_or s at 0) CR)
        (λ t. tested (eqb (get_or s (at + 1) 0) LF)
        (λ u. byte_before_lf rule s at (eqb-true (get_or s (at + 1) 0) LF u))
        (λ u. go rule no (eqb-true (get_or s at 0) CR t) (eqb-false (get_or s (at + 1) 0) LF u)))
        (λ t. byte_other rule s at (eqb-false (get_or s at 0) CR t))
      where
        go : (rule : Ends) → line_end (lined rule s) at ≡ at → get_or s at 0 ≡ CR → (get_or s (at + 1) 0 ≡ LF → ⊥) → get_or (lined rule s) at 0 ≡ get_or s at 0
        go LineFeed n h k = byte_as_is s at
        go AlsoReturn n h k = absurd (omega (arith, line_end_lf (lined AlsoReturn s) at (byte_return s at h k), n))

    part_lined : (n : ℕ) → n ≤ run is_not_stop (drop (at + 1) s) → take (suc n) (drop at (lined rule s)) ≡ take (suc n) (drop at s)
    part_lined n h =
        tested (leb (length s) at)
        (λ t. let l = leb-true (length s) at t in rw (drop_of_length-le s l, drop_of_length-le (lined rule s) (ended_lined rule s l)))
        (λ t. let l = leb-false (length s) at t in
        rw (drop-cons s at 0 l, drop-cons (lined rule s) at 0 (inside_lined rule s l), first_lined, lined-drop rule (suc at) s)
        (ap (λ x. get_or s at 0 ∷ x) (unstopped_lined n (drop (suc at) s) (rw (add-one at) at h))))

    pub stopped_lined : stopped_at (lined rule s) at ≡ take (min longest_word (suc (run is_not_stop (drop (at + 1) s)))) (drop at s)
    unfolding stopped_at
    stopped_lined =
        rw (eq-eqb (line_end (lined rule s) at) at no, lined-drop rule (at + 1) s, run_lined is_not_stop refl (drop (at + 1) s))
        (go (run is_not_stop (drop (at + 1) s)) refl)
      where
        go : (m : ℕ) → run is_not_stop (drop (at + 1) s) ≡ m → take (min longest_word (suc m)) (drop at (lined rule s)) ≡ take (min longest_word (suc m)) (drop at s)
        go m is = let k : min longest_word (suc m) ≡ suc (min (longest_word - 1) m) = omega arith in rw k (part_lined (min (longest_word - 1) m) (omega (arith, is)))
