-- Where tokens end: a token leads on and never past the end of the text, so one that stands moves the place within it. Assumes nothing.
use Rattle.std.specs.Prelude.{Option, None, Some}
use Prim.Native.Nat.{ℕ, suc, ◌+◌, ◌-◌, ◌≤◌, ◌<◌, min, max}
use Prim.Native.Char.{code}
use mathlib.Core.Bool.{Bool, true, false, cond, ◌&&◌}
use mathlib.Core.List.{List, [], ◌∷◌}
use mathlib.Core.Path.{◌≡◌, refl}
use native.Mathlib.Omega.{arith}
use borrow.Author.Tests.{ltb-true, ltb-false, leb-true, leb-false, eqb-true, eqb-false}
use lib.Dec.{ltb, leb, eqb}
use lib.ListN.{length, drop, length-drop, get_or-eq_default}
use Rattle.dimacs.specs.Bytes.{bytes, LF, CR, is_blank, is_digit, is_not_lf}
use Rattle.dimacs.specs.Names.{ceiling}
use Rattle.dimacs.specs.Tokens.{run, past, begins, unmoved, Number, none, found, byte_at, blanks, line_end, next_line, end_of_line, fixed, word_ends, word, strict_comment, newline, line_past, comment_or_newline, lines, linebreaks, unsigned, braced, minus, up_to, up_to_either_way, uint_at, braced_uint_at, int_at}
use Rattle.dimacs.specs.declared.Uint.{Uint}
use Rattle.dimacs.specs.declared.Uint.TheVariants as uint
use Rattle.dimacs.specs.declared.Int.{Int}
use Rattle.dimacs.specs.declared.Int.TheVariants as int
use Rattle.dimacs.proofs.Tests.{chosen, both_right}
use Rattle.dimacs.proofs.Loops.{Leads, Falls, after, unrolled, kept}

-- From a place to one at or after it; only a place before the end is left.
pub record Spans (s : List ℕ) (at e : ℕ) : Type 0 where
  pub on : at ≤ e
  pub within : e ≤ max at (length s)

-- A byte that is not 0 stands before the end.
pub standing : (s : List ℕ) (i b : ℕ) → eqb (byte_at s i) (suc b) ≡ true → i < length s
standing s i b h = go (leb (length s) i) refl
  where
    go : (t : Bool) → leb (length s) i ≡ t → i < length s
    go true q = absurd (omega (arith, eqb-true (byte_at s i) (suc b) h, get_or-eq_default s 0 (leb-true (length s) i q)))
    go false q = leb-false (length s) i q

run_le : {A : Type 0} (p : A → Bool) (l : List A) → run p l ≤ length l
unfolding run
run_le p [] = omega arith
run_le p (b ∷ r) = go (p b) (run_le p r)
  where
    go : (t : Bool) → run p r ≤ length r → cond t (suc (run p r)) 0 ≤ suc (length r)
    go true h = omega arith
    go false h = omega arith

begins_le : (w r : List ℕ) → begins w r ≡ true → length w ≤ length r
unfolding begins
begins_le [] r h = omega arith
begins_le (a ∷ w) [] h = absurd (let z : ◌≡◌ {A = ℕ} 0 1 = cc in omega arith)
begins_le (a ∷ w) (b ∷ r) h = omega (arith, begins_le w r (both_right (eqb a b) (begins w r) h))

module _ (s : List ℕ) (at : ℕ) where
  pub past_spans : (p : ℕ → Bool) → Spans s at (past p s at)
  unfolding past
  past_spans p = omega (arith, run_le p (drop at s), length-drop at s)

  pub line_end_spans : Spans s at (line_end s at)
  unfolding line_end
  line_end_spans =
      chosen (Spans s at) (eqb (byte_at s at) LF) (λ e. let l = standing s at 9 e in omega arith)
      (λ _. chosen (Spans s at) (eqb (byte_at s at) CR && eqb (byte_at s (at + 1)) LF)
      (λ e. let l = standing s (at + 1) 9 (both_right (eqb (byte_at s at) CR) (eqb (byte_at s (at + 1)) LF) e) in omega arith)
      (λ _. omega arith))

  pub minus_spans : Spans s at (minus s at)
  unfolding minus
  minus_spans = chosen (Spans s at) (eqb (byte_at s at) (code "-")) (λ e. let l = standing s at 44 e in omega arith) (λ _. omega arith)

  pub next_line_spans : Spans s at (next_line s at)
  unfolding next_line
  next_line_spans =
      let h = past_spans is_not_lf in
      chosen (Spans s at) (ltb (past is_not_lf s at) (length s)) (λ e. let l = ltb-true (past is_not_lf s at) (length s) e in omega arith) (λ _. h)

  pub fixed_spans : (w : List ℕ) → Spans s at (fixed s w at)
  unfolding fixed
  fixed_spans w = chosen (Spans s at) (begins w (drop at s)) (λ e. omega (arith, begins_le w (drop at s) e, length-drop at s)) (λ _. omega arith)

-- A token and then another.
pub then_spans : {s : List ℕ} {at e f : ℕ} → Spans s at e → Spans s e f → Spans s at f
then_spans h k = omega arith

-- A token that stands is left behind.
pub moved : {s : List ℕ} {at e : ℕ} → Spans s at e → unmoved at e ≡ false → length s - e < length s - at
moved {s} {at} {e} h k = omega (arith, eqb-false e at k)

module _ (s : List ℕ) where
  pub blanks_spans : (at : ℕ) → Spans s at (blanks s at)
  blanks_spans at = past_spans s at is_blank

  pub word_spans : (w : List ℕ) (at : ℕ) → Spans s at (word s w at)
  unfolding word
  word_spans w at =
      chosen (Spans s at) (unmoved at (fixed s w at)) (λ _. omega arith)
      (λ _. chosen (Spans s at) (word_ends s (fixed s w at)) (λ _. then_spans (fixed_spans s at w) (blanks_spans (fixed s w at))) (λ _. omega arith))

  pub strict_comment_spans : (at : ℕ) → Spans s at (strict_comment s at)
  unfolding strict_comment
  strict_comment_spans at =
      let e = fixed s (bytes "c ") at in
      chosen (Spans s at) (unmoved at e) (λ _. omega arith) (λ _. then_spans (fixed_spans s at (bytes "c ")) (next_line_spans s e))

  pub newline_spans : (at : ℕ) → Spans s at (newline s at)
  unfolding newline
  newline_spans at =
      chosen (Spans s at) (unmoved at (line_end s at)) (λ _. omega arith) (λ _. then_spans (line_end_spans s at) (blanks_spans (line_end s at)))

  pub line_past_spans : (at : ℕ) → Spans s at (line_past s at)
  unfolding line_past
  line_past_spans at =
      chosen (Spans s at) (eqb (byte_at s at) (code "c"))
      (λ e. let l = standing s at 98 e in omega (arith, next_line_spans s (at + 1))) (λ _. line_end_spans s at)

  -- A comment or line end that stands is left behind, with the blanks after it.
  pub line_past_moved : (at : ℕ) → unmoved at (line_past s at) ≡ false → length s - blanks s (line_past s at) < length s - at
  line_past_moved at e = omega (arith, moved (line_past_spans at) e, blanks_spans (line_past s at))

  lines_falls : (at : ℕ) → Falls (λ i. length s - i) at (comment_or_newline s at)
  unfolding comment_or_newline
  lines_falls at = chosen (Falls (λ i. length s - i) at) (unmoved at (line_past s at)) (λ _. tt) (λ e. line_past_moved at e)

  -- One comment or line end, and then the rest of them.
  pub lines_step : (at : ℕ) → lines s at ≡ after (comment_or_newline s at) (lines s)
  unfolding lines
  lines_step at = unrolled (comment_or_newline s) 0 (λ i. length s - i) lines_falls (suc (length s)) at (omega arith)

  pub lines_spans : (at : ℕ) → Spans s at (lines s at)
  unfolding lines comment_or_newline
  lines_spans at =
      kept (comment_or_newline s) 0 (λ i. length s - i) lines_falls (Spans s at) (Spans s at) on (suc (length s)) at (omega arith) (omega arith)
    where
      on : (i : ℕ) → Spans s at i → Leads (Spans s at) (Spans s at) (comment_or_newline s i)
      on i h =
          chosen (Leads (Spans s at) (Spans s at)) (unmoved i (line_past s i)) (λ _. h)
          (λ _. then_spans h (then_spans (line_past_spans i) (blanks_spans (line_past s i))))

  pub linebreaks_spans : (at : ℕ) → Spans s at (linebreaks s at)
  unfolding linebreaks
  linebreaks_spans at =
      chosen (Spans s at) (unmoved at (newline s at)) (λ _. omega arith) (λ _. then_spans (newline_spans at) (lines_spans (newline s at)))

-- Past what closes a line: a byte at least, or the end of the text.
pub record Closes (s : List ℕ) (at e : ℕ) : Type 0 where
  pub on : at ≤ e
  pub within : e ≤ max at (length s)
  pub takes : min (at + 1) (length s) ≤ e

abbrev pub EndCloses : List ℕ → ℕ → Option ℕ → Type 0
EndCloses s at None = Unit {0}
EndCloses s at (Some e) = Closes s at e

pub end_closes : (s : List ℕ) (at : ℕ) → EndCloses s at (end_of_line s at)
unfolding end_of_line
end_closes s at =
    chosen (EndCloses s at) (leb (length s) at) (λ e. let l = leb-true (length s) at e in omega arith)
    (λ _. chosen (EndCloses s at) (unmoved at (line_end s at)) (λ _. tt)
    (λ e. let n = eqb-false (line_end s at) at e in omega (arith, line_end_spans s at, n)))

-- From a place to a later one within the text.
pub record Moves (s : List ℕ) (at e : ℕ) : Type 0 where
  pub on : at < e
  pub within : e ≤ length s

pub moves : {s : List ℕ} {at e : ℕ} → Spans s at e → unmoved at e ≡ false → Moves s at e
moves {s} {at} {e} h k = omega (arith, eqb-false e at k)

pub then_moves : {s : List ℕ} {at e f : ℕ} → Moves s at e → Spans s e f → Moves s at f
then_moves h k = omega arith

pub moves_then : {s : List ℕ} {at e f : ℕ} → Spans s at e → Moves s e f → Moves s at f
moves_then h k = omega arith

-- The next line is further on, unless the text ends.
pub next_line_moves : (s : List ℕ) (at : ℕ) → at < length s → Moves s at (next_line s at)
unfolding next_line
next_line_moves s at h =
    let k = past_spans s at is_not_lf in
    chosen (Moves s at) (ltb (past is_not_lf s at) (length s)) (λ e. let l = ltb-true (past is_not_lf s at) (length s) e in omega arith)
    (λ e. let l = ltb-false (past is_not_lf s at) (length s) e in omega arith)

-- A number that stands ends at a later place within the text.
abbrev pub NumberMoves : List ℕ → ℕ → Number → Type 0
NumberMoves s at none = Unit {0}
NumberMoves s at (found n e) = Moves s at e

abbrev pub UintMoves : List ℕ → ℕ → Uint → Type 0
UintMoves s at uint.Missing = Unit {0}
UintMoves s at (uint.Value n e) = Moves s at e
UintMoves s at uint.TooBig = Unit {0}

-- A value is within its limit.
abbrev pub UintWithin : ℕ → Uint → Type 0
UintWithin limit uint.Missing = Unit {0}
UintWithin limit (uint.Value n e) = n ≤ limit
UintWithin limit uint.TooBig = Unit {0}

abbrev pub IntMoves : List ℕ → ℕ → Int → Type 0
IntMoves s at int.Missing = Unit {0}
IntMoves s at (int.Zero e) = Moves s at e
IntMoves s at (int.Literal v e) = Moves s at e
IntMoves s at int.TooBig = Unit {0}

module _ (s : List ℕ) where
  pub unsigned_moves : (at : ℕ) → NumberMoves s at (unsigned s at)
  unfolding unsigned
  unsigned_moves at =
      chosen (NumberMoves s at) (unmoved at (past is_digit s at)) (λ _. tt)
      (λ e. chosen (NumberMoves s at) (word_ends s (past is_digit s at))
      (λ _. then_moves (moves (past_spans s at is_digit) e) (blanks_spans s (past is_digit s at)))
      (λ _. tt))

  pub braced_moves : (at : ℕ) → NumberMoves s at (braced s at)
  unfolding braced
  braced_moves at =
      let e = past is_digit s (at + 1) in
      chosen (NumberMoves s at) (eqb (byte_at s at) (code "{"))
      (λ h. chosen (NumberMoves s at) (unmoved (at + 1) e) (λ _. tt)
      (λ k. chosen (NumberMoves s at) (eqb (byte_at s e) (code "}"))
      (λ l. let o = standing s e 124 l in
      let m : Moves s at (e + 1) = omega (arith, past_spans s (at + 1) is_digit) in
      then_moves m (blanks_spans s (e + 1)))
      (λ _. tt)))
      (λ _. tt)

  up_to_moves : (limit at : ℕ) (n : Number) → NumberMoves s at n → UintMoves s at (up_to limit n)
  up_to_moves limit at none h = tt
  up_to_moves limit at (found n e) h = chosen (UintMoves s at) (leb n limit) (λ _. h) (λ _. tt)

  pub uint_moves : (limit at : ℕ) → UintMoves s at (uint_at s limit at)
  unfolding uint_at
  uint_moves limit at = up_to_moves limit at (unsigned s at) (unsigned_moves at)

  pub uint_within : (limit at : ℕ) → UintWithin limit (uint_at s limit at)
  unfolding uint_at
  uint_within limit at = go (unsigned s at)
    where
      go : (n : Number) → UintWithin limit (up_to limit n)
      go none = tt
      go (found n e) = chosen (UintWithin limit) (leb n limit) (λ t. leb-true n limit t) (λ _. tt)

  pub braced_uint_moves : (limit at : ℕ) → UintMoves s at (braced_uint_at s limit at)
  unfolding braced_uint_at
  braced_uint_moves limit at = up_to_moves limit at (braced s at) (braced_moves at)

  pub int_moves : (limit at : ℕ) → IntMoves s at (int_at s limit at)
  unfolding int_at
  int_moves limit at =
      let e = minus s at in
      go (unsigned s e) (back (unsigned s e) (unsigned_moves e))
    where
      back : (n : Number) → NumberMoves s (minus s at) n → NumberMoves s at n
      back none h = tt
      back (found n e) h = moves_then (minus_spans s at) h

      go : (n : Number) → NumberMoves s at n → IntMoves s at (up_to_either_way limit (unmoved at (minus s at)) n)
      go none h = tt
      go (found n e) h = chosen (IntMoves s at) (eqb n 0) (λ _. h) (λ _. chosen (IntMoves s at) (leb n (min limit ceiling)) (λ _. h) (λ _. tt))
