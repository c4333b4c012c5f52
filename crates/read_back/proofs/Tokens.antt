-- What is written, read as tokens at the place where it begins. Assumes nothing.
use Rattle.std.specs.Prelude.{Some}
use Prim.Native.Nat.{ℕ, suc, ◌+◌, ◌≤◌, min}
use Prim.Native.Char.{code}
use mathlib.Core.Bool.{Bool, true, false, cond}
use mathlib.Core.List.{List, [], ◌∷◌, ◌++◌}
use mathlib.Core.Path.{◌≡◌, refl, sym, ◌∙◌}
use mathlib.Core.Logic.{⊎_elim}
use native.Mathlib.Omega.{arith}
use borrow.Author.Tests.{eq-eqb, ne_eqb}
use lib.ListN.{length, get_or}
use lib.IntN.{ℤ, pos, negsuc}
use Rattle.dimacs.specs.Bytes.{is_blank, is_digit, is_stop}
use Rattle.dimacs.specs.Names.{ceiling}
use Rattle.dimacs.specs.Tokens.{run, begins, unmoved, found, blanks, line_end, end_of_line, word_ends, word, lines, linebreaks, unsigned, minus, uint_at, braced_uint_at, int_at}
use Rattle.dimacs.specs.Writing.{digits, signed_digits}
use Rattle.dimacs.specs.declared.Uint.TheVariants as uint
use Rattle.dimacs.specs.declared.Int.TheVariants as int
use Rattle.dimacs.proofs.Bytes.{no_blank}
use Rattle.dimacs.proofs.Lines.{line_end_lf, line_end_no, end_at_line, newline_no, line_past_end, lines_stop, linebreaks_no}
use Rattle.dimacs.proofs.Words.{word_ends_at, fixed_is, word_is}
use Rattle.dimacs.proofs.Spans.{blanks_spans}
use Rattle.dimacs.proofs.Numbers.{All, decimal_none, unsigned_found, minus_is, minus_no, braced_found, by_value, int_zero, int_positive, int_negative}
use Rattle.dimacs.proofs.Writing.{digits_one}
use Rattle.read_back.specs.ReadBack.{LiteralFits}
use Rattle.read_back.proofs.Digits.{digits_write}
use Rattle.read_back.proofs.Ends.{Ends, start, ends_past, start_fits, drop_start, past_start, byte_start, start_past}

-- A list of which the first does not pass a test has none in front that do.
run_none : (p : ℕ → Bool) (r : List ℕ) → p (get_or r 0 0) ≡ false → run p r ≡ 0
unfolding run
run_none p [] e = refl
run_none p (b ∷ r) e = rw e

begins_all : (w t : List ℕ) → begins w (w ++ t) ≡ true
unfolding begins
begins_all [] t = refl
begins_all (a ∷ w) t = rw (eq-eqb a a refl) (begins_all w t)

-- What parts a word or number from what is read next: a space, or nothing where the line ends.
pub data Parts : List ℕ → List ℕ → Type 0 where
  space : {r : List ℕ} → is_blank (get_or r 0 0) ≡ false → Parts (code " " ∷ r) r
  line : {r : List ℕ} → Parts (code "\n" ∷ r) (code "\n" ∷ r)

parts_stop : {t r : List ℕ} → Parts t r → is_stop (get_or t 0 0) ≡ true
parts_stop (space e) = refl
parts_stop line = refl

parts_digit : {t r : List ℕ} → Parts t r → is_digit (get_or t 0 0) ≡ false
parts_digit (space e) = refl
parts_digit line = refl

parts_some : {t r : List ℕ} → Parts t r → 1 ≤ length t
parts_some (space e) = omega arith
parts_some line = omega arith

-- No blank stands before r.
blanks_none : {s : List ℕ} (r : List ℕ) → is_blank (get_or r 0 0) ≡ false → Ends s r → blanks s (start s r) ≡ start s r
blanks_none r e h = past_start h is_blank ∙ omega (arith, run_none is_blank r e)

parts_blanks : {s t r : List ℕ} → Parts t r → Ends s t → blanks s (start s t) ≡ start s r
unfolding run
parts_blanks (space {r} e) h =
    past_start h is_blank ∙ omega (arith, run_none is_blank r e, start_past (32 ∷ []) r h)
parts_blanks (line {r}) h = blanks_none (10 ∷ r) refl h

parts_end : {s t r : List ℕ} → Parts t r → Ends s t → word_ends s (start s t) ≡ true
parts_end {s} {t} p h = word_ends_at s (start s t) true (omega (arith, start_fits h, parts_some p)) (rw (byte_start h) (parts_stop p))

module _ {s : List ℕ} (n : ℕ) (t : List ℕ) (h : Ends s (digits n ++ t)) where
  all_written : is_digit (get_or t 0 0) ≡ false → All 0 s (start s (digits n ++ t)) (start s t) n
  all_written e =
      let d = digits_write n in
      let z = run_none is_digit t e in
      record {
        ends = past_start h is_digit ∙ omega (arith, d.run_on t, start_past (digits n) t h, z);
        value = rw (drop_start h) (d.value t ∙ decimal_none n t z);
      }

  on : start s t ≡ start s (digits n ++ t) → ⊥
  on e = omega (arith, start_past (digits n) t h, (digits_write n).some)

  number_written : {r : List ℕ} → Parts t r → unsigned s (start s (digits n ++ t)) ≡ found n (start s r)
  number_written {r} p =
      let k = ends_past (digits n) t h in
      rw (parts_blanks p k) at (unsigned_found (all_written (parts_digit p)) on (parts_end p k))

  pub uint_written : (limit : ℕ) {r : List ℕ} → Parts t r → n ≤ limit → uint_at s limit (start s (digits n ++ t)) ≡ uint.Value n (start s r)
  unfolding uint_at
  uint_written limit {r} p k = sym (by_value limit (number_written p) k (start s r) refl)

  no_minus : start s (digits n ++ t) ≡ minus s (start s (digits n ++ t))
  no_minus = sym (minus_no s (start s (digits n ++ t)) (λ e. omega (arith, byte_start h, (digits_write n).low t)))

  zero_digits : (limit : ℕ) {r : List ℕ} → Parts t r → n ≡ 0 → int_at s limit (start s (digits n ++ t)) ≡ int.Zero (start s r)
  zero_digits limit p e = sym (int_zero s limit (start s (digits n ++ t)) (start s (digits n ++ t)) no_minus (number_written p, omega arith) e)

-- A group in its braces.
pub braced_written : {s : List ℕ} (n : ℕ) {t r : List ℕ} → Parts t r → (limit : ℕ) → n ≤ limit → Ends s (code "{" ∷ (digits n ++ (code "}" ∷ t)))
    → braced_uint_at s limit (start s (code "{" ∷ (digits n ++ (code "}" ∷ t)))) ≡ uint.Value n (start s r)
unfolding braced_uint_at
braced_written {s} n {t} {r} p limit k h =
    let u = digits n ++ (125 ∷ t) in
    let i = ends_past (123 ∷ []) u h in
    let j = ends_past (digits n) (125 ∷ t) i in
    let e : start s (123 ∷ u) + 1 ≡ start s u = start_past (123 ∷ []) u h in
    let o : start s (125 ∷ t) + 1 ≡ start s t = start_past (125 ∷ []) t j in
    let a : All 0 s (start s (123 ∷ u) + 1) (start s (125 ∷ t)) n = rw e (all_written n (125 ∷ t) i refl) in
    let b = braced_found s (start s (123 ∷ u)) (byte_start h) a (λ z. on n (125 ∷ t) i (z ∙ e)) (byte_start j) in
    sym (by_value limit (rw (o, parts_blanks p (ends_past (125 ∷ []) t j)) at b) k (start s r) refl)

-- The 0 that closes literals.
pub zero_written : {s : List ℕ} (limit : ℕ) {t r : List ℕ} → Parts t r → Ends s (code "0" ∷ t) → int_at s limit (start s (code "0" ∷ t)) ≡ int.Zero (start s r)
zero_written {s} limit {t} {r} p =
    let k : (h : Ends s (digits 0 ++ t)) → int_at s limit (start s (digits 0 ++ t)) ≡ int.Zero (start s r) = λ h. zero_digits 0 t h limit p refl in
    rw (digits_one 0 (omega arith)) at k

-- A literal.
pub literal_written : {s : List ℕ} (limit : ℕ) (l : ℤ) {t r : List ℕ} → Parts t r → LiteralFits (min limit ceiling) l → Ends s (signed_digits l ++ t)
    → int_at s limit (start s (signed_digits l ++ t)) ≡ int.Literal l (start s r)
literal_written {s} limit (pos n) {t} p k h =
    let at = start s (digits n ++ t) in
    sym (int_positive s limit at at (no_minus n t h) (number_written n t h p, omega arith) (λ e. omega arith) k.within refl (pos n) refl)
literal_written {s} limit (negsuc n) {t} p k h =
    let u = digits (suc n) ++ t in
    let at = start s (45 ∷ u) in
    let e : at + 1 ≡ start s u = start_past (45 ∷ []) u h in
    let i = number_written (suc n) t (ends_past (45 ∷ []) u h) p in
    let is = sym e ∙ sym (minus_is s at (byte_start h)) in
    sym (int_negative s limit at (start s u) is (i, omega arith) (λ z. omega arith) k.within (λ z. omega arith) (negsuc n) refl)

-- A word, and what is read after it.
module _ {s : List ℕ} (w : List ℕ) {t r : List ℕ} (p : Parts t r) (k : 1 ≤ length w) (h : Ends s (w ++ t)) where
  word_written : word s w (start s (w ++ t)) ≡ start s r
  word_written =
      let i = ends_past w t h in
      let f = fixed_is w s (start s (w ++ t)) (rw (drop_start h) (begins_all w t)) in
      let e = start_past w t h in
      word_is w s (start s (w ++ t)) (start s t) (sym e ∙ sym f) (λ z. omega arith) (parts_end p i) ∙ parts_blanks p i

  word_on : start s r ≡ start s (w ++ t) → ⊥
  word_on e = let i = ends_past w t h in omega (arith, start_past w t h, blanks_spans s (start s t), parts_blanks p i)

  pub after_word : {A : Type 0} (none : A) (then : ℕ → A)
      → cond (unmoved (start s (w ++ t)) (word s w (start s (w ++ t)))) none (then (word s w (start s (w ++ t)))) ≡ then (start s r)
  after_word none then = rw (word_written, ne_eqb (start s r) (start s (w ++ t)) word_on)

-- A line end.
pub line_written : {s : List ℕ} (r : List ℕ) → Ends s (code "\n" ∷ r) → end_of_line s (start s (code "\n" ∷ r)) ≡ Some (start s r)
line_written {s} r h =
    let e = start_past (10 ∷ []) r h in
    let at = start s (10 ∷ r) in
    end_at_line s at (start s r) (sym e ∙ sym (line_end_lf s at (byte_start h))) (omega (arith, start_fits h)) (λ z. omega arith)

-- A byte that begins no blanks, line end or comment.
pub record Bare (b : ℕ) : Type 0 where
  pub tab : b ≡ 9 → ⊥
  pub LF : b ≡ 10 → ⊥
  pub CR : b ≡ 13 → ⊥
  pub space : b ≡ 32 → ⊥
  pub c : b ≡ 99 → ⊥

bare_blank : {b : ℕ} → Bare b → is_blank b ≡ false
bare_blank {b} k = no_blank b (λ e. ⊎_elim k.tab k.space e)

pub spaced : (r : List ℕ) → Bare (get_or r 0 0) → Parts (code " " ∷ r) r
spaced r b = space (bare_blank b)

module _ {s : List ℕ} (r : List ℕ) (b : Bare (get_or r 0 0)) (h : Ends s r) where
  no_line_end : line_end s (start s r) ≡ start s r
  no_line_end =
      let at = start s r in
      let e = byte_start h in
      line_end_no s at (λ z. b.LF (sym e ∙ z)) (λ z. absurd (b.CR (sym e ∙ z)))

  pub lines_none : lines s (blanks s (start s r)) ≡ start s r
  lines_none =
      let at = start s r in
      rw (blanks_none r (bare_blank b) h) (lines_stop s at at (sym (line_past_end s at (λ z. b.c (sym (byte_start h) ∙ z)) ∙ no_line_end)) refl)

  pub linebreaks_none : linebreaks s (start s r) ≡ start s r
  linebreaks_none = let at = start s r in linebreaks_no s at at (sym (newline_no s at at (sym no_line_end) refl)) refl
