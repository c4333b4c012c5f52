-- The line of a header, read from the beginning of the text; and a text that begins with a clause has none. Assumes nothing.
use Rattle.std.specs.Prelude.{Ok}
use Prim.Native.Nat.{ℕ, ◌≤◌}
use Prim.Native.Char.{code}
use mathlib.Core.Bool.{true, false}
use mathlib.Core.List.{List, [], ◌∷◌, ◌++◌, append_assoc}
use mathlib.Core.Path.{◌≡◌, refl, sym, ◌∙◌}
use native.Mathlib.Omega.{arith}
use lib.ListN.{length, get_or}
use Rattle.dimacs.specs.Bytes.{is_blank}
use Rattle.dimacs.specs.Names.{ceiling, largest}
use Rattle.dimacs.specs.Header.{has_header, format_word, header_of, header_end, third_there, third_count, clause_count, variable_count, after_p, opening_of}
use Rattle.dimacs.specs.Writing.{digits, third_digits, header_line}
use Rattle.dimacs.specs.declared.Format.{Format}
use Rattle.dimacs.specs.declared.Format.TheVariants.{Plain, Weighted, Grouped, Weighted2022}
use Rattle.dimacs.specs.declared.Header.{Header}
use Rattle.dimacs.specs.declared.Opening.TheVariants as opening
use Rattle.dimacs.proofs.Tests.{tested, unlike}
use Rattle.dimacs.proofs.WordEnds.{word_no}
use Rattle.read_back.specs.ReadBack.{ThirdFits, HeaderFits}
use Rattle.read_back.proofs.Ends.{Ends, start, ends_all, ends_past, ends_after, start_all}
use Rattle.read_back.proofs.Tokens.{Parts, space, line, uint_written, after_word, line_written, spaced, lines_none}
use Rattle.read_back.proofs.Clauses.{Opener, digits_open}

parted : (n : ℕ) (t : List ℕ) → Parts (code " " ∷ (digits n ++ t)) (digits n ++ t)
parted n t = spaced (digits n ++ t) (digits_open n t).bare

header_end_written : {s : List ℕ} (h : Header) (t : List ℕ) → Ends s (code "\n" ∷ t) → header_end s h (start s (code "\n" ∷ t)) ≡ Ok (opening.Header h (start s t))
unfolding header_end
header_end_written h t k = rw (line_written t k)

module _ {s : List ℕ} (v c : ℕ) (t : List ℕ) where
  third_written : (n : ℕ) → n ≤ largest → Ends s (digits n ++ (code "\n" ∷ t))
      → third_there s v c (start s (digits n ++ (code "\n" ∷ t))) ≡ Ok (opening.Header (header_of v c n) (start s t))
  unfolding third_there
  third_written n k h = rw (uint_written n (10 ∷ t) h largest line k) (header_end_written (header_of v c n) t (ends_past (digits n) (10 ∷ t) h))

  counted_third : (n : ℕ) → n ≤ largest → c ≤ largest → Ends s (digits c ++ (code " " ∷ (digits n ++ (code "\n" ∷ t))))
      → clause_count s Weighted v (start s (digits c ++ (code " " ∷ (digits n ++ (code "\n" ∷ t))))) ≡ Ok (opening.Header (header_of v c n) (start s t))
  unfolding clause_count third_count
  counted_third n e k h =
      let u = digits n ++ (10 ∷ t) in
      rw (uint_written c (32 ∷ u) h largest (parted n (10 ∷ t)) k) (third_written n e (ends_after (digits c) 32 u h))

  counted_last : c ≤ largest → Ends s (digits c ++ (code "\n" ∷ t))
      → clause_count s Plain v (start s (digits c ++ (code "\n" ∷ t))) ≡ Ok (opening.Header (header_of v c 0) (start s t))
  unfolding clause_count third_count
  counted_last k h = rw (uint_written c (10 ∷ t) h largest line k) (header_end_written (header_of v c 0) t (ends_past (digits c) (10 ∷ t) h))

  clauses_written : (f : Format) (n : ℕ) → ThirdFits f n → c ≤ largest → Ends s (digits c ++ (third_digits f n ++ (code "\n" ∷ t)))
      → clause_count s f v (start s (digits c ++ (third_digits f n ++ (code "\n" ∷ t)))) ≡ Ok (opening.Header (header_of v c n) (start s t))
  unfolding clause_count third_count
  clauses_written Plain n e k h = rw e (counted_last k h)
  clauses_written Weighted n e k h = counted_third n e k h
  clauses_written Grouped n e k h = counted_third n e k h
  clauses_written Weighted2022 n e k h = rw e (counted_last k h)

-- The counts of a header and the end of its line, before what follows.
abbrev counts : Format → Header → List ℕ → List ℕ
counts f h t = digits h.variables ++ (code " " ∷ (digits h.clauses ++ (third_digits f h.third ++ (code "\n" ∷ t))))

-- The line of a header, before what follows.
abbrev heading : Format → Header → List ℕ → List ℕ
heading f h t = code "p" ∷ code " " ∷ (format_word f ++ (code " " ∷ counts f h t))

line_on : (f : Format) (h : Header) (t : List ℕ) → header_line f h ++ t ≡ heading f h t
unfolding header_line
line_on f h t = simp append_assoc

word_bare : (f : Format) (t : List ℕ) → has_header f ≡ true → is_blank (get_or (format_word f ++ t) 0 0) ≡ false
word_bare Plain t k = refl
word_bare Weighted t k = refl
word_bare Grouped t k = refl
word_bare Weighted2022 t k = unlike (sym k)

word_long : (f : Format) → has_header f ≡ true → 1 ≤ length (format_word f)
word_long Plain k = omega arith
word_long Weighted k = omega arith
word_long Grouped k = omega arith
word_long Weighted2022 k = unlike (sym k)

module _ {s : List ℕ} (f : Format) (h : Header) (k : HeaderFits f h) (t : List ℕ) where
  counts_written : Ends s (counts f h t) → variable_count s f (start s (counts f h t)) ≡ Ok (opening.Header h (start s t))
  unfolding variable_count
  counts_written e =
      let r = third_digits f h.third ++ (10 ∷ t) in
      let u = digits h.clauses ++ r in
      rw (uint_written h.variables (32 ∷ u) e ceiling (parted h.clauses r) k.variables)
      (clauses_written h.variables h.clauses t f h.third k.third k.clauses (ends_after (digits h.variables) 32 u e))

  word_then_counts : Ends s (format_word f ++ (code " " ∷ counts f h t)) → after_p s f (start s (format_word f ++ (code " " ∷ counts f h t))) ≡ Ok (opening.Header h (start s t))
  unfolding after_p
  word_then_counts e =
      after_word (format_word f) (parted h.variables _) (word_long f k.there) e _ (variable_count s f)
      ∙ counts_written (ends_after (format_word f) 32 (counts f h t) e)

  heading_opens : Ends s (heading f h t) → start s (heading f h t) ≡ 0 → opening_of s f ≡ Ok (opening.Header h (start s t))
  unfolding opening_of
  heading_opens e z =
      let u = format_word f ++ (32 ∷ counts f h t) in
      rw (rw z at (lines_none (heading f h t) (omega arith) e) ∙ sym z, k.there)
      (after_word (112 ∷ []) (space (word_bare f (32 ∷ counts f h t) k.there)) (omega arith) e _ (after_p s f) ∙ word_then_counts (ends_past (112 ∷ 32 ∷ []) u e))

-- A text that begins with the line of a header opens with that header.
pub header_opens : (f : Format) (h : Header) → HeaderFits f h → (t : List ℕ)
    → opening_of (header_line f h ++ t) f ≡ Ok (opening.Header h (start (header_line f h ++ t) t))
header_opens f h k t = rw (line_on f h t) (heading_opens f h k t (ends_all (heading f h t)) (start_all (heading f h t)))

-- A text that begins as a clause does opens with no header.
pub none_opens : (f : Format) (s : List ℕ) → Opener (get_or s 0 0) → opening_of s f ≡ Ok (opening.NoHeader 0)
unfolding opening_of
none_opens f s o =
    let z = start_all s in
    let l = rw z at (lines_none s o.bare (ends_all s)) in
    rw (l, word_no 112 [] s 0 o.p) (tested (has_header f) (λ e. rw e) (λ e. rw e))
