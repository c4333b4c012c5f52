-- The line of a clause, read where it begins. Assumes nothing.
use Prim.Native.Nat.{ℕ, ◌+◌, ◌≤◌}
use Prim.Native.Char.{code}
use mathlib.Core.List.{List, [], ◌∷◌, ◌++◌, append_assoc, append-nil}
use mathlib.Core.Path.{◌≡◌, refl, ap, sym, ◌∙◌}
use mathlib.Core.Bool.{false, cond}
use native.Mathlib.Omega.{arith}
use borrow.Author.Tests.{eq-eqb, eqb-true}
use lib.Dec.{eqb}
use lib.ListN.{length, get_or, length-append}
use lib.IntN.{ℤ, pos, negsuc}
use Rattle.dimacs.specs.Leniency.{Each}
use Rattle.dimacs.specs.Names.{ceiling, largest, hard}
use Rattle.dimacs.specs.Tokens.{uint_at, int_at, linebreaks}
use Rattle.dimacs.specs.Rows.{closes, reads, row}
use Rattle.dimacs.specs.Clauses as clauses
use Rattle.dimacs.specs.Clauses.{closed, literals, clause, says, literals_after, soft_by, start_in2022, start_at, finish, clause_at}
use Rattle.dimacs.specs.Writing.{digits, signed_digits, lead, items, clause_line}
use Rattle.dimacs.specs.declared.Format.{Format}
use Rattle.dimacs.specs.declared.Format.TheVariants.{Plain, Weighted, Grouped, Weighted2022}
use Rattle.dimacs.specs.declared.Absence.{Absence}
use Rattle.dimacs.specs.declared.Absence.TheVariants.{NoLiterals}
use Rattle.dimacs.specs.declared.Limits.{Limits}
use Rattle.dimacs.specs.declared.Int.TheVariants as int
use Rattle.dimacs.proofs.Tests.{tested, chosen}
use Rattle.dimacs.proofs.WordEnds.{word_no}
use Rattle.dimacs.proofs.Rows.{row_closes, row_takes}
use Rattle.dimacs.proofs.Literals.{closed_by}
use Rattle.read_back.specs.ReadBack.{ExtraFits, LiteralFits, ClauseFits, Clause, answer_of}
use Rattle.read_back.proofs.Digits.{digits_write}
use Rattle.read_back.proofs.Ends.{Ends, start, ends_past, ends_after, byte_start}
use Rattle.read_back.proofs.Tokens.{Parts, line, uint_written, braced_written, zero_written, literal_written, line_written, after_word, Bare, spaced, linebreaks_none}

-- A byte with which a clause may begin.
pub record Opener (b : ℕ) : Type 0 where
  pub bare : Bare b
  pub p : b ≡ 112 → ⊥

pub digits_open : (n : ℕ) (t : List ℕ) → Opener (get_or (digits n ++ t) 0 0)
digits_open n t = omega (arith, (digits_write n).low t, (digits_write n).high t)

signed_open : (l : ℤ) (t : List ℕ) → Opener (get_or (signed_digits l ++ t) 0 0)
signed_open (pos n) t = digits_open n t
signed_open (negsuc n) t = omega arith

items_more : (l : ℤ) (so : List ℤ) (t : List ℕ) → items (l ∷ so) ++ t ≡ signed_digits l ++ (code " " ∷ (items so ++ t))
unfolding items
items_more l so t = simp append_assoc

-- Literals and the end of their clause, before what follows.
abbrev closing : List ℤ → List ℕ → List ℕ
closing so t = items so ++ (code "0" ∷ code "\n" ∷ t)

closing_opens : (so : List ℤ) (t : List ℕ) → Opener (get_or (closing so t) 0 0)
unfolding items
closing_opens [] t = omega arith
closing_opens (l ∷ so) t = rw (items_more l so (48 ∷ 10 ∷ t)) (signed_open l (32 ∷ closing so t))

parted : (so : List ℤ) (t : List ℕ) → Parts (code " " ∷ closing so t) (closing so t)
parted so t = spaced (closing so t) (closing_opens so t).bare

module _ (s : List ℕ) (limit : ℕ) (low : limit ≤ ceiling) (t : List ℕ) where
  first_zero : Ends s (closing [] t) → int_at s limit (start s (closing [] t)) ≡ int.Zero (start s (code "\n" ∷ t))
  unfolding items
  first_zero h = zero_written limit line h

  first_literal : (l : ℤ) (so : List ℤ) → LiteralFits limit l → Ends s (closing (l ∷ so) t)
      → int_at s limit (start s (closing (l ∷ so) t)) ≡ int.Literal l (start s (closing so t))
  first_literal l so k =
      rw (items_more l so (48 ∷ 10 ∷ t)) (λ h. literal_written limit l (parted so t) (omega arith) h)

  rest_ends : (l : ℤ) (so : List ℤ) → Ends s (closing (l ∷ so) t) → Ends s (closing so t)
  rest_ends l so = rw (items_more l so (48 ∷ 10 ∷ t)) (λ h. ends_after (signed_digits l) 32 (closing so t) h)

  line_ends_lem : (so : List ℤ) → Ends s (closing so t) → Ends s (code "\n" ∷ t)
  line_ends_lem so h = ends_after (items so) 48 (10 ∷ t) h

  row_written : (room : ℕ) (so done : List ℤ) → Each (LiteralFits limit) so → length done + length so ≤ room → Ends s (closing so t)
      → row s limit room (reads (start s (closing so t)) done) ≡ closes (start s (code "\n" ∷ t)) (done ++ so)
  row_written room [] done k r h = rw append-nil (row_closes s limit room (start s (closing [] t)) done (first_zero h))
  row_written room (l ∷ so) done k r h =
      row_takes s limit room (start s (closing (l ∷ so) t)) done (first_literal l so k.0 h) (omega arith)
      ∙ row_written room so (done ++ (l ∷ [])) k.1 (simp length-append (omega arith)) (rest_ends l so h)
      ∙ rw (append_assoc done (l ∷ []) so)

  literals_written : (room : ℕ) (so : List ℤ) → Each (LiteralFits limit) so → length so ≤ room → Ends s (closing so t)
      → literals s limit room (start s (closing so t)) ≡ closed so (start s (code "\n" ∷ t))
  unfolding literals
  literals_written room so k r h = closed_by s limit room (reads (start s (closing so t)) []) (row_written room so [] k (omega arith) h)

-- What stands before literals and their end, before what follows.
abbrev leading : Format → ℕ → List ℕ → List ℕ
leading Plain extra u = u
leading Weighted extra u = digits extra ++ (code " " ∷ u)
leading Grouped extra u = code "{" ∷ (digits extra ++ (code "}" ∷ code " " ∷ u))
leading Weighted2022 extra u = cond (eqb extra hard) (code "h" ∷ code " " ∷ u) (digits extra ++ (code " " ∷ u))

lead_on : (f : Format) (extra : ℕ) (u : List ℕ) → lead f extra ++ u ≡ leading f extra u
lead_on Plain extra u = refl
lead_on Weighted extra u = append_assoc (digits extra) (32 ∷ []) u
lead_on Grouped extra u = ap (λ l. 123 ∷ l) (append_assoc (digits extra) (125 ∷ 32 ∷ []) u)
lead_on Weighted2022 extra u = tested (eqb extra 0) (λ e. rw e) (λ e. rw e (append_assoc (digits extra) (32 ∷ []) u))

line_on : (f : Format) (extra : ℕ) (so : List ℤ) (t : List ℕ) → clause_line f extra so ++ t ≡ leading f extra (closing so t)
unfolding clause_line
line_on f extra so t = simp append_assoc (lead_on f extra (closing so t))

pub line_opens : (f : Format) (extra : ℕ) (so : List ℤ) (t : List ℕ) → Opener (get_or (clause_line f extra so ++ t) 0 0)
line_opens f extra so t = rw (line_on f extra so t) (go f)
  where
    go : (f : Format) → Opener (get_or (leading f extra (closing so t)) 0 0)
    go Plain = closing_opens so t
    go Weighted = digits_open extra (32 ∷ closing so t)
    go Grouped = omega arith
    go Weighted2022 = chosen (λ l. Opener (get_or l 0 0)) (eqb extra 0) (λ _. omega arith) (λ _. digits_open extra (32 ∷ closing so t))

module _ (s : List ℕ) (limits : Limits) (low : limits.literals ≤ ceiling) (room : ℕ) (extra : ℕ) (so : List ℤ) (t : List ℕ)
    (k : Each (LiteralFits limits.literals) so) (few : length so ≤ room) where
  finish_written : (absence : Absence) → Ends s (closing so t)
      → let at = start s (closing so t) in finish s extra at absence (literals s limits.literals room at) ≡ says (clause extra so) (start s t)
  unfolding clauses.closing
  finish_written absence h = rw (literals_written s limits.literals low t room so k few h, line_written t (line_ends_lem s limits.literals low t so h))

  owed_written : Ends s (closing so t)
      → let at = linebreaks s (start s (closing so t)) in finish s extra at NoLiterals (literals s limits.literals room at) ≡ says (clause extra so) (start s t)
  owed_written h = rw (linebreaks_none (closing so t) (closing_opens so t).bare h) (finish_written NoLiterals h)

  led_hard : extra ≡ hard → (absence : Absence) → Ends s (code "h" ∷ code " " ∷ closing so t)
      → clause_at s limits room Weighted2022 absence (start s (code "h" ∷ code " " ∷ closing so t)) ≡ says (clause extra so) (start s t)
  unfolding clause_at start_at start_in2022
  led_hard e absence h =
      let u = closing so t in
      let at = start s (104 ∷ 32 ∷ u) in
      let l = linebreaks s (start s u) in
      rw (
        word_no 112 [] s at (λ z. omega (arith, byte_start h)),
        eq-eqb at at refl,
        after_word (104 ∷ []) (parted so t) (omega arith) h (soft_by s absence at (uint_at s largest at)) (literals_after s hard),
      )
      (ap (λ x. finish s x l NoLiterals (literals s limits.literals room l)) (sym e) ∙ owed_written (ends_past (104 ∷ 32 ∷ []) u h))

  led_soft : eqb extra 0 ≡ false → extra ≤ largest → (absence : Absence) → Ends s (digits extra ++ (code " " ∷ closing so t))
      → clause_at s limits room Weighted2022 absence (start s (digits extra ++ (code " " ∷ closing so t))) ≡ says (clause extra so) (start s t)
  unfolding clause_at start_at start_in2022
  led_soft e k absence h =
      let u = closing so t in
      let at = start s (digits extra ++ (32 ∷ u)) in
      let d = digits_write extra in
      rw (
        word_no 112 [] s at (λ z. omega (arith, byte_start h, d.high (32 ∷ u))),
        word_no 104 [] s at (λ z. omega (arith, byte_start h, d.high (32 ∷ u))),
        eq-eqb at at refl,
        uint_written extra (32 ∷ u) h largest (parted so t) k,
      )
      (rw e (owed_written (ends_after (digits extra) 32 u h)))

  led_in_2022 : extra ≤ largest → (absence : Absence) → Ends s (leading Weighted2022 extra (closing so t))
      → clause_at s limits room Weighted2022 absence (start s (leading Weighted2022 extra (closing so t))) ≡ says (clause extra so) (start s t)
  led_in_2022 k absence = tested (eqb extra 0) (λ e. rw e (led_hard (eqb-true extra 0 e) absence)) (λ e. rw e (led_soft e k absence))

  led : (f : Format) → ExtraFits f limits extra → Ends s (leading f extra (closing so t)) → (absence : Absence)
      → clause_at s limits room f absence (start s (leading f extra (closing so t))) ≡ says (clause extra so) (start s t)
  unfolding clause_at start_at
  led Plain e h absence =
      let at = start s (closing so t) in
      ap (λ x. finish s x at absence (literals s limits.literals room at)) (sym e) ∙ finish_written absence h
  led Weighted e h absence =
      let u = closing so t in
      rw (uint_written extra (32 ∷ u) h largest (parted so t) e) (owed_written (ends_after (digits extra) 32 u h))
  led Grouped e h absence =
      let u = closing so t in
      let k = ends_after (123 ∷ digits extra) 125 (32 ∷ u) h in
      rw (braced_written extra (parted so t) limits.groups e h) (owed_written (ends_past (32 ∷ []) u k))
  led Weighted2022 e h absence = led_in_2022 e absence h

-- The line of a clause is read as that clause.
pub clause_written : (s : List ℕ) (f : Format) (limits : Limits) (room : ℕ) (c : Clause) (t : List ℕ) → limits.literals ≤ ceiling → ClauseFits f limits room c
    → Ends s (clause_line f c.extra c.literals ++ t) → (absence : Absence)
    → clause_at s limits room f absence (start s (clause_line f c.extra c.literals ++ t)) ≡ says (answer_of c) (start s t)
clause_written s f limits room c t low k =
    rw (line_on f c.extra c.literals t) (led s limits low room c.extra c.literals t k.literals k.few f k.extra)
