-- The order in which document 01 looks for the next clause comes to the same as skipping the comments and line ends first. Assumes nothing.
use Prim.Native.Nat.{ℕ, zero, suc, ◌+◌, ◌-◌, ◌≤◌, ◌<◌}
use Prim.Native.Char.{code}
use mathlib.Core.Bool.{Bool, true, false, cond, not, ◌&&◌, ◌||◌}
use mathlib.Core.List.{List, []}
use mathlib.Core.Path.{◌≡◌, refl, sym, ◌∙◌}
use mathlib.Core.Logic.{◌⊎◌, inl, inr}
use native.Mathlib.Omega.{arith}
use borrow.Author.Tests.{eq-eqb, ne_eqb, eqb-true, eqb-false, le-leb}
use lib.Dec.{leb, eqb}
use lib.ListN.{length, get_or}
use Rattle.dimacs.specs.Loop.{Step, again, answer, loop}
use Rattle.dimacs.specs.Names.{largest}
use Rattle.dimacs.specs.Bytes.{bytes}
use Rattle.dimacs.specs.Tokens.{none, unmoved, byte_at, blanks, word, line_end, next_line, newline, line_past, comment_or_newline, lines, unsigned, uint_at, braced_uint_at, int_at}
use Rattle.dimacs.specs.Clauses.{ended, Answered, says, instead, absent, start_in2022, start_at, clause_at}
use Rattle.dimacs.specs.Texts.{next_clause}
use Rattle.dimacs.specs.declared.Format.{Format}
use Rattle.dimacs.specs.declared.Format.TheVariants.{Plain, Weighted, Grouped, Weighted2022}
use Rattle.dimacs.specs.declared.Absence.{Absence}
use Rattle.dimacs.specs.declared.Absence.TheVariants.{MayEnd, NoClause}
use Rattle.dimacs.specs.declared.Limits.{Limits}
use Rattle.dimacs.specs.declared.Int.{Int}
use Rattle.dimacs.specs.declared.Int.TheVariants as int
use Rattle.dimacs.specs.declared.Uint.{Uint}
use Rattle.dimacs.specs.declared.Uint.TheVariants as uint
use Rattle.dimacs.proofs.Tests.{tested, chosen, unlike}
use Rattle.dimacs.proofs.Bytes.{and_false, below_digit, above_digit}
use Rattle.dimacs.proofs.Loops.{after, loop_after}
use Rattle.dimacs.proofs.Spans.{Spans, standing, moved, blanks_spans, line_end_spans, next_line_spans, newline_spans, lines_step}
use Rattle.dimacs.proofs.Lines.{no_byte, line_end_no, newline_no}
use Rattle.dimacs.proofs.WordEnds.{word_no}
use Rattle.dimacs.proofs.Numbers.{none_there, none_past_end, unsigned_none, minus_no, braced_no, int_missing}
use Rattle.dimacs.proofs.Literals.{literals_none}

-- A number stands there, whatever its size.
abbrev pub is_int : Int → Bool
is_int int.Missing = false
is_int (int.Zero e) = true
is_int (int.Literal v e) = true
is_int int.TooBig = true

abbrev pub is_uint : Uint → Bool
is_uint uint.Missing = false
is_uint (uint.Value n e) = true
is_uint uint.TooBig = true

no_int : (i : Int) → is_int i ≡ false → i ≡ int.Missing
no_int int.Missing h = refl
no_int (int.Zero e) h = unlike h
no_int (int.Literal v e) h = unlike h
no_int int.TooBig h = unlike h

no_uint : (u : Uint) → is_uint u ≡ false → u ≡ uint.Missing
no_uint uint.Missing h = refl
no_uint (uint.Value n e) h = unlike h
no_uint uint.TooBig h = unlike h

-- Neither a number, a minus, a brace nor a word `h` or `p` stands there.
pub record NoNumber (s : List ℕ) (at : ℕ) : Type 0 where
  pub number : unsigned s at ≡ none
  pub minus : get_or s at 0 ≡ 45 → ⊥
  pub brace : get_or s at 0 ≡ 123 → ⊥
  pub hard : get_or s at 0 ≡ 104 → ⊥
  pub header : get_or s at 0 ≡ 112 → ⊥

module _ (s : List ℕ) (limits : Limits) where
  -- A clause stands where its first number does, its weight, its group, or `h`; and so does what is answered for `p` in the 2022 form.
  abbrev pub stands : Format → ℕ → Bool
  stands Plain at = is_int (int_at s limits.literals at)
  stands Weighted at = is_uint (uint_at s largest at)
  stands Grouped at = is_uint (braced_uint_at s limits.groups at)
  stands Weighted2022 at = cond (unmoved at (word s (bytes "p") at)) (cond (unmoved at (word s (bytes "h") at)) (is_uint (uint_at s largest at)) true) true

  pub none_stands : (f : Format) (at : ℕ) → NoNumber s at → stands f at ≡ false
  unfolding uint_at braced_uint_at
  none_stands Plain at b = rw (sym (int_missing s limits.literals at at (sym (minus_no s at b.minus)) b.number))
  none_stands Weighted at b = rw b.number
  none_stands Grouped at b = rw (braced_no s at b.brace)
  none_stands Weighted2022 at b =
      rw (word_no 112 [] s at b.header, word_no 104 [] s at b.hard, eq-eqb at at refl, b.number)

  pub no_clause : (room : ℕ) (f : Format) (absence : Absence) (at : ℕ) → stands f at ≡ false → clause_at s limits room f absence at ≡ instead (absent s absence at)
  unfolding clause_at start_at start_in2022
  no_clause room Plain absence at h = rw (literals_none s limits.literals room at (no_int (int_at s limits.literals at) h))
  no_clause room Weighted absence at h = rw (no_uint (uint_at s largest at) h)
  no_clause room Grouped absence at h = rw (no_uint (braced_uint_at s limits.groups at) h)
  no_clause room Weighted2022 absence at h =
      tested (unmoved at (word s (bytes "p") at))
      (λ y. tested (unmoved at (word s (bytes "h") at))
      (λ z. let u : is_uint (uint_at s largest at) ≡ false = rw (y, z) at h in rw (y, z, no_uint (uint_at s largest at) u))
      (λ z. unlike (rw (y, z) at h)))
      (λ y. unlike (rw y at h))

-- At the end of the text no number stands, and no clause: where the end may come, it is answered.
module _ (s : List ℕ) (at : ℕ) (h : length s ≤ at) where
  no_number : unsigned s at ≡ none
  no_number = unsigned_none (none_past_end 0 s at h) refl

  pub end_permitted : instead (absent s MayEnd at) ≡ says ended at
  unfolding absent
  end_permitted = rw (le-leb (length s) at h)

  pub clause_none : (f : Format) (limits : Limits) (room : ℕ) → clause_at s limits room f MayEnd at ≡ says ended at
  clause_none f limits room =
      no_clause s limits room f MayEnd at (none_stands s limits f at (record { number = no_number; minus = no_byte s at 44 h; brace = no_byte s at 122 h; hard = no_byte s at 103 h; header = no_byte s at 111 h })) ∙ end_permitted

module _ (s : List ℕ) where
  -- A comment is `c` and all up to the next line, then blanks.
  unfoldable pub comment : ℕ → ℕ
  comment at = cond (eqb (byte_at s at) (code "c")) (blanks s (next_line s (at + 1))) at

  -- A comment, else a line end with the blanks after it, is what a step of `lines` takes.
  pub lines_in_order : (at : ℕ)
      → lines s at ≡ after (cond (unmoved at (comment at)) (cond (unmoved at (newline s at)) (answer at) (again (newline s at))) (again (comment at))) (lines s)
  unfolding comment_or_newline line_past comment newline
  lines_in_order at =
      let n = next_line s (at + 1) in
      let l = line_end s at in
      lines_step s at
      ∙ tested (eqb (byte_at s at) (code "c"))
      (λ c. rw (c, ne_eqb n at (λ z. omega (arith, next_line_spans s (at + 1))), ne_eqb (blanks s n) at (λ z. omega (arith, next_line_spans s (at + 1), blanks_spans s n))))
      (λ c. rw (c, eq-eqb at at refl)
      (tested (unmoved at l) (λ e. rw (e, eq-eqb at at refl))
      (λ e. rw (e, ne_eqb (blanks s l) at (λ z. omega (arith, eqb-false l at e, line_end_spans s at, blanks_spans s l))))))

  comment_spans : (at : ℕ) → Spans s at (comment at)
  unfolding comment
  comment_spans at =
      chosen (Spans s at) (eqb (byte_at s at) (code "c"))
      (λ e. let l = standing s at 98 e in omega (arith, next_line_spans s (at + 1), blanks_spans s (next_line s (at + 1)))) (λ _. omega arith)

-- The bytes with which a comment or a line end begins: `c`, CR and LF.
abbrev pub OpensLine : ℕ → Type 0
OpensLine b = (b ≡ 99) ⊎ ((b ≡ 13) ⊎ (b ≡ 10))

module _ (s : List ℕ) (at : ℕ) where
  line_no_number : OpensLine (get_or s at 0) → NoNumber s at
  line_no_number (inl h) =
      record { number = unsigned_none (none_there 0 s at (standing s at 98 (eq-eqb _ _ h)) (above_digit (get_or s at 0) (omega arith))) refl; minus = λ e. omega arith; brace = λ e. omega arith; hard = λ e. omega arith; header = λ e. omega arith }
  line_no_number (inr (inl h)) =
      record { number = unsigned_none (none_there 0 s at (standing s at 12 (eq-eqb _ _ h)) (below_digit (get_or s at 0) (omega arith))) refl; minus = λ e. omega arith; brace = λ e. omega arith; hard = λ e. omega arith; header = λ e. omega arith }
  line_no_number (inr (inr h)) =
      record { number = unsigned_none (none_there 0 s at (standing s at 9 (eq-eqb _ _ h)) (below_digit (get_or s at 0) (omega arith))) refl; minus = λ e. omega arith; brace = λ e. omega arith; hard = λ e. omega arith; header = λ e. omega arith }

  comment_no : (get_or s at 0 ≡ 99 → ⊥) → comment s at ≡ at
  unfolding comment
  comment_no h = rw (ne_eqb (get_or s at 0) 99 h)

  comment_opens : unmoved at (comment s at) ≡ false → OpensLine (get_or s at 0)
  comment_opens h =
      tested (eqb (get_or s at 0) 99) (λ e. inl (eqb-true (get_or s at 0) 99 e))
      (λ e. unlike (sym (eq-eqb (comment s at) at (comment_no (eqb-false (get_or s at 0) 99 e))) ∙ h))

  newline_opens : unmoved at (newline s at) ≡ false → OpensLine (get_or s at 0)
  newline_opens h =
      tested (eqb (get_or s at 0) 13) (λ e. inr (inl (eqb-true (get_or s at 0) 13 e)))
      (λ e. tested (eqb (get_or s at 0) 10) (λ g. inr (inr (eqb-true (get_or s at 0) 10 g)))
      (λ g.
      let l = line_end_no s at (eqb-false (get_or s at 0) 10 g) (λ c _. eqb-false (get_or s at 0) 13 e c) in
      unlike (sym (eq-eqb (newline s at) at (newline_no s at (line_end s at) refl l)) ∙ h)))

-- No clause begins with one of them.
pub no_clause_at_line : (s : List ℕ) (limits : Limits) (room : ℕ) (f : Format) (absence : Absence) (at : ℕ) → OpensLine (get_or s at 0)
    → clause_at s limits room f absence at ≡ instead (absent s absence at)
no_clause_at_line s limits room f absence at o = no_clause s limits room f absence at (none_stands s limits f at (line_no_number s at o))

module _ (s : List ℕ) (f : Format) (limits : Limits) (room count : ℕ) where
  -- The end may come if the count is not applied, or is reached.
  abbrev pub may_end : Absence
  may_end = cond (eqb limits.clauses 0 || leb limits.clauses count) MayEnd NoClause

  -- The count is not applied, or not reached.
  abbrev pub may_go_on : Bool
  may_go_on = eqb limits.clauses 0 || not (leb limits.clauses count)

  -- A clause if one may come, else a comment, else a line end, else the end or refusal 9; and again after a comment or line end.
  abbrev pub in_order : ℕ → Step ℕ Answered
  in_order at =
      cond (may_go_on && stands s limits f at) (answer (clause_at s limits room f may_end at))
      (cond (unmoved at (comment s at)) (cond (unmoved at (newline s at)) (answer (instead (absent s may_end at))) (again (newline s at))) (again (comment s at)))

  -- What is said where no comment and no line end stands.
  abbrev tried : ℕ → Answered
  tried at =
      cond (eqb limits.clauses 0) (clause_at s limits room f MayEnd at)
      (cond (leb limits.clauses count) (instead (absent s MayEnd at)) (clause_at s limits room f NoClause at))

  by_count : (a b : Bool) (at : ℕ)
      → cond ((a || not b) && stands s limits f at) (clause_at s limits room f (cond (a || b) MayEnd NoClause) at) (instead (absent s (cond (a || b) MayEnd NoClause) at))
      ≡ cond a (clause_at s limits room f MayEnd at) (cond b (instead (absent s MayEnd at)) (clause_at s limits room f NoClause at))
  by_count true b at = tested (stands s limits f at) (λ h. rw h) (λ h. rw (h, no_clause s limits room f MayEnd at h))
  by_count false true at = refl
  by_count false false at = tested (stands s limits f at) (λ h. rw h) (λ h. rw (h, no_clause s limits room f NoClause at h))

  in_order_lem : (over : Answered) (n at : ℕ) → length s - at < n → loop in_order over n at ≡ tried (lines s at)
  in_order_lem over zero at h = absurd (omega arith)
  in_order_lem over (suc n) at h =
      loop_after in_order over n at
      ∙ tested (unmoved at (comment s at))
      (λ c. tested (unmoved at (newline s at))
      (λ d. rw (lines_in_order s at, c, d) (go (may_go_on && stands s limits f at) (clause_at s limits room f may_end at) (instead (absent s may_end at)) (by_count (eqb limits.clauses 0) (leb limits.clauses count) at)))
      (λ d. rw (lines_in_order s at, skips (newline_opens s at d), c, d) (in_order_lem over n (newline s at) (omega (arith, moved (newline_spans s at) d)))))
      (λ c. rw (lines_in_order s at, skips (comment_opens s at c), c) (in_order_lem over n (comment s at) (omega (arith, moved (comment_spans s at) c))))
    where
      skips : OpensLine (get_or s at 0) → may_go_on && stands s limits f at ≡ false
      skips o = and_false may_go_on (stands s limits f at) (none_stands s limits f at (line_no_number s at o))

      go : (t : Bool) (x y : Answered) {z : Answered} → cond t x y ≡ z → after (cond t (answer x) (answer y)) (loop in_order over n) ≡ z
      go true x y e = e
      go false x y e = e

  -- Whatever `over` is, the steps suffice and it is not the answer.
  pub next_in_order : (over : Answered) (at : ℕ) → loop in_order over (suc (length s)) (blanks s at) ≡ next_clause s f limits room count at
  unfolding next_clause
  next_in_order over at = in_order_lem over (suc (length s)) (blanks s at) (omega arith)
