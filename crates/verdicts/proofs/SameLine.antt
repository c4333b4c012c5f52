-- Words, numbers and rows stay on their line: from the place past them the next LF is the same. Assumes nothing.
use Prim.Native.Nat.{ℕ, suc, ◌+◌, ◌-◌, ◌≤◌, ◌<◌, min}
use Prim.Native.Char.{code}
use mathlib.Core.Bool.{Bool, true, false, ◌&&◌}
use mathlib.Core.List.{List}
use mathlib.Core.Logic.{◌⊎◌, inl, inr}
use mathlib.Core.Path.{◌≡◌, refl, ap, sym, ◌∙◌}
use native.Mathlib.Omega.{arith}
use borrow.Author.Tests.{eq-eqb, ne_eqb, eqb-true, eqb-false, leb-true, leb-false, ltb-true, ltb-false}
use lib.Dec.{leb, eqb, ltb}
use lib.ListN.{length, drop}
use Rattle.std.specs.Prelude.{Option, None, Some}
use Rattle.dimacs.specs.Loop.{Step}
use Rattle.dimacs.specs.Bytes.{LF, CR, is_blank, is_digit, is_not_lf}
use Rattle.dimacs.specs.Names.{ceiling}
use Rattle.dimacs.specs.Tokens.{past, begins, unmoved, Number, none, found, up_to_either_way, byte_at, blanks, line_end, next_line, end_of_line, fixed, word_ends, unsigned, minus, int_at}
use Rattle.dimacs.specs.Rows.{Row, ends, closes, stops, Reading, on_int, next_int, row}
use Rattle.dimacs.specs.declared.Int.{Int}
use Rattle.dimacs.specs.declared.Int.TheVariants as int
use Rattle.dimacs.proofs.Tests.{tested, chosen, unlike, both_right}
use Rattle.dimacs.proofs.Bytes.{is_not_lf_lem, is_lf}
use Rattle.dimacs.proofs.Loops.{Leads}
use Rattle.dimacs.proofs.Past.{past_more}
use Rattle.dimacs.proofs.Spans.{past_spans, standing}
use Rattle.dimacs.proofs.Lines.{next_line_lf, next_line_end}
use Rattle.dimacs.proofs.Rows.{row_kept}
use Rattle.dimacs.proofs.WordEnds.{Passes, begins_run, past_through, past_passes}
use Rattle.verdicts.specs.Lines.{LineAt}

-- A place and a later one on the same line.
pub record SameLine (s : List ℕ) (at e : ℕ) : Type 0 where
  pub next : past is_not_lf s e ≡ past is_not_lf s at

pub then_on_line : {s : List ℕ} {at e f : ℕ} → SameLine s at e → SameLine s e f → SameLine s at f
then_on_line p q = record { next = q.next ∙ p.next }

-- The next line is the same too.
pub same_next : {s : List ℕ} {at e : ℕ} → SameLine s at e → next_line s e ≡ next_line s at
unfolding next_line
same_next p = rw p.next

-- A test that LF does not pass.
not_lf : (p : ℕ → Bool) → p 10 ≡ false → (b : ℕ) → p b ≡ true → is_not_lf b ≡ true
not_lf p h b k = is_not_lf_lem b (λ e. unlike (sym k ∙ ap p e ∙ h))

module _ (s : List ℕ) where
  past_on_line : (p : ℕ → Bool) → p 10 ≡ false → (at : ℕ) → SameLine s at (past p s at)
  past_on_line p h at = record { next = past_through p is_not_lf (not_lf p h) s (suc (length s - at)) at (omega arith) }

  pub blanks_on_line : (at : ℕ) → SameLine s at (blanks s at)
  blanks_on_line at = past_on_line is_blank refl at

  pub fixed_on_line : (w : List ℕ) → Passes is_not_lf w → (at : ℕ) → SameLine s at (fixed s w at)
  unfolding fixed
  fixed_on_line w o at = chosen (SameLine s at) (begins w (drop at s)) (λ e. record { next = begins_run is_not_lf w s at o e }) (λ _. record { next = refl })

  minus_on_line : (at : ℕ) → SameLine s at (minus s at)
  unfolding minus
  minus_on_line at =
      chosen (SameLine s at) (eqb (byte_at s at) (code "-"))
      (λ e. record { next = past_more is_not_lf s at (standing s at 44 e) (rw (eqb-true (byte_at s at) 45 e)) })
      (λ _. record { next = refl })

  -- A number that stands ends on its line.
  abbrev NumberOnLine : ℕ → Number → Type 0
  NumberOnLine at none = Unit {0}
  NumberOnLine at (found n e) = SameLine s at e

  abbrev IntOnLine : ℕ → Int → Type 0
  IntOnLine at int.Missing = Unit {0}
  IntOnLine at (int.Zero e) = SameLine s at e
  IntOnLine at (int.Literal v e) = SameLine s at e
  IntOnLine at int.TooBig = Unit {0}

  unsigned_on_line : (at : ℕ) → NumberOnLine at (unsigned s at)
  unfolding unsigned
  unsigned_on_line at =
      let e = past is_digit s at in
      chosen (NumberOnLine at) (unmoved at e) (λ _. tt)
      (λ _. chosen (NumberOnLine at) (word_ends s e) (λ _. then_on_line (past_on_line is_digit refl at) (blanks_on_line e)) (λ _. tt))

  int_on_line : (limit at : ℕ) → IntOnLine at (int_at s limit at)
  unfolding int_at
  int_on_line limit at = go (unsigned s (minus s at)) (unsigned_on_line (minus s at))
    where
      go : (n : Number) → NumberOnLine (minus s at) n → IntOnLine at (up_to_either_way limit (unmoved at (minus s at)) n)
      go none h = tt
      go (found n e) h =
          let k = then_on_line (minus_on_line at) h in
          chosen (IntOnLine at) (eqb n 0) (λ _. k) (λ _. chosen (IntOnLine at) (leb n (min limit ceiling)) (λ _. k) (λ _. tt))

  -- A row ends on its line.
  abbrev pub RowOnLine : ℕ → Row → Type 0
  RowOnLine at (ends e so) = SameLine s at e
  RowOnLine at (closes e so) = SameLine s at e
  RowOnLine at (stops r so) = Unit {0}

  row_on : (limit room at : ℕ) (r : Reading) → SameLine s at r.at → Leads (λ x. SameLine s at x.at) (RowOnLine at) (next_int s limit room r)
  unfolding next_int
  row_on limit room at r h = go (int_at s limit r.at) (int_on_line limit r.at)
    where
      On : Step Reading Row → Type 0
      On = Leads (λ x. SameLine s at x.at) (RowOnLine at)

      go : (i : Int) → IntOnLine r.at i → On (on_int s limit room i r.at r.so)
      go int.Missing m = h
      go (int.Zero n) m = then_on_line h m
      go (int.Literal v n) m = chosen On (leb room (length r.so)) (λ _. tt) (λ _. then_on_line h m)
      go int.TooBig m = tt

  pub row_on_line : (limit room : ℕ) (r : Reading) → RowOnLine r.at (row s limit room r)
  row_on_line limit room r = row_kept s limit room (λ x. SameLine s r.at x.at) (RowOnLine r.at) (row_on limit room r.at) r (record { next = refl })

  -- What closes a line leads to the next.
  abbrev pub EndNext : ℕ → Option ℕ → Type 0
  EndNext at None = Unit {0}
  EndNext at (Some e) = e ≡ next_line s at

  pub end_next : (at : ℕ) → EndNext at (end_of_line s at)
  unfolding end_of_line line_end
  end_next at =
      chosen (EndNext at) (leb (length s) at) (λ e. sym (next_line_end s at at refl (leb-true (length s) at e)))
      (λ l. let o = leb-false (length s) at l in
      tested (eqb (byte_at s at) LF)
      (λ e. rw (e, ne_eqb (at + 1) at (λ z. omega arith)) (sym (next_line_lf s at at refl o (eqb-true (byte_at s at) 10 e))))
      (λ e. tested (eqb (byte_at s at) CR && eqb (byte_at s (at + 1)) LF)
      (λ f.
      let k = both_right (eqb (byte_at s at) CR) (eqb (byte_at s (at + 1)) LF) f in
      rw (e, f, ne_eqb (at + 2) at (λ z. omega arith))
      (sym (next_line_lf s at (at + 1) (past_more is_not_lf s at o (is_not_lf_lem (byte_at s at) (eqb-false (byte_at s at) 10 e))) (standing s (at + 1) 9 k) (eqb-true (byte_at s (at + 1)) 10 k) ∙ omega arith)))
      (λ f. rw (e, f, eq-eqb at at refl) tt)))

  -- The next line begins there, unless the text ends.
  pub next_opens : (at : ℕ) → LineAt s (next_line s at) ⊎ (length s ≤ next_line s at)
  unfolding next_line
  next_opens at =
      let e = past is_not_lf s at in
      let o : past is_not_lf s e ≡ e = past_through is_not_lf is_not_lf (λ b h. h) s (suc (length s - at)) at (omega arith) in
      tested (ltb e (length s))
      (λ h. tested (eqb (byte_at s e) LF)
      (λ y. let i : e + 1 - 1 ≡ e = omega arith in rw h (inl (inr (rw i (eqb-true (byte_at s e) 10 y)))))
      (λ y. absurd (omega (arith, past_more is_not_lf s e (ltb-true e (length s) h) (is_not_lf_lem (byte_at s e) (eqb-false (byte_at s e) 10 y)), past_spans s (e + 1) is_not_lf))))
      (λ h. rw h (inr (ltb-false e (length s) h)))

  next_near : (at : ℕ) → next_line s at ≤ past is_not_lf s at + 1
  unfolding next_line
  next_near at = chosen (λ n. n ≤ past is_not_lf s at + 1) (ltb (past is_not_lf s at) (length s)) (λ _. omega arith) (λ _. omega arith)

  -- No line begins between a place and the next line.
  pub none_between : (at i : ℕ) → at < i → i < next_line s at → LineAt s i → ⊥
  none_between at i h k (inl e) = omega arith
  none_between at i h k (inr e) =
      unlike (sym (past_passes is_not_lf s (suc (length s - at)) at (i - 1) (omega arith) (omega arith) (omega (arith, next_near at))) ∙ is_lf (byte_at s (i - 1)) e)
