-- A cursor can be had again from its words. Assumes nothing.
use Prim.Native.Nat.{ℕ, ◌≤◌, min}
use mathlib.Core.List.{List}
use mathlib.Core.Path.{◌≡◌, refl, sym, ap, ◌∙◌}
use native.Mathlib.Omega.{arith}
use lib.ListN.{get_or}
use borrow.Author.Tests.{ne_eqb}
use Rattle.std.specs.Prelude.{Option, None, Some, Result, Ok, Err}
use Rattle.dimacs.specs.declared.Format.{Format}
use Rattle.dimacs.specs.declared.Format.TheVariants.{Plain, Weighted, Grouped, Weighted2022}
use Rattle.dimacs.specs.declared.Ends.{Ends}
use Rattle.dimacs.specs.declared.Ends.TheVariants.{LineFeed, AlsoReturn}
use Rattle.dimacs.specs.declared.Refusal.{Refusal}
use Rattle.formula.specs.Cursors.{unknown}
use Rattle.formula.specs.declared.Cursor.{Cursor}
use Rattle.cursor_words.specs.Cursors.{format_kind, ends_kind, final_kind, final_refusal, cursor_words, largest_limit, held_format, held_ends, held_final, held_by, held_in, held_cursor, Holds}

-- A refusal whose number is brought down to a byte.
abbrev narrow : Refusal → Refusal
narrow r = record { number = min r.number 255; place = r.place; line = r.line; column = r.column }

final_again : (l : Option (Result Unit Refusal)) → (final_refusal l).number ≤ 255 → held_final (final_kind l) (narrow (final_refusal l)) ≡ l
final_again None h = refl
final_again (Some (Ok u)) h = refl
final_again (Some (Err r)) h = let m : min r.number 255 ≡ r.number = omega arith in rw m

ends_again : (e : Ends) → held_ends (ends_kind e) ≡ e
ends_again LineFeed = refl
ends_again AlsoReturn = refl

format_again : (f : Format) → held_format (format_kind f) ≡ Some f
format_again Plain = refl
format_again Weighted = refl
format_again Grouped = refl
format_again Weighted2022 = refl

module _ (c : Cursor) (literals : c.limits.literals ≤ largest_limit) (number : (final_refusal c.progress.last).number ≤ 255) where
  in_again : held_in c.format (cursor_words c) ≡ c
  unfolding held_in
  in_again =
      let m : min c.limits.literals largest_limit ≡ c.limits.literals = omega arith in
      rw (m, final_again c.progress.last number, ends_again c.ends)

  -- Words that are those of a cursor hold it.
  pub holds : {w : List ℕ} → w ≡ cursor_words c → Holds c w
  unfolding held_cursor
  holds q = record { words = q; again = ap held_cursor q ∙ ap (λ f. held_by f (cursor_words c)) (format_again c.format) ∙ in_again }

-- Words that hold a cursor are its own.
pub one_cursor : {c : Cursor} {w₁ w₂ : List ℕ} → Holds c w₁ → Holds c w₂ → w₁ ≡ w₂
one_cursor p q = p.words ∙ sym q.words

-- Words of no format hold the cursor that repeats refusal 26.
pub no_format : (w : List ℕ) → let f = get_or w 5 0 in (f ≡ 1 → ⊥) → (f ≡ 2 → ⊥) → (f ≡ 3 → ⊥) → (f ≡ 4 → ⊥) → held_cursor w ≡ unknown.cursor
unfolding held_cursor
no_format w n₁ n₂ n₃ n₄ = let f = get_or w 5 0 in rw (ne_eqb f 1 n₁, ne_eqb f 2 n₂, ne_eqb f 3 n₃, ne_eqb f 4 n₄)
