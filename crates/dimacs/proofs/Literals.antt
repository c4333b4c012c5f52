-- Reading the literals of a clause, one law for each way that a row leads. Assumes nothing.
use Prim.Native.Nat.{ℕ}
use mathlib.Core.List.{List, []}
use mathlib.Core.Path.{◌≡◌, refl, sym, ◌∙◌}
use borrow.Author.Tests.{eq-eqb, ne_eqb}
use lib.ListN.{length}
use lib.IntN.{ℤ}
use Rattle.dimacs.specs.Names.{refusal}
use Rattle.dimacs.specs.declared.Reason.{Reason}
use Rattle.dimacs.specs.Tokens.{linebreaks, int_at}
use Rattle.dimacs.specs.Rows.{Row, ends, closes, stops, Reading, reads, row}
use Rattle.dimacs.specs.Clauses.{nothing, closed, stopped, on_row, next_row, literals_from, literals}
use Rattle.dimacs.specs.declared.Refusal.{Refusal}
use Rattle.dimacs.specs.declared.Int.TheVariants as int
use Rattle.dimacs.proofs.Loops.{after}
use Rattle.dimacs.proofs.Rows.{row_ends}
use Rattle.dimacs.proofs.Clauses.{literals_step}

module _ (s : List ℕ) (limit room : ℕ) (r : Reading) where
  on : {w : Row} → row s limit room r ≡ w → literals_from s limit room r ≡ after (on_row s limit room (length r.so) w) (literals_from s limit room)
  unfolding next_row
  on e = rw e at (literals_step s limit room r)

  pub closed_by : {n : ℕ} {so : List ℤ} → row s limit room r ≡ closes n so → literals_from s limit room r ≡ closed so n
  closed_by e = on e

  pub stopped_by : {x : Refusal} {so : List ℤ} → row s limit room r ≡ stops x so → literals_from s limit room r ≡ stopped x so
  stopped_by e = on e

  module _ {at : ℕ} {so : List ℤ} (e : row s limit room r ≡ ends at so) where
    pub nothing_there : length so ≡ 0 → literals_from s limit room r ≡ nothing
    nothing_there z = on e ∙ rw (eq-eqb (length so) 0 z)

    module _ (z : length so ≡ 0 → ⊥) where
      pub none_after_lines : length so ≡ length r.so → literals_from s limit room r ≡ stopped (refusal s Reason.LiteralExpectedAfterLines at) so
      none_after_lines h = on e ∙ rw (ne_eqb (length so) 0 z, eq-eqb (length so) (length r.so) h)

      module _ (h : length so ≡ length r.so → ⊥) (q : ℕ) (is : q ≡ linebreaks s at) where
        pub none_on_line : q ≡ at → literals_from s limit room r ≡ stopped (refusal s Reason.LiteralExpected at) so
        none_on_line k = on e ∙ rw (ne_eqb (length so) 0 z, ne_eqb (length so) (length r.so) h, sym is, eq-eqb q at k)

        pub breaks : (q ≡ at → ⊥) → literals_from s limit room r ≡ literals_from s limit room (reads q so)
        breaks k = on e ∙ rw (ne_eqb (length so) 0 z, ne_eqb (length so) (length r.so) h, sym is, ne_eqb q at k)

-- Where no number stands there are no literals.
pub literals_none : (s : List ℕ) (limit room at : ℕ) → int_at s limit at ≡ int.Missing → literals s limit room at ≡ nothing
unfolding literals
literals_none s limit room at e = nothing_there s limit room (reads at []) (row_ends s limit room at [] e) refl
