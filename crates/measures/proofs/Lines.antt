-- How long lines and their parts are. Assumes nothing.
use Prim.Native.Nat.{ℕ, ◌+◌, ◌/◌, ◌≤◌}
use mathlib.Core.List.{List, ◌++◌, append_assoc}
use mathlib.Core.Path.{◌≡◌, ap, ◌∙◌}
use native.Mathlib.Omega.{arith}
use borrow.Author.Tests.{eq-eqb, ne_eqb}
use lib.IntN.{ℤ}
use lib.ListN.{length, length-append}
use Rattle.dimacs.specs.Bytes.{bytes}
use Rattle.dimacs.specs.Names.{hard}
use Rattle.dimacs.specs.Header.{has_third}
use Rattle.dimacs.specs.Writing.{digits, items, lead, third_digits, header_line, clause_line}
use Rattle.dimacs.specs.declared.Format.{Format}
use Rattle.dimacs.specs.declared.Format.TheVariants.{Plain, Weighted, Grouped, Weighted2022}
use Rattle.dimacs.specs.declared.Header.{Header}
use Rattle.decimals.proofs.Digits.{digits_bounded}
use Rattle.dimacs.proofs.Tests.{chosen}
use Rattle.measures.specs.Lines.{header_start, header_count}

pub weight_long : (w : ℕ) → length (lead Weighted w) ≡ length (digits w) + 1
weight_long w = length-append (digits w) (bytes " ")

pub group_long : (g : ℕ) → length (lead Grouped g) ≡ length (digits g) + 3
group_long g = omega (arith, length-append (digits g) (bytes "} "))

-- In the 2022 form a hard clause begins with `h`, a soft one as a weighted clause does.
pub hard_lead : {w : ℕ} → w ≡ hard → lead Weighted2022 w ≡ bytes "h "
hard_lead {w} e = rw (eq-eqb w 0 e)

pub soft_lead : {w : ℕ} → (w ≡ hard → ⊥) → lead Weighted2022 w ≡ lead Weighted w
soft_lead {w} n = rw (ne_eqb w 0 n)

-- A clause's line in its pieces.
module _ (f : Format) (extra : ℕ) (so : List ℤ) where
  pub clause_to_come : clause_line f extra so ≡ lead f extra ++ (items so ++ bytes "0\n")
  unfolding clause_line
  clause_to_come = append_assoc (lead f extra) (items so) (bytes "0\n")

  pub clause_long : length (clause_line f extra so) ≡ length (lead f extra) + 2 + length (items so)
  clause_long = ap length clause_to_come ∙ simp length-append (omega arith)

-- A header's.
module _ (f : Format) (h : Header) where
  pub header_to_come : header_line f h ≡ header_start f ++ (header_count h.variables ++ (header_count h.clauses ++ (third_digits f h.third ++ bytes "\n")))
  unfolding header_line
  header_to_come = simp append_assoc

  pub header_long : length (header_line f h) ≡ length (header_start f) + length (digits h.variables) + length (digits h.clauses) + length (third_digits f h.third) + 3
  header_long = ap length header_to_come ∙ simp length-append (omega arith)

-- Counts, weights and groups, and a header's start and third count, are not long.
pub digits_few : (n : ℕ) → length (digits n) ≤ n / 10 + 1
digits_few n = omega (arith, digits_bounded n)

pub start_bounded : (f : Format) → length (header_start f) ≤ 6
start_bounded Plain = omega arith
start_bounded Weighted = omega arith
start_bounded Grouped = omega arith
start_bounded Weighted2022 = omega arith

pub third_bounded : (f : Format) (t : ℕ) → length (third_digits f t) ≤ length (digits t) + 1
third_bounded f t = chosen (λ l. length l ≤ length (digits t) + 1) (has_third f) (λ _. omega arith) (λ _. omega arith)
