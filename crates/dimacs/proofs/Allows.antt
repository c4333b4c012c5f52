-- The order of limits: when they allow what others allow, and more, as those of a lenient reading do what those of a strict one allow. Assumes nothing.
use Prim.Native.Nat.{ℕ, ◌≤◌}
use mathlib.Core.Path.{◌≡◌, refl, ◌∙◌}
use mathlib.Core.Logic.{◌⊎◌, inl, inr}
use native.Mathlib.Omega.{arith}
use lib.Dec.{eqb}
use Rattle.dimacs.specs.Names.{ceiling, largest}
use Rattle.dimacs.specs.Header.{specified, group_limit, limits_of}
use Rattle.dimacs.specs.declared.Format.{Format}
use Rattle.dimacs.specs.declared.Format.TheVariants.{Plain, Weighted, Grouped, Weighted2022}
use Rattle.dimacs.specs.declared.Rigor.TheVariants.{Strict, Lenient}
use Rattle.dimacs.specs.declared.Header.{Header}
use Rattle.dimacs.specs.declared.Limits.{Limits}
use Rattle.dimacs.proofs.Tests.{chosen}

-- The wide limits allow literals and groups at least as large as the narrow ones, and as many clauses or any number. A larger count would not do, as a text that reaches its end
-- under a count is refused under a larger one.
pub record Allows (narrow wide : Limits) : Type 0 where
  pub literals : narrow.literals ≤ wide.literals
  pub groups : narrow.groups ≤ wide.groups
  pub clauses : (wide.clauses ≡ narrow.clauses) ⊎ (wide.clauses ≡ 0)

-- Limits allow what they allow, and what is allowed by limits that allow less.
pub allows_itself : (x : Limits) → Allows x x
allows_itself x = record { literals = omega arith; groups = omega arith; clauses = inl refl }

pub allows_then : {x y z : Limits} → Allows x y → Allows y z → Allows x z
allows_then {x} {y} {z} a b =
    record { literals = omega (arith, a.literals, b.literals); groups = omega (arith, a.groups, b.groups); clauses = go a.clauses b.clauses }
  where
    go : (y.clauses ≡ x.clauses) ⊎ (y.clauses ≡ 0) → (z.clauses ≡ y.clauses) ⊎ (z.clauses ≡ 0) → (z.clauses ≡ x.clauses) ⊎ (z.clauses ≡ 0)
    go (inl p) (inl q) = inl (q ∙ p)
    go (inr p) (inl q) = inr (q ∙ p)
    go p (inr q) = inr q

specified_within : (n most : ℕ) → n ≤ most → specified n most ≤ most
specified_within n most h = chosen (λ x. x ≤ most) (eqb n 0) (λ _. omega arith) (λ _. h)

group_limit_within : (f : Format) (t : ℕ) → t ≤ largest → group_limit f t ≤ largest
group_limit_within Plain t h = omega arith
group_limit_within Weighted t h = omega arith
group_limit_within Grouped t h = specified_within t largest h
group_limit_within Weighted2022 t h = omega arith

-- A lenient reading allows what a strict one allows.
pub lenient_allows : (f : Format) (h : Header) → h.variables ≤ ceiling → h.third ≤ largest → Allows (limits_of f Strict h) (limits_of f Lenient h)
lenient_allows f h v t =
    record { literals = specified_within h.variables ceiling v; groups = group_limit_within f h.third t; clauses = inr refl }
