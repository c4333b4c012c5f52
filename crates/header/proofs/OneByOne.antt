-- The definition's counts, which hand on what is read, are the counts one after the other. Assumes nothing.
use Prim.Native.Nat.{ℕ}
use mathlib.Core.Bool.{Bool, true, false, cond}
use mathlib.Core.List.{List}
use mathlib.Core.Path.{◌≡◌, refl}
use Rattle.std.specs.Prelude.{Result, Ok, Err}
use Rattle.dimacs.specs.Names.{ceiling, largest}
use Rattle.dimacs.specs.Tokens.{uint_at}
use Rattle.dimacs.specs.Header.{has_third, header_of, counted, header_end, third_there, third_count, clause_count, variable_count}
use Rattle.dimacs.specs.declared.Format.{Format}
use Rattle.dimacs.specs.declared.Opening.{Opening}
use Rattle.dimacs.specs.declared.Reason.{Reason}
use Rattle.dimacs.specs.declared.Refusal.{Refusal}
use Rattle.dimacs.specs.declared.Uint.{Uint}
use Rattle.dimacs.specs.declared.Uint.TheVariants.{Missing, TooBig, Value}
use Rattle.header.specs.Counts.{count_by, count_at, third_at}

-- What follows a count, unless it is refused.
abbrev pub on : Result (ℕ × ℕ) Refusal → (ℕ → ℕ → Result Opening Refusal) → Result Opening Refusal
on (Ok p) then = then p.0 p.1
on (Err r) then = Err r

module _ (s : List ℕ) where
  counted_on : (none big : Reason) (at : ℕ) (then : ℕ → ℕ → Result Opening Refusal) (n : Uint) → counted s none big at then n ≡ on (count_by s none big at n) then
  counted_on none big at then Missing = refl
  counted_on none big at then TooBig = refl
  counted_on none big at then (Value n next) = refl

  pub variables_on : (f : Format) (at : ℕ) → variable_count s f at ≡ on (count_at s ceiling Reason.VariableCountExpected Reason.VariableCountTooBig at) (clause_count s f)
  unfolding variable_count
  variables_on f at = counted_on Reason.VariableCountExpected Reason.VariableCountTooBig at (clause_count s f) (uint_at s ceiling at)

  pub clauses_on : (f : Format) (v at : ℕ) → clause_count s f v at ≡ on (count_at s largest Reason.ClauseCountExpected Reason.ClauseCountTooBig at) (third_count s f v)
  unfolding clause_count
  clauses_on f v at = counted_on Reason.ClauseCountExpected Reason.ClauseCountTooBig at (third_count s f v) (uint_at s largest at)

  pub third_on : (f : Format) (v c at : ℕ) → third_count s f v c at ≡ on (third_at s f at) (λ t. header_end s (header_of v c t))
  unfolding third_count third_there
  third_on f v c at = go (has_third f)
    where
      go : (b : Bool) → cond b (third_there s v c at) (header_end s (header_of v c 0) at)
          ≡ on (cond b (count_at s largest Reason.ThirdCountExpected Reason.ThirdCountTooBig at) (Ok (0, at))) (λ t. header_end s (header_of v c t))
      go true = counted_on Reason.ThirdCountExpected Reason.ThirdCountTooBig at (λ t. header_end s (header_of v c t)) (uint_at s largest at)
      go false = refl
