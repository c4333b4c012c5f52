-- `numeral::uint_on` meets its contract: each answer from what the digits tell. Assumes nothing.
use mathlib.Core.Path.{sym, ◌∙◌}
use Rattle.dimacs.specs.Tokens.{uint_at}
use Rattle.dimacs.proofs.Numbers.{unsigned_found, by_too_big}
use Rattle.numeral.proofs.Runs.{digits_on, digits_told, value_told, above_told}
use native.Mathlib.Omega.{arith}
use borrow.Author.Rules.{rules}
use Rattle.numeral.proofs.uint_on.Goals as goal

pub returns-in_default : goal.returns-in_default
unfolding uint_at
returns-in_default c = let is = c.ascii_digits_multi-value.ensures ∙ digits_on c.requires in let t = value_told _ _ _ is c.in-Some.is in
    by_too_big _ (unsigned_found t.0 c.if-end-at.false (sym c.is_end_of_word.ensures ∙ search rules)) c.if-value-limit.false

pub returns-in_default-2 : goal.returns-in_default-2
unfolding uint_at
returns-in_default-2 c = let is = c.ascii_digits_multi-value.ensures ∙ digits_on c.requires in
    by_too_big _ (unsigned_found (digits_told _ _ _ is) c.if-end-at.false (sym c.is_end_of_word.ensures ∙ search rules)) (omega (arith, above_told _ _ _ is c.in_default.is))
