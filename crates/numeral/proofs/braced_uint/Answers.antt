-- `numeral::braced_uint` meets its contract: each answer from the braces and what the digits tell. Assumes nothing.
use Rattle.dimacs.specs.Tokens.{braced_uint_at}
use Rattle.dimacs.proofs.Numbers.{braced_open, braced_found, by_none, by_too_big}
use Rattle.numeral.proofs.Runs.{digits_told, value_told, above_told}
use native.Mathlib.Omega.{arith}
use borrow.Author.Rules.{rules}
use Rattle.numeral.proofs.braced_uint.Goals as goal

pub returns-in_default-get : goal.returns-in_default-get
unfolding braced_uint_at
returns-in_default-get c = by_none _ (braced_open _ _ (search rules) (digits_told _ _ _ c.ascii_digits_multi-value.ensures) (search rules))

pub returns-in_default-get-2 : goal.returns-in_default-get-2
unfolding braced_uint_at
returns-in_default-get-2 c = by_none _ (braced_open _ _ (search rules) (digits_told _ _ _ c.ascii_digits_multi-value.ensures) (search rules))

pub returns-in_default-value : goal.returns-in_default-value
unfolding braced_uint_at
returns-in_default-value c = let t = value_told _ _ _ c.ascii_digits_multi-value.ensures c.in-Some.is in
    by_too_big _ (braced_found _ _ (search rules) t.0 c.if-end-from.false (search rules)) c.if-value-limit.false

pub returns-in_default-value-2 : goal.returns-in_default-value-2
unfolding braced_uint_at
returns-in_default-value-2 c = let is = c.ascii_digits_multi-value.ensures in
    by_too_big _ (braced_found _ _ (search rules) (digits_told _ _ _ is) c.if-end-from.false (search rules)) (omega (arith, above_told _ _ _ is c.in_default-value.is))
