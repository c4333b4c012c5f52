-- `numeral::skip_digits` meets its contract: what is past the digits from i is what is past them from the start. Assumes nothing.
use mathlib.Core.Path.{◌≡◌}
use Rattle.dimacs.specs.Bytes.{is_digit}
use Rattle.dimacs.specs.Tokens.{past}
use Rattle.numeral.proofs.skip_digits.Given as goal

abbrev pub invariant-loop-i : goal.invariant-loop-i
invariant-loop-i l = past is_digit l.text l.i ≡ past is_digit l.text l.at
