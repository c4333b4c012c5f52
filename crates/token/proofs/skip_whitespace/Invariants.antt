-- `token::skip_whitespace` meets its contract: what is past the blanks from i is what is past them from the start. Assumes nothing.
use mathlib.Core.Path.{◌≡◌}
use Rattle.dimacs.specs.Bytes.{is_blank}
use Rattle.dimacs.specs.Tokens.{past}
use Rattle.token.proofs.skip_whitespace.Given as goal

abbrev pub invariant-loop-i : goal.invariant-loop-i
invariant-loop-i l = past is_blank l.text l.i ≡ past is_blank l.text l.at
