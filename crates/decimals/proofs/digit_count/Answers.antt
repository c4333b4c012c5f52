-- `decimals::digit_count` meets its contract: each power that fits is one digit more. Assumes nothing.
use Rattle.std.proofs.Common.{rules, tests, ◌∙◌}
use native.Mathlib.Omega.{arith}
use lib.Dec.{leb}
use Rattle.std.proofs.lemmas.Iterator.{YieldsList-from_slice}
use Rattle.std.proofs.lemmas.Iterator.Consumers.{count_from_yields_List}
use Rattle.std.proofs.lemmas.Iterator.Search.{YieldsList-from_take_while}
use Rattle.std.proofs.lemmas.List.Folds.{length-prefix_len}
use Rattle.decimals.proofs.Digits.{powers, front_counted, digits_bounded}
use Rattle.decimals.proofs.digit_count.Goals as goal

pub returns : goal.returns
returns c =
    let n = c.args.n in
    let e = count_from_yields_List c.take_while.result _ c.count.ensures.ran (YieldsList-from_take_while _ (λ p. leb p n) (YieldsList-from_slice (powers 1 19) (cc)) c.take_while.ensures.closure c.take_while.ensures.done (λ x b q k. search (rules, tests))) ∙ length-prefix_len (λ p. leb p n) (powers 1 19) in
    omega (arith, e, front_counted n 19 1 (omega arith) (digits_bounded n).some (omega (arith, c.ranges.n)))
