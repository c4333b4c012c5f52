-- `measures::writable` meets its contract: the literals that are taken are the run. Assumes nothing.
use Rattle.std.proofs.Common.{rules, ◌∙◌}
use Rattle.std.proofs.Common.{tests}
use Rattle.std.proofs.lemmas.Iterator.{YieldsList-from_slice}
use Rattle.std.proofs.lemmas.Iterator.Consumers.{count_from_yields_List}
use Rattle.std.proofs.lemmas.Iterator.Search.{YieldsList-from_take_while}
use Rattle.std.proofs.lemmas.List.Folds.{length-prefix_len}
use Rattle.dimacs.specs.Writing.{is_literal}
use Rattle.measures.proofs.Literals.{run_front}
use Rattle.measures.proofs.writable.Goals as goal

pub returns : goal.returns
returns c =
    let lits = c.args.lits.now in
    count_from_yields_List c.take_while.result _ c.count.ensures.ran (YieldsList-from_take_while _ is_literal (YieldsList-from_slice lits (cc)) c.take_while.ensures.closure c.take_while.ensures.done (λ x b q k. search (rules, tests)))
    ∙ length-prefix_len is_literal lits ∙ run_front is_literal lits
