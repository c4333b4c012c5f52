-- `log_line::solution_line` meets its contract: what it comes to is what the words from the next on say. Assumes nothing.
use mathlib.Core.List.{List}
use mathlib.Core.Path.{◌≡◌}
use lib.ListN.{drop}
use lib.IntN.{ℤ}
use Rattle.dimacs.specs.Lined.{lined}
use Rattle.dimacs.specs.Logs.{solution_line}
use Rattle.log_line.specs.Lines.{log_state_of}
use Rattle.log_line.proofs.Words.{said_by}
use Rattle.log_line.proofs.solution_line.Given as goal

abbrev pub invariant-loop-word : goal.invariant-loop-word
invariant-loop-word l =
    let s = lined l.ends l.text in
    (so : List ℤ) → solution_line s l.at (log_state_of l.reading so) ≡ said_by s l.at (log_state_of l.reading so) (drop l.word-index l.word-items)
