-- `log_line::value_line` meets its contract: what closes the line, by what its row comes to. Assumes nothing.
use mathlib.Core.Path.{ap, ◌∙◌}
use Rattle.std.specs.Prelude.{Ok}
use Rattle.std.proofs.lemmas.Result.{err_from_is_err_and}
use Rattle.dimacs.specs.Logs.{value_line}
use Rattle.log_line.proofs.Rows.{values_lead}
use Rattle.dimacs.proofs.LinedTokens.{blanks_lined}
use Rattle.log_line.proofs.value_line.Goals as goal

pub returns-in-Ends : goal.returns-in-Ends
unfolding value_line
returns-in-Ends c = let q = c.skip_whitespace-from.ensures in rw blanks_lined (values_lead _ _ _ _ _ (rw q at c.ints.ensures) (c.in_ok-place.was ∙ ap Ok c.in-Ends.is) _ c.line_read.ensures)

pub returns-in-Closes : goal.returns-in-Closes
unfolding value_line
returns-in-Closes c = let q = c.skip_whitespace-from.ensures in rw blanks_lined (values_lead _ _ _ _ _ (rw q at c.ints.ensures) (c.in_ok-place.was ∙ ap Ok c.in-Closes.is) _ c.line_read-in-Closes.ensures)

pub returns-in_err-place : goal.returns-in_err-place
unfolding value_line
returns-in_err-place c = let q = c.skip_whitespace-from.ensures in let p = err_from_is_err_and c.from_residual.result c.from_residual.ensures.1 in
    rw (p.1, p.2, blanks_lined) (values_lead _ _ _ _ _ (rw q at c.ints.ensures) c.in_err-place.was)
