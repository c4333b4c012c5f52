-- `token::comments_and_newlines` meets its contract: what is past comments and line ends from i is what is past them from the start. Assumes nothing.
use mathlib.Core.Path.{sym, ◌∙◌}
use Rattle.dimacs.proofs.Lines.{lines_on}
use Rattle.dimacs.proofs.LinedTokens.{blanks_lined}
use Rattle.token.proofs.comments_and_newlines.Goals as goal

pub loop-i-smaller : goal.loop-i-smaller
loop-i-smaller c = (lines_on _ _ _ c.line_past-a.ensures c.if-a-i.false _ (c.skip_whitespace-i.ensures ∙ sym (blanks_lined _ _ _))).0

pub loop-i-preserved : goal.loop-i-preserved
loop-i-preserved c = (lines_on _ _ _ c.line_past-a.ensures c.if-a-i.false _ (c.skip_whitespace-i.ensures ∙ sym (blanks_lined _ _ _))).1 ∙ c.loop-i.invariant
