-- `log_line::solution_line` meets its contract, by the first word that stands. Assumes nothing.
use mathlib.Core.Path.{refl, ap, sym, ◌∙◌}
use Rattle.dimacs.specs.Logs.{solution_line}
use Rattle.log_line.specs.Lines.{log_state_of, log_line_of}
use Rattle.log_line.proofs.Words.{word_stands, word_missing, none_stands}
use Rattle.log_line.proofs.solution_line.Goals as goal

pub loop-word-init : goal.loop-word-init
unfolding solution_line
loop-word-init c = λ so. refl

pub returns-then-place-at : goal.returns-then-place-at
returns-then-place-at c = λ so h.
    c.verdict_read.ensures so h
    ∙ ap log_line_of (sym (c.loop-word.invariant so
    ∙ word_stands _ _ _ (log_state_of c.args.reading so) _ _ _ (refl, (refl, (refl, tt))) c.loop-word-test.true _ c.fixed-place.ensures c.if-place-at.true))

pub loop-word-preserved : goal.loop-word-preserved
loop-word-preserved c = λ so.
    c.loop-word.invariant so
    ∙ word_missing _ _ _ (log_state_of c.args.reading so) _ _ _ (refl, (refl, (refl, tt))) c.loop-word-test.true _ c.fixed-place.ensures c.if-place-at.false

pub returns : goal.returns
returns c = λ so h. rw (c.stopped.ensures, ← h) (ap log_line_of (sym (c.loop-word.invariant so ∙ none_stands _ _ (log_state_of c.args.reading so) _ _ c.loop-word-test.false)))
