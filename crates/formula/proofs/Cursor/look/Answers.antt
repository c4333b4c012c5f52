-- `formula::Cursor::look` meets its contract, by whether the count of clauses is reached. Assumes nothing.
use mathlib.Core.Path.{ap, sym, ◌∙◌}
use Rattle.dimacs.specs.Tokens.{lines}
use Rattle.formula.proofs.Looks.{looks_reached, looks_open}
use Rattle.dimacs.proofs.LinedTokens.{blanks_lined}
use Rattle.formula.proofs.Cursor.look.Goals as goal

pub returns-then-reached : goal.returns-then-reached
returns-then-reached c = let lines_are = c.comments_and_newlines-at.ensures ∙ ap (lines _) (c.skip_whitespace.ensures ∙ sym (blanks_lined _ _ _)) in
    looks_reached _ _ _ _ _ _ lines_are (sym c.reached.ensures ∙ c.if-reached.true) c.no_clause.ensures

pub returns : goal.returns
returns c = let lines_are = c.comments_and_newlines-at.ensures ∙ ap (lines _) (c.skip_whitespace.ensures ∙ sym (blanks_lined _ _ _)) in
    looks_open _ _ _ _ _ _ lines_are (sym c.reached.ensures ∙ c.if-reached.false) c.absence_of.ensures c.clause_at.ensures
