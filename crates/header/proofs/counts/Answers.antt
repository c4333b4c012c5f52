-- `header::counts` meets its contract: each count in turn, and what closes their line. Assumes nothing.
use mathlib.Core.Path.{sym, ◌∙◌}
use Rattle.std.proofs.lemmas.Result.{err_from_is_err_and}
use Rattle.dimacs.specs.Header.{header_end}
use Rattle.header.proofs.OneByOne.{variables_on, clauses_on, third_on}
use Rattle.header.proofs.counts.Goals as goal

pub returns-in_err-variables : goal.returns-in_err-variables
returns-in_err-variables c = let p = err_from_is_err_and c.from_residual.result c.from_residual.ensures.1 in
    let v = rw c.from.ensures at (sym c.count.ensures ∙ c.in_err-variables.was) in
    rw (p.1, p.2, variables_on, v)

pub returns-in_err-clauses : goal.returns-in_err-clauses
returns-in_err-clauses c = let p = err_from_is_err_and c.from_residual-in_err-clauses.result c.from_residual-in_err-clauses.ensures.1 in
    let v = rw c.from.ensures at (sym c.count.ensures ∙ c.in_ok-variables.was) in
    let n = sym c.count-2.ensures ∙ c.in_err-clauses.was in
    rw (p.1, p.2, variables_on, v, clauses_on, n)

pub returns-in_err-third : goal.returns-in_err-third
returns-in_err-third c = let p = err_from_is_err_and c.from_residual-in_err-third.result c.from_residual-in_err-third.ensures.1 in
    let v = rw c.from.ensures at (sym c.count.ensures ∙ c.in_ok-variables.was) in
    let n = sym c.count-2.ensures ∙ c.in_ok-clauses.was in
    let t = sym c.third_count.ensures ∙ c.in_err-third.was in
    rw (p.1, p.2, variables_on, v, clauses_on, n, third_on, t)

pub returns-in-None : goal.returns-in-None
unfolding header_end
returns-in-None c = let v = rw c.from.ensures at (sym c.count.ensures ∙ c.in_ok-variables.was) in
    let n = sym c.count-2.ensures ∙ c.in_ok-clauses.was in
    let t = sym c.third_count.ensures ∙ c.in_ok-third.was in
    let e = sym c.interactive_end_of_line.ensures ∙ c.in-None.is in
    rw (variables_on, v, clauses_on, n, third_on, t, e, c.refuse.ensures)

pub returns-in-Some : goal.returns-in-Some
unfolding header_end
returns-in-Some c = let v = rw c.from.ensures at (sym c.count.ensures ∙ c.in_ok-variables.was) in
    let n = sym c.count-2.ensures ∙ c.in_ok-clauses.was in
    let t = sym c.third_count.ensures ∙ c.in_ok-third.was in
    let e = sym c.interactive_end_of_line.ensures ∙ c.in-Some.is in
    rw (variables_on, v, clauses_on, n, third_on, t, e)
