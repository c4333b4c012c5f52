-- `token::interactive_skip_line` meets its contract: what is past the bytes that end no line from i is what is past them from the start. Assumes nothing.
use mathlib.Core.Path.{sym}
use native.Mathlib.Omega.{arith}
use borrow.Author.Rules.{rules}
use Rattle.dimacs.proofs.Lines.{next_line_end}
use Rattle.dimacs.proofs.Lined.{ended_lined}
use Rattle.token.proofs.Returns.{skip_crlf, skip_return}
use Rattle.token.proofs.interactive_skip_line.Goals as goal

pub returns-in-Some-eq10 : goal.returns-in-Some-eq10
returns-in-Some-eq10 c = omega (arith, skip_crlf _ _ _ (search rules) (λ e. c.if-b-eq10.false (search rules)) _ (c.loop-b.invariant _ c.also_ends-also.ensures) (search rules) (search rules))

pub returns-in_default-get : goal.returns-in_default-get
returns-in_default-get c = sym (skip_return _ _ _ (search rules) (λ e. c.if-b-eq10.false (search rules)) _ (c.loop-b.invariant _ c.also_ends-also.ensures) (search rules) (search rules))

pub returns-in_default-get-2 : goal.returns-in_default-get-2
returns-in_default-get-2 c = sym (skip_return _ _ _ (search rules) (λ e. c.if-b-eq10.false (search rules)) _ (c.loop-b.invariant _ c.also_ends-also.ensures) (search rules) (search rules))

pub returns : goal.returns
returns c = sym (next_line_end _ _ _ (c.loop-b.invariant _ c.also_ends-also.ensures) (ended_lined _ _ (search rules)))
