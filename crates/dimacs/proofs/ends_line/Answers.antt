-- `dimacs::ends_line` meets its contract, by the byte at the place and the one after it. Assumes nothing.
use Rattle.std.proofs.Common.{sym, ◌∙◌, ◌+◌}
use borrow.Author.Tests.{eq-eqb, ne_eqb, le-leb}
use Rattle.dimacs.specs.Bytes.{LF}
use Rattle.dimacs.proofs.Lines.{no_byte}
use Rattle.dimacs.proofs.Lined.{ends_with_lf, ends_with_no, ends_unless_lf, ends_with_return}
use Rattle.dimacs.proofs.ends_line.Goals as goal

pub returns-then-b-eq10 : goal.returns-then-b-eq10
returns-then-b-eq10 c = eq-eqb _ LF c.if-b-eq10.true ∙ sym (eq-eqb _ LF (ends_with_lf c.args.text.now c.args.at c.args.ends c.if-b-eq10.true))

pub returns-then-text-next : goal.returns-then-text-next
returns-then-text-next c =
    let alone = no_byte c.args.text.now (c.args.at + 1) 9 c.if-text-next.true in
    le-leb _ _ c.if-text-next.true
    ∙ sym (eq-eqb _ LF (ends_with_return c.args.text.now c.args.at c.if-b-eq10.false c.args.ends (c.if-b-also_ends.true ∙ c.also_ends.ensures) alone))

pub returns-else-text-next : goal.returns-else-text-next
returns-else-text-next c =
    ends_unless_lf c.args.text.now c.args.at c.if-b-eq10.false c.args.ends (c.if-b-also_ends.true ∙ c.also_ends.ensures)

pub returns-else-b-also_ends : goal.returns-else-b-also_ends
returns-else-b-also_ends c =
    ne_eqb _ _ c.if-b-also_ends.false
    ∙ sym (ne_eqb _ LF (ends_with_no c.args.text.now c.args.at c.if-b-eq10.false c.args.ends (λ e. c.if-b-also_ends.false (e ∙ sym c.also_ends.ensures))))
