-- `cases::title` meets its contract: the number of a case has at most twenty digits, so that its line has room. Assumes nothing.
use Rattle.std.proofs.Common.{rules, arith, ◌≤◌, ◌∙◌, length, subst, length-append}
use Rattle.std.specs.Io.KnownBytes.{Appends}
use Rattle.std.proofs.lemmas.List.{take_all}
use Rattle.dimacs.specs.Bytes.{bytes}
use Rattle.dimacs.specs.Writing.{digits}
use Rattle.decimals.proofs.Digits.{digits_below}
use Rattle.pages.proofs.Pages.{laid_stands}
use Rattle.lines.specs.Printed.{printed_case, printed_line}
use Rattle.cases.proofs.title.Goals as goal

pub returns : goal.returns
returns g c = λ yes.
    let line = printed_line (printed_case c.args.case) in
    let few : length (digits c.args.case) ≤ 20 = digits_below 20 c.args.case (omega arith) (search rules) in
    let short : length line ≤ 26 = omega (arith, few, length-append (digits c.args.case) (bytes "\n")) in
    let whole = (laid_stands c.case_line.ensures.lays).part ∙ take_all 26 line short in
    subst (λ p. Appends (g.W.Write.contents c.args.out.now) (g.W.Write.contents c.show.new.out) p) whole (c.show.ensures.printed yes)
