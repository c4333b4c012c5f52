-- `by_number::named` meets its contract: a number above all bytes names nothing. Assumes nothing.
use Rattle.std.proofs.Common.{rules}
use mathlib.Core.Path.{◌≡◌, refl, sym, ap, ◌∙◌}
use Rattle.std.specs.Prelude.{option_and_then}
use Rattle.dimacs.specs.Names.{kind_of}
use Rattle.numbers.proofs.Named.{named}
use Rattle.by_number.specs.Lines.{format_of}
use Rattle.by_number.proofs.named.Goals as goal

pub returns : goal.returns
returns c =
    let k : c.kind_of.result ≡ kind_of c.args.format 0 = c.kind_of.ensures ∙ named c.from.result 0 c.narrowed.ensures refl ∙ ap (λ f. kind_of f 0) c.from.ensures in
    let a : c.and_then.result ≡ option_and_then format_of c.kind_of.result = search rules in
    rw (c.ok_or.ensures.value, c.refuse_call.ensures, sym k, a)
