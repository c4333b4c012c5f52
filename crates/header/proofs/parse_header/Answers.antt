-- `header::parse_header` meets its contract, by how the text opens. Assumes nothing.
use mathlib.Core.Path.{ap, sym, ◌∙◌, subst}
use Rattle.std.specs.Prelude.{Ok}
use Rattle.dimacs.proofs.Texts.{Opens, opening_opens}
use Rattle.header.proofs.parse_header.Goals as goal

pub limits_of-limits-requires : goal.limits_of-limits-requires
limits_of-limits-requires c = let i = c.in-Ok-Header.is in
    let e = sym c.opening_of-opening.ensures ∙ i ∙ ap Ok (rw i at c.in-Ok-Header.field-0-is) in (subst (Opens _) e (opening_opens _ _)).1
