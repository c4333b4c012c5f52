-- `measures::item_length` meets its contract: a literal is not so long that its space could overflow. Assumes nothing.
use mathlib.Core.Path.{◌≡◌, ap, ◌∙◌}
use native.Mathlib.Omega.{arith}
use lib.ListN.{length}
use mir.Syntax.{w32}
use mir.ValLaws.{to_z-of_z}
use Rattle.dimacs.specs.Writing.{signed_digits}
use Rattle.dimacs.proofs.Signs.{size_small}
use Rattle.measures.proofs.Literals.{signed_few, item_long}
use Rattle.measures.proofs.item_length.Goals as goal
use Rattle.measures.proofs.item_length.Goals.{After-literal_length}

long : (c : After-literal_length) → c.literal_length.result ≡ length (signed_digits c.args.literal)
long c = c.literal_length.ensures ∙ ap (λ l. length (signed_digits l)) (to_z-of_z w32 _ c.ranges.literal)

pub overflow_add-result : goal.overflow_add-result
overflow_add-result c =
    record { fits = omega (arith, long (goal.at.overflow_add-result c).After-literal_length, signed_few c.args.literal, size_small c.args.literal c.ranges.literal.sfits) }

pub returns : goal.returns
returns c = omega (arith, long (goal.at.returns c).After-literal_length, item_long c.args.literal)
