-- `latchtwig::check` meets its contract: numbers above all bytes name nothing, as the largest byte does. Assumes nothing.
use mathlib.Core.Path.{◌∙◌}
use Rattle.latchtwig.proofs.Outcomes.{outcome_narrowed}
use Rattle.latchtwig.proofs.check.Goals as goal

pub returns : goal.returns
returns c = let f = c.from.ensures in let m = c.from-2.ensures in c.read.ensures ∙ outcome_narrowed _ _ _ (rw f at c.narrowed.ensures) (rw m at c.narrowed-2.ensures)
