-- `pages::Page::literals` meets its contract: each turn lays the next literal. Assumes nothing.
use Rattle.pages.specs.Printed.{printed_literal}
use Rattle.std.specs.List.{flat_map}
use lib.ListN.{take}
use Rattle.pages.specs.Pages.{Laid}
use Rattle.pages.proofs.Page.literals.Given as goal

abbrev pub invariant-loop-v : goal.invariant-loop-v
invariant-loop-v l = Laid (flat_map printed_literal (take l.v-index l.lits)) l.initial.self l.self
