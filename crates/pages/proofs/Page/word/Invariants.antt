-- `pages::Page::word` meets its contract: each turn lays the next byte. Assumes nothing.
use lib.ListN.{take}
use Rattle.pages.specs.Pages.{Laid}
use Rattle.pages.proofs.Page.word.Given as goal

abbrev pub invariant-loop-b : goal.invariant-loop-b
invariant-loop-b l = Laid (take l.b-index l.w) l.initial.self l.self
