-- `pages::Page::hex_word` meets its contract: each turn lays the next byte in hex. Assumes nothing.
use Rattle.pages.specs.Printed.{printed_hex}
use Rattle.std.specs.List.{flat_map}
use lib.ListN.{take}
use Rattle.pages.specs.Pages.{Laid}
use Rattle.pages.proofs.Page.hex_word.Given as goal

abbrev pub invariant-loop-b : goal.invariant-loop-b
invariant-loop-b l = Laid (flat_map printed_hex (take l.b-index l.w)) l.initial.self l.self
