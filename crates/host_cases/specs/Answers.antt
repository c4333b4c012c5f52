-- What is printed of a text.
use Rattle.std.specs.Prelude.{ℕ, List, ◌++◌, get_or, Result}
use Rattle.dimacs.specs.Bytes.{bytes}
use Rattle.dimacs.specs.Writing.{digits}
use Rattle.dimacs.specs.declared.Refusal.{Refusal}
use Rattle.latchtwig.specs.Outcomes.{number_told, place_told, words_told}
use Rattle.pages.specs.Printed.{printed_number}

-- Four numbers, each after a space.
abbrev pub printed_numbers : List ℕ → List ℕ
printed_numbers words = printed_number (get_or words 0 0) ++ printed_number (get_or words 1 0) ++ printed_number (get_or words 2 0) ++ printed_number (get_or words 3 0)

-- The refusal's number, or 0 for a text read to its end, and its place, or the text's length; and both again, with line and column.
abbrev pub outcome_line : List ℕ → Result Unit Refusal → List ℕ
outcome_line s o = digits (number_told o) ++ printed_number (place_told s o) ++ printed_numbers (words_told s o) ++ bytes "\n"
