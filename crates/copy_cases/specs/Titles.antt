-- What is printed before a text.
use Rattle.std.specs.Prelude.{ℕ, List, ◌++◌}
use Rattle.dimacs.specs.Bytes.{bytes}
use Rattle.dimacs.specs.declared.Format.{Format}
use Rattle.dimacs.specs.declared.Format.TheVariants.{Plain, Weighted, Grouped, Weighted2022}
use Rattle.lines.specs.Printed.{printed_label}

-- The name of a format.
abbrev pub format_name : Format → List ℕ
format_name Plain = bytes "plain"
format_name Weighted = bytes "weighted"
format_name Grouped = bytes "grouped"
format_name Weighted2022 = bytes "weighted2022"

-- The text's format, and how many bytes it has.
abbrev pub title_line : Format → ℕ → List ℕ
title_line f n = printed_label (format_name f) n ++ bytes " bytes\n"
