-- What is printed of a call.
use Rattle.std.specs.Prelude.{ℕ, List, [], ◌++◌, length, take}
use Rattle.std.specs.declared.result.Result.{Result}
use Rattle.std.specs.declared.result.Result.TheVariants.{Ok, Err}
use Rattle.dimacs.specs.Bytes.{bytes}
use Rattle.dimacs.specs.declared.Refusal.{Refusal}
use Rattle.lines.specs.Printed.{printed_line, printed_label}
use Rattle.pages.specs.Printed.{printed_hex_word}
use Rattle.cases.specs.Printed.{printed_stopped}

-- How many bytes were written, and these in hex.
abbrev pub written_line : List ℕ → List ℕ
written_line w = printed_line (printed_label (bytes "written") (length w) ++ bytes " " ++ printed_hex_word w)

-- The refusal, whose k is 0 as are its line and its column.
abbrev pub refused_call_line : Refusal → List ℕ
refused_call_line r = printed_line (printed_stopped r 0 [])

-- The line that stands in the output, or the refusal.
abbrev pub call_line : Result ℕ Refusal → List ℕ → List ℕ
call_line (Ok n) out = written_line (take n out)
call_line (Err r) out = refused_call_line r
