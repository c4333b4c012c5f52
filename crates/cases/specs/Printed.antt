-- What is printed of a text.
use Rattle.std.specs.Prelude.{ℕ, List, [], ◌∷◌, ◌++◌, ℤ}
use Rattle.std.specs.declared.option.Option.{Option}
use Rattle.std.specs.declared.option.Option.TheVariants.{Some, None}
use Rattle.dimacs.specs.Bytes.{bytes}
use Rattle.dimacs.specs.declared.Format.{Format}
use Rattle.dimacs.specs.declared.Opening.{Opening}
use Rattle.dimacs.specs.declared.Opening.TheVariants as opening
use Rattle.dimacs.specs.declared.Refusal.{Refusal}
use Rattle.dimacs.specs.declared.Verdict.{Verdict}
use Rattle.dimacs.specs.declared.Verdict.TheVariants.{Yes, No, Unknown}
use Rattle.pages.specs.Printed.{printed_hex_word, printed_literals, printed_number}
use Rattle.lines.specs.Printed.{printed_header, printed_placed_refusal, printed_line}

-- A header, or that there is none.
abbrev pub printed_opened : Opening → Format → List ℕ
printed_opened (opening.Header h _) f = printed_header f h
printed_opened (opening.NoHeader _) f = bytes "header none"

-- A verdict, or that there is none.
abbrev pub printed_verdict : Option Verdict → List ℕ
printed_verdict (Some Yes) = bytes "verdict yes"
printed_verdict (Some No) = bytes "verdict no"
printed_verdict (Some Unknown) = bytes "verdict unknown"
printed_verdict None = bytes "verdict none"

-- The verdict and the literals of a log.
abbrev pub printed_accepted : Option Verdict → List ℤ → List ℕ
printed_accepted verdict so = printed_line (printed_verdict verdict) ++ printed_line (bytes "literals" ++ printed_literals so)

-- A word in hex after a space, if there is one.
abbrev pub printed_word : List ℕ → List ℕ
printed_word [] = []
printed_word (b ∷ bs) = bytes " " ++ printed_hex_word (b ∷ bs)

-- Number, place, k, line and column of a refusal, and the word that it stopped at.
abbrev pub printed_stopped : Refusal → ℕ → List ℕ → List ℕ
printed_stopped r k word = printed_placed_refusal r [] ++ printed_number k ++ (printed_number r.line ++ printed_number r.column) ++ printed_word word
