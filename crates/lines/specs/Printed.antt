-- The lines that several programs print.
use Rattle.std.specs.Prelude.{ℕ, cond, List, [], ◌++◌, eqb, ℤ, Result, Ok, Err}
use Rattle.dimacs.specs.Bytes.{bytes}
use Rattle.dimacs.specs.Names.{hard}
use Rattle.dimacs.specs.Writing.{digits, third_digits}
use Rattle.dimacs.specs.declared.Format.{Format}
use Rattle.dimacs.specs.declared.Format.TheVariants.{Plain, Weighted, Grouped, Weighted2022}
use Rattle.dimacs.specs.declared.Header.{Header}
use Rattle.dimacs.specs.declared.Opening.{Opening}
use Rattle.dimacs.specs.declared.Opening.TheVariants as opening
use Rattle.dimacs.specs.declared.Refusal.{Refusal}
use Rattle.pages.specs.Printed.{printed_number, printed_literals}
use Rattle.lines.specs.declared.Words.{Words}

-- A number after a word and a space.
abbrev pub printed_label : List ℕ → ℕ → List ℕ
printed_label label n = label ++ printed_number n

-- A header: its word and its counts.
abbrev pub printed_header : Format → Header → List ℕ
printed_header f h = printed_label (bytes "header") h.variables ++ printed_number h.clauses ++ third_digits f h.third

-- The weight of a clause.
abbrev pub printed_weight : ℕ → List ℕ
printed_weight n = printed_number n ++ bytes ":"

-- The weight or the group of a clause, if the format has one, or the `h` of a hard one.
abbrev pub printed_lead : Format → ℕ → List ℕ
printed_lead Plain extra = []
printed_lead Weighted extra = printed_weight extra
printed_lead Grouped extra = bytes " {" ++ digits extra ++ bytes "}:"
printed_lead Weighted2022 extra = cond (eqb extra hard) (bytes " h:") (printed_weight extra)

-- A clause.
abbrev pub printed_clause : Format → ℕ → List ℤ → List ℕ
printed_clause f extra so = bytes "clause" ++ printed_lead f extra ++ printed_literals so

-- A refusal's number, and its place after a word.
abbrev pub printed_placed_refusal : Refusal → List ℕ → List ℕ
printed_placed_refusal r place_word = printed_label (bytes "refused") r.number ++ printed_label place_word r.place

-- A refusal's line and its column, each after its word.
abbrev pub printed_spot : Refusal → Words → List ℕ
printed_spot r w = printed_label w.line.now r.line ++ printed_label w.column.now r.column

-- A refusal's number, and its place, k, its line and its column, each after its word.
abbrev pub printed_refusal : Refusal → ℕ → Words → List ℕ
printed_refusal r k w = printed_placed_refusal r w.place.now ++ printed_label w.count.now k ++ printed_spot r w

-- How a text opens; the words are those of a refusal, whose k is 0.
abbrev pub printed_opening : Result Opening Refusal → Format → Words → List ℕ
printed_opening (Ok (opening.Header h _)) f w = printed_header f h
printed_opening (Ok (opening.NoHeader _)) f w = bytes "header none"
printed_opening (Err r) f w = printed_refusal r 0 w

-- The number of a case.
abbrev pub printed_case : ℕ → List ℕ
printed_case n = printed_label (bytes "case") n

-- Words, and the line end.
abbrev pub printed_line : List ℕ → List ℕ
printed_line words = words ++ bytes "\n"
