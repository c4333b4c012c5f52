-- The bytes that the writers write.
use Rattle.std.specs.Prelude.{ℕ, suc, ◌+◌, ◌/◌, ◌%◌, Bool, cond, ◌&&◌, List, [], ◌∷◌, ◌++◌, length, ltb, leb, eqb, ℤ, pos, negsuc, nat_abs}
use Prim.Native.Char.{code}
use Rattle.dimacs.specs.Loop.{Step, again, answer, loop}
use Rattle.dimacs.specs.Bytes.{bytes}
use Rattle.dimacs.specs.Names.{call_refusal, ceiling, hard}
use Rattle.dimacs.specs.declared.Reason.{Reason}
use Rattle.dimacs.specs.Tokens.{run}
use Rattle.dimacs.specs.Header.{has_header, has_third, format_word}
use Rattle.dimacs.specs.Clauses.{has_hard}
use Rattle.dimacs.specs.declared.Format.{Format}
use Rattle.dimacs.specs.declared.Format.TheVariants.{Plain, Weighted, Grouped, Weighted2022}
use Rattle.dimacs.specs.declared.Header.{Header}
use Rattle.dimacs.specs.declared.Refusal.{Refusal}

-- Writing a number: what is left of it, and the digits written behind that.
pub record Digits : Type 0 where
  pub left : ℕ
  pub behind : List ℕ

-- One digit more, from the last to the first.
unfoldable pub next_digit : Digits → Step Digits (List ℕ)
next_digit d =
    cond (ltb d.left 10)
    (answer ((code "0" + d.left) ∷ d.behind))
    (again (record { left = d.left / 10; behind = (code "0" + d.left % 10) ∷ d.behind }))

-- A number in decimal, with no leading zero.
unfoldable pub digits : ℕ → List ℕ
digits n = loop next_digit [] (suc n) (record { left = n; behind = [] })

-- A literal in decimal.
abbrev pub signed_digits : ℤ → List ℕ
signed_digits (pos n) = digits n
signed_digits (negsuc n) = code "-" ∷ digits (suc n)

-- The third count of a header, if the format has one.
abbrev pub third_digits : Format → ℕ → List ℕ
third_digits f t = cond (has_third f) (bytes " " ++ digits t) []

-- The line of a header.
unfoldable pub header_line : Format → Header → List ℕ
header_line f h =
    bytes "p " ++ format_word f ++ bytes " " ++ digits h.variables ++ bytes " " ++ digits h.clauses ++ third_digits f h.third ++ bytes "\n"

-- What stands before the literals: a weight, or a group in braces, or the word `h` of a hard clause, and a space.
abbrev pub lead : Format → ℕ → List ℕ
lead Plain extra = []
lead Weighted extra = digits extra ++ bytes " "
lead Grouped extra = bytes "{" ++ digits extra ++ bytes "} "
lead Weighted2022 extra = cond (eqb extra hard) (bytes "h ") (digits extra ++ bytes " ")

-- A literal with the space after it.
abbrev pub item : ℤ → List ℕ
item l = signed_digits l ++ bytes " "

-- Literals one after the other.
unfoldable pub items : List ℤ → List ℕ
items [] = []
items (l ∷ so) = item l ++ items so

-- The line of a clause.
unfoldable pub clause_line : Format → ℕ → List ℤ → List ℕ
clause_line f extra so = lead f extra ++ items so ++ bytes "0\n"

-- What a writer comes to: the line that it wrote, or a refusal, with nothing written.
pub data Written : Type 0 where
  written : List ℕ → Written
  unwritten : Refusal → Written

-- A line is written if the output is long enough.
abbrev pub fits : ℕ → List ℕ → Written
fits room line = cond (leb (length line) room) (written line) (unwritten (call_refusal Reason.OutputTooShort 0))

-- A header is refused in a format that has none; then if its count of variables is above the ceiling, before the output's length is.
unfoldable pub write_header : Format → Header → ℕ → Written
write_header f h room =
    cond (has_header f)
    (cond (leb h.variables ceiling) (fits room (header_line f h)) (unwritten (call_refusal Reason.VariableCountTooBig 0)))
    (unwritten (call_refusal Reason.FormatOrModeUnknown 0))

-- A literal is neither 0 nor beyond the ceiling.
abbrev pub is_literal : ℤ → Bool
is_literal l = leb 1 (nat_abs l) && leb (nat_abs l) ceiling

-- The first bad literal is refused by its index, before the output's length is.
unfoldable pub write_line : Format → ℕ → List ℤ → ℕ → Written
write_line f extra so room =
    let good = run is_literal so in
    cond (leb (length so) good) (fits room (clause_line f extra so)) (unwritten (call_refusal Reason.LiteralNotWritable good))

-- A clause, in the 2022 form a soft one, whose weight is not 0.
unfoldable pub write_clause : Format → ℕ → List ℤ → ℕ → Written
write_clause f extra so room = cond (has_hard f && eqb extra 0) (unwritten (call_refusal Reason.WeightZero 0)) (write_line f extra so room)

-- A hard clause, in the format that has them.
unfoldable pub write_hard_clause : Format → List ℤ → ℕ → Written
write_hard_clause f so room = cond (has_hard f) (write_line f hard so room) (unwritten (call_refusal Reason.FormatOrModeUnknown 0))
