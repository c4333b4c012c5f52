-- What is printed of a case: what each token function says of a place of a text.
use Rattle.std.specs.Prelude.{ℕ, ◌%◌, Bool, cond, List, [], ◌∷◌, ◌++◌, Option, None, Some}
use Rattle.dimacs.specs.Bytes.{bytes}
use Rattle.dimacs.specs.Lined.{lined}
use Rattle.dimacs.specs.Tokens as token
use Rattle.dimacs.specs.Writing.{digits}
use Rattle.dimacs.specs.declared.Ends.{Ends}
use Rattle.dimacs.specs.declared.Int.{Int}
use Rattle.dimacs.specs.declared.Int.TheVariants as int
use Rattle.dimacs.specs.declared.Uint.{Uint}
use Rattle.dimacs.specs.declared.Uint.TheVariants as uint
use Rattle.pages.specs.Printed.{printed_number, printed_literals}

-- A test as a number.
abbrev pub bit : Bool → ℕ
bit t = cond t 1 0

-- The place past a number that was read.
abbrev pub printed_past : ℕ → List ℕ
printed_past next = bytes "@" ++ digits next

-- A line end: the place past it.
abbrev pub printed_end_of_line : Option ℕ → List ℕ
printed_end_of_line None = bytes " -"
printed_end_of_line (Some next) = printed_number next

-- An unsigned number and the place past it.
abbrev pub printed_uint : Uint → List ℕ
printed_uint uint.Missing = bytes " -"
printed_uint uint.TooBig = bytes " !"
printed_uint (uint.Value n next) = printed_number n ++ printed_past next

-- A signed number and the place past it.
abbrev pub printed_int : Int → List ℕ
printed_int int.Missing = bytes " -"
printed_int int.TooBig = bytes " !"
printed_int (int.Zero next) = printed_number 0 ++ printed_past next
printed_int (int.Literal v next) = printed_literals (v ∷ []) ++ printed_past next

module _ (s : List ℕ) (at : ℕ) where
  -- Whether the text has ended, and whether a word ends.
  abbrev pub test_answers : List ℕ
  test_answers =
      digits (bit (token.at_end s at)) ++
      printed_number (bit (token.word_ends s at))

  -- Fixed words, and words that end.
  abbrev pub word_answers : List ℕ
  word_answers =
      printed_number (token.fixed s (bytes "c ") at) ++
      printed_number (token.fixed s (bytes "SATISFIABLE") at) ++
      printed_number (token.word s (bytes "p") at) ++
      printed_number (token.word s (bytes "cnf") at)

  -- Numbers up to a limit; that of a signed one is its lower half.
  abbrev pub number_answers : ℕ → List ℕ
  number_answers limit =
      printed_uint (token.uint_at s limit at) ++
      printed_uint (token.braced_uint_at s limit at) ++
      printed_int (token.int_at s (limit % 4294967296) at)

module _ (ends : Ends) (s : List ℕ) (at : ℕ) where
  -- Whether the text or a word ends, blanks, and the ends of lines.
  abbrev pub end_answers : List ℕ
  end_answers =
      test_answers s at ++
      printed_number (token.blanks s at) ++
      printed_number (token.next_line (lined ends s) at) ++
      printed_number (token.line_end (lined ends s) at) ++
      printed_end_of_line (token.end_of_line (lined ends s) at)

  -- Comments and line ends.
  abbrev pub line_answers : List ℕ
  line_answers =
      printed_number (token.newline (lined ends s) at) ++
      printed_number (token.line_past (lined ends s) at) ++
      printed_number (token.strict_comment (lined ends s) at) ++
      printed_number (token.lines (lined ends s) at) ++
      printed_number (token.linebreaks (lined ends s) at)

  -- The whole line.
  abbrev pub token_line : ℕ → List ℕ
  token_line limit = end_answers ++ line_answers ++ word_answers s at ++ number_answers s at limit ++ bytes " \n"
