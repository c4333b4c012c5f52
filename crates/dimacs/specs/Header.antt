-- The opening of a text of clauses: its header, if it has one, and the limits that the header sets.
use Rattle.std.specs.Prelude.{ℕ, Bool, true, false, cond, List, [], eqb, Result, Ok, Err}
use Rattle.dimacs.specs.declared.Refusal.{Refusal}
use Rattle.dimacs.specs.Bytes.{bytes}
use Rattle.dimacs.specs.Names.{refusal, ceiling, largest}
use Rattle.dimacs.specs.declared.Reason.{Reason}
use Rattle.dimacs.specs.Tokens.{unmoved, blanks, lines, word, uint_at, end_of_line, line_ends}
use Rattle.dimacs.specs.declared.Format.{Format}
use Rattle.dimacs.specs.declared.Format.TheVariants.{Plain, Weighted, Grouped, Weighted2022}
use Rattle.dimacs.specs.declared.Rigor.{Rigor}
use Rattle.dimacs.specs.declared.Rigor.TheVariants.{Strict, Lenient}
use Rattle.dimacs.specs.declared.Opening.{Opening}
use Rattle.dimacs.specs.declared.Opening.TheVariants as opening
use Rattle.dimacs.specs.declared.Header.{Header}
use Rattle.dimacs.specs.declared.Limits.{Limits}
use Rattle.dimacs.specs.declared.Uint.{Uint}
use Rattle.dimacs.specs.declared.Uint.TheVariants as uint

-- A text of the 2022 form has no header.
abbrev pub has_header : Format → Bool
has_header Plain = true
has_header Weighted = true
has_header Grouped = true
has_header Weighted2022 = false

-- The third count of a header is the top weight of a weighted text, the count of groups of a grouped one.
abbrev pub has_third : Format → Bool
has_third Plain = false
has_third Weighted = true
has_third Grouped = true
has_third Weighted2022 = false

-- The word of a format in its header, of no bytes where there is no header.
abbrev pub format_word : Format → List ℕ
format_word Plain = bytes "cnf"
format_word Weighted = bytes "wcnf"
format_word Grouped = bytes "gcnf"
format_word Weighted2022 = []

-- A header by its three counts.
abbrev pub header_of : ℕ → ℕ → ℕ → Header
header_of v c t = record { variables = v; clauses = c; third = t }

module _ (s : List ℕ) where
  -- What follows a count; or it is refused, for one reason where none stands and for another where it is too big.
  abbrev pub counted : Reason → Reason → ℕ → (ℕ → ℕ → Result Opening Refusal) → Uint → Result Opening Refusal
  counted none big at then uint.Missing = Err (refusal s none at)
  counted none big at then uint.TooBig = Err (refusal s big at)
  counted none big at then (uint.Value n next) = then n next

  -- After the counts, a line end or the end of the text.
  unfoldable pub header_end : Header → ℕ → Result Opening Refusal
  header_end h at = line_ends (end_of_line s at) (λ next. Ok (opening.Header h next)) (Err (refusal s Reason.LineEndExpected at))

  -- A third count, and what follows.
  unfoldable pub third_there : ℕ → ℕ → ℕ → Result Opening Refusal
  third_there v c at = counted Reason.ThirdCountExpected Reason.ThirdCountTooBig at (λ t. header_end (header_of v c t)) (uint_at s largest at)

  -- The third count, if the format has one, and what follows.
  unfoldable pub third_count : Format → ℕ → ℕ → ℕ → Result Opening Refusal
  third_count f v c at = cond (has_third f) (third_there v c at) (header_end (header_of v c 0) at)

  -- The count of clauses, and what follows.
  unfoldable pub clause_count : Format → ℕ → ℕ → Result Opening Refusal
  clause_count f v at = counted Reason.ClauseCountExpected Reason.ClauseCountTooBig at (third_count f v) (uint_at s largest at)

  -- The count of variables, and what follows.
  unfoldable pub variable_count : Format → ℕ → Result Opening Refusal
  variable_count f at = counted Reason.VariableCountExpected Reason.VariableCountTooBig at (clause_count f) (uint_at s ceiling at)

  -- What follows `p`: the format's word, and the counts.
  unfoldable pub after_p : Format → ℕ → Result Opening Refusal
  after_p f at =
      let e = word s (format_word f) at in
      cond (unmoved at e) (Err (refusal s Reason.FormatWordExpected at)) (variable_count f e)

  -- Blanks, comments and line ends are skipped. If the word `p` follows, the header must, in a format that has one.
  unfoldable pub opening_of : Format → Result Opening Refusal
  opening_of f =
      let at = lines s (blanks s 0) in
      let e = word s (bytes "p") at in
      cond (has_header f) (cond (unmoved at e) (Ok (opening.NoHeader at)) (after_p f e)) (Ok (opening.NoHeader at))

-- The limits where no count applies.
abbrev pub unlimited : Limits
unlimited = record { literals = ceiling; groups = largest; clauses = 0 }

-- A count of 0 is unspecified.
abbrev pub specified : ℕ → ℕ → ℕ
specified n otherwise = cond (eqb n 0) otherwise n

-- The limit of groups, from the third count of a grouped text.
abbrev pub group_limit : Format → ℕ → ℕ
group_limit Plain t = largest
group_limit Weighted t = largest
group_limit Grouped t = specified t largest
group_limit Weighted2022 t = largest

-- The limits that a header sets. A lenient reading applies none of its counts.
abbrev pub limits_of : Format → Rigor → Header → Limits
limits_of f Lenient h = unlimited
limits_of f Strict h =
    record { literals = specified h.variables ceiling; groups = group_limit f h.third; clauses = h.clauses }
