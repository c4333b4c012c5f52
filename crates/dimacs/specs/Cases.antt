-- The texts on both sides of document 01, with what the definition says of each. Assumes nothing.
use Rattle.std.specs.Prelude.{Option, None, Some}
use Rattle.std.specs.Prelude.{ℕ, ◌≡◌, refl, length, ℤ, pos, negsuc, Result, Ok, Err}
use Prim.Native.String.{String}
use mathlib.Core.List.{List, [], ◌∷◌, ◌++◌, map, flat_map}
use Rattle.dimacs.specs.Loop.{loop, said}
use Rattle.dimacs.specs.Bytes.{bytes}
use Rattle.dimacs.specs.Spots.{bytes_on}
use Rattle.dimacs.specs.Names.{in_mode, numbered, call_numbered}
use Rattle.dimacs.specs.Lined.{lined}
use Rattle.dimacs.specs.Tokens.{run, past, begins, decimal, line_end, next_line, end_of_line, fixed, word_ends, word, strict_comment, newline, line_past, comment_or_newline, lines, linebreaks, unsigned, braced, minus, uint_at, braced_uint_at, int_at, stopped_at}
use Rattle.dimacs.specs.Header.{header_of, header_end, third_there, third_count, clause_count, variable_count, after_p, opening_of}
use Rattle.dimacs.specs.Rows.{next_int, row}
use Rattle.dimacs.specs.Clauses.{next_row, literals_from, literals, Answer, clause, ended, refused, absent, start_in2022, start_at, closing, clause_at}
use Rattle.dimacs.specs.Texts.{next_clause, answer_at, turn, answers_from, Text, text}
use Rattle.dimacs.specs.Logs.{LogAnswer, accepted, refused_log, value_line, solution_line, log_line, log_from, log}
use Rattle.dimacs.specs.Writing.{Written, written, unwritten, next_digit, digits, items, header_line, clause_line, write_header, write_line, write_clause, write_hard_clause}
use Rattle.dimacs.specs.Seen.{answers_seen, text_seen}
use Rattle.dimacs.specs.declared.Format.{Format}
use Rattle.dimacs.specs.declared.Format.TheVariants.{Plain, Weighted, Grouped, Weighted2022}
use Rattle.dimacs.specs.declared.Mode.{Mode}
use Rattle.dimacs.specs.declared.Rigor.{Rigor}
use Rattle.dimacs.specs.declared.Rigor.TheVariants.{Strict, Lenient}
use Rattle.dimacs.specs.declared.Ends.{Ends}
use Rattle.dimacs.specs.declared.Ends.TheVariants.{LineFeed, AlsoReturn}
use Rattle.dimacs.specs.declared.Opening.{Opening}
use Rattle.dimacs.specs.declared.Opening.TheVariants as opening
use Rattle.dimacs.specs.declared.Refusal.{Refusal}
use Rattle.dimacs.specs.declared.Verdict.{Verdict}
use Rattle.dimacs.specs.declared.Verdict.TheVariants.{Yes, No, Unknown}

-- A line of what is said of a text: its header's counts; a clause, with its weight or group or 0; a refusal's number, place and k, or its number, place, line and column; a log's verdict.
pub data Line : Type 0 where
  Header : ℕ → ℕ → ℕ → Line
  NoHeader : Line
  Clause : ℕ → List ℤ → Line
  End : Line
  Refused : ℕ → ℕ → ℕ → Line
  Spotted : ℕ → ℕ → ℕ → ℕ → Line
  Says : Option Verdict → List ℤ → Line

abbrev refused_line : Refusal → List ℤ → Line
refused_line r so = Refused r.number r.place (length so)

abbrev answer_line : Answer → Line
answer_line (clause extra so) = Clause extra so
answer_line ended = End
answer_line (refused r so) = refused_line r so

abbrev opening_lines : Result Opening Refusal → List Line → List Line
opening_lines (Ok (opening.Header h at)) rest = Header h.variables h.clauses h.third ∷ rest
opening_lines (Ok (opening.NoHeader at)) rest = NoHeader ∷ rest
opening_lines (Err r) rest = refused_line r [] ∷ []

abbrev text_lines : Text → List Line
text_lines t = opening_lines t.opened (map answer_line t.answers)

abbrev log_lines : LogAnswer → List Line
log_lines (accepted v so) = Says v so ∷ []
log_lines (refused_log r so) = refused_line r so ∷ []

-- A text of clauses, or a log.
pub data Kind : Type 0 where
  Formula : Format → Kind
  Log : Kind

pub record Case : Type 0 where
  pub kind : Kind
  pub mode : Mode
  pub room : ℕ
  pub quoted : String
  pub expected : List Line

-- A case's text, or log, as it is read.
pub data Reading : Type 0 where
  OfText : Text → Reading
  OfLog : LogAnswer → Reading

abbrev reading_by : Kind → Mode → ℕ → List ℕ → Reading
reading_by (Formula f) m room s = OfText (text f m room s)
reading_by Log m room s = OfLog (log s m room)

pub reading_of : Case → Reading
unfolding loop said numbered lined run past begins decimal line_end next_line end_of_line fixed word_ends word strict_comment newline line_past comment_or_newline lines linebreaks unsigned braced minus uint_at braced_uint_at int_at header_end third_there third_count clause_count variable_count after_p opening_of next_int row next_row literals_from literals absent start_in2022 start_at closing clause_at next_clause answer_at turn answers_from text value_line solution_line log_line log_from log bytes_on
reading_of c = reading_by c.kind c.mode c.room (bytes c.quoted)

abbrev lines_in : Reading → List Line
lines_in (OfText t) = text_lines t
lines_in (OfLog a) = log_lines a

-- What the definition says of a case's text.
abbrev lines_of : Case → List Line
lines_of c = lines_in (reading_of c)

-- What is told of every text in the table is what is expected.
abbrev HoldBy : (Case → List Line) → List Case → Type 0
HoldBy told cases = map told cases ≡ map (λ c. c.expected) cases

abbrev pub Hold : List Case → Type 0
Hold = HoldBy lines_of

abbrev case : Kind → Mode → String → List Line → Case
case k m q e = record { kind = k; mode = m; room = 1024; quoted = q; expected = e }

abbrev plain : String → List Line → Case
plain = case (Formula Plain) (in_mode Strict LineFeed)

abbrev weighted : String → List Line → Case
weighted = case (Formula Weighted) (in_mode Strict LineFeed)

abbrev grouped : String → List Line → Case
grouped = case (Formula Grouped) (in_mode Strict LineFeed)

abbrev weighted2022 : Mode → String → List Line → Case
weighted2022 = case (Formula Weighted2022)

abbrev strict_log : String → List Line → Case
strict_log = case Log (in_mode Strict LineFeed)

abbrev lenient_log : String → List Line → Case
lenient_log = case Log (in_mode Lenient LineFeed)

abbrev with_room : ℕ → Case → Case
with_room n c = record { kind = c.kind; mode = c.mode; room = n; quoted = c.quoted; expected = c.expected }

-- The cases marked P.
abbrev pub marked : List Case
marked =
    plain "" (NoHeader ∷ End ∷ [])
    ∷ plain "0" (NoHeader ∷ Clause 0 [] ∷ End ∷ [])
    ∷ plain "1 0 2 0\n" (NoHeader ∷ Refused 5 4 1 ∷ [])
    ∷ plain "p cnf 0 0\n7 0\n" (Header 0 0 0 ∷ Clause 0 (pos 7 ∷ []) ∷ End ∷ [])
    ∷ plain "p cnf 2 1\n3 0\n" (Header 2 1 0 ∷ Refused 15 10 0 ∷ [])
    ∷ plain "p cnf 2 2\n1 0\n" (Header 2 2 0 ∷ Clause 0 (pos 1 ∷ []) ∷ Refused 9 14 0 ∷ [])
    ∷ plain "p cnf 2 1\n1 0\n2 0\n" (Header 2 1 0 ∷ Clause 0 (pos 1 ∷ []) ∷ Refused 9 14 0 ∷ [])
    ∷ plain "1 2" (NoHeader ∷ Refused 6 3 2 ∷ [])
    ∷ plain "1 \nx" (NoHeader ∷ Refused 7 3 1 ∷ [])
    ∷ grouped "p gcnf 2 2 1\n{0} 1 0\n{2} 2 0\n" (Header 2 2 1 ∷ Clause 0 (pos 1 ∷ []) ∷ Refused 14 21 0 ∷ [])
    ∷ weighted "5\n" (NoHeader ∷ Refused 8 2 0 ∷ [])
    ∷ strict_log "s SATISFIABLE \n" (Refused 5 13 0 ∷ [])
    ∷ strict_log "v 1 -2\n" (Refused 19 7 2 ∷ [])
    ∷ strict_log "s UNKNOWN\ns SATISFIABLE\n" (Refused 18 10 0 ∷ [])
    ∷ lenient_log "s UNKNOWN\ns SATISFIABLE\n" (Says (Some Unknown) [] ∷ [])
    ∷ []

pub marked_hold : Hold marked
unfolding reading_of
marked_hold = refl

-- The other texts of document 01. `negsuc n` is -(n + 1), so that `negsuc 2` is -3.
abbrev pub unmarked : List Case
unmarked =
    plain "1 0\r" (NoHeader ∷ Refused 5 3 1 ∷ [])
    ∷ plain "2147483647 0" (NoHeader ∷ Clause 0 (pos 2147483647 ∷ []) ∷ End ∷ [])
    ∷ plain "-2147483648 0" (NoHeader ∷ Refused 15 0 0 ∷ [])
    ∷ plain "p cnf\n" (Refused 2 5 0 ∷ [])
    ∷ plain "pcnf 1 1\n" (NoHeader ∷ Refused 9 0 0 ∷ [])
    ∷ with_room 2 (plain "1 2 3 0" (NoHeader ∷ Refused 16 4 2 ∷ []))
    ∷ plain "c pull 7\np cnf 3 2\n1 -3 0\n-2\n0\n" (Header 3 2 0 ∷ Clause 0 (pos 1 ∷ negsuc 2 ∷ []) ∷ Clause 0 (negsuc 1 ∷ []) ∷ End ∷ [])
    ∷ []

pub unmarked_hold : Hold unmarked
unfolding reading_of
unmarked_hold = refl

-- The slips that document 01 expects: clauses split at 0 alone; a clause count of 0 taken for "no clauses"; 15 for digits that overflow and end in a letter.
abbrev pub slips : List Case
slips =
    plain "1 0 2 0" (NoHeader ∷ Refused 5 4 1 ∷ [])
    ∷ plain "p cnf 2 0\n1 0\n2 0\n" (Header 2 0 0 ∷ Clause 0 (pos 1 ∷ []) ∷ Clause 0 (pos 2 ∷ []) ∷ End ∷ [])
    ∷ plain "99999999999999999999x" (NoHeader ∷ Refused 9 0 0 ∷ [])
    ∷ plain "1 99999999999999999999x" (NoHeader ∷ Refused 6 2 1 ∷ [])
    ∷ plain "99999999999999999999" (NoHeader ∷ Refused 15 0 0 ∷ [])
    ∷ []

pub slips_hold : Hold slips
unfolding reading_of
slips_hold = refl

-- Where the crate's code settles what document 01 leaves open.
abbrev pub readings : List Case
readings =
    strict_log "v  " (Refused 19 3 0 ∷ [])
    ∷ strict_log "s  UNKNOWN" (Refused 17 2 0 ∷ [])
    ∷ strict_log "v x" (Refused 5 2 0 ∷ [])
    ∷ with_room 1 (strict_log "v 1\nv 2 0" (Refused 16 6 1 ∷ []))
    ∷ strict_log "v 1 0\nx" (Refused 18 6 1 ∷ [])
    ∷ grouped "{1} " (NoHeader ∷ Refused 8 4 0 ∷ [])
    ∷ plain "\r" (NoHeader ∷ Refused 9 0 0 ∷ [])
    ∷ plain "1\r0" (NoHeader ∷ Refused 6 1 1 ∷ [])
    ∷ grouped "p gcnf 0 0 1\n{2}3 0" (Header 0 0 1 ∷ Refused 14 13 0 ∷ [])
    ∷ weighted "5\n1\n" (NoHeader ∷ Refused 7 4 1 ∷ [])
    ∷ weighted "5x 1 0" (NoHeader ∷ Refused 9 0 0 ∷ [])
    ∷ grouped "{}1 0" (NoHeader ∷ Refused 9 0 0 ∷ [])
    ∷ plain "p cnf 1 1" (Header 1 1 0 ∷ Refused 9 9 0 ∷ [])
    ∷ plain "p cnf 1 1\nc" (Header 1 1 0 ∷ Refused 9 11 0 ∷ [])
    ∷ strict_log "s SATISFIABLEx" (Refused 5 13 0 ∷ [])
    ∷ strict_log "c\t" (Refused 18 0 0 ∷ [])
    ∷ lenient_log "c\t" (Says None [] ∷ [])
    ∷ plain "999999999999999999999999999999 0" (NoHeader ∷ Refused 15 0 0 ∷ [])
    ∷ weighted "p wcnf 1 1 1\n1 1 0\n99999999999999999999 1 0" (Header 1 1 1 ∷ Clause 1 (pos 1 ∷ []) ∷ Refused 9 19 0 ∷ [])
    ∷ strict_log "v " (Refused 19 2 0 ∷ [])
    ∷ plain "0\r" (NoHeader ∷ Refused 5 1 0 ∷ [])
    ∷ plain "c\r0" (NoHeader ∷ End ∷ [])
    ∷ plain "c0" (NoHeader ∷ End ∷ [])
    ∷ plain "1\nc\n0" (NoHeader ∷ Clause 0 (pos 1 ∷ []) ∷ End ∷ [])
    ∷ strict_log "c\n" (Refused 18 0 0 ∷ [])
    ∷ []

pub readings_hold : Hold readings
unfolding reading_of
readings_hold = refl

-- What a log says, by its solution line or for want of one.
abbrev pub verdicts : List Case
verdicts =
    strict_log "s SATISFIABLE\nv 1 0\n" (Says (Some Yes) (pos 1 ∷ []) ∷ [])
    ∷ strict_log "s UNSATISFIABLE\n" (Says (Some No) [] ∷ [])
    ∷ strict_log "s UNKNOWN" (Says (Some Unknown) [] ∷ [])
    ∷ strict_log "v 1 0\ns UNKNOWN\n" (Says (Some Unknown) (pos 1 ∷ []) ∷ [])
    ∷ strict_log "" (Says None [] ∷ [])
    ∷ strict_log "c s UNKNOWN\n" (Says None [] ∷ [])
    ∷ strict_log "v 1 0\n" (Says None (pos 1 ∷ []) ∷ [])
    ∷ lenient_log "UNKNOWN\nS UNKNOWN\n" (Says None [] ∷ [])
    ∷ []

pub verdicts_hold : Hold verdicts
unfolding reading_of
verdicts_hold = refl

-- A text in modes 0 to 3, with what is expected in each.
abbrev in_modes : Kind → String → List Line → List Line → List Line → List Line → List Case
in_modes k q e₀ e₁ e₂ e₃ =
    case k (in_mode Strict LineFeed) q e₀
    ∷ case k (in_mode Lenient LineFeed) q e₁
    ∷ case k (in_mode Strict AlsoReturn) q e₂
    ∷ case k (in_mode Lenient AlsoReturn) q e₃
    ∷ []

-- A plain text, with what is expected in modes 0 and 1, and in modes 2 and 3.
abbrev by_line_ends : String → List Line → List Line → List Case
by_line_ends q e₀ e₂ = in_modes (Formula Plain) q e₀ e₀ e₂ e₂

-- Texts with CR. The last two show that CR LF is one line end, since a log read strictly has no empty line, and a count that mode 2 applies and mode 3 does not.
abbrev pub returns : List Case
returns =
    by_line_ends "1 0\r" (NoHeader ∷ Refused 5 3 1 ∷ []) (NoHeader ∷ Clause 0 (pos 1 ∷ []) ∷ End ∷ [])
    ++ by_line_ends "1 0\r2 0\r" (NoHeader ∷ Refused 5 3 1 ∷ []) (NoHeader ∷ Clause 0 (pos 1 ∷ []) ∷ Clause 0 (pos 2 ∷ []) ∷ End ∷ [])
    ++ by_line_ends "1 0\r\n2 0" (NoHeader ∷ Clause 0 (pos 1 ∷ []) ∷ Clause 0 (pos 2 ∷ []) ∷ End ∷ []) (NoHeader ∷ Clause 0 (pos 1 ∷ []) ∷ Clause 0 (pos 2 ∷ []) ∷ End ∷ [])
    ++ by_line_ends "c x\r1 0" (NoHeader ∷ End ∷ []) (NoHeader ∷ Clause 0 (pos 1 ∷ []) ∷ End ∷ [])
    ++ by_line_ends "c x\r\r\n1 0" (NoHeader ∷ Clause 0 (pos 1 ∷ []) ∷ End ∷ []) (NoHeader ∷ Clause 0 (pos 1 ∷ []) ∷ End ∷ [])
    ++ by_line_ends "1\r0" (NoHeader ∷ Refused 6 1 1 ∷ []) (NoHeader ∷ Clause 0 (pos 1 ∷ []) ∷ End ∷ [])
    ++ by_line_ends "p cnf 1 1\r1 0" (Refused 5 9 0 ∷ []) (Header 1 1 0 ∷ Clause 0 (pos 1 ∷ []) ∷ End ∷ [])
    ++ by_line_ends "\r" (NoHeader ∷ Refused 9 0 0 ∷ []) (NoHeader ∷ End ∷ [])
    ++ by_line_ends "1 0\r\r2 0" (NoHeader ∷ Refused 5 3 1 ∷ []) (NoHeader ∷ Clause 0 (pos 1 ∷ []) ∷ Clause 0 (pos 2 ∷ []) ∷ End ∷ [])
    ++ in_modes Log "s UNKNOWN\rs SATISFIABLE\r" (Refused 5 9 0 ∷ []) (Refused 5 9 0 ∷ []) (Refused 18 10 0 ∷ []) (Says (Some Unknown) [] ∷ [])
    ++ in_modes Log "c x\rjunk\rs SATISFIABLE\r" (Says None [] ∷ []) (Says None [] ∷ []) (Refused 18 4 0 ∷ []) (Says (Some Yes) [] ∷ [])
    ++ in_modes Log "s UNKNOWN\r\n" (Says (Some Unknown) [] ∷ []) (Says (Some Unknown) [] ∷ []) (Says (Some Unknown) [] ∷ []) (Says (Some Unknown) [] ∷ [])
    ++ in_modes (Formula Plain) "p cnf 1 1\r2 0\r" (Refused 5 9 0 ∷ []) (Refused 5 9 0 ∷ []) (Header 1 1 0 ∷ Refused 15 10 0 ∷ []) (Header 1 1 0 ∷ Clause 0 (pos 2 ∷ []) ∷ End ∷ [])

pub returns_hold : Hold returns
unfolding reading_of
returns_hold = refl

-- Texts of the 2022 form, which all modes read alike, as no CR stands in them.
abbrev pub in2022 : Mode → List Case
in2022 m =
    weighted2022 m "h 1 0" (NoHeader ∷ Clause 0 (pos 1 ∷ []) ∷ End ∷ [])
    ∷ weighted2022 m "h\n1 0" (NoHeader ∷ Clause 0 (pos 1 ∷ []) ∷ End ∷ [])
    ∷ weighted2022 m "h 0" (NoHeader ∷ Clause 0 [] ∷ End ∷ [])
    ∷ weighted2022 m "h" (NoHeader ∷ Refused 8 1 0 ∷ [])
    ∷ weighted2022 m "h1 0" (NoHeader ∷ Refused 9 0 0 ∷ [])
    ∷ weighted2022 m "5 1 -2 0" (NoHeader ∷ Clause 5 (pos 1 ∷ negsuc 1 ∷ []) ∷ End ∷ [])
    ∷ weighted2022 m "0 1 0" (NoHeader ∷ Refused 32 0 0 ∷ [])
    ∷ weighted2022 m "000 1 0" (NoHeader ∷ Refused 32 0 0 ∷ [])
    ∷ weighted2022 m "0" (NoHeader ∷ Refused 32 0 0 ∷ [])
    ∷ weighted2022 m "18446744073709551615 1 0" (NoHeader ∷ Clause 18446744073709551615 (pos 1 ∷ []) ∷ End ∷ [])
    ∷ weighted2022 m "18446744073709551616 1 0" (NoHeader ∷ Refused 13 0 0 ∷ [])
    ∷ weighted2022 m "-0 1 0" (NoHeader ∷ Refused 9 0 0 ∷ [])
    ∷ weighted2022 m "+5 1 0" (NoHeader ∷ Refused 9 0 0 ∷ [])
    ∷ weighted2022 m "0x 1 0" (NoHeader ∷ Refused 9 0 0 ∷ [])
    ∷ weighted2022 m "p wcnf 1 1 1\n" (NoHeader ∷ Refused 33 0 0 ∷ [])
    ∷ weighted2022 m "c x\np" (NoHeader ∷ Refused 33 4 0 ∷ [])
    ∷ weighted2022 m "pcnf" (NoHeader ∷ Refused 9 0 0 ∷ [])
    ∷ weighted2022 m "1 1 0\np" (NoHeader ∷ Clause 1 (pos 1 ∷ []) ∷ Refused 33 6 0 ∷ [])
    ∷ weighted2022 m "7\nc x\n1 0" (NoHeader ∷ Clause 7 (pos 1 ∷ []) ∷ End ∷ [])
    ∷ weighted2022 m "7 1 0 h 2 0" (NoHeader ∷ Refused 5 6 1 ∷ [])
    ∷ weighted2022 m "h 2147483648 0" (NoHeader ∷ Refused 15 2 0 ∷ [])
    ∷ weighted2022 m "" (NoHeader ∷ End ∷ [])
    ∷ []

pub in_2022_hold : (rigor : Rigor) (rule : Ends) → Hold (in2022 (in_mode rigor rule))
unfolding reading_of
in_2022_hold rigor LineFeed = refl
in_2022_hold rigor AlsoReturn = refl

-- Where a text is refused, by line and column; nothing of a text that is read to its end.
abbrev spotted : Refusal → List Line
spotted r = Spotted r.number r.place r.line r.column ∷ []

abbrev answer_spots : Answer → List Line
answer_spots (clause extra so) = []
answer_spots ended = []
answer_spots (refused r so) = spotted r

abbrev opening_spots : Result Opening Refusal → List Line → List Line
opening_spots (Ok (opening.Header h at)) rest = rest
opening_spots (Ok (opening.NoHeader at)) rest = rest
opening_spots (Err r) rest = spotted r

abbrev log_spots : LogAnswer → List Line
log_spots (accepted v so) = []
log_spots (refused_log r so) = spotted r

abbrev spots_in : Reading → List Line
spots_in (OfText t) = opening_spots t.opened (flat_map answer_spots t.answers)
spots_in (OfLog a) = log_spots a

-- What the definition says of where a case's text is refused.
abbrev spots_of : Case → List Line
spots_of c = spots_in (reading_of c)

-- Refusals of a text that all modes give, as no CR stands alone in these: within a line, at its start and at its end, after CR LF, and at the end of a text.
abbrev pub spots : Mode → List Case
spots m =
    case (Formula Plain) m "c order 7\np dnf 1 1\n" (Spotted 1 12 2 3 ∷ [])
    ∷ case (Formula Plain) m "p cnf\n" (Spotted 2 5 1 6 ∷ [])
    ∷ case (Formula Plain) m "p cnf 3\r\n" (Spotted 3 7 1 8 ∷ [])
    ∷ case (Formula Weighted) m "\r\np wcnf 1 2" (Spotted 4 12 2 11 ∷ [])
    ∷ case (Formula Plain) m "1 0\n2 0 3 0\n" (Spotted 5 8 2 5 ∷ [])
    ∷ case (Formula Plain) m "1 2" (Spotted 6 3 1 4 ∷ [])
    ∷ case (Formula Plain) m "1\r\n2 x\r\n" (Spotted 6 5 2 3 ∷ [])
    ∷ case (Formula Plain) m "1 \nx" (Spotted 7 3 2 1 ∷ [])
    ∷ case (Formula Plain) m "1\r\n" (Spotted 7 3 2 1 ∷ [])
    ∷ case (Formula Weighted) m "5\n" (Spotted 8 2 2 1 ∷ [])
    ∷ case (Formula Plain) m "1 0\n\nx\n" (Spotted 9 5 3 1 ∷ [])
    ∷ case (Formula Plain) m "p cnf 2147483648 1\n" (Spotted 10 6 1 7 ∷ [])
    ∷ case (Formula Plain) m "c\np cnf 1 18446744073709551616\n" (Spotted 11 10 2 9 ∷ [])
    ∷ case (Formula Grouped) m "p gcnf 1 1 18446744073709551616\n" (Spotted 12 11 1 12 ∷ [])
    ∷ case (Formula Weighted) m "1 1 0\n18446744073709551616 1 0\n" (Spotted 13 6 2 1 ∷ [])
    ∷ case (Formula Grouped) m "{1} 1 0\r\n{18446744073709551616} 1 0\r\n" (Spotted 14 9 2 1 ∷ [])
    ∷ case (Formula Plain) m "1 0\n1 -2147483648 0\n" (Spotted 15 6 2 3 ∷ [])
    ∷ with_room 1 (case (Formula Plain) m "1\n 2 0\n" (Spotted 16 3 2 2 ∷ []))
    ∷ case Log m "c x\ns MAYBE\n" (Spotted 17 6 2 3 ∷ [])
    ∷ case Log m "v 1 -2\n" (Spotted 19 7 2 1 ∷ [])
    ∷ case (Formula Weighted2022) m "h 1 0\n0 2 0\n" (Spotted 32 6 2 1 ∷ [])
    ∷ case (Formula Weighted2022) m "c x\np cnf 1 1\n" (Spotted 33 4 2 1 ∷ [])
    ∷ []

-- Refusals that the strict modes alone give: of a count, and of a line that is none of a log.
abbrev pub strict_spots : Mode → List Case
strict_spots m =
    case (Formula Plain) m "p cnf 1 1\nc" (Spotted 9 11 2 2 ∷ [])
    ∷ case (Formula Grouped) m "p gcnf 1 2 1\r\n{1} 1 0\r\n{2} 1 0\r\n" (Spotted 14 23 3 1 ∷ [])
    ∷ case (Formula Plain) m "p cnf 2 1\n1 3 0\n" (Spotted 15 12 2 3 ∷ [])
    ∷ case Log m "s UNKNOWN\n\n" (Spotted 18 10 2 1 ∷ [])
    ∷ []

-- Texts with CR, in all modes: a CR alone before the place, and two CR before LF.
abbrev pub spots_after_return : List Case
spots_after_return =
    by_line_ends "1\r2 x\n" (Spotted 6 1 1 2 ∷ []) (Spotted 6 4 2 3 ∷ [])
    ++ by_line_ends "c a\rc b\n1 x\n" (Spotted 6 10 2 3 ∷ []) (Spotted 6 10 3 3 ∷ [])
    ++ by_line_ends "c a\r\r\n1 x" (Spotted 6 8 2 3 ∷ []) (Spotted 6 8 3 3 ∷ [])
    ++ in_modes (Formula Plain) "p cnf 1 1\nc a\rc b" (Spotted 9 17 2 8 ∷ []) [] (Spotted 9 17 3 4 ∷ []) []
    ++ in_modes Log "c a\rc b\nx\n" (Spotted 18 8 2 1 ∷ []) [] (Spotted 18 8 3 1 ∷ []) []
    ++ in_modes Log "v 1\rv 2\r\n" (Spotted 5 3 1 4 ∷ []) (Spotted 5 3 1 4 ∷ []) (Spotted 19 9 3 1 ∷ []) (Spotted 19 9 3 1 ∷ [])

-- The definition says of every text in the table where it is refused.
abbrev pub SpotsHold : List Case → Type 0
SpotsHold = HoldBy spots_of

pub spots_hold : (rigor : Rigor) (rule : Ends) → SpotsHold (spots (in_mode rigor rule))
unfolding reading_of flat_map
spots_hold Strict LineFeed = refl
spots_hold Strict AlsoReturn = refl
spots_hold Lenient LineFeed = refl
spots_hold Lenient AlsoReturn = refl

pub strict_spots_hold : (rule : Ends) → SpotsHold (strict_spots (in_mode Strict rule))
unfolding reading_of flat_map
strict_spots_hold LineFeed = refl
strict_spots_hold AlsoReturn = refl

pub spots_after_return_hold : SpotsHold spots_after_return
unfolding reading_of flat_map
spots_after_return_hold = refl

-- The word a reader stopped at: a text, a place and the word there.
pub record Stop : Type 0 where
  pub quoted : String
  pub at : ℕ
  pub word_there : String

abbrev pub stops : List Stop
stops =
    record { quoted = "1 0 2 0\n"; at = 4; word_there = "2" }
    ∷ record { quoted = "1 \n"; at = 2; word_there = "" }
    ∷ record { quoted = "1 \r\n"; at = 2; word_there = "" }
    ∷ record { quoted = "1 2"; at = 3; word_there = "" }
    ∷ record { quoted = "s  UNKNOWN"; at = 2; word_there = " UNKNOWN" }
    ∷ record { quoted = "\r"; at = 0; word_there = "\r" }
    ∷ record { quoted = "1\r0"; at = 1; word_there = "\r0" }
    ∷ record { quoted = "p gcnf 0 0 1\n{2}3 0"; at = 13; word_there = "{2}3" }
    ∷ record { quoted = "1 2"; at = 9; word_there = "" }
    ∷ record { quoted = "x123456789x123456789x123456789x123456789x123456789x123456789x12"; at = 1; word_there = "123456789x123456789x123456789x123456789x123456789x123456789x" }
    ∷ []

pub stops_hold : map (λ c. stopped_at (bytes c.quoted) c.at) stops ≡ map (λ c. bytes c.word_there) stops
unfolding stopped_at line_end run
stops_hold = refl

-- How many bytes settle a plain text's opening and its first answers: the text, so many answers, and so many bytes.
pub record Settles : Type 0 where
  pub quoted : String
  pub first : ℕ
  pub settled_by : ℕ

abbrev pub settling : List Settles
settling =
    record { quoted = "1 0\n2 0\n"; first = 1; settled_by = 4 }
    ∷ record { quoted = "1 0\r\n2 0\n"; first = 1; settled_by = 5 }
    ∷ record { quoted = "1 0"; first = 1; settled_by = 4 }
    ∷ record { quoted = "1 0 2 0\n"; first = 1; settled_by = 7 }
    ∷ record { quoted = "1 0\r0"; first = 1; settled_by = 5 }
    ∷ record { quoted = "x"; first = 0; settled_by = 2 }
    ∷ record { quoted = "0\n"; first = 2; settled_by = 3 }
    ∷ record { quoted = "p cnf 2 1\n1 0\n2 0\n"; first = 0; settled_by = 10 }
    ∷ record { quoted = "p cnf 2 1\n1 0\n2 0\n"; first = 1; settled_by = 14 }
    ∷ record { quoted = "p cnf 2 1\n1 0\n2 0\n"; first = 2; settled_by = 17 }
    ∷ record { quoted = "p cnf 2 1"; first = 0; settled_by = 10 }
    ∷ record { quoted = "p dnf 2 1\n1 0\n"; first = 1; settled_by = 7 }
    ∷ []

-- The same where a CR alone ends a line.
abbrev pub settling_returns : List Settles
settling_returns =
    record { quoted = "1 0\r2 0\r"; first = 1; settled_by = 5 }
    ∷ record { quoted = "1 0\r\n2 0\n"; first = 1; settled_by = 6 }
    ∷ record { quoted = "1 0\r"; first = 1; settled_by = 5 }
    ∷ record { quoted = "1 0\r0"; first = 1; settled_by = 5 }
    ∷ []

-- So many bytes settle each text in the table.
abbrev pub Settle : Ends → List Settles → Type 0
Settle rule cases = map (λ c. text_seen Plain (in_mode Strict rule) 1024 c.first (bytes c.quoted)) cases ≡ map (λ c. c.settled_by) cases

pub settling_holds : Settle LineFeed settling × Settle AlsoReturn settling_returns
unfolding loop numbered lined run past begins decimal line_end next_line end_of_line fixed word_ends word newline line_past comment_or_newline lines linebreaks unsigned minus uint_at int_at header_end third_there third_count clause_count variable_count after_p opening_of next_int row next_row literals_from literals absent start_in2022 start_at closing clause_at next_clause answer_at answers_seen
settling_holds = (refl, refl)

-- What a writer is asked, and what it comes to.
pub record Writes : Type 0 where
  pub asked : Written
  pub comes_to : Written

abbrev writes : Written → String → Writes
writes a q = record { asked = a; comes_to = written (bytes q) }

abbrev writes_nothing : Written → ℕ → ℕ → Writes
writes_nothing a n at = record { asked = a; comes_to = unwritten (call_numbered n at) }

abbrev pub writing : List Writes
writing =
    writes (write_header Plain (header_of 3 2 0) 10) "p cnf 3 2\n"
    ∷ writes (write_header Weighted (header_of 0 18446744073709551615 7) 32) "p wcnf 0 18446744073709551615 7\n"
    ∷ writes (write_header Grouped (header_of 2147483647 0 1) 100) "p gcnf 2147483647 0 1\n"
    ∷ writes_nothing (write_header Plain (header_of 2147483648 0 0) 0) 10 0
    ∷ writes_nothing (write_header Plain (header_of 3 2 0) 9) 28 0
    ∷ writes (write_clause Plain 0 (pos 1 ∷ negsuc 2 ∷ []) 7) "1 -3 0\n"
    ∷ writes (write_clause Plain 0 [] 2) "0\n"
    ∷ writes (write_clause Weighted 5 [] 4) "5 0\n"
    ∷ writes (write_clause Grouped 0 (negsuc 2147483646 ∷ pos 10 ∷ []) 21) "{0} -2147483647 10 0\n"
    ∷ writes_nothing (write_clause Plain 0 (pos 1 ∷ pos 0 ∷ []) 0) 27 1
    ∷ writes_nothing (write_clause Plain 0 (negsuc 2147483647 ∷ pos 0 ∷ []) 0) 27 0
    ∷ writes_nothing (write_clause Plain 0 (pos 1 ∷ []) 3) 28 0
    ∷ writes (write_clause Weighted2022 7 (pos 1 ∷ []) 6) "7 1 0\n"
    ∷ writes (write_hard_clause Weighted2022 (pos 1 ∷ negsuc 1 ∷ []) 9) "h 1 -2 0\n"
    ∷ writes (write_hard_clause Weighted2022 [] 4) "h 0\n"
    ∷ writes_nothing (write_clause Weighted2022 0 (pos 0 ∷ []) 0) 32 0
    ∷ writes_nothing (write_clause Weighted2022 1 (pos 0 ∷ []) 0) 27 0
    ∷ writes_nothing (write_hard_clause Weighted2022 (pos 1 ∷ pos 0 ∷ []) 0) 27 1
    ∷ writes_nothing (write_hard_clause Weighted2022 (pos 1 ∷ []) 5) 28 0
    ∷ writes_nothing (write_hard_clause Weighted (pos 1 ∷ pos 0 ∷ []) 0) 26 0
    ∷ writes_nothing (write_header Weighted2022 (header_of 2147483648 0 0) 0) 26 0
    ∷ []

pub writing_holds : map (λ w. w.asked) writing ≡ map (λ w. w.comes_to) writing
unfolding loop run next_digit digits items header_line clause_line write_header write_line write_clause write_hard_clause
writing_holds = refl
