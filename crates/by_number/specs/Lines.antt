-- What the writers come to by the number of a format, and what they leave.
use Rattle.std.specs.Prelude.{ℕ, List, ◌≡◌, Option, Some, None, Result, Ok, Err, ok_or, option_and_then}
use Rattle.dimacs.specs.declared.Reason.{Reason}
use Rattle.dimacs.specs.Names.{call_refusal, kind_of}
use Rattle.dimacs.specs.Buffers.{laid}
use Rattle.dimacs.specs.Writing as def
use Rattle.dimacs.specs.declared.Format.{Format}
use Rattle.dimacs.specs.declared.Kind.{Kind}
use Rattle.dimacs.specs.declared.Kind.TheVariants.{Clauses, Log}
use Rattle.dimacs.specs.declared.Refusal.{Refusal}
use Rattle.writer.specs.Answers.{written_of, bytes_written}
use Rattle.answer_words.specs.Words.{written_kind, written_words}

-- The format of a text of clauses.
abbrev pub format_of : Kind → Option Format
format_of (Clauses f m) = Some f
format_of (Log m) = None

-- The format of clauses that a number names, else refusal 26. A writer has no mode: the number names what it names in mode 0.
abbrev pub format_named : ℕ → Result Format Refusal
format_named f = ok_or (option_and_then format_of (kind_of f 0)) (call_refusal Reason.FormatOrModeUnknown 0)

-- What a writer comes to in a format, if there is one.
abbrev pub line_in : Result Format Refusal → (Format → def.Written) → def.Written
line_in (Ok f) line = line f
line_in (Err why) line = def.unwritten why

-- What a writer comes to by the number of a format.
abbrev pub line_by : ℕ → (Format → def.Written) → def.Written
line_by f line = line_in (format_named f) line

-- A writer's whole promise to a host: what is answered and left, and the output.
pub record LeavesLine (d : def.Written) (old new said : List ℕ) (r : ℕ) : Type 0 where
  pub kind : r ≡ written_kind (written_of d)
  pub words : said ≡ written_words (written_of d)
  pub output : new ≡ laid (bytes_written d) old
