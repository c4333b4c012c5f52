-- What each call over words answers, and what it leaves in the words and the buffer.
use Rattle.std.specs.Prelude.{ℕ, List, [], ◌≡◌, length, ℤ, Option, None, Some}
use Rattle.dimacs.specs.Names.{log_format, kind_of}
use Rattle.dimacs.specs.Lined.{lined}
use Rattle.dimacs.specs.Tokens.{stopped_at}
use Rattle.dimacs.specs.Buffers.{laid}
use Rattle.dimacs.specs.declared.Kind.{Kind}
use Rattle.dimacs.specs.declared.Kind.TheVariants as kind
use Rattle.clause.specs.Answers.{left_by}
use Rattle.log_line.specs.Answers.{log_of, log_leaves}
use Rattle.sat_solver_log.specs.Answers.{log_by}
use Rattle.formula.specs.Cursors.{opened, answer_from, step_of}
use Rattle.answer_words.specs.Words.{opening_kind, opening_words, next_kind, next_words, log_kind, log_words}
use Rattle.cursor_words.specs.Cursors.{held_cursor, Holds}

-- A text opened by numbers: what is answered and left, and the cursor that the words hold.
pub record Opens (f m : ℕ) (s after said : List ℕ) (r : ℕ) : Type 0 where
  pub kind : r ≡ opening_kind (opened f m s).opening
  pub words : said ≡ opening_words (opened f m s).opening
  pub cursor : Holds (opened f m s).cursor after

-- One call for a clause, from the cursor that the words held: what is answered and left, the cursor that the words hold then, and the buffer.
pub record Nexts (s before after : List ℕ) (old new : List ℤ) (said : List ℕ) (r : ℕ) : Type 0 where
  pub kind : r ≡ next_kind (step_of s (length old) (held_cursor before)).answer
  pub words : said ≡ next_words (step_of s (length old) (held_cursor before)).answer
  pub cursor : Holds (step_of s (length old) (held_cursor before)).cursor after
  pub buffer : new ≡ laid (left_by (answer_from s (length old) (held_cursor before)).answer) old

-- A log by the number of a mode: what is answered and left, and the buffer.
pub record Logs (m : ℕ) (s : List ℕ) (old new : List ℤ) (said : List ℕ) (r : ℕ) : Type 0 where
  pub kind : r ≡ log_kind (log_of (log_by (kind_of log_format m) s (length old)))
  pub words : said ≡ log_words (log_of (log_by (kind_of log_format m) s (length old)))
  pub buffer : new ≡ laid (log_leaves (log_by (kind_of log_format m) s (length old))) old

-- The word at a place where a reader stopped, by the line rule of the mode that is named; none where none is.
abbrev pub word_by : Option Kind → List ℕ → ℕ → List ℕ
word_by None s at = []
word_by (Some (kind.Clauses f m)) s at = []
word_by (Some (kind.Log m)) s at = stopped_at (lined m.ends s) at
