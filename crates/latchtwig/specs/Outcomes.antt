-- What a whole text comes to by any two numbers, logs among the formats, and how the host calls tell it.
use Rattle.std.specs.Prelude.{ℕ, List, [], ◌∷◌, ◌≡◌, length, Option, None, Some, Result, Ok, Err}
use Rattle.dimacs.specs.Names.{call_refusal, own_room, kind_of}
use Rattle.dimacs.specs.Logs.{LogAnswer, accepted, refused_log, log}
use Rattle.dimacs.specs.declared.Mode.{Mode}
use Rattle.dimacs.specs.declared.Kind.{Kind}
use Rattle.dimacs.specs.declared.Kind.TheVariants.{Clauses, Log}
use Rattle.dimacs.specs.declared.Reason.{Reason}
use Rattle.dimacs.specs.declared.Refusal.{Refusal}
use Rattle.formula.specs.Whole.{outcome_in}

-- A log comes to its refusal, or it is read to its end.
abbrev pub outcome_by_log : LogAnswer → Result Unit Refusal
outcome_by_log (accepted v so) = Ok tt
outcome_by_log (refused_log r so) = Err r

-- What a log comes to in a mode, with room for so many literals as a caller who lends no buffer has.
unfoldable pub outcome_of_log : Mode → List ℕ → Result Unit Refusal
outcome_of_log m s = outcome_by_log (log s m own_room)

-- What a text comes to by what its numbers name, or refusal 26.
abbrev pub outcome_kind : Option Kind → List ℕ → Result Unit Refusal
outcome_kind (Some (Clauses f m)) s = outcome_in f m s
outcome_kind (Some (Log m)) s = outcome_of_log m s
outcome_kind None s = Err (call_refusal Reason.FormatOrModeUnknown 0)

-- What a text comes to by the numbers of a format and a mode.
unfoldable pub outcome : ℕ → ℕ → List ℕ → Result Unit Refusal
outcome f m s = outcome_kind (kind_of f m) s

-- The number of the refusal, or 0 for a text read to its end.
abbrev pub number_told : Result Unit Refusal → ℕ
number_told (Ok u) = 0
number_told (Err r) = r.number

-- The place of the refusal, or the length of a text read to its end.
abbrev pub place_told : List ℕ → Result Unit Refusal → ℕ
place_told s (Ok u) = length s
place_told s (Err r) = r.place

-- The line of the refusal, or 0 for a text read to its end.
abbrev pub line_told : Result Unit Refusal → ℕ
line_told (Ok u) = 0
line_told (Err r) = r.line

-- The column of the refusal, or 0 for a text read to its end.
abbrev pub column_told : Result Unit Refusal → ℕ
column_told (Ok u) = 0
column_told (Err r) = r.column

-- All four, in this order.
abbrev pub words_told : List ℕ → Result Unit Refusal → List ℕ
words_told s o = number_told o ∷ place_told s o ∷ line_told o ∷ column_told o ∷ []

-- What a check of a text leaves and answers, by what the text comes to.
pub record Checks (s : List ℕ) (o : Result Unit Refusal) (left : List ℕ) (r : ℕ) : Type 0 where
  pub words : left ≡ words_told s o
  pub number : r ≡ number_told o
