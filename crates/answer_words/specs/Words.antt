-- Answers as words. What is answered goes by 0 where nothing is there to be read (no header, the end), 1 where something is (a header, a clause, a verdict, a line), and 2 for a refusal.
use Rattle.std.specs.Prelude.{ℕ, List, [], ◌∷◌, Option, None, Some, Result, Ok, Err}
use Rattle.dimacs.specs.declared.Refusal.{Refusal}
use Rattle.dimacs.specs.declared.Spot.{Spot}
use Rattle.dimacs.specs.declared.Header.{Header}
use Rattle.dimacs.specs.declared.Opening.{Opening}
use Rattle.dimacs.specs.declared.Opening.TheVariants as opening
use Rattle.dimacs.specs.declared.Verdict.{Verdict}
use Rattle.dimacs.specs.declared.Verdict.TheVariants.{Yes, No, Unknown}
use Rattle.rows.specs.declared.Stopped.{Stopped}
use Rattle.clause.specs.Answers as clauses
use Rattle.clause.specs.Answers.{Next}
use Rattle.log_line.specs.Answers as logs
use Rattle.log_line.specs.declared.Accepted.{Accepted}
use Rattle.writer.specs.Answers as writers
use Rattle.formula.specs.Openings as openings

-- The words of an answer: number, place, line and column of the refusal, all 0 where nothing is refused, and then its own.
abbrev pub told_words : ℕ → ℕ → Spot → List ℕ → List ℕ
told_words number at spot own = number ∷ at ∷ spot.line ∷ spot.column ∷ own

-- Nothing, something, or a refusal.
abbrev pub kind : {A B : Type 0} → Result (Option A) B → ℕ
kind (Ok None) = 0
kind (Ok (Some x)) = 1
kind (Err e) = 2

-- The header of a text, if it has one.
abbrev pub header_there : Opening → Option Header
header_there (opening.Header h at) = Some h
header_there (opening.NoHeader at) = None

-- What a header says, zeros where there is none.
abbrev pub header_in : Result Opening Refusal → Header
header_in (Ok (opening.Header h at)) = h
header_in (Ok (opening.NoHeader at)) = record { variables = 0; clauses = 0; third = 0 }
header_in (Err r) = record { variables = 0; clauses = 0; third = 0 }

-- No header, a header, or a refusal.
abbrev pub opening_kind : Result Opening Refusal → ℕ
opening_kind (Ok (opening.NoHeader at)) = 0
opening_kind (Ok (opening.Header h at)) = 1
opening_kind (Err r) = 2

-- How a text opens: the refusal, and what the header says.
abbrev pub opening_words : Result Opening Refusal → List ℕ
opening_words o =
    let h = header_in o in
    told_words (openings.number_in o) (openings.place_in o) (openings.spot_in o) (h.variables ∷ h.clauses ∷ h.third ∷ [])

-- The weight or group of a clause, 0 where there is none.
abbrev pub extra_in : Next → ℕ
extra_in (Ok (Some c)) = c.extra
extra_in (Ok None) = 0
extra_in (Err e) = 0

-- The end, a clause, or a refusal.
abbrev pub next_kind : Next → ℕ
next_kind (Ok None) = 0
next_kind (Ok (Some c)) = 1
next_kind (Err e) = 2

-- The answer to a call for a clause: the refusal, k, and the weight or group.
abbrev pub next_words : Next → List ℕ
next_words a = told_words (clauses.number_in a) (clauses.place_in a) (clauses.spot_in a) (clauses.k_in a ∷ extra_in a ∷ [])

-- The verdicts, 0 where no solution line stands.
abbrev pub verdict_kind : Option Verdict → ℕ
verdict_kind None = 0
verdict_kind (Some Yes) = 1
verdict_kind (Some No) = 2
verdict_kind (Some Unknown) = 3

-- The verdict of an accepted log, 0 where it is refused.
abbrev pub verdict_in : Result Accepted Stopped → ℕ
verdict_in (Ok a) = verdict_kind a.verdict
verdict_in (Err e) = 0

-- A verdict, or a refusal.
abbrev pub log_kind : Result Accepted Stopped → ℕ
log_kind (Ok a) = 1
log_kind (Err e) = 2

-- The answer for a log: the refusal, k, and the verdict.
abbrev pub log_words : Result Accepted Stopped → List ℕ
log_words l = told_words (logs.number_in l) (logs.place_in l) (logs.spot_in l) (logs.k_in l ∷ verdict_in l ∷ [])

-- A line, or a refusal.
abbrev pub written_kind : Result ℕ Refusal → ℕ
written_kind (Ok n) = 1
written_kind (Err r) = 2

-- A writer's answer: the refusal, and the length of the line.
abbrev pub written_words : Result ℕ Refusal → List ℕ
written_words w = told_words (writers.number_in w) (writers.place_in w) (writers.spot_in w) (writers.line_length w ∷ [])
