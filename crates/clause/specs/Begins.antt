-- Where the literals of a clause begin, by how the definition has it begin.
use Rattle.std.specs.Prelude.{ℕ, List, ◌≡◌, Option, Some, None, Result, Ok, Err}
use Rattle.dimacs.specs.Names.{refusal}
use Rattle.dimacs.specs.Clauses.{absent, Start, with_literals, without}
use Rattle.dimacs.specs.declared.Absence.{Absence}
use Rattle.dimacs.specs.declared.Reason.{Reason}
use Rattle.clause.specs.declared.Begin.{Begin}

-- A beginning by its three parts.
abbrev pub begin_at : ℕ → ℕ → Absence → Begin
begin_at extra at owed = record { extra = extra; place = at; absence = owed }

-- How a clause at a place begins. What is refused for a reason is refused at that place.
abbrev pub start_of : List ℕ → Absence → ℕ → Result (Option Begin) Reason → Start
start_of s absence at (Ok (Some b)) = with_literals b.extra b.place b.absence
start_of s absence at (Ok None) = without (absent s absence at)
start_of s absence at (Err why) = without (Err (refusal s why at))

-- It begins so, whatever is meant where nothing stands.
abbrev pub BeginsAt : List ℕ → ℕ → (Absence → ℕ → Start) → Result (Option Begin) Reason → Type 0
BeginsAt s at f r = (absence : Absence) → start_of s absence at r ≡ f absence at

-- And so at any place.
abbrev pub BeginsBy : List ℕ → (Absence → ℕ → Start) → Result (Option Begin) Reason → Type 0
BeginsBy s f r = (at : ℕ) → BeginsAt s at f r
