-- The whole of a text of clauses: its opening, and the answers one after the other.
use Rattle.std.specs.Prelude.{ℕ, ◌+◌, cond, List, [], length, ltb, leb, eqb, Option, None, Some, Result, Ok, Err}
use Rattle.dimacs.specs.declared.Refusal.{Refusal}
use Rattle.dimacs.specs.Loop.{Turn, on, last, said}
use Rattle.dimacs.specs.Names.{largest}
use Rattle.dimacs.specs.Lined.{lined}
use Rattle.dimacs.specs.Tokens.{blanks, lines}
use Rattle.dimacs.specs.Header.{opening_of, unlimited, limits_of}
use Rattle.dimacs.specs.Clauses.{Answer, clause, ended, refused, Answered, says, instead, absent, clause_at}
use Rattle.dimacs.specs.declared.Format.{Format}
use Rattle.dimacs.specs.declared.Limits.{Limits}
use Rattle.dimacs.specs.declared.Mode.{Mode}
use Rattle.dimacs.specs.declared.Rigor.{Rigor}
use Rattle.dimacs.specs.declared.Opening.{Opening}
use Rattle.dimacs.specs.declared.Opening.TheVariants as opening
use Rattle.dimacs.specs.declared.Absence.TheVariants.{MayEnd, NoClause}
use Rattle.dimacs.specs.declared.Progress.{Progress}

-- How far a text is read, by its three parts.
abbrev pub progress : ℕ → ℕ → Option (Result Unit Refusal) → Progress
progress at count f = record { place = at; count = count; last = f }

-- One clause more. A count is a 64-bit number and stays at the largest.
abbrev pub one_more : ℕ → ℕ
one_more n = cond (ltb n largest) (n + 1) n

module _ (s : List ℕ) (f : Format) (limits : Limits) (room : ℕ) where
  -- Blanks are skipped. "A clause if the count is not reached or not applied, else a comment, else a line end, else the end of text if the
  -- count is reached or not applied, else refusal 9, and again after a comment or line end": since no clause begins with `c`, CR or LF, that is to
  -- skip the comments and line ends first, as proofs/Order.antt shows.
  unfoldable pub next_clause : ℕ → ℕ → Answered
  next_clause count at =
      let e = lines s (blanks s at) in
      cond (eqb limits.clauses 0)
      (clause_at s limits room f MayEnd e)
      (cond (leb limits.clauses count) (instead (absent s MayEnd e)) (clause_at s limits room f NoClause e))

  -- The end, once answered, is answered again. The first refusal is final and is repeated with no literals.
  abbrev pub answer_by : Progress → Option (Result Unit Refusal) → Answered
  answer_by p None = next_clause p.count p.place
  answer_by p (Some (Ok u)) = says ended p.place
  answer_by p (Some (Err r)) = says (refused r []) p.place

  -- The answer to the next call.
  unfoldable pub answer_at : Progress → Answered
  answer_at p = answer_by p p.last

-- The end and a refusal are final.
abbrev pub final_of : Answer → Option (Result Unit Refusal)
final_of (clause extra so) = None
final_of ended = Some (Ok tt)
final_of (refused r so) = Some (Err r)

-- How far a text is read after so many clauses and an answer at a place. A clause is counted.
abbrev pub settled_by : ℕ → ℕ → Option (Result Unit Refusal) → Progress
settled_by count at None = progress at (one_more count) None
settled_by count at (Some (Ok u)) = progress at count (Some (Ok u))
settled_by count at (Some (Err r)) = progress at count (Some (Err r))

-- How far a text is read after an answer.
abbrev pub settled : Progress → Answered → Progress
settled p a = settled_by p.count a.place (final_of a.answer)

-- A call is the last that brings something new if it answers the end or a refusal.
abbrev pub turn_by : Progress → Answer → Turn Progress Answer
turn_by next (clause extra so) = on (clause extra so) next
turn_by next ended = last ended
turn_by next (refused r so) = last (refused r so)

module _ (s : List ℕ) (f : Format) (limits : Limits) (room : ℕ) where
  -- One call.
  unfoldable pub turn : Progress → Turn Progress Answer
  turn p = let a = answer_at s f limits room p in turn_by (settled p a) a.answer

  -- All answers to come, up to the end or the first refusal.
  unfoldable pub answers_from : Progress → List Answer
  answers_from = said turn (length s + 2)

-- No clause is read yet.
abbrev pub begin : ℕ → Progress
begin at = progress at 0 None

-- What is read of a text.
pub record Text : Type 0 where
  pub opened : Result Opening Refusal
  pub answers : List Answer

-- What is read of a text, by its opening.
abbrev pub text_by : Format → Rigor → ℕ → List ℕ → Result Opening Refusal → Text
text_by f rigor room s (Ok (opening.Header h at)) =
    record { opened = Ok (opening.Header h at); answers = answers_from s f (limits_of f rigor h) room (begin at) }
text_by f rigor room s (Ok (opening.NoHeader at)) =
    record { opened = Ok (opening.NoHeader at); answers = answers_from s f unlimited room (begin at) }
text_by f rigor room s (Err r) = record { opened = Err r; answers = [] }

-- The text s, read in a format and a mode with room for so many literals in a clause.
unfoldable pub text : Format → Mode → ℕ → List ℕ → Text
text f m room s = let read = lined m.ends s in text_by f m.rigor room read (opening_of read f)
