-- The answers of the code by those of the definition, case by case, and what the lent buffer holds after them.
use Rattle.std.specs.Prelude.{ℕ, List, [], ◌≡◌, length, ℤ, Option, Some, None, Result, Ok, Err}
use Rattle.dimacs.specs.Buffers.{laid}
use Rattle.dimacs.specs.Names.{refused_spot}
use Rattle.dimacs.specs.Spots.{nowhere}
use Rattle.dimacs.specs.Clauses as def
use Rattle.dimacs.specs.declared.Spot.{Spot}
use Rattle.rows.specs.Answers.{stopped_after}
use Rattle.rows.specs.declared.Stopped.{Stopped}
use Rattle.clause.specs.declared.Closed.{Closed}
use Rattle.clause.specs.declared.Clause.{Clause}
use Rattle.clause.specs.declared.Answered.{Answered}

-- Literals are told by their count.
abbrev pub literals_of : def.Literals → Result (Option Closed) Stopped
literals_of def.nothing = Ok None
literals_of (def.closed so at) = Ok (Some (record { count = length so; next = at }))
literals_of (def.stopped r so) = Err (stopped_after (length so) r)

-- The literals that were read.
abbrev pub read_of : def.Literals → List ℤ
read_of def.nothing = []
read_of (def.closed so at) = so
read_of (def.stopped r so) = so

-- Reading literals: the answer, and the buffer after it.
pub record ReadsLiterals (s : List ℕ) (limit at : ℕ) (old new : List ℤ) (r : Result (Option Closed) Stopped) : Type 0 where
  pub answer : r ≡ literals_of (def.literals s limit (length old) at)
  pub buffer : new ≡ laid (read_of (def.literals s limit (length old) at)) old

-- What a call for the next clause answers.
abbrev pub Next : Type 0
Next = Result (Option Clause) Stopped

-- A clause by its weight or group and its count of literals.
abbrev pub clause_of : ℕ → ℕ → Clause
clause_of extra n = record { extra = extra; count = n }

-- A clause is told by its weight or group and its count of literals, a refusal by its number and place and the count of literals before it.
abbrev pub next_of : def.Answer → Next
next_of (def.clause extra so) = Ok (Some (clause_of extra (length so)))
next_of def.ended = Ok None
next_of (def.refused r so) = Err (stopped_after (length so) r)

-- The literals that an answer leaves in the buffer.
abbrev pub left_by : def.Answer → List ℤ
left_by (def.clause extra so) = so
left_by def.ended = []
left_by (def.refused r so) = so

-- The number of the refusal, 0 where nothing is refused.
abbrev pub number_in : Next → ℕ
number_in (Ok (Some c)) = 0
number_in (Ok None) = 0
number_in (Err x) = x.refusal.number

-- The place of the refusal, 0 where nothing is refused.
abbrev pub place_in : Next → ℕ
place_in (Ok (Some c)) = 0
place_in (Ok None) = 0
place_in (Err x) = x.refusal.place

-- Line and column of the refusal, 0 and 0 where nothing is refused.
abbrev pub spot_in : Next → Spot
spot_in (Ok (Some c)) = nowhere
spot_in (Ok None) = nowhere
spot_in (Err x) = refused_spot x.refusal

-- k, how many literals were read.
abbrev pub k_in : Next → ℕ
k_in (Ok (Some c)) = c.count
k_in (Ok None) = 0
k_in (Err x) = x.count

-- An answer and its place.
abbrev pub answered_of : def.Answered → Answered
answered_of d = record { answer = next_of d.answer; place = d.place }

-- An answer of the definition is given: the answer, and the buffer after it.
pub record Answers (d : def.Answered) (old new : List ℤ) (r : Answered) : Type 0 where
  pub answer : r ≡ answered_of d
  pub buffer : new ≡ laid (left_by d.answer) old
