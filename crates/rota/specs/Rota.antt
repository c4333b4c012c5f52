-- A round of waiting jobs as a plain list, the calls on it, and what is counted in their answers.
--
-- J is a job, P what a put names, E what a turn is lent, A what the reader says.
use Rattle.std.specs.Prelude.{ℕ, zero, suc, ◌+◌, Bool, true, false, cond, Option, None, Some, List, [], ◌∷◌, ◌++◌, ◌≡◌, length, eqb, leb}
use Rattle.dimacs.specs.Names.{number_of}
use Rattle.dimacs.specs.declared.Reason.{Reason}

-- A call: a put, a turn, or a ticket that is withdrawn.
pub data Call (P E : Type 0) : Type 0 where
  put : P → Call P E
  turn : E → Call P E
  withdraw : ℕ → Call P E

-- What a call answers: a refusal's number; the ticket of a put; the ticket of a turn, what was said, and whether that is its verdict; a withdrawn ticket.
pub data Answer (A : Type 0) : Type 0 where
  refused : ℕ → Answer A
  ticketed : ℕ → Answer A
  told : ℕ → A → Bool → Answer A
  withdrawn : ℕ → Answer A

-- An answer, and what the call leaves.
pub record Done (S A : Type 0) : Type 0 where
  pub answer : Answer A
  pub after : S

-- A call by its two parts.
abbrev pub does : {S A : Type 0} → Answer A → S → Done S A
does a s = record { answer = a; after = s }

module _ {S C A : Type 0} (call : S → C → Done S A) where
  -- The answers of any calls, each on what the last one left.
  abbrev pub answers : S → List C → List (Answer A)
  answers s [] = []
  answers s (c ∷ cs) = (call s c).answer ∷ answers (call s c).after cs

  -- What any calls leave.
  abbrev pub finally : S → List C → S
  finally s [] = s
  finally s (c ∷ cs) = finally (call s c).after cs

-- The tickets given, in order.
abbrev pub tickets : {A : Type 0} → List (Answer A) → List ℕ
tickets [] = []
tickets (refused n ∷ xs) = tickets xs
tickets (ticketed k ∷ xs) = k ∷ tickets xs
tickets (told k a last ∷ xs) = tickets xs
tickets (withdrawn k ∷ xs) = tickets xs

-- So many numbers from k upward.
abbrev pub upward : ℕ → ℕ → List ℕ
upward k zero = []
upward k (suc n) = k ∷ upward (k + 1) n

-- How many verdicts were answered.
abbrev pub verdicts : {A : Type 0} → List (Answer A) → ℕ
verdicts [] = 0
verdicts (refused n ∷ xs) = verdicts xs
verdicts (ticketed k ∷ xs) = verdicts xs
verdicts (told k a true ∷ xs) = suc (verdicts xs)
verdicts (told k a false ∷ xs) = verdicts xs
verdicts (withdrawn k ∷ xs) = verdicts xs

-- How many withdrawals were accepted.
abbrev pub withdrawals : {A : Type 0} → List (Answer A) → ℕ
withdrawals [] = 0
withdrawals (refused n ∷ xs) = withdrawals xs
withdrawals (ticketed k ∷ xs) = withdrawals xs
withdrawals (told k a last ∷ xs) = withdrawals xs
withdrawals (withdrawn k ∷ xs) = suc (withdrawals xs)

-- Whether a withdrawal of the ticket was accepted.
abbrev pub is_withdrawn : {A : Type 0} → ℕ → List (Answer A) → Bool
is_withdrawn k [] = false
is_withdrawn k (refused n ∷ xs) = is_withdrawn k xs
is_withdrawn k (ticketed n ∷ xs) = is_withdrawn k xs
is_withdrawn k (told n a last ∷ xs) = is_withdrawn k xs
is_withdrawn k (withdrawn n ∷ xs) = cond (eqb k n) true (is_withdrawn k xs)

-- How many turns were accepted.
abbrev pub turns : {A : Type 0} → List (Answer A) → ℕ
turns [] = 0
turns (refused n ∷ xs) = turns xs
turns (ticketed k ∷ xs) = turns xs
turns (told k a last ∷ xs) = suc (turns xs)
turns (withdrawn k ∷ xs) = turns xs

-- What was said to a ticket, in order, each with whether it is the verdict.
abbrev pub heard : {A : Type 0} → ℕ → List (Answer A) → List (A × Bool)
heard k [] = []
heard k (refused n ∷ xs) = heard k xs
heard k (ticketed n ∷ xs) = heard k xs
heard k (told n a last ∷ xs) = cond (eqb k n) ((a, last) ∷ heard k xs) (heard k xs)
heard k (withdrawn n ∷ xs) = heard k xs

-- All that is said of a text, the last as the verdict.
abbrev pub to_the_last : {A : Type 0} → List A → List (A × Bool)
to_the_last [] = []
to_the_last (a ∷ []) = (a, true) ∷ []
to_the_last (a ∷ b ∷ l) = (a, false) ∷ to_the_last (b ∷ l)

-- Whether the verdict is among what was said.
abbrev pub concluded : {A : Type 0} → List (A × Bool) → Bool
concluded [] = false
concluded (x ∷ l) = cond x.1 true (concluded l)

-- If the call was a turn of the ticket's own, what it was lent has a property.
abbrev pub AtOwnTurn : {P E A : Type 0} → (E → Type 0) → ℕ → Call P E → Answer A → Type 0
AtOwnTurn F k (put p) x = Unit {0}
AtOwnTurn F k (withdraw n) x = Unit {0}
AtOwnTurn F k (turn e) (refused n) = Unit {0}
AtOwnTurn F k (turn e) (ticketed n) = Unit {0}
AtOwnTurn F k (turn e) (told n a last) = n ≡ k → F e
AtOwnTurn F k (turn e) (withdrawn n) = Unit {0}

-- What each turn of the ticket's own was lent has a property.
abbrev pub AtOwnTurns : {P E A : Type 0} → (E → Type 0) → ℕ → List (Call P E) → List (Answer A) → Type 0
AtOwnTurns F k [] xs = Unit {0}
AtOwnTurns F k (c ∷ cs) [] = Unit {0}
AtOwnTurns F k (c ∷ cs) (x ∷ xs) = AtOwnTurn F k c x × AtOwnTurns F k cs xs

-- What was said so far of a text are the first of all its answers; once the verdict is among them, they are all.
pub record Hears {A : Type 0} (whole : List A) (so_far : List (A × Bool)) : Type 0 where
  pub rest : List (A × Bool)
  pub first : to_the_last whole ≡ so_far ++ rest
  pub all : concluded so_far ≡ true → so_far ≡ to_the_last whole

-- The jobs that wait, from the front on, and how many tickets were given.
pub record Round (J : Type 0) : Type 0 where
  pub waiting : List J
  pub given : ℕ

-- A round by its two parts.
abbrev pub round : {J : Type 0} → List J → ℕ → Round J
round js n = record { waiting = js; given = n }

-- What a put comes to by itself: a refusal's number, or the job that it makes of a ticket.
pub data Entry (J : Type 0) : Type 0 where
  bad : ℕ → Entry J
  good : (ℕ → J) → Entry J

-- What serving a job comes to: what is said, and the job as it goes on, unless that is its verdict.
pub record Served (J A : Type 0) : Type 0 where
  pub said : A
  pub goes : Option J

-- Serving by its two parts.
abbrev pub serves : {J A : Type 0} → A → Option J → Served J A
serves a o = record { said = a; goes = o }

-- How many places there are, and the largest ticket; a job's ticket; what a put comes to; whether the buffer lent to a turn is too short; and what
-- serving a job comes to.
pub record Desk (J P E A : Type 0) : Type 0 where
  pub places : ℕ
  pub largest : ℕ
  pub ticket : J → ℕ
  pub entry : P → Entry J
  pub short : E → Bool
  pub serve : J → E → Served J A

module _ {J : Type 0} (ticket : J → ℕ) where
  -- Whether a job with the ticket waits.
  abbrev pub waits : ℕ → List J → Bool
  waits k [] = false
  waits k (j ∷ js) = cond (eqb k (ticket j)) true (waits k js)

  -- The jobs without the one that has the ticket.
  abbrev pub without : ℕ → List J → List J
  without k [] = []
  without k (j ∷ js) = cond (eqb k (ticket j)) js (j ∷ without k js)

-- A job goes to the back.
abbrev pub to_back : {J : Type 0} → List J → J → List J
to_back js j = js ++ j ∷ []

-- A refused call changes nothing.
abbrev pub refuses : {J A : Type 0} → Round J → Reason → Done (Round J) A
refuses t why = does (refused (number_of why)) t

module _ {J P E A : Type 0} (D : Desk J P E A) where
  -- A put: the job goes to the back with a new ticket.
  abbrev pub put_by : Round J → Entry J → Done (Round J) A
  put_by t (bad n) = does (refused n) t
  put_by t (good make) =
      let k = t.given + 1 in
      cond (leb D.places (length t.waiting)) (refuses t Reason.TrayFull)
      (cond (leb D.largest t.given) (refuses t Reason.TicketsUsedUp) (does (ticketed k) (round (to_back t.waiting (make k)) k)))

  -- A served job leaves, or goes to the back.
  abbrev pub went : ℕ → List J → ℕ → A → Option J → Done (Round J) A
  went n js k a None = does (told k a true) (round js n)
  went n js k a (Some j) = does (told k a false) (round (to_back js j) n)

  -- A turn: the front job is served.
  abbrev pub turn_by : E → ℕ → List J → Done (Round J) A
  turn_by e n [] = refuses (round [] n) Reason.NothingWaits
  turn_by e n (j ∷ js) =
      cond (D.short e) (refuses (round (j ∷ js) n) Reason.BufferTooShort)
      (went n js (D.ticket j) (D.serve j e).said (D.serve j e).goes)

  -- A withdrawal: the others keep their order.
  abbrev pub withdraw_by : Round J → ℕ → Done (Round J) A
  withdraw_by t k =
      cond (waits D.ticket k t.waiting) (does (withdrawn k) (round (without D.ticket k t.waiting) t.given))
      (refuses t Reason.TicketNotWaiting)

  -- A call on a round.
  abbrev pub call : Round J → Call P E → Done (Round J) A
  call t (put p) = put_by t (D.entry p)
  call t (turn e) = turn_by e t.given t.waiting
  call t (withdraw k) = withdraw_by t k

-- The round in which nothing waits and no ticket was given.
abbrev pub fresh : {J : Type 0} → Round J
fresh = round [] 0
