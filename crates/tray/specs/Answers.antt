-- What the answers of the tray's calls say, with the literals of what was said; and the number, place, line and column, k and ticket of each, by documents 01 and 02.
use Rattle.std.specs.Prelude.{ℕ, Some, None, Result, Ok, Err, List, ◌≡◌, take, ℤ}
use Rattle.dimacs.specs.Names.{number_of}
use Rattle.dimacs.specs.Spots.{nowhere}
use Rattle.dimacs.specs.Clauses as def
use Rattle.dimacs.specs.declared.Reason.{Reason}
use Rattle.dimacs.specs.declared.Spot.{Spot}
use Rattle.clause.specs.Answers.{Next}
use Rattle.rota.specs.Rota.{Answer, refused, ticketed, told, withdrawn}
use Rattle.service.specs.declared.Said.{Said}
use Rattle.service.specs.declared.Said.TheVariants as said
use Rattle.tray.specs.declared.Told.{Told}
use Rattle.service.specs.Serving as serving
use Rattle.service.specs.Serving.{Reply, opening, answering, said_of}

-- An answer that is no refusal says what f makes of it.
abbrev pub says : {A : Type 0} → (A → Answer Reply) → Result A Reason → Answer Reply
says f (Ok a) = f a
says f (Err why) = refused (number_of why)

-- An answer to a put.
abbrev pub put_says : Result ℕ Reason → Answer Reply
put_says = says ticketed

-- The literals that an answer counts stand first in the buffer after it.
abbrev pub read_in : List ℤ → Next → def.Answer
read_in new (Ok (Some c)) = def.clause c.extra (take c.count new)
read_in new (Ok None) = def.ended
read_in new (Err x) = def.refused x.refusal (take x.count new)

-- What was said, with the literals that stand in the buffer.
abbrev pub reply_in : List ℤ → Said → Reply
reply_in new (said.Opening o) = opening o
reply_in new (said.Next a) = answering (read_in new a)

-- An answer to a turn, with the buffer after it.
abbrev pub turn_says : List ℤ → Result Told Reason → Answer Reply
turn_says new = says (λ a. told a.ticket (reply_in new a.said) a.last)

-- An answer to a withdrawal.
abbrev pub withdraw_says : Result ℕ Reason → Answer Reply
withdraw_says = says withdrawn

-- The number of a call that is refused, or of the refusal that a turn tells; 0 where nothing is refused.
abbrev pub number_in : Answer Reply → ℕ
number_in (refused n) = n
number_in (ticketed k) = 0
number_in (told k a last) = serving.number_in (said_of a)
number_in (withdrawn k) = 0

-- The place of the refusal that a turn tells, from the job's start on. A call that is refused has place 0.
abbrev pub place_in : Answer Reply → ℕ
place_in (refused n) = 0
place_in (ticketed k) = 0
place_in (told k a last) = serving.place_in (said_of a)
place_in (withdrawn k) = 0

-- Line and column of the refusal that a turn tells, from the job's start on. A call that is refused has line 0 and column 0.
abbrev pub spot_in : Answer Reply → Spot
spot_in (refused n) = nowhere
spot_in (ticketed k) = nowhere
spot_in (told k a last) = serving.spot_in (said_of a)
spot_in (withdrawn k) = nowhere

-- k, how many literals a turn read. A call that is refused has k 0.
abbrev pub k_in : Answer Reply → ℕ
k_in (refused n) = 0
k_in (ticketed k) = 0
k_in (told k a last) = serving.k_in (said_of a)
k_in (withdrawn k) = 0

-- The ticket. A call that is refused answers ticket 0.
abbrev pub ticket_in : Answer Reply → ℕ
ticket_in (refused n) = 0
ticket_in (ticketed k) = k
ticket_in (told k a last) = k
ticket_in (withdrawn k) = k

-- What a call that is refused answers: its number, with place, line, column, k and ticket 0.
pub record NumberAlone (n : ℕ) (x : Answer Reply) : Type 0 where
  pub number : number_in x ≡ n
  pub place : place_in x ≡ 0
  pub spot : spot_in x ≡ nowhere
  pub k : k_in x ≡ 0
  pub ticket : ticket_in x ≡ 0
