-- What the tray promises over any calls on a fresh tray that is lent, each on what the last one left behind the reference.
use Rattle.std.specs.Prelude.{ℕ, ◌+◌, ◌*◌, ◌/◌, ◌≤◌, true, false, Some, Result, Ok, List, [], ◌∷◌, map, ◌≡◌, length, ℤ}
use Rattle.dimacs.specs.Names.{number_of, kind_of, places}
use Rattle.dimacs.specs.declared.Format.{Format}
use Rattle.dimacs.specs.declared.Kind.TheVariants.{Clauses}
use Rattle.dimacs.specs.declared.Mode.{Mode}
use Rattle.rota.specs.Rota as rota
use Rattle.rota.specs.Rota.{Call, Answer, refused, tickets, upward, verdicts, withdrawals, is_withdrawn, turns, heard, to_the_last, concluded, AtOwnTurns, Hears}
use Rattle.dimacs.specs.declared.Reason.{Reason}
use Rattle.ring.specs.declared.Tray.{Tray}
use Rattle.ring.specs.Ring.{empty_tray, waiting}
use Rattle.tray.specs.declared.Told.{Told}
use Rattle.service.specs.Serving.{Reply}
use Rattle.tray.specs.Calls.{Put}
use Rattle.tray.specs.Answers.{put_says, turn_says, withdraw_says, NumberAlone}
use Rattle.lent_tray.specs.Lent.{LentPut, LentTurn, LentWithdrawal}
use Rattle.fairness.specs.Promises.{Lent, Calls, Counted, Holds, said_alone}

-- A call as it went: what it named or was lent, its answer, and the tray that it left; after a turn also what the buffer then held.
pub data Event : Type 0 where
  put : Put → Result ℕ Reason → Tray → Event
  turn : Lent → Result Told Reason → List ℤ → Tray → Event
  withdraw : ℕ → Result ℕ Reason → Tray → Event

-- The call.
abbrev pub call_in : Event → Call Put Lent
call_in (put p a u) = rota.put p
call_in (turn e a new u) = rota.turn e
call_in (withdraw k a u) = rota.withdraw k

-- What its answer says.
abbrev pub said_in : Event → Answer Reply
said_in (put p a u) = put_says a
said_in (turn e a new u) = turn_says new a
said_in (withdraw k a u) = withdraw_says a

-- The tray that it left.
abbrev pub left_in : Event → Tray
left_in (put p a u) = u
left_in (turn e a new u) = u
left_in (withdraw k a u) = u

-- It kept the contract of `put`, `turn` or `withdraw` on a lent tray.
abbrev pub Keeps : Tray → Event → Type 0
Keeps t (put p a u) = LentPut t p u a
Keeps t (turn e a new u) = LentTurn t e.area e.buffer new u a
Keeps t (withdraw k a u) = LentWithdrawal t k u a

-- So did each of some calls, on the tray that the last one left.
abbrev pub AllKeep : Tray → List Event → Type 0
AllKeep t [] = Unit {0}
AllKeep t (e ∷ es) = Keeps t e × AllKeep (left_in e) es

-- The tray at last.
abbrev pub finally : Tray → List Event → Tray
finally t [] = t
finally t (e ∷ es) = finally (left_in e) es

-- What the answers say.
abbrev pub said : List Event → List (Answer Reply)
said es = map said_in es

-- The calls.
abbrev pub called : List Event → Calls
called es = map call_in es

-- The buffer is as it was. Only a turn is lent one.
abbrev pub BufferKept : Event → Type 0
BufferKept (put p a u) = Unit {0}
BufferKept (turn e a new u) = new ≡ e.buffer
BufferKept (withdraw k a u) = Unit {0}

-- The refusals: a call on any tray that is refused answers its number alone, and changes neither the tray nor the buffer.
abbrev pub LentRefusals : Type 0
LentRefusals = (t : Tray) (e : Event) (n : ℕ) → Keeps t e → said_in e ≡ refused n → NumberAlone n (said_in e) × (left_in e ≡ t) × BufferKept e

-- The account: tickets given equal verdicts answered plus withdrawals accepted plus jobs waiting.
abbrev pub LentAccount : Type 0
LentAccount =
    (es : List Event) → AllKeep empty_tray es
    → length (tickets (said es)) ≡ verdicts (said es) + withdrawals (said es) + length (waiting (finally empty_tray es))

-- The tickets: the first is 1, and each later one is one more than the one before.
abbrev pub LentTickets : Type 0
LentTickets = (es : List Event) → AllKeep empty_tray es → let xs = said es in tickets xs ≡ upward 1 (length (tickets xs))

-- The places: never more jobs wait than there are.
abbrev pub LentEnoughPlaces : Type 0
LentEnoughPlaces = (es : List Event) → AllKeep empty_tray es → Counted (finally empty_tray es)

-- Some calls, a put that was given a ticket, and the calls after it.
pub record AfterPut (before : List Event) (p : Put) (k : ℕ) (after : List Event) : Type 0 where
  pub tray : Tray
  pub first : AllKeep empty_tray before
  pub given : LentPut (finally empty_tray before) p tray (Ok k)
  pub since : AllKeep tray after

-- The bound: the verdict comes within so many turns, whatever they are lent.
abbrev pub LentBound : Type 0
LentBound =
    (before : List Event) (p : Put) (k : ℕ) (after : List Event) → AfterPut before p k after → is_withdrawn k (said after) ≡ false
    → places * (2 + (p.length + 1) / 2) ≤ turns (said after) → concluded (heard k (said after)) ≡ true

-- The content: what the ticket hears is what is said of its bytes read alone, if they are in the area lent to each of its own turns.
abbrev pub LentContent : Type 0
LentContent =
    (before : List Event) (p : Put) (k : ℕ) (after : List Event) (f : Format) (m : Mode) (bytes : List ℕ)
    → kind_of p.format p.mode ≡ Some (Clauses f m)
    → AfterPut before p k after → is_withdrawn k (said after) ≡ false
    → AtOwnTurns (Holds p bytes) k (called after) (said after)
    → Hears (said_alone f m bytes) (heard k (said after))

-- Both: after so many turns it has heard exactly that, the last as its verdict.
abbrev pub LentDemand : Type 0
LentDemand =
    (before : List Event) (p : Put) (k : ℕ) (after : List Event) (f : Format) (m : Mode) (bytes : List ℕ)
    → kind_of p.format p.mode ≡ Some (Clauses f m)
    → AfterPut before p k after → is_withdrawn k (said after) ≡ false
    → AtOwnTurns (Holds p bytes) k (called after) (said after)
    → places * (2 + (p.length + 1) / 2) ≤ turns (said after)
    → heard k (said after) ≡ to_the_last (said_alone f m bytes)

-- After some calls a ticket is done with: no later turn answers it, and each later withdrawal of it is refused with 24.
pub record LentDoneWith (before : List Event) (k : ℕ) : Type 0 where
  pub unheard : (after : List Event) → AllKeep (finally empty_tray before) after → heard k (said after) ≡ []
  pub not_waiting : (after : List Event) (a : Result ℕ Reason) (u : Tray) → AllKeep (finally empty_tray before) after
      → LentWithdrawal (finally (finally empty_tray before) after) k u a → withdraw_says a ≡ refused (number_of Reason.TicketNotWaiting)

-- The silence: so it is after its verdict.
abbrev pub LentSilence : Type 0
LentSilence = (before : List Event) (k : ℕ) → AllKeep empty_tray before → concluded (heard k (said before)) ≡ true → LentDoneWith before k

-- So it is after its withdrawal.
abbrev pub LentWithdrawn : Type 0
LentWithdrawn = (before : List Event) (k : ℕ) → AllKeep empty_tray before → is_withdrawn k (said before) ≡ true → LentDoneWith before k
