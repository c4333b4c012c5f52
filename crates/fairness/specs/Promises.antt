-- What the tray promises over any calls from a fresh one, each on the tray that the last one left, each turn with its own lent area and buffer.
use Rattle.std.specs.Prelude.{ℕ, ◌+◌, ◌*◌, ◌/◌, ◌≤◌, true, false, Some, List, [], ◌∷◌, map, ◌≡◌, length, take, drop, ℤ}
use Rattle.dimacs.specs.Names.{number_of, kind_of, own_room, places}
use Rattle.dimacs.specs.declared.Reason.{Reason}
use Rattle.dimacs.specs.Texts.{text}
use Rattle.dimacs.specs.declared.Format.{Format}
use Rattle.dimacs.specs.declared.Kind.TheVariants.{Clauses}
use Rattle.dimacs.specs.declared.Mode.{Mode}
use Rattle.rota.specs.Rota.{Call, put, turn, withdraw, Answer, refused, ticketed, Done, does, answers, finally, tickets, upward, verdicts, withdrawals, is_withdrawn, turns, heard, to_the_last, concluded, AtOwnTurns, Hears}
use Rattle.ring.specs.declared.Tray.{Tray}
use Rattle.ring.specs.Ring.{empty_tray, waiting}
use Rattle.service.specs.Serving.{Reply, opening, answering}
use Rattle.tray.specs.Calls.{Put, put_of, turn_of, buffer_of, withdraw_of}
use Rattle.tray.specs.Answers.{put_says, turn_says, withdraw_says, NumberAlone}

-- What a turn is lent.
pub record Lent : Type 0 where
  pub area : List ℕ
  pub buffer : List ℤ

-- Any calls, in order.
abbrev pub Calls : Type 0
Calls = List (Call Put Lent)

-- A call on a tray record: what its answer says, and the record that it leaves, as the contracts of `put`, `turn` and `withdraw` have them.
abbrev pub did : Tray → Call Put Lent → Done Tray Reply
did t (put p) = let d = put_of t p in does (put_says d.answer) d.tray
did t (turn e) =
    let d = turn_of t e.area (length e.buffer) in does (turn_says (buffer_of t e.area e.buffer) d.answer) d.tray
did t (withdraw k) = let d = withdraw_of t k in does (withdraw_says d.answer) d.tray

-- The buffer is as it was. Only a turn is lent one.
abbrev pub BufferKept : Tray → Call Put Lent → Type 0
BufferKept t (put p) = Unit {0}
BufferKept t (turn e) = buffer_of t e.area e.buffer ≡ e.buffer
BufferKept t (withdraw k) = Unit {0}

-- A call on any record that is refused answers its number alone, and changes neither the tray nor the buffer.
abbrev pub Refusals : Type 0
Refusals = (t : Tray) (c : Call Put Lent) (n : ℕ) → (did t c).answer ≡ refused n → NumberAlone n (did t c).answer × ((did t c).after ≡ t) × BufferKept t c

module _ (calls : Calls) where
  -- The answers of calls from a fresh tray.
  abbrev pub answered : List (Answer Reply)
  answered = answers did empty_tray calls

  -- The tray that they leave.
  abbrev pub left : Tray
  left = finally did empty_tray calls

-- Tickets given equal verdicts answered plus withdrawals accepted plus jobs waiting.
abbrev pub Account : Type 0
Account = (calls : Calls) → let xs = answered calls in length (tickets xs) ≡ verdicts xs + withdrawals xs + length (waiting (left calls))

-- The first ticket given is 1, and each later one is one more than the one before.
abbrev pub Tickets : Type 0
Tickets = (calls : Calls) → let xs = answered calls in tickets xs ≡ upward 1 (length (tickets xs))

-- A record counts the jobs that wait, and no more than there are places.
pub record Counted (t : Tray) : Type 0 where
  pub within : t.count ≤ places
  pub all : length (waiting t) ≡ t.count

-- Never more jobs wait than there are places.
abbrev pub EnoughPlaces : Type 0
EnoughPlaces = (calls : Calls) → Counted (left calls)

module _ (before : Calls) (p : Put) where
  -- A put after some calls.
  abbrev pub then_put : Done Tray Reply
  then_put = did (left before) (put p)

  -- The answers of the calls after it.
  abbrev pub since : Calls → List (Answer Reply)
  since after = answers did then_put.after after

-- A job of n bytes that is not withdrawn gets its verdict within (2 + (n + 1) / 2) accepted turns for each place, counted after its put, whatever
-- those turns are lent.
abbrev pub Bound : Type 0
Bound =
    (before : Calls) (p : Put) (after : Calls) (k : ℕ) → (then_put before p).answer ≡ ticketed k → is_withdrawn k (since before p after) ≡ false
    → places * (2 + (p.length + 1) / 2) ≤ turns (since before p after) → concluded (heard k (since before p after)) ≡ true

-- The part of the lent area that a put names is these bytes.
pub record Holds (p : Put) (bytes : List ℕ) (e : Lent) : Type 0 where
  pub within : p.start + p.length ≤ length e.area
  pub same : take p.length (drop p.start e.area) ≡ bytes

-- All that is said of a text read alone: its opening, then its answers up to the end or a refusal.
abbrev pub said_alone : Format → Mode → List ℕ → List Reply
said_alone f m bytes = let t = text f m own_room bytes in opening t.opened ∷ map answering t.answers

-- What a job's ticket hears, with literals, weights and groups, is what is said of its bytes read alone, from the first on; and all of it once the
-- verdict is heard; if it is not withdrawn and its bytes are in the area lent to each of its own turns.
abbrev pub Content : Type 0
Content =
    (before : Calls) (p : Put) (after : Calls) (k : ℕ) (f : Format) (m : Mode) (bytes : List ℕ)
    → kind_of p.format p.mode ≡ Some (Clauses f m)
    → (then_put before p).answer ≡ ticketed k → is_withdrawn k (since before p after) ≡ false
    → AtOwnTurns (Holds p bytes) k after (since before p after)
    → Hears (said_alone f m bytes) (heard k (since before p after))

-- Both: after so many turns, its ticket has heard exactly what is said of its bytes read alone, the last as its verdict.
abbrev pub Demand : Type 0
Demand =
    (before : Calls) (p : Put) (after : Calls) (k : ℕ) (f : Format) (m : Mode) (bytes : List ℕ)
    → kind_of p.format p.mode ≡ Some (Clauses f m)
    → (then_put before p).answer ≡ ticketed k → is_withdrawn k (since before p after) ≡ false
    → AtOwnTurns (Holds p bytes) k after (since before p after)
    → places * (2 + (p.length + 1) / 2) ≤ turns (since before p after)
    → heard k (since before p after) ≡ to_the_last (said_alone f m bytes)

-- After some calls a ticket is done with: no later turn answers it, and each later withdrawal of it is refused with 24.
pub record DoneWith (before : Calls) (k : ℕ) : Type 0 where
  pub unheard : (after : Calls) → heard k (answers did (left before) after) ≡ []
  pub not_waiting : (after : Calls) → (did (finally did (left before) after) (withdraw k)).answer ≡ refused (number_of Reason.TicketNotWaiting)

-- So it is after its verdict.
abbrev pub Silence : Type 0
Silence = (before : Calls) (k : ℕ) → concluded (heard k (answered before)) ≡ true → DoneWith before k

-- So it is after its withdrawal.
abbrev pub Withdrawn : Type 0
Withdrawn = (before : Calls) (k : ℕ) → is_withdrawn k (answered before) ≡ true → DoneWith before k
