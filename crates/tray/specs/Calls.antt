-- The tray's calls: what each answers, the record that it leaves, and what the lent buffer then holds.
use Rattle.std.specs.Prelude.{ℕ, ◌+◌, cond, Option, Some, None, Ok, Err, is_none, List, ◌≡◌, length, leb, ltb, ℤ}
use Rattle.dimacs.specs.Names.{kind_of, largest, own_room, places}
use Rattle.dimacs.specs.Buffers.{laid}
use Rattle.dimacs.specs.declared.Kind.{Kind}
use Rattle.dimacs.specs.declared.Kind.TheVariants.{Clauses, Log}
use Rattle.dimacs.specs.declared.Reason.{Reason}
use Rattle.service.specs.declared.Stage.{Stage}
use Rattle.service.specs.declared.Stage.TheVariants as stage
use Rattle.service.specs.declared.Served.{Served}
use Rattle.service.specs.Serving.{within, literals_in, Serving, served_part, served_of}
use Rattle.ring.specs.declared.Job.{Job}
use Rattle.ring.specs.declared.Tray.{Tray}
use Rattle.ring.specs.Ring.{job_of, waiting, front_of, joined, passed, taken_out}
use Rattle.tray.specs.declared.Done.{Done}
use Rattle.tray.specs.declared.Told.{Told}

-- What a put names: the numbers of a format and a mode, and a part of an area of the length that is lent.
pub record Put : Type 0 where
  pub format : ℕ
  pub mode : ℕ
  pub start : ℕ
  pub length : ℕ
  pub lent : ℕ

-- A refused call changes nothing.
abbrev pub not_done : {A : Type 0} → Tray → Reason → Done A
not_done t why = record { tray = t; answer = Err why }

-- The tray with a ticket given.
abbrev pub ticket_given : Tray → ℕ → Tray
ticket_given t k = record { jobs = t.jobs; head = t.head; count = t.count; given = k }

-- A job goes to the back with a new ticket, if there is a place and a ticket left.
unfoldable pub entered : Tray → ℕ → ℕ → Stage → Done ℕ
entered t start size s =
    let k = t.given + 1 in
    cond (leb places t.count) (not_done t Reason.TrayFull)
    (cond (leb largest t.given) (not_done t Reason.TicketsUsedUp)
    (record { tray = joined (ticket_given t k) (job_of k start size s); answer = Ok k }))

-- A put by what its numbers name: only a text of clauses is taken.
abbrev pub put_as : Tray → Put → Option Kind → Done ℕ
put_as t p (Some (Clauses f m)) =
    cond (within p.start p.length p.lent) (entered t p.start p.length (stage.Fresh f m)) (not_done t Reason.PartOutsideArea)
put_as t p (Some (Log m)) = not_done t Reason.FormatOrModeUnknown
put_as t p None = not_done t Reason.FormatOrModeUnknown

-- A put.
abbrev pub put_of : Tray → Put → Done ℕ
put_of t p = put_as t p (kind_of p.format p.mode)

-- Serving a job with an area.
unfoldable pub serve : List ℕ → Job → Serving
serve area j = served_part area j.part.start j.part.length own_room j.stage

-- The front job, served. It leaves where it has no cursor with which to go on.
abbrev pub turned : Tray → Job → Served → Done Told
turned t j v = record { tray = passed t j v.goes; answer = Ok (record { ticket = j.ticket; said = v.said; last = is_none v.goes }) }

-- A turn by the job at the front, with an area and a buffer of some length.
abbrev pub turn_for : Tray → List ℕ → ℕ → Option Job → Done Told
turn_for t area room None = not_done t Reason.NothingWaits
turn_for t area room (Some j) = cond (ltb room own_room) (not_done t Reason.BufferTooShort) (turned t j (served_of (serve area j)))

-- A turn.
unfoldable pub turn_of : Tray → List ℕ → ℕ → Done Told
turn_of t area room = turn_for t area room (front_of (waiting t))

-- What a turn of the job at the front leaves in the buffer.
abbrev pub buffer_for : List ℕ → List ℤ → Option Job → List ℤ
buffer_for area old None = old
buffer_for area old (Some j) = cond (ltb (length old) own_room) old (laid (literals_in (serve area j).said) old)

-- What a turn leaves in the buffer.
unfoldable pub buffer_of : Tray → List ℕ → List ℤ → List ℤ
buffer_of t area old = buffer_for area old (front_of (waiting t))

-- A turn's whole promise.
pub record Turns (t : Tray) (area : List ℕ) (old new : List ℤ) (r : Done Told) : Type 0 where
  pub done : r ≡ turn_of t area (length old)
  pub buffer : new ≡ buffer_of t area old

-- A withdrawal, by the tray without the ticket, if it waited.
abbrev pub withdraw_as : Tray → ℕ → Option Tray → Done ℕ
withdraw_as t k (Some left) = record { tray = left; answer = Ok k }
withdraw_as t k None = not_done t Reason.TicketNotWaiting

-- A withdrawal.
unfoldable pub withdraw_of : Tray → ℕ → Done ℕ
withdraw_of t k = withdraw_as t k (taken_out t k)
