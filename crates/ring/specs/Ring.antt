-- The ring of jobs: those that wait, from the front on, and the record without one of them.
use Rattle.std.specs.Prelude.{ℕ, zero, suc, ◌+◌, ◌-◌, ◌%◌, min, cond, Option, Some, None, option_map, List, [], ◌∷◌, get_or, set, replicate, leb, ltb, eqb}
use Rattle.dimacs.specs.Names.{in_mode, places}
use Rattle.dimacs.specs.declared.Format.TheVariants.{Plain}
use Rattle.dimacs.specs.declared.Rigor.TheVariants.{Strict}
use Rattle.dimacs.specs.declared.Ends.TheVariants.{LineFeed}
use Rattle.formula.specs.declared.Cursor.{Cursor}
use Rattle.service.specs.declared.Stage.{Stage}
use Rattle.service.specs.declared.Stage.TheVariants.{Fresh, Reading}
use Rattle.ring.specs.declared.Job.{Job}
use Rattle.ring.specs.declared.Tray.{Tray}

-- A job by its parts.
abbrev pub job_of : ℕ → ℕ → ℕ → Stage → Job
job_of k start size s = record { ticket = k; part = record { start = start; length = size }; stage = s }

-- What stands in a place that no job was put in.
abbrev pub no_job : Job
no_job = job_of 0 0 0 (Fresh Plain (in_mode Strict LineFeed))

-- A fresh tray.
unfoldable pub empty_tray : Tray
empty_tray = record { jobs = replicate places no_job; head = 0; count = 0; given = 0 }

-- So many jobs from a place on, going round.
abbrev pub ring : List Job → ℕ → ℕ → List Job
ring js h zero = []
ring js h (suc n) = get_or js (h % places) no_job ∷ ring js (h + 1) n

module _ (t : Tray) where
  -- How many jobs wait. In a record that counts more than there are places, all places are taken.
  abbrev pub how_many : ℕ
  how_many = min t.count places

  -- The jobs that wait, from the front on.
  abbrev pub waiting : List Job
  waiting = ring t.jobs t.head how_many

  -- The place that is so many behind the front.
  abbrev pub place_behind : ℕ → ℕ
  place_behind i = (t.head % places + i) % places

-- The job at the front of those that wait, if one does.
abbrev pub front_of : List Job → Option Job
front_of [] = None
front_of (j ∷ js) = Some j

-- A job goes to the back, if there is a place.
unfoldable pub joined : Tray → Job → Tray
joined t j =
    cond (leb places t.count) t
    (record { jobs = set t.jobs (place_behind t t.count) j; head = t.head; count = t.count + 1; given = t.given })

-- A job with the cursor with which it goes on.
abbrev pub goes_on : Job → Cursor → Job
goes_on j c = job_of j.ticket j.part.start j.part.length (Reading c)

-- The job at the front, served, goes to the back with its cursor, or leaves.
abbrev pub passed : Tray → Job → Option Cursor → Tray
passed t j (Some c) =
    record { jobs = set t.jobs (place_behind t (how_many t)) (goes_on j c); head = place_behind t 1; count = how_many t; given = t.given }
passed t j None = record { jobs = t.jobs; head = place_behind t 1; count = how_many t - 1; given = t.given }

-- How many jobs stand before the one with the ticket, or how many there are.
unfoldable pub ahead : ℕ → List Job → ℕ
ahead k [] = 0
ahead k (j ∷ js) = cond (eqb k j.ticket) 0 (suc (ahead k js))

-- So many jobs behind place i from h on move up by one.
unfoldable pub moved_up : List Job → ℕ → ℕ → ℕ → List Job
moved_up js h i zero = js
moved_up js h i (suc m) = moved_up (set js ((h + i) % places) (get_or js ((h + i + 1) % places) no_job)) h (i + 1) m

-- Of so many jobs, the one with i ahead of it is taken out.
abbrev pub closed_up : Tray → ℕ → ℕ → Tray
closed_up t n i = record { jobs = moved_up t.jobs (t.head % places) i (n - (i + 1)); head = t.head; count = n - 1; given = t.given }

-- So many jobs ahead, if that is not all of them.
abbrev pub place_at : Tray → ℕ → Option ℕ
place_at t i = cond (ltb i (how_many t)) (Some i) None

-- How many jobs stand before the one with the ticket, if it waits.
abbrev pub place_of : Tray → ℕ → Option ℕ
place_of t k = place_at t (ahead k (waiting t))

-- The tray without the job that has the ticket, if it waits.
unfoldable pub taken_out : Tray → ℕ → Option Tray
taken_out t k = option_map (closed_up t (how_many t)) (place_of t k)
