-- Serving a job at a turn: what is said of its part of an area, how it goes on, and what the lent buffer then holds.
use Rattle.std.specs.Prelude.{ℕ, ◌+◌, Bool, cond, Option, Some, None, Result, Ok, Err, List, [], ◌≡◌, length, take, drop, leb, ℤ}
use Rattle.dimacs.specs.Names.{call_refusal}
use Rattle.dimacs.specs.Buffers.{laid}
use Rattle.dimacs.specs.Clauses.{Answer, refused}
use Rattle.dimacs.specs.declared.Format.{Format}
use Rattle.dimacs.specs.declared.Opening.{Opening}
use Rattle.dimacs.specs.declared.Reason.{Reason}
use Rattle.dimacs.specs.declared.Refusal.{Refusal}
use Rattle.dimacs.specs.declared.Spot.{Spot}
use Rattle.clause.specs.Answers as answers
use Rattle.clause.specs.Answers.{Next, next_of, left_by}
use Rattle.formula.specs.Openings as openings
use Rattle.formula.specs.Cursors.{opened_as, answer_from, step_of}
use Rattle.formula.specs.declared.Cursor.{Cursor}
use Rattle.formula.specs.declared.Opened.{Opened}
use Rattle.formula.specs.declared.Stepped.{Stepped}
use Rattle.service.specs.declared.Stage.{Stage}
use Rattle.service.specs.declared.Stage.TheVariants as stage
use Rattle.service.specs.declared.Said.{Said}
use Rattle.service.specs.declared.Said.TheVariants as said
use Rattle.service.specs.declared.Served.{Served}

-- The format of a job's text, at any stage.
abbrev pub format_in : Stage → Format
format_in (stage.Fresh f m) = f
format_in (stage.Reading c) = c.format

-- A part stands within an area of some length.
abbrev pub within : ℕ → ℕ → ℕ → Bool
within start size lent = leb (start + size) lent

-- What is said of a text at a turn, with its literals: how it opens, or the answer to a call for the next clause.
pub data Reply : Type 0 where
  opening : Result Opening Refusal → Reply
  answering : Answer → Reply

-- In the answer of a turn the literals are counted.
abbrev pub said_of : Reply → Said
said_of (opening o) = said.Opening o
said_of (answering a) = said.Next (next_of a)

-- The number of the refusal that was said, 0 if none was.
abbrev pub number_in : Said → ℕ
number_in (said.Opening o) = openings.number_in o
number_in (said.Next a) = answers.number_in a

-- The place of the refusal that was said, 0 if none was.
abbrev pub place_in : Said → ℕ
place_in (said.Opening o) = openings.place_in o
place_in (said.Next a) = answers.place_in a

-- Line and column of the refusal that was said, 0 and 0 if none was.
abbrev pub spot_in : Said → Spot
spot_in (said.Opening o) = openings.spot_in o
spot_in (said.Next a) = answers.spot_in a

-- k, how many literals were read.
abbrev pub k_in : Said → ℕ
k_in (said.Opening o) = openings.k_in o
k_in (said.Next a) = answers.k_in a

-- The literals stand in the buffer.
abbrev pub literals_in : Reply → List ℤ
literals_in (opening o) = []
literals_in (answering a) = left_by a

-- Serving a job: what is said, and the cursor with which it goes on, unless that is its verdict.
pub record Serving : Type 0 where
  pub said : Reply
  pub goes : Option Cursor

-- A refused header is a verdict.
abbrev pub opening_goes : Cursor → Result Opening Refusal → Option Cursor
opening_goes c (Ok o) = Some c
opening_goes c (Err r) = None

-- So is the end, and a refusal.
abbrev pub next_goes : Cursor → Next → Option Cursor
next_goes c (Ok (Some x)) = Some c
next_goes c (Ok None) = None
next_goes c (Err x) = None

-- A job served by an opening.
abbrev pub opening_served : Opened → Served
opening_served o = record { said = said.Opening o.opening; goes = opening_goes o.cursor o.opening }

-- A job served by a call for the next clause.
abbrev pub step_served : Stepped → Served
step_served x = record { said = said.Next x.answer; goes = next_goes x.cursor x.answer }

-- A job is served on its own text: its first turn opens it, each later one asks for the next clause.
unfoldable pub serving : List ℕ → ℕ → Stage → Serving
serving s room (stage.Fresh f m) = let o = opened_as f m s in record { said = opening o.opening; goes = (opening_served o).goes }
serving s room (stage.Reading c) = record { said = answering (answer_from s room c).answer; goes = (step_served (step_of s room c)).goes }

-- A job whose part is outside the area is refused.
abbrev pub outside : Serving
outside = record { said = answering (refused (call_refusal Reason.PartOutsideArea 0) []); goes = None }

-- Serving the part of an area that begins at a place and is so long.
unfoldable pub served_part : List ℕ → ℕ → ℕ → ℕ → Stage → Serving
served_part area start size room x = cond (within start size (length area)) (serving (take size (drop start area)) room x) outside

-- What is said and how the job goes on, with the literals counted.
abbrev pub served_of : Serving → Served
served_of v = record { said = said_of v.said; goes = v.goes }

-- Serving leaves the literals in the buffer.
pub record Serves (v : Serving) (old new : List ℤ) (r : Served) : Type 0 where
  pub answer : r ≡ served_of v
  pub buffer : new ≡ laid (literals_in v.said) old
