-- The cursors and answers of the code, by those of the definition.
use Rattle.std.specs.Prelude.{ℕ, Bool, cond, not, ◌&&◌, List, ◌≡◌, eqb, leb, length, ℤ, Option, Some, None, Result, Ok, Err}
use Rattle.dimacs.specs.Names.{call_refusal, in_mode, kind_of}
use Rattle.dimacs.specs.declared.Reason.{Reason}
use Rattle.dimacs.specs.Lined.{lined}
use Rattle.dimacs.specs.Header.{opening_of}
use Rattle.dimacs.specs.Buffers.{laid}
use Rattle.dimacs.specs.Clauses as def
use Rattle.dimacs.specs.Texts as texts
use Rattle.dimacs.specs.declared.Format.{Format}
use Rattle.dimacs.specs.declared.Format.TheVariants.{Plain}
use Rattle.dimacs.specs.declared.Mode.{Mode}
use Rattle.dimacs.specs.declared.Rigor.TheVariants.{Strict}
use Rattle.dimacs.specs.declared.Ends.{Ends}
use Rattle.dimacs.specs.declared.Ends.TheVariants.{LineFeed}
use Rattle.dimacs.specs.declared.Limits.{Limits}
use Rattle.dimacs.specs.declared.Refusal.{Refusal}
use Rattle.dimacs.specs.declared.Opening.{Opening}
use Rattle.dimacs.specs.declared.Opening.TheVariants as opening
use Rattle.dimacs.specs.declared.Kind.{Kind}
use Rattle.dimacs.specs.declared.Kind.TheVariants as kind
use Rattle.dimacs.specs.declared.Absence.{Absence}
use Rattle.dimacs.specs.declared.Absence.TheVariants.{MayEnd, NoClause}
use Rattle.dimacs.specs.declared.Progress.{Progress}
use Rattle.header.specs.Headed.{limits_after}
use Rattle.clause.specs.Answers.{Next, left_by, answered_of}
use Rattle.clause.specs.declared.Answered.{Answered}
use Rattle.formula.specs.declared.Cursor.{Cursor}
use Rattle.formula.specs.declared.Opened.{Opened}
use Rattle.formula.specs.declared.Stepped.{Stepped}

-- A cursor by its parts.
abbrev pub cursor_of : Format → Ends → Limits → Progress → Cursor
cursor_of f rule limits p = record { progress = p; limits = limits; format = f; ends = rule }

-- How far a text is read where its clauses begin, by its opening. After a refused header the refusal is repeated.
abbrev pub begun_by : Result Opening Refusal → Progress
begun_by (Ok (opening.Header h at)) = texts.begin at
begun_by (Ok (opening.NoHeader at)) = texts.begin at
begun_by (Err r) = texts.progress r.place 0 (Some (Err r))

-- The cursor with which a text's clauses begin, by its opening.
abbrev pub opened_by : Format → Mode → Result Opening Refusal → Cursor
opened_by f m o = cursor_of f m.ends (limits_after f m.rigor o) (begun_by o)

-- A text opened in a format and a mode.
unfoldable pub opened_as : Format → Mode → List ℕ → Opened
opened_as f m s = let o = opening_of (lined m.ends s) f in record { opening = o; cursor = opened_by f m o }

-- Refusal 26.
abbrev pub unknown : Opened
unknown =
    let r : Refusal = call_refusal Reason.FormatOrModeUnknown 0 in
    record { opening = Err r; cursor = opened_by Plain (in_mode Strict LineFeed) (Err r) }

-- A text opened by what its numbers name. A log is no text of clauses.
abbrev pub opened_kind : Option Kind → List ℕ → Opened
opened_kind (Some (kind.Clauses f m)) s = opened_as f m s
opened_kind (Some (kind.Log m)) s = unknown
opened_kind None s = unknown

-- A text opened by numbers.
abbrev pub opened : ℕ → ℕ → List ℕ → Opened
opened f m s = opened_kind (kind_of f m) s

-- The count of clauses is reached, where one applies.
abbrev pub reached : ℕ → ℕ → Bool
reached most count = not (eqb most 0) && leb most count

-- Where no count of clauses applies, the text may end before any of them.
abbrev pub absence_of : ℕ → Absence
absence_of most = cond (eqb most 0) MayEnd NoClause

-- What is answered from a cursor, with room for so many literals.
abbrev pub answer_from : List ℕ → ℕ → Cursor → def.Answered
answer_from s room c = texts.answer_at (lined c.ends s) c.format c.limits room c.progress

-- The end and a refusal are final.
abbrev pub last_of : Next → Option (Result Unit Refusal)
last_of (Ok (Some c)) = None
last_of (Ok None) = Some (Ok tt)
last_of (Err x) = Some (Err x.refusal)

-- The cursor after an answer at a place.
abbrev pub cursor_after : Cursor → ℕ → Next → Cursor
cursor_after c at a = cursor_of c.format c.ends c.limits (texts.settled_by c.progress.count at (last_of a))

-- An answer of the code, and the cursor after it.
abbrev pub settled_as : Cursor → Answered → Stepped
settled_as c a = record { answer = a.answer; cursor = cursor_after c a.place a.answer }

-- One call: its answer, and the cursor after it.
abbrev pub step_of : List ℕ → ℕ → Cursor → Stepped
step_of s room c = settled_as c (answered_of (answer_from s room c))

-- A call's whole promise. The room is the buffer's length.
pub record Steps (s : List ℕ) (c : Cursor) (old new : List ℤ) (r : Stepped) : Type 0 where
  pub answer : r ≡ step_of s (length old) c
  pub buffer : new ≡ laid (left_by (answer_from s (length old) c).answer) old
