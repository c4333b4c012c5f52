-- Whole texts: what they come to, and the calls that read them.
use Rattle.std.specs.Prelude.{ℕ, ◌+◌, List, [], ◌∷◌, length, ℤ, Option, Some, None, Result, Ok, Err}
use Rattle.dimacs.specs.Loop.{Turn, on, last, said}
use Rattle.dimacs.specs.Names.{own_room}
use Rattle.dimacs.specs.Lined.{lined}
use Rattle.dimacs.specs.Clauses as def
use Rattle.dimacs.specs.Texts as texts
use Rattle.dimacs.specs.declared.Format.{Format}
use Rattle.dimacs.specs.declared.Mode.{Mode}
use Rattle.dimacs.specs.declared.Opening.{Opening}
use Rattle.dimacs.specs.declared.Opening.TheVariants as opening
use Rattle.dimacs.specs.declared.Refusal.{Refusal}
use Rattle.clause.specs.Answers.{Next, next_of, left_by}
use Rattle.formula.specs.declared.Cursor.{Cursor}
use Rattle.formula.specs.Cursors.{answer_from, step_of}

-- By the last of a text's answers.
unfoldable pub outcome_by : List def.Answer → Result Unit Refusal
outcome_by [] = Ok tt
outcome_by (def.clause extra so ∷ l) = outcome_by l
outcome_by (def.ended ∷ l) = Ok tt
outcome_by (def.refused r so ∷ l) = Err r

-- What a text comes to by its opening and its answers. A refused header is the last answer.
abbrev pub outcome_of_text : Result Opening Refusal → List def.Answer → Result Unit Refusal
outcome_of_text (Ok (opening.Header h at)) l = outcome_by l
outcome_of_text (Ok (opening.NoHeader at)) l = outcome_by l
outcome_of_text (Err r) l = Err r

-- What a text comes to in a format and a mode.
unfoldable pub outcome_in : Format → Mode → List ℕ → Result Unit Refusal
outcome_in f m s = let t = texts.text f m own_room s in outcome_of_text t.opened t.answers

-- What a text comes to from a cursor on.
abbrev pub outcome_at : List ℕ → ℕ → Cursor → Option (Result Unit Refusal) → Result Unit Refusal
outcome_at s room c None = outcome_by (texts.answers_from (lined c.ends s) c.format c.limits room (texts.progress c.progress.place c.progress.count None))
outcome_at s room c (Some (Ok u)) = Ok tt
outcome_at s room c (Some (Err r)) = Err r

-- The same, by the cursor alone.
abbrev pub outcome_from : List ℕ → ℕ → Cursor → Result Unit Refusal
outcome_from s room c = outcome_at s room c c.progress.last

-- A call's answer, and the literals that it put at the buffer's front.
pub record Call : Type 0 where
  pub answer : Next
  pub left : List ℤ

-- A call goes on from its cursor after a clause, and is the last after any other answer.
abbrev pub call_by : Call → Cursor → Next → Turn Cursor Call
call_by c after (Ok (Some x)) = on c after
call_by c after (Ok None) = last c
call_by c after (Err x) = last c

-- One call from a cursor.
abbrev pub call : List ℕ → ℕ → Cursor → Turn Cursor Call
call s room c =
    let step = step_of s room c in
    call_by (record { answer = step.answer; left = left_by (answer_from s room c).answer }) step.cursor step.answer

-- The calls of `next_clause`, each from the cursor that the one before left, up to the end or the first refusal.
unfoldable pub calls : List ℕ → ℕ → Cursor → List Call
calls s room = said (call s room) (length s + 2)

-- An answer of the definition as a call gives it.
abbrev pub call_of : def.Answer → Call
call_of a = record { answer = next_of a; left = left_by a }
