-- What calls come to: each promise has one answer, the calls of a text are its answers, and each clause leaves fewer to come. Assumes nothing.
use Prim.Native.Nat.{ℕ, ◌+◌, ◌/◌, ◌≤◌, ◌<◌}
use mathlib.Core.List.{List, [], ◌∷◌, map}
use mathlib.Core.Path.{◌≡◌, refl, ap, sym, ◌∙◌, subst}
use native.Mathlib.Omega.{arith}
use lib.ListN.{length}
use lib.IntN.{ℤ}
use Rattle.dimacs.specs.Names.{own_room}
use Rattle.dimacs.specs.Lined.{lined}
use Rattle.dimacs.specs.Header.{opening_of, unlimited, limits_of}
use Rattle.dimacs.specs.Clauses as def
use Rattle.dimacs.specs.Texts as texts
use Rattle.dimacs.specs.declared.Format.{Format}
use Rattle.dimacs.specs.declared.Mode.{Mode}
use Rattle.dimacs.specs.declared.Ends.{Ends}
use Rattle.dimacs.specs.declared.Limits.{Limits}
use Rattle.dimacs.specs.declared.Progress.{Progress}
use Rattle.dimacs.specs.declared.Refusal.{Refusal}
use Rattle.dimacs.specs.declared.Opening.{Opening}
use Rattle.dimacs.specs.declared.Opening.TheVariants as opening
use Rattle.dimacs.proofs.Loops.{and_on, carried, said_carried}
use Rattle.dimacs.proofs.Lined.{lined-length}
use Rattle.dimacs.proofs.Clauses.{to_come, Placed, AnswerFits}
use Rattle.dimacs.proofs.Texts.{next_clause_onward, answers_step, answer_fits}
use Rattle.clause.specs.Answers.{Next, next_of, number_in, place_in, spot_in, k_in}
use Rattle.std.specs.Prelude.{Option, Some, None, Result, Ok, Err}
use Rattle.formula.specs.declared.Cursor.{Cursor}
use Rattle.formula.specs.declared.Stepped.{Stepped}
use Rattle.formula.specs.Openings as openings
use Rattle.formula.specs.Cursors.{cursor_of, opened_by, opened_as, opened, cursor_after, step_of, Steps}
use Rattle.formula.specs.Whole.{outcome_by, outcome_of_text, outcome_in, outcome_from, Call, call_by, call, calls, call_of}

-- Two permitted answers of a call are equal, and so are the buffers after them.
pub one_step : {s : List ℕ} {c : Cursor} {old n₁ n₂ : List ℤ} {r₁ r₂ : Stepped} → Steps s c old n₁ r₁ → Steps s c old n₂ r₂ → (r₁ ≡ r₂) × (n₁ ≡ n₂)
one_step p q = (p.answer ∙ sym q.answer, p.buffer ∙ sym q.buffer)

-- The calls from a cursor are the answers from it.
call_carried : (s : List ℕ) (f : Format) (rule : Ends) (limits : Limits) (room : ℕ) (c : Progress)
    → call s room (cursor_of f rule limits c) ≡ carried (cursor_of f rule limits) call_of (texts.turn (lined rule s) f limits room c)
unfolding texts.turn
call_carried s f rule limits room c = let d = texts.answer_at (lined rule s) f limits room c in go d.place d.answer
  where
    go : (e : ℕ) (a : def.Answer)
        → call_by (call_of a) (cursor_after (cursor_of f rule limits c) e (next_of a)) (next_of a)
        ≡ carried (cursor_of f rule limits) call_of (texts.turn_by (texts.settled_by c.count e (texts.final_of a)) a)
    go e (def.clause extra so) = refl
    go e def.ended = refl
    go e (def.refused r so) = refl

pub calls_from : (s : List ℕ) (f : Format) (rule : Ends) (limits : Limits) (room : ℕ) (c : Progress)
    → calls s room (cursor_of f rule limits c) ≡ map call_of (texts.answers_from (lined rule s) f limits room c)
unfolding calls texts.answers_from
calls_from s f rule limits room c =
    rw (lined-length rule s)
    (said_carried (texts.turn (lined rule s) f limits room) (call s room) (cursor_of f rule limits) call_of (call_carried s f rule limits room) (length s + 2) c)

-- What calling `next_clause` from `open` on gives: the definition's answers, or the header's refusal.
abbrev pub calls_of : Result Opening Refusal → List def.Answer → List Call
calls_of (Ok (opening.Header h at)) l = map call_of l
calls_of (Ok (opening.NoHeader at)) l = map call_of l
calls_of (Err r) l = call_of (def.refused r []) ∷ []

pub calls_are_answers : (f : Format) (m : Mode) (room : ℕ) (s : List ℕ)
    → calls s room (opened_as f m s).cursor ≡ calls_of (texts.text f m room s).opened (texts.text f m room s).answers
unfolding opened_as texts.text texts.turn texts.answer_at
calls_are_answers f m room s = go (opening_of read f)
  where
    read : List ℕ
    read = lined m.ends s

    go : (o : Result Opening Refusal) → let t = texts.text_by f m.rigor room read o in calls s room (opened_by f m o) ≡ calls_of t.opened t.answers
    go (Ok (opening.Header h at)) = calls_from s f m.ends (limits_of f m.rigor h) room (texts.begin at)
    go (Ok (opening.NoHeader at)) = calls_from s f m.ends unlimited room (texts.begin at)
    go (Err r) =
        let c = texts.progress r.place 0 (Some (Err r)) in
        calls_from s f m.ends unlimited room c ∙ ap (map call_of) (answers_step read f unlimited room c)

-- After a refused header each call for a clause answers its number, place, line and column, and k.
pub header_repeated : (f : Format) (m : Mode) (s : List ℕ) (room : ℕ) (r : Refusal) → let o = opened_as f m s in let a = (step_of s room o.cursor).answer in
    o.opening ≡ Err r
    → (number_in a ≡ openings.number_in o.opening) × (place_in a ≡ openings.place_in o.opening) × (spot_in a ≡ openings.spot_in o.opening) × (k_in a ≡ openings.k_in o.opening)
unfolding opened_as texts.answer_at
header_repeated f m s room r h = rw h (refl, refl, refl, refl)

-- A call leads on: after a clause the text comes to the same and fewer clauses are to come; any other answer is what it comes to.
abbrev pub CallLeads : List ℕ → ℕ → Cursor → Cursor → Next → Type 0
CallLeads s room c c' (Ok (Some x)) =
    (outcome_from s room c ≡ outcome_from s room c') × (to_come s c'.progress.place < to_come s c.progress.place)
CallLeads s room c c' (Ok None) = outcome_from s room c ≡ Ok tt
CallLeads s room c c' (Err x) = outcome_from s room c ≡ Err x.refusal

leads_at : (s : List ℕ) (room : ℕ) (f : Format) (rule : Ends) (limits : Limits) (at count : ℕ) (l : Option (Result Unit Refusal))
    → let c = cursor_of f rule limits (texts.progress at count l) in CallLeads s room c (step_of s room c).cursor (step_of s room c).answer
unfolding texts.answer_at texts.turn outcome_by
leads_at s room f rule limits at count None =
    let d = texts.next_clause read f limits room count at in
    go d.place d.answer (next_clause_onward read f limits room count at) (ap outcome_by (answers_step read f limits room here))
  where
    read : List ℕ
    read = lined rule s

    here : Progress
    here = texts.progress at count None

    go : (e : ℕ) (a : def.Answer) → Placed read at e a
        → outcome_by (texts.answers_from read f limits room here) ≡ outcome_by (and_on (texts.turn_by (texts.settled_by count e (texts.final_of a)) a) (texts.answers_from read f limits room))
        → CallLeads s room (cursor_of f rule limits here) (cursor_after (cursor_of f rule limits here) e (next_of a)) (next_of a)
    go e (def.clause extra so) h k = (k, rw (lined-length rule s) at h.fewer)
    go e def.ended h k = k
    go e (def.refused r so) h k = k
leads_at s room f rule limits at count (Some (Ok u)) = refl
leads_at s room f rule limits at count (Some (Err r)) = refl

pub call_leads : (s : List ℕ) (room : ℕ) (c : Cursor) → CallLeads s room c (step_of s room c).cursor (step_of s room c).answer
call_leads s room c = leads_at s room c.format c.ends c.limits c.progress.place c.progress.count c.progress.last

-- The same of a call as its contract has it.
pub steps_lead : (s : List ℕ) (c : Cursor) (old new : List ℤ) (r : Stepped) (room : ℕ) → length old ≡ room → Steps s c old new r
    → {a : Next} → r.answer ≡ a → CallLeads s room c r.cursor a
steps_lead s c old new r room l p {a} g =
    subst (CallLeads s room c r.cursor) g
    (subst (λ n. CallLeads s n c r.cursor r.answer) l
    (subst (λ x. CallLeads s (length old) c x.cursor x.answer) (sym p.answer) (call_leads s (length old) c)))

-- The literals that an answer counts are at most so many.
abbrev pub CountFits : ℕ → Next → Type 0
CountFits room a = k_in a ≤ room

pub steps_fit : (s : List ℕ) (c : Cursor) (old new : List ℤ) (r : Stepped) → Steps s c old new r → {a : Next} → r.answer ≡ a → CountFits (length old) a
steps_fit s c old new r p g =
    let read = lined c.ends s in
    let d = texts.answer_at read c.format c.limits (length old) c.progress in
    subst (CountFits (length old)) (sym (ap (λ x. x.answer) p.answer) ∙ g) (go d.answer (answer_fits read c.format c.limits (length old) c.progress))
  where
    go : (a : def.Answer) → AnswerFits (length old) a → CountFits (length old) (next_of a)
    go (def.clause extra so) h = h
    go def.ended h = omega arith
    go (def.refused q so) h = h

-- Opening leaves at most (n + 1) / 2 clauses to come.
pub opened_few : (f m : ℕ) (s : List ℕ) → to_come s (opened f m s).cursor.progress.place ≤ (length s + 1) / 2
opened_few f m s = omega arith

-- What a text comes to is what its opened cursor comes to.
pub opened_outcome : (f : Format) (m : Mode) (s : List ℕ) → outcome_from s own_room (opened_as f m s).cursor ≡ outcome_in f m s
unfolding outcome_in opened_as texts.text
opened_outcome f m s = go (opening_of (lined m.ends s) f)
  where
    go : (o : Result Opening Refusal) → let t = texts.text_by f m.rigor own_room (lined m.ends s) o in outcome_from s own_room (opened_by f m o) ≡ outcome_of_text t.opened t.answers
    go (Ok (opening.Header h at)) = refl
    go (Ok (opening.NoHeader at)) = refl
    go (Err r) = refl
