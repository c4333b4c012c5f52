-- A host that opens a text and calls on hears the definition's answers, word for word and literal for literal. Assumes nothing.
use Prim.Native.Nat.{ℕ, ◌≤◌, ◌<◌}
use mathlib.Core.List.{List, [], ◌∷◌, map}
use mathlib.Core.Path.{◌≡◌, refl, ap, sym, subst, ◌∙◌}
use native.Mathlib.Omega.{arith}
use lib.ListN.{length, take, get_or}
use lib.IntN.{ℤ}
use Rattle.std.specs.Prelude.{None, Some, Result, Ok, Err}
use Rattle.dimacs.specs.Names.{call_refusal, log_format, kind_of}
use Rattle.dimacs.specs.declared.Reason.{Reason}
use Rattle.dimacs.specs.declared.Refusal.{Refusal}
use Rattle.dimacs.specs.Lined.{lined}
use Rattle.dimacs.specs.Buffers.{laid}
use Rattle.dimacs.specs.Header.{opening_of}
use Rattle.dimacs.specs.Clauses as def
use Rattle.dimacs.specs.Texts as texts
use Rattle.dimacs.specs.declared.Format.{Format}
use Rattle.dimacs.specs.declared.Mode.{Mode}
use Rattle.dimacs.specs.declared.Kind.TheVariants.{Clauses}
use Rattle.dimacs.specs.declared.Opening.{Opening}
use Rattle.dimacs.specs.declared.Opening.TheVariants as opening
use Rattle.dimacs.proofs.Buffer.{laid_first}
use Rattle.dimacs.proofs.Loops.{and_on}
use Rattle.dimacs.proofs.Clauses.{to_come}
use Rattle.dimacs.proofs.Texts.{answers_step}
use Rattle.clause.specs.Answers.{Next, next_of, left_by}
use Rattle.formula.specs.Cursors.{opened_as, unknown, opened_kind, opened, cursor_after, answer_from, step_of}
use Rattle.formula.specs.Whole.{call_by, call, calls, call_of}
use Rattle.formula.specs.declared.Cursor.{Cursor}
use Rattle.formula.proofs.Runs.{calls_from, calls_of, calls_are_answers, CallLeads, call_leads, steps_fit}
use Rattle.sat_solver_log.specs.Answers.{log_by}
use Rattle.sat_solver_log.proofs.Runs.{parses_fit}
use Rattle.answer_words.specs.Words.{opening_kind, opening_words, next_kind, next_words}
use Rattle.cursor_words.specs.Cursors.{held_cursor}
use Rattle.stepwise.specs.Calls.{Opens, Nexts, Logs}
use Rattle.stepwise.specs.Heard.{Heard, heard, heard_of, Run, goes, stops}

-- One call, and then those from the cursor that it leaves.
calls_step : (s : List ℕ) (room : ℕ) (c : Cursor) → calls s room c ≡ and_on (call s room c) (calls s room)
unfolding texts.turn
calls_step s room c =
    calls_from s c.format c.ends c.limits room c.progress
    ∙ ap (map call_of) (answers_step (lined c.ends s) c.format c.limits room c.progress)
    ∙ go d.place d.answer
  where
    d : def.Answered
    d = answer_from s room c

    go : (e : ℕ) (a : def.Answer)
        → map call_of (and_on (texts.turn_by (texts.settled_by c.progress.count e (texts.final_of a)) a) (texts.answers_from (lined c.ends s) c.format c.limits room))
        ≡ and_on (call_by (call_of a) (cursor_after c e (next_of a)) (next_of a)) (calls s room)
    go e (def.clause extra so) =
        ap (λ l. call_of (def.clause extra so) ∷ l)
        (sym (calls_from s c.format c.ends c.limits room (texts.settled_by c.progress.count e (texts.final_of (def.clause extra so)))))
    go e def.ended = refl
    go e (def.refused r so) = refl

-- What a call tells whose words held a cursor.
record Tells (s : List ℕ) (room : ℕ) (c : Cursor) (after said : List ℕ) (new : List ℤ) (r : ℕ) : Type 0 where
  kind : r ≡ next_kind (step_of s room c).answer
  words : said ≡ next_words (step_of s room c).answer
  again : held_cursor after ≡ (step_of s room c).cursor
  literals : take (get_or said 4 0) new ≡ left_by (answer_from s room c).answer

tells : (s : List ℕ) (room : ℕ) (c : Cursor) {before after said : List ℕ} {old new : List ℤ} {r : ℕ} → length old ≡ room → held_cursor before ≡ c → Nexts s before after old new said r
    → Tells s room c after said new r
tells s room c {before} {after} {said} {old} {new} {r} l e n =
    subst (λ (m : ℕ). Tells s m c after said new r) l
    (subst (λ (x : Cursor). Tells s (length old) x after said new r) e
    (record {
      kind = n.kind;
      words = n.words;
      again = n.cursor.again;
      literals =
          ap (λ x. take (get_or x 4 0) new) n.words
          ∙ ap (take (get_or (next_words (step_of s (length old) (held_cursor before)).answer) 4 0)) n.buffer
          ∙ go (answer_from s (length old) (held_cursor before)).answer;
    }))
  where
    go : (d : def.Answer) → take (get_or (next_words (next_of d)) 4 0) (laid (left_by d) old) ≡ left_by d
    go (def.clause extra so) = laid_first so old
    go def.ended = laid_first [] old
    go (def.refused q so) = laid_first so old

same : {r r' : ℕ} {said said' : List ℕ} {so so' : List ℤ} {l l' : List Heard} → r ≡ r' → said ≡ said' → so ≡ so' → l ≡ l'
    → (record { kind = r; words = said; literals = so } ∷ l) ≡ (record { kind = r'; words = said'; literals = so' } ∷ l')
same h₁ h₂ h₃ h₄ = rw (h₁, h₂, h₃, h₄)

-- What is heard from words on are the calls from the cursor that they hold.
pub run_calls : (s : List ℕ) (room : ℕ) (c : Cursor) (w : List ℕ) (l : List Heard) → held_cursor w ≡ c → Run s room w l → l ≡ map heard_of (calls s room c)
run_calls s room c w l e (goes _ w' said old new l' h n more) =
    let t = tells s room c h e n in
    let d = answer_from s room c in
    go d.place d.answer t.kind t.words t.literals t.again (λ c' e'. run_calls s room c' w' l' e' more)
    ∙ ap (map heard_of) (sym (calls_step s room c))
  where
    go : (p : ℕ) (d : def.Answer) → 1 ≡ next_kind (next_of d) → said ≡ next_words (next_of d) → take (get_or said 4 0) new ≡ left_by d → held_cursor w' ≡ cursor_after c p (next_of d)
        → ((c' : Cursor) → held_cursor w' ≡ c' → l' ≡ map heard_of (calls s room c'))
        → (heard 1 said new ∷ l') ≡ map heard_of (and_on (call_by (call_of d) (cursor_after c p (next_of d)) (next_of d)) (calls s room))
    go p (def.clause extra so) h₁ h₂ h₃ h₄ rest = same h₁ h₂ h₃ (rest _ h₄)
    go p def.ended h₁ h₂ h₃ h₄ rest = absurd (omega arith)
    go p (def.refused q so) h₁ h₂ h₃ h₄ rest = absurd (omega arith)
run_calls s room c w l e (stops _ w' said old new r h n other) =
    let t = tells s room c h e n in
    let d = answer_from s room c in
    go d.place d.answer t.kind t.words t.literals
    ∙ ap (map heard_of) (sym (calls_step s room c))
  where
    go : (p : ℕ) (d : def.Answer) → r ≡ next_kind (next_of d) → said ≡ next_words (next_of d) → take (get_or said 4 0) new ≡ left_by d
        → (heard r said new ∷ []) ≡ map heard_of (and_on (call_by (call_of d) (cursor_after c p (next_of d)) (next_of d)) (calls s room))
    go p (def.clause extra so) h₁ h₂ h₃ = absurd (other h₁)
    go p def.ended h₁ h₂ h₃ = same h₁ h₂ h₃ refl
    go p (def.refused q so) h₁ h₂ h₃ = same h₁ h₂ h₃ refl

-- What a host hears that opens a text by the numbers of a format and a mode is how the text opens by the definition.
pub opening_is_answer : (f m : ℕ) (format : Format) (mode : Mode) (s : List ℕ) (room : ℕ) {w said : List ℕ} {r : ℕ} → kind_of f m ≡ Some (Clauses format mode) → Opens f m s w said r
    → let o = (texts.text format mode room s).opened in (r ≡ opening_kind o) × (said ≡ opening_words o)
unfolding opened_as texts.text
opening_is_answer f m format mode s room k o =
    let read = lined mode.ends s in
    let q : (opened f m s).opening ≡ (texts.text format mode room s).opened = ap (λ x. (opened_kind x s).opening) k ∙ go read (opening_of read format) in
    (o.kind ∙ ap opening_kind q, o.words ∙ ap opening_words q)
  where
    go : (read : List ℕ) (x : Result Opening Refusal) → x ≡ (texts.text_by format mode.rigor room read x).opened
    go read (Ok (opening.Header h at)) = refl
    go read (Ok (opening.NoHeader at)) = refl
    go read (Err q) = refl

-- A host that opens a text by the numbers of a format and a mode, and calls on, hears the definition's answers, or the header's refusal.
pub heard_are_answers : (f m : ℕ) (format : Format) (mode : Mode) (s : List ℕ) (room : ℕ) {w said : List ℕ} {r : ℕ} {l : List Heard} → kind_of f m ≡ Some (Clauses format mode)
    → Opens f m s w said r → Run s room w l → l ≡ map heard_of (calls_of (texts.text format mode room s).opened (texts.text format mode room s).answers)
heard_are_answers f m format mode s room {w} {said} {r} {l} k o run =
    let q : opened f m s ≡ opened_as format mode s = ap (λ x. opened_kind x s) k in
    run_calls s room (opened_as format mode s).cursor w l (o.cursor.again ∙ ap (λ x. x.cursor) q) run ∙ ap (map heard_of) (calls_are_answers format mode room s)

-- Where words hold the cursor that repeats refusal 26, as zeros do and those of a text that was opened by unknown numbers, that refusal is heard, and nothing else.
pub unknown_heard : (s : List ℕ) (room : ℕ) {w : List ℕ} {l : List Heard} → held_cursor w ≡ unknown.cursor → Run s room w l
    → l ≡ heard_of (call_of (def.refused (call_refusal Reason.FormatOrModeUnknown 0) [])) ∷ []
unfolding texts.answer_at
unknown_heard s room {w} {l} e run = run_calls s room unknown.cursor w l e run ∙ ap (map heard_of) (calls_step s room unknown.cursor)

-- No answer counts more literals than the buffer holds.
pub next_fits : {s before after said : List ℕ} {old new : List ℤ} {r : ℕ} → Nexts s before after old new said r → get_or said 4 0 ≤ length old
next_fits {s} {before} {old = old} n =
    subst (λ (x : List ℕ). get_or x 4 0 ≤ length old) (sym n.words)
    (steps_fit s (held_cursor before) old _ (step_of s (length old) (held_cursor before)) (record { answer = refl; buffer = refl }) refl)

pub log_fits : {m : ℕ} {s said : List ℕ} {old new : List ℤ} {r : ℕ} → Logs m s old new said r → get_or said 4 0 ≤ length new
log_fits {m} {s} {old = old} {new = new} l =
    subst (λ (x : List ℕ). get_or x 4 0 ≤ length new) (sym l.words)
    (parses_fit {d = log_by (kind_of log_format m) s (length old)} {old = old} (record { answer = refl; buffer = l.buffer }) refl)

-- A clause leaves fewer to come, so that a host that calls on comes to an end.
pub clause_lowers : {s before after said : List ℕ} {old new : List ℤ} {r : ℕ} → r ≡ 1 → Nexts s before after old new said r
    → to_come s (held_cursor after).progress.place < to_come s (held_cursor before).progress.place
clause_lowers {s} {before} {old = old} is n =
    subst (λ (x : Cursor). to_come s x.progress.place < to_come s (held_cursor before).progress.place) (sym n.cursor.again)
    (go (step_of s (length old) (held_cursor before)).answer (sym is ∙ n.kind) (call_leads s (length old) (held_cursor before)))
  where
    to : Cursor
    to = (step_of s (length old) (held_cursor before)).cursor

    go : (x : Next) → 1 ≡ next_kind x → CallLeads s (length old) (held_cursor before) to x → to_come s to.progress.place < to_come s (held_cursor before).progress.place
    go (Ok (Some x)) e h = h.1
    go (Ok None) e h = absurd (omega arith)
    go (Err x) e h = absurd (omega arith)
