-- A job that goes on has fewer turns left, and served on its own bytes it is told what is said of them read alone. Assumes nothing.
use Prim.Native.Nat.{ℕ, zero, suc, ◌+◌, ◌-◌, ◌/◌, ◌<◌}
use mathlib.Core.Bool.{true}
use mathlib.Core.List.{List, ◌∷◌, map}
use Rattle.std.specs.Prelude.{Option, None, Some, Result, Ok, Err}
use mathlib.Core.Path.{◌≡◌, refl, ap, sym, subst}
use native.Mathlib.Omega.{arith}
use borrow.Author.Tests.{le-leb, leb-true}
use lib.ListN.{length, take, drop, length-take, length-drop}
use Rattle.dimacs.specs.Names.{kind_of, own_room}
use Rattle.dimacs.specs.Lined.{lined}
use Rattle.dimacs.specs.Header.{opening_of, unlimited, limits_of}
use Rattle.dimacs.specs.Clauses as def
use Rattle.dimacs.specs.Texts as texts
use Rattle.dimacs.specs.declared.Format.{Format}
use Rattle.dimacs.specs.declared.Kind.{Kind}
use Rattle.dimacs.specs.declared.Kind.TheVariants.{Clauses, Log}
use Rattle.dimacs.specs.declared.Mode.{Mode}
use Rattle.dimacs.specs.declared.Ends.{Ends}
use Rattle.dimacs.specs.declared.Limits.{Limits}
use Rattle.dimacs.specs.declared.Progress.{Progress}
use Rattle.dimacs.specs.declared.Opening.{Opening}
use Rattle.dimacs.specs.declared.Opening.TheVariants as how
use Rattle.dimacs.specs.declared.Refusal.{Refusal}
use Rattle.dimacs.proofs.Loops.{and_on}
use Rattle.dimacs.proofs.Tests.{tested}
use Rattle.dimacs.proofs.Clauses.{to_come}
use Rattle.dimacs.proofs.Texts.{answers_step}
use Rattle.clause.specs.Answers.{Next, next_of}
use Rattle.formula.specs.Cursors.{cursor_of, opened_by, opened_as, cursor_after, step_of}
use Rattle.formula.specs.declared.Cursor.{Cursor}
use Rattle.formula.proofs.Runs.{CallLeads, call_leads}
use Rattle.rota.specs.Rota.{Entry, bad, good, Served, serves}
use Rattle.rota.proofs.Tickets.{Lawful}
use Rattle.rota.proofs.Alone.{Whole, last, whole_more}
use Rattle.service.specs.declared.Stage.{Stage}
use Rattle.service.specs.declared.Stage.TheVariants as stage
use Rattle.ring.specs.declared.Job.{Job}
use Rattle.ring.specs.Ring.{job_of, goes_on}
use Rattle.service.specs.Serving.{within, Reply, opening, answering, opening_goes, next_goes, serving, served_part}
use Rattle.tray.specs.Calls.{Put, serve}
use Rattle.fairness.specs.Promises.{Lent, Holds, said_alone}
use Rattle.fairness.proofs.Desk.{entry_by, goes_by, served_by, desk}

-- The turns that a job of n bytes may need after its next one.
abbrev pub turns_left : ℕ → Stage → ℕ
turns_left n (stage.Fresh f m) = 1 + (n + 1) / 2
turns_left n (stage.Reading c) = (n + 1 - c.progress.place) / 2

abbrev pub turns_left_of : Job → ℕ
turns_left_of j = turns_left j.part.length j.stage

never : {X A : Type 0} {x : A} → ◌≡◌ {A = Option A} None (Some x) → X
never h = absurd (cc)

serving_falls : (s : List ℕ) (x : Stage) (c : Cursor) → (serving s own_room x).goes ≡ Some c → turns_left (length s) (stage.Reading c) < turns_left (length s) x
unfolding serving opened_as
serving_falls s (stage.Fresh f m) c h = omega arith
serving_falls s (stage.Reading x) c h = go (step_of s own_room x).cursor (step_of s own_room x).answer (call_leads s own_room x) h
  where
    go : (y : Cursor) (a : Next) → CallLeads s own_room x y a → next_goes y a ≡ Some c → to_come s c.progress.place < to_come s x.progress.place
    go y (Ok (Some k)) l g = let e : y ≡ c = cc in subst (λ z. to_come s z.progress.place < to_come s x.progress.place) e l.1
    go y (Ok None) l g = never g
    go y (Err r) l g = never g

-- A job's own part of an area.
abbrev part : Job → List ℕ → List ℕ
part j area = take j.part.length (drop j.part.start area)

-- A job goes on with a cursor, and its part was within the area.
record GoesOn (j : Job) (area : List ℕ) (j' : Job) : Type 0 where
  cursor : Cursor
  is : j' ≡ goes_on j cursor
  size : length (part j area) ≡ j.part.length
  served : (serving (part j area) own_room j.stage).goes ≡ Some cursor

serve_goes : (j : Job) (e : Lent) (j' : Job) → (desk.serve j e).goes ≡ Some j' → GoesOn j e.area j'
unfolding serve served_part
serve_goes j e j' h =
    tested (within j.part.start j.part.length (length e.area))
    (λ w.
    let l = leb-true (j.part.start + j.part.length) (length e.area) w in
    go (serving (part j e.area) own_room j.stage).goes refl (simp (length-take, length-drop) (omega arith)) (rw w at h))
    (λ w. never (rw w at h))
  where
    go : (g : Option Cursor) → (serving (part j e.area) own_room j.stage).goes ≡ g → length (part j e.area) ≡ j.part.length → goes_by j g ≡ Some j' → GoesOn j e.area j'
    go None q n g = never g
    go (Some c) q n g = record { cursor = c; is = let k : goes_on j c ≡ j' = cc in sym k; size = n; served = q }

pub falls : (j : Job) (e : Lent) (j' : Job) → (desk.serve j e).goes ≡ Some j' → turns_left_of j' < turns_left_of j
falls j e j' h =
    let g = serve_goes j e j' h in
    subst (λ x. turns_left_of x < turns_left_of j) (sym g.is)
    (subst (λ n. turns_left n (stage.Reading g.cursor) < turns_left n j.stage) g.size (serving_falls (part j e.area) j.stage g.cursor g.served))

-- A job names the put's part of the area.
abbrev pub PartOf : Put → Job → Type 0
PartOf p j = (j.part.start ≡ p.start) × (j.part.length ≡ p.length)

pub lasts : (p : Put) (j : Job) (e : Lent) (j' : Job) → PartOf p j → (desk.serve j e).goes ≡ Some j' → PartOf p j'
lasts p j e j' o h = subst (PartOf p) (sym (serve_goes j e j' h).is) o

-- A put that makes a job names a format and a mode, in which the job begins.
pub record Begins (p : Put) (make : ℕ → Job) : Type 0 where
  pub format : Format
  pub mode : Mode
  pub kind_known : kind_of p.format p.mode ≡ Some (Clauses format mode)
  pub is : make ≡ (λ k. job_of k p.start p.length (stage.Fresh format mode))

pub entry_begins : (p : Put) (make : ℕ → Job) → desk.entry p ≡ good make → Begins p make
entry_begins p make h = go (kind_of p.format p.mode) refl h
  where
    not_good : {X : Type 0} (n : ℕ) → ◌≡◌ {A = Entry Job} (bad n) (good make) → X
    not_good n e = absurd (cc)

    go : (x : Option Kind) → kind_of p.format p.mode ≡ x → entry_by p x ≡ good make → Begins p make
    go None q g = not_good _ g
    go (Some (Log m)) q g = not_good _ g
    go (Some (Clauses f m)) q g =
        tested (within p.start p.length p.lent)
        (λ w.
        let e : good (λ k. job_of k p.start p.length (stage.Fresh f m)) ≡ good make = rw w at g in
        let i : (λ k. job_of k p.start p.length (stage.Fresh f m)) ≡ make = cc in
        record { format = f; mode = m; kind_known = q; is = sym i })
        (λ w. not_good _ (rw w at g))

pub lawful : Lawful desk
lawful =
    record {
      made = λ p make h k. ap (λ f. (f k).ticket) (entry_begins p make h).is;
      kept = λ j e j' h. ap (λ x. x.ticket) (serve_goes j e j' h).is;
    }

module _ (bytes : List ℕ) where
  -- A job served on the bytes alone.
  abbrev pub solo : Job → Served Job Reply
  solo j = served_by j (serving bytes own_room j.stage)

  pub alike : (p : Put) (j : Job) (e : Lent) → PartOf p j → Holds p bytes e → desk.serve j e ≡ solo j
  unfolding serve served_part
  alike p j e o h =
      let w : within j.part.start j.part.length (length e.area) ≡ true = rw (o.0, o.1) (le-leb (p.start + p.length) (length e.area) h.within) in
      let s : part j e.area ≡ bytes = rw (o.0, o.1) h.same in
      rw (w, s)

module _ (bytes : List ℕ) (k start size : ℕ) (f : Format) (ends : Ends) where
  -- The job between two turns.
  abbrev between : Limits → Progress → Job
  between limits c = job_of k start size (stage.Reading (cursor_of f ends limits c))

  -- What it is told from a cursor on.
  whole_from : (limits : Limits) (n : ℕ) (c : Progress) → to_come bytes c.place < n
      → Whole (solo bytes) (between limits c) (map answering (texts.answers_from (lined ends bytes) f limits own_room c))
  unfolding serving texts.turn
  whole_from limits zero c h = absurd (omega arith)
  whole_from limits (suc n) c h =
      let d = texts.answer_at (lined ends bytes) f limits own_room c in
      let x = cursor_of f ends limits c in
      rw (answers_step (lined ends bytes) f limits own_room c)
      (told d.place d.answer refl (call_leads bytes own_room x) (λ y l. whole_from limits n y l))
    where
      told : (e : ℕ) (a : def.Answer)
          → solo bytes (between limits c) ≡ serves (answering a) (goes_by (between limits c) (next_goes (cursor_after (cursor_of f ends limits c) e (next_of a)) (next_of a)))
          → CallLeads bytes own_room (cursor_of f ends limits c) (cursor_after (cursor_of f ends limits c) e (next_of a)) (next_of a)
          → ((y : Progress) → to_come bytes y.place < n → Whole (solo bytes) (between limits y) (map answering (texts.answers_from (lined ends bytes) f limits own_room y)))
          → Whole (solo bytes) (between limits c) (map answering (and_on (texts.turn_by (texts.settled_by c.count e (texts.final_of a)) a) (texts.answers_from (lined ends bytes) f limits own_room)))
      told e (def.clause extra so) q l ih = whole_more (solo bytes) q (ih (texts.settled_by c.count e (texts.final_of (def.clause extra so))) (omega (arith, l.1)))
      told e def.ended q l ih = last q
      told e (def.refused r so) q l ih = last q

module _ (bytes : List ℕ) (k start size : ℕ) (f : Format) where
  pub whole : (m : Mode) → Whole (solo bytes) (job_of k start size (stage.Fresh f m)) (said_alone f m bytes)
  unfolding serving opened_as texts.text
  whole m = go (opening_of read f) refl
    where
      read : List ℕ
      read = lined m.ends bytes

      job : Job
      job = job_of k start size (stage.Fresh f m)

      from : (limits : Limits) (p : ℕ) → Whole (solo bytes) (between bytes k start size f m.ends limits (texts.begin p)) (map answering (texts.answers_from read f limits own_room (texts.begin p)))
      from limits p = whole_from bytes k start size f m.ends limits (suc (to_come bytes p)) (texts.begin p) (omega arith)

      go : (o : Result Opening Refusal) → solo bytes job ≡ serves (opening o) (goes_by job (opening_goes (opened_by f m o) o))
          → Whole (solo bytes) job (opening (texts.text_by f m.rigor own_room read o).opened ∷ map answering (texts.text_by f m.rigor own_room read o).answers)
      go (Ok (how.Header h p)) q = whole_more (solo bytes) q (from (limits_of f m.rigor h) p)
      go (Ok (how.NoHeader p)) q = whole_more (solo bytes) q (from unlimited p)
      go (Err r) q = last q
