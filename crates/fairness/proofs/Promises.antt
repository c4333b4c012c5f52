-- The tray keeps its promises: what holds of the round holds of the record, over any calls from the fresh one. Assumes nothing.
use Prim.Native.Nat.{ℕ, ◌+◌, ◌-◌, ◌%◌, ◌≤◌, ◌<◌}
use mathlib.Core.Bool.{Bool}
use mathlib.Core.List.{List, [], ◌∷◌}
use mathlib.Core.Path.{◌≡◌, refl, ap, sym, ◌∙◌, subst}
use native.Mathlib.Omega.{arith}
use borrow.Author.Tests.{leb-false}
use lib.ListN.{length, length-set}
use lib.Dec.{leb, ltb}
use lib.IntN.{ℤ}
use Rattle.dimacs.specs.Names.{kind_of, largest, own_room, places}
use Rattle.dimacs.specs.declared.Format.{Format}
use Rattle.dimacs.specs.declared.Kind.{Kind}
use Rattle.dimacs.specs.declared.Kind.TheVariants.{Clauses, Log}
use Rattle.dimacs.specs.declared.Mode.{Mode}
use Rattle.dimacs.proofs.Tests.{tested}
use Rattle.rota.specs.Rota as rota
use Rattle.rota.specs.Rota.{Call, put, turn, withdraw, Answer, refused, ticketed, told, withdrawn, Done, does, answers, finally, heard, Round, fresh}
use Rattle.rota.proofs.Account.{account, in_order}
use Rattle.rota.proofs.Tickets.{Sound, sound, sound_call}
use Rattle.rota.proofs.Gone as gone
use Rattle.rota.proofs.Gone.{told_done_with, withdrawn_done_with}
use Rattle.rota.proofs.Waiting.{Stands}
use Rattle.rota.proofs.Fair.{put_stands, fair}
use Rattle.rota.proofs.Alone.{alone}
use Rattle.std.specs.Prelude.{Option, None, Some}
use Rattle.formula.specs.declared.Cursor.{Cursor}
use Rattle.service.specs.declared.Stage.TheVariants as stage
use Rattle.ring.specs.declared.Job.{Job}
use Rattle.ring.specs.declared.Tray.{Tray}
use Rattle.ring.specs.Ring.{job_of, empty_tray, how_many, waiting, place_behind, front_of, joined, goes_on, passed, ahead, taken_out}
use Rattle.service.specs.Serving.{within, Reply}
use Rattle.tray.specs.Calls.{Put, ticket_given, entered, put_as, serve, turn_for, turn_of, buffer_for, buffer_of, Turns, withdraw_of}
use Rattle.tray.specs.declared.Done as tray_done
use Rattle.tray.specs.declared.Told.{Told}
use Rattle.tray.specs.Answers.{put_says, turn_says, withdraw_says}
use Rattle.tray.proofs.Tells.{number_alone}
use Rattle.fairness.specs.Promises.{Lent, Calls, did, BufferKept, Refusals, answered, left, then_put, since, Holds, said_alone, Account, Tickets, EnoughPlaces, Bound, Content, Demand, DoneWith, Silence, Withdrawn}
use Rattle.fairness.proofs.Rings.{length-ring, length_moved}
use Rattle.fairness.proofs.Desk.{view, desk, call_is}
use Rattle.fairness.proofs.Reader.{turns_left_of, falls, PartOf, lasts, entry_begins, lawful, solo, alike, whole}

-- Whatever keeps the contract of `turn` is the turn of which the promises speak.
pub turn_did : {t : Tray} {area : List ℕ} {old new : List ℤ} {r : tray_done.Done Told} → Turns t area old new r
    → does (turn_says new r.answer) r.tray ≡ did t (turn (record { area = area; buffer = old }))
turn_did h = rw (h.done, h.buffer)

put_refused : (t : Tray) (p : Put) (x : Option Kind) (n : ℕ) → put_says (put_as t p x).answer ≡ refused n → (put_as t p x).tray ≡ t
unfolding entered
put_refused t p None n h = refl
put_refused t p (Some (Log m)) n h = refl
put_refused t p (Some (Clauses f m)) n h =
    tested (within p.start p.length p.lent)
    (λ w. tested (leb places t.count) (λ a. rw (w, a)) (λ a. tested (leb largest t.given) (λ b. rw (w, a, b)) (λ b. given (rw (w, a, b) at h))))
    (λ w. rw w)
  where
    given : {X : Type 0} {k : ℕ} → ◌≡◌ {A = Answer Reply} (ticketed k) (refused n) → X
    given e = absurd (cc)

turn_refused : (t : Tray) (e : Lent) (n : ℕ) → (did t (turn e)).answer ≡ refused n → ((did t (turn e)).after ≡ t) × BufferKept t (turn e)
unfolding turn_of buffer_of
turn_refused t e n h = go (front_of (waiting t)) h
  where
    given : {X : Type 0} {k : ℕ} {a : Reply} {b : Bool} → ◌≡◌ {A = Answer Reply} (told k a b) (refused n) → X
    given e = absurd (cc)

    go : (x : Option Job) → let d = turn_for t e.area (length e.buffer) x in let new = buffer_for e.area e.buffer x in
        turn_says new d.answer ≡ refused n → (d.tray ≡ t) × (new ≡ e.buffer)
    go None k = (refl, refl)
    go (Some j) k =
        tested (ltb (length e.buffer) own_room) (λ b. rw b (refl, refl))
        (λ b. given (rw b at k))

withdraw_refused : (t : Tray) (k n : ℕ) → withdraw_says (withdraw_of t k).answer ≡ refused n → (withdraw_of t k).tray ≡ t
unfolding withdraw_of taken_out
withdraw_refused t k n h = tested (ltb (ahead k (waiting t)) (how_many t)) (λ a. gone (rw a at h)) (λ a. rw a)
  where
    gone : {X : Type 0} → ◌≡◌ {A = Answer Reply} (withdrawn k) (refused n) → X
    gone e = absurd (cc)

pub tray_refusals : Refusals
tray_refusals t (put p) n h = (number_alone (did t (put p)).answer n h, put_refused t p (kind_of p.format p.mode) n h, tt)
tray_refusals t (turn e) n h = let k = turn_refused t e n h in (number_alone (did t (turn e)).answer n h, k.0, k.1)
tray_refusals t (withdraw k) n h = (number_alone (did t (withdraw k)).answer n h, withdraw_refused t k n h, tt)

-- A call leaves all the places, and counts no more jobs than there are, if it found no more.
record Fits (t u : Tray) : Type 0 where
  size : length u.jobs ≡ length t.jobs
  count : t.count ≤ places → u.count ≤ places

fits_same : {t : Tray} → Fits t t
fits_same = record { size = refl; count = λ h. h }

fits_joined : (t : Tray) (j : Job) → Fits t (joined t j)
unfolding joined
fits_joined t j =
    tested (leb places t.count) (λ a. rw a fits_same)
    (λ a. rw a (record { size = length-set t.jobs (place_behind t t.count) j; count = λ h. omega (arith, leb-false places t.count a) }))

fits_passed : (t : Tray) (j : Job) (g : Option Cursor) → Fits t (passed t j g)
fits_passed t j (Some c) = record { size = length-set t.jobs (place_behind t (how_many t)) (goes_on j c); count = λ h. omega arith }
fits_passed t j None = record { size = refl; count = λ h. omega arith }

fits_put : (t : Tray) (p : Put) (x : Option Kind) → Fits t (put_as t p x).tray
unfolding entered
fits_put t p None = fits_same
fits_put t p (Some (Log m)) = fits_same
fits_put t p (Some (Clauses f m)) =
    tested (within p.start p.length p.lent)
    (λ w. tested (leb places t.count) (λ a. rw (w, a) fits_same)
    (λ a. tested (leb largest t.given) (λ b. rw (w, a, b) fits_same)
    (λ b. let h = fits_joined (ticket_given t (t.given + 1)) (job_of (t.given + 1) p.start p.length (stage.Fresh f m)) in
    rw (w, a, b) (record { size = h.size; count = h.count }))))
    (λ w. rw w fits_same)

fits_turn : (t : Tray) (e : Lent) (x : Option Job) → Fits t (turn_for t e.area (length e.buffer) x).tray
fits_turn t e None = fits_same
fits_turn t e (Some j) =
    tested (ltb (length e.buffer) own_room) (λ b. rw b fits_same)
    (λ b. rw b (fits_passed t j (serve e.area j).goes))

fits_call : (t : Tray) (c : Call Put Lent) → Fits t (did t c).after
unfolding turn_of withdraw_of taken_out
fits_call t (put p) = fits_put t p (kind_of p.format p.mode)
fits_call t (turn e) = fits_turn t e (front_of (waiting t))
fits_call t (withdraw k) =
    let i = ahead k (waiting t) in
    tested (ltb i (how_many t))
    (λ a. rw a (record { size = length_moved (how_many t - (i + 1)) t.jobs (t.head % places) i; count = λ h. omega arith }))
    (λ a. rw a fits_same)

-- Any calls on a record are those calls on the round for which it stands.
answers_are : (cs : Calls) (t : Tray) → length t.jobs ≡ places → answers did t cs ≡ answers (rota.call desk) (view t) cs
answers_are [] t l = refl
answers_are (c ∷ cs) t l =
    let e = call_is t l c in
    let r = answers_are cs (did t c).after ((fits_call t c).size ∙ l) in
    rw r (ap (λ d. d.answer ∷ answers (rota.call desk) d.after cs) e)

finally_is : (cs : Calls) (t : Tray) → length t.jobs ≡ places → view (finally did t cs) ≡ finally (rota.call desk) (view t) cs
finally_is [] t l = refl
finally_is (c ∷ cs) t l = finally_is cs (did t c).after ((fits_call t c).size ∙ l) ∙ ap (λ d. finally (rota.call desk) d.after cs) (call_is t l c)

length-finally : (cs : Calls) (t : Tray) → length t.jobs ≡ places → length (finally did t cs).jobs ≡ places
length-finally [] t l = l
length-finally (c ∷ cs) t l = length-finally cs (did t c).after ((fits_call t c).size ∙ l)

count_finally : (cs : Calls) (t : Tray) → t.count ≤ places → (finally did t cs).count ≤ places
count_finally [] t h = h
count_finally (c ∷ cs) t h = count_finally cs (did t c).after ((fits_call t c).count h)

empty_places : length empty_tray.jobs ≡ places
unfolding empty_tray
empty_places = refl

empty_count : empty_tray.count ≤ places
unfolding empty_tray
empty_count = omega arith

empty_fresh : view empty_tray ≡ fresh
unfolding empty_tray
empty_fresh = refl

answered_are : (cs : Calls) → answered cs ≡ answers (rota.call desk) fresh cs
answered_are cs = answers_are cs empty_tray empty_places ∙ ap (λ v. answers (rota.call desk) v cs) empty_fresh

left_is : (cs : Calls) → view (left cs) ≡ finally (rota.call desk) fresh cs
left_is cs = finally_is cs empty_tray empty_places ∙ ap (λ v. finally (rota.call desk) v cs) empty_fresh

left_places : (cs : Calls) → length (left cs).jobs ≡ places
left_places cs = length-finally cs empty_tray empty_places

pub tray_account : Account
tray_account cs = let w = ap (λ v. length v.waiting) (left_is cs) in rw (answered_are cs) (omega (arith, account desk cs))

pub tray_tickets : Tickets
tray_tickets cs = rw (answered_are cs) (in_order desk cs)

pub tray_enough_places : EnoughPlaces
tray_enough_places cs =
    let t = left cs in
    let h = count_finally cs empty_tray empty_count in
    record { within = h; all = omega (arith, h, length-ring t.jobs t.head (how_many t)) }

done_with : (before : Calls) (k : ℕ) → gone.DoneWith desk k (finally (rota.call desk) fresh before) → DoneWith before k
done_with before k d =
    record {
      unheard = λ after. ap (heard k) (answers_are after t (left_places before) ∙ ap (λ v. answers (rota.call desk) v after) (left_is before)) ∙ d.unheard after;
      not_waiting = λ after.
          ap (λ x. x.answer)
          (call_is (finally did t after) (length-finally after t (left_places before)) (withdraw k)
          ∙ ap (λ v. rota.call desk v (withdraw k)) (finally_is after t (left_places before) ∙ ap (λ v. finally (rota.call desk) v after) (left_is before))
          ∙ d.not_waiting after);
    }
  where
    t : Tray
    t = left before

pub tray_silence : Silence
tray_silence before k h = done_with before k (told_done_with desk lawful k before (rw (answered_are before) at h))

pub tray_withdrawn : Withdrawn
tray_withdrawn before k h = done_with before k (withdrawn_done_with desk lawful k before (rw (answered_are before) at h))

-- A put that is given a ticket, after any calls, and the round after it.
module _ (before : Calls) (p : Put) where
  abbrev then : Done (Round Job) Reply
  then = rota.call desk (finally (rota.call desk) fresh before) (put p)

  then_is : does (then_put before p).answer (view (then_put before p).after) ≡ then
  then_is = call_is (left before) (left_places before) (put p) ∙ ap (λ v. rota.call desk v (put p)) (left_is before)

  since_are : (after : Calls) → since before p after ≡ answers (rota.call desk) then.after after
  since_are after =
      answers_are after (then_put before p).after ((fits_call (left before) (put p)).size ∙ left_places before)
      ∙ ap (λ d. answers (rota.call desk) d.after after) then_is

  then_sound : Sound desk then.after
  then_sound = sound_call desk lawful (finally (rota.call desk) fresh before) (put p) (sound desk lawful before)

  -- Its job stands last, before its first turn.
  record Waits (k : ℕ) : Type 0 where
    format : Format
    mode : Mode
    kind_known : kind_of p.format p.mode ≡ Some (Clauses format mode)
    ahead_of : ℕ
    below : ahead_of < places
    stands : Stands (job_of k p.start p.length (stage.Fresh format mode)) ahead_of then.after.waiting

  then_waits : (k : ℕ) → (then_put before p).answer ≡ ticketed k → Waits k
  then_waits k h =
      let n = put_stands desk (finally (rota.call desk) fresh before) p k (sym (ap (λ d. d.answer) then_is) ∙ h) in
      let b = entry_begins p n.made.0 n.made.1 in
      record {
        format = b.format;
        mode = b.mode;
        kind_known = b.kind_known;
        ahead_of = n.ahead_of;
        below = n.below;
        stands = subst (λ j. Stands j n.ahead_of then.after.waiting) (n.made.2 ∙ ap (λ f. f k) b.is) n.stands;
      }

pub tray_bound : Bound
tray_bound before p after k h w n =
    let a = then_waits before p k h in
    let e = since_are before p after in
    rw e
    (fair desk lawful turns_left_of falls after (then before p).after (job_of k p.start p.length (stage.Fresh a.format a.mode)) a.ahead_of
    (then_sound before p) a.stands (rw e at w) (omega (arith, a.below, rw e at n)))

pub tray_content : Content
tray_content before p after k f m bytes q h w o =
    let a = then_waits before p k h in
    let e = since_are before p after in
    let known = a.kind_known in
    let i : a.format ≡ f = cc in
    let j : a.mode ≡ m = cc in
    let job = job_of k p.start p.length (stage.Fresh f m) in
    let s : Stands job a.ahead_of (then before p).after.waiting = rw (i, j) at a.stands in
    rw e
    (alone desk lawful (PartOf p) (Holds p bytes) (solo bytes) (lasts p) (alike bytes p) after (then before p).after job a.ahead_of (said_alone f m bytes)
    (refl, refl) (then_sound before p) s (whole bytes k p.start p.length f m) (rw e at w) (rw e at o))

pub tray_demand : Demand
tray_demand before p after k f m bytes q h w o n = (tray_content before p after k f m bytes q h w o).all (tray_bound before p after k h w n)
