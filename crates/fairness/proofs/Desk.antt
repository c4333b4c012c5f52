-- A tray record stands for a round, and each call on the record is the call on that round. Assumes nothing.
use Prim.Native.Nat.{ℕ, zero, suc, ◌+◌, ◌-◌, ◌%◌, ◌<◌, min}
use mathlib.Core.Bool.{true, false, cond}
use mathlib.Core.List.{List, [], ◌∷◌}
use Rattle.std.specs.Prelude.{Option, None, Some, option_map}
use mathlib.Core.Path.{◌≡◌, refl, sym, ap, ◌∙◌}
use native.Mathlib.Omega.{arith}
use borrow.Author.Tests.{leb-true, leb-false, ltb-true, ltb-false, lt-leb, lt-ltb, le-ltb}
use lib.ListN.{length, get_or, set}
use lib.Dec.{leb, ltb, eqb}
use lib.IntN.{ℤ}
use Rattle.dimacs.specs.Names.{number_of, kind_of, largest, own_room, places}
use Rattle.dimacs.specs.declared.Reason.{Reason}
use Rattle.dimacs.specs.Buffers.{laid}
use Rattle.dimacs.specs.declared.Kind.{Kind}
use Rattle.dimacs.specs.declared.Kind.TheVariants.{Clauses, Log}
use Rattle.dimacs.proofs.Tests.{tested}
use Rattle.formula.specs.declared.Cursor.{Cursor}
use Rattle.rota.specs.Rota as rota
use Rattle.rota.specs.Rota.{Call, put, turn, withdraw, told, ticketed, withdrawn, Done, does, Round, round, Entry, bad, good, Desk, waits, without, to_back}
use Rattle.service.specs.declared.Stage.{Stage}
use Rattle.service.specs.declared.Stage.TheVariants as stage
use Rattle.ring.specs.declared.Job.{Job}
use Rattle.ring.specs.declared.Tray.{Tray}
use Rattle.ring.specs.Ring.{ring, job_of, no_job, how_many, waiting, place_behind, joined, goes_on, passed, ahead, taken_out}
use Rattle.tray.specs.declared.Done as tray_done
use Rattle.tray.specs.declared.Told.{Told}
use Rattle.tray.specs.Calls as calls
use Rattle.service.specs.Serving.{within, Reply, said_of, literals_in, Serving}
use Rattle.tray.specs.Calls.{Put, ticket_given, entered, serve, turned, turn_of, buffer_of, withdraw_of}
use Rattle.tray.specs.Answers.{put_says, turn_says, withdraw_says}
use Rattle.tray.proofs.Tells.{reply_in_buffer}
use Rattle.fairness.specs.Promises.{Lent, did}
use Rattle.fairness.proofs.Rings.{length-ring, ring-mod, ring_more, removed, taken_ring}

-- The round for which a record stands.
abbrev pub view : Tray → Round Job
view t = round (waiting t) t.given

abbrev pub entry_by : Put → Option Kind → Entry Job
entry_by p (Some (Clauses f m)) =
    cond (within p.start p.length p.lent) (good (λ k. job_of k p.start p.length (stage.Fresh f m))) (bad (number_of Reason.PartOutsideArea))
entry_by p (Some (Log m)) = bad (number_of Reason.FormatOrModeUnknown)
entry_by p None = bad (number_of Reason.FormatOrModeUnknown)

abbrev pub goes_by : Job → Option Cursor → Option Job
goes_by j = option_map (goes_on j)

abbrev pub served_by : Job → Serving → rota.Served Job Reply
served_by j v = record { said = v.said; goes = goes_by j v.goes }

abbrev pub desk : Desk Job Put Lent Reply
desk =
    record {
      places = places;
      largest = largest;
      ticket = λ j. j.ticket;
      entry = λ p. entry_by p (kind_of p.format p.mode);
      short = λ e. ltb (length e.buffer) own_room;
      serve = λ j e. served_by j (serve e.area j);
    }

abbrev viewed : Done Tray Reply → Done (Round Job) Reply
viewed d = does d.answer (view d.after)

-- A job that joins stands last.
joined_view : (t : Tray) (j : Job) → length t.jobs ≡ places → t.count < places → view (joined t j) ≡ round (to_back (waiting t) j) t.given
unfolding joined
joined_view t j l h =
    let f : how_many t ≡ t.count = omega arith in
    let g : min (t.count + 1) places ≡ suc t.count = omega arith in
    rw (lt-leb places t.count h, f, g)
    (ap (λ w. round w t.given) (ring_more t.jobs (place_behind t t.count) j t.head t.count l h (omega arith)))

-- Where jobs wait, the first goes to the back or leaves.
module _ (t : Tray) (n : ℕ) (f : how_many t ≡ suc n) (j : Job) where
  abbrev rest : List Job
  rest = ring t.jobs (t.head + 1) n

  over_view : view (passed t j None) ≡ round rest t.given
  over_view =
      let m : min (how_many t - 1) places ≡ n = omega arith in
      rw m (ap (λ w. round w t.given) (ring-mod t.jobs (place_behind t 1) (t.head + 1) n (omega arith)))

  on_view : (c : Cursor) → length t.jobs ≡ places → view (passed t j (Some c)) ≡ round (to_back rest (goes_on j c)) t.given
  on_view c l =
      let m : min (how_many t) places ≡ suc n = omega arith in
      rw m
      (ap (λ w. round w t.given)
      (ring-mod (set t.jobs (place_behind t (how_many t)) (goes_on j c)) (place_behind t 1) (t.head + 1) (suc n) (omega arith)
      ∙ ring_more t.jobs (place_behind t (how_many t)) (goes_on j c) (t.head + 1) n l (omega arith) (omega arith)))

module _ (t : Tray) (l : length t.jobs ≡ places) where
  full_same : leb places (length (waiting t)) ≡ leb places t.count
  full_same =
      let n = length-ring t.jobs t.head (how_many t) in
      tested (leb places t.count)
      (λ e. let h = leb-true places t.count e in let f : how_many t ≡ places = omega arith in rw (n, f, e))
      (λ e. let h = leb-false places t.count e in let f : how_many t ≡ t.count = omega arith in rw (n, f, e))

  abbrev put_viewed : tray_done.Done ℕ → Done (Round Job) Reply
  put_viewed d = does (put_says d.answer) (view d.tray)

  entered_is : (start size : ℕ) (s : Stage) → put_viewed (entered t start size s) ≡ rota.put_by desk (view t) (good (λ k. job_of k start size s))
  unfolding entered
  entered_is start size s =
      let k = t.given + 1 in
      tested (leb places t.count) (λ a. rw (full_same, a))
      (λ a. tested (leb largest t.given) (λ b. rw (full_same, a, b))
      (λ b. rw (full_same, a, b) (ap (does (ticketed k)) (joined_view (ticket_given t k) (job_of k start size s) l (leb-false places t.count a)))))

  put_is : (p : Put) (x : Option Kind) → put_viewed (calls.put_as t p x) ≡ rota.put_by desk (view t) (entry_by p x)
  put_is p (Some (Clauses f m)) = tested (within p.start p.length p.lent) (λ w. rw w (entered_is p.start p.length (stage.Fresh f m))) (λ w. rw w)
  put_is p (Some (Log m)) = refl
  put_is p None = refl

module _ (t : Tray) (l : length t.jobs ≡ places) where
  abbrev turn_viewed : List ℤ → tray_done.Done Told → Done (Round Job) Reply
  turn_viewed new d = does (turn_says new d.answer) (view d.tray)

  turned_is : (n : ℕ) → how_many t ≡ suc n → (j : Job) (a : Reply) (g : Option Cursor) (old : List ℤ)
      → turn_viewed (laid (literals_in a) old) (turned t j (record { said = said_of a; goes = g }))
      ≡ rota.went desk t.given (ring t.jobs (t.head + 1) n) j.ticket a (goes_by j g)
  turned_is n f j a None old = rw (reply_in_buffer a old) (ap (does (told j.ticket a true)) (over_view t n f j))
  turned_is n f j a (Some c) old = rw (reply_in_buffer a old) (ap (does (told j.ticket a false)) (on_view t n f j c l))

  turn_is : (e : Lent) → turn_viewed (buffer_of t e.area e.buffer) (turn_of t e.area (length e.buffer)) ≡ rota.turn_by desk e t.given (waiting t)
  unfolding turn_of buffer_of
  turn_is e = go (how_many t) refl
    where
      go : (n : ℕ) → how_many t ≡ n
          → turn_viewed (buffer_of t e.area e.buffer) (turn_of t e.area (length e.buffer)) ≡ rota.turn_by desk e t.given (waiting t)
      go zero f = rw f (rw f)
      go (suc n) f =
          let j = get_or t.jobs (t.head % places) no_job in
          tested (ltb (length e.buffer) own_room)
          (λ s. rw f (rw (s, f)))
          (λ s. rw f (rw s (let v = serve e.area j in turned_is n f j v.said v.goes e.buffer)))

module _ (k : ℕ) where
  waits_ahead : (js : List Job) → waits (λ j. j.ticket) k js ≡ ltb (ahead k js) (length js)
  unfolding ahead
  waits_ahead [] = refl
  waits_ahead (j ∷ js) =
      tested (eqb k j.ticket)
      (λ e. rw e (sym (lt-ltb 0 (suc (length js)) (omega arith))))
      (λ e. rw e (waits_ahead js ∙ tested (ltb (ahead k js) (length js))
      (λ b. let h = ltb-true (ahead k js) (length js) b in b ∙ sym (lt-ltb (suc (ahead k js)) (suc (length js)) (omega arith)))
      (λ b. let h = ltb-false (ahead k js) (length js) b in b ∙ sym (le-ltb (suc (ahead k js)) (suc (length js)) (omega arith)))))

  without_ahead : (js : List Job) → without (λ j. j.ticket) k js ≡ removed (ahead k js) js
  unfolding ahead
  without_ahead [] = refl
  without_ahead (j ∷ js) = tested (eqb k j.ticket) (λ e. rw e) (λ e. rw e (ap (λ m. j ∷ m) (without_ahead js)))

module _ (t : Tray) (l : length t.jobs ≡ places) where
  withdraw_is : (k : ℕ) → does (withdraw_says (withdraw_of t k).answer) (view (withdraw_of t k).tray) ≡ rota.withdraw_by desk (view t) k
  unfolding withdraw_of taken_out
  withdraw_is k =
      let w = waits_ahead k (waiting t) in
      let n = length-ring t.jobs t.head (how_many t) in
      tested (ltb (ahead k (waiting t)) (how_many t))
      (λ i.
      let h = ltb-true (ahead k (waiting t)) (how_many t) i in
      let q : waits (λ j. j.ticket) k (waiting t) ≡ true = w ∙ rw n i in
      rw (i, q)
      (ap (λ x. does (withdrawn k) (round x t.given))
      (taken_ring t.jobs t.head (how_many t) (ahead k (waiting t)) l (omega arith) h ∙ sym (without_ahead k (waiting t)))))
      (λ i. let q : waits (λ j. j.ticket) k (waiting t) ≡ false = w ∙ rw n i in rw (i, q))

  pub call_is : (c : Call Put Lent) → viewed (did t c) ≡ rota.call desk (view t) c
  call_is (put p) = put_is t l p (kind_of p.format p.mode)
  call_is (turn e) = turn_is t l e
  call_is (withdraw k) = withdraw_is k
