-- A lent tray keeps the promises: each call is one call of which they speak, on the same record. Assumes nothing.
use Prim.Native.Nat.{ℕ}
use mathlib.Core.List.{List, [], ◌∷◌}
use mathlib.Core.Path.{◌≡◌, refl, ap, sym, ◌∙◌, subst}
use Rattle.std.specs.Prelude.{Ok}
use Rattle.rota.specs.Rota as rota
use Rattle.rota.specs.Rota.{Done, does, answers, ticketed, heard}
use Rattle.ring.specs.declared.Tray.{Tray}
use Rattle.ring.specs.Ring.{empty_tray}
use Rattle.service.specs.Serving.{Reply}
use Rattle.tray.specs.Calls.{Put}
use Rattle.tray.specs.Answers.{NumberAlone}
use Rattle.tray.proofs.Tells.{number_alone}
use Rattle.fairness.specs.Promises as promises
use Rattle.fairness.specs.Promises.{did, Counted, then_put, since, DoneWith}
use Rattle.fairness.specs.Lending.{Event, put, turn, withdraw, call_in, said_in, left_in, Keeps, AllKeep, finally, said, called, LentAccount, BufferKept, LentRefusals, LentTickets, LentEnoughPlaces, AfterPut, LentBound, LentContent, LentDemand, LentDoneWith, LentSilence, LentWithdrawn}
use Rattle.fairness.proofs.Promises.{tray_refusals, tray_account, tray_tickets, tray_enough_places, tray_silence, tray_withdrawn, tray_bound, tray_content}

-- A call on a lent tray is that call on its record.
pub lent_did : (t : Tray) (e : Event) → Keeps t e → does (said_in e) (left_in e) ≡ did t (call_in e)
lent_did t (put p a u) h = rw (h.answer, h.tray)
lent_did t (turn e a new u) h = rw (h.answer, h.buffer, h.tray)
lent_did t (withdraw k a u) h = rw (h.answer, h.tray)

-- So are any calls: they answer the same, and leave the same.
pub lent_said : (es : List Event) (t : Tray) → AllKeep t es → said es ≡ answers did t (called es)
lent_said [] t h = refl
lent_said (e ∷ es) t h =
    ap (λ xs. said_in e ∷ xs) (lent_said es (left_in e) h.1)
    ∙ ap (λ (d : Done Tray Reply). d.answer ∷ answers did d.after (called es)) (lent_did t e h.0)

pub lent_finally : (es : List Event) (t : Tray) → AllKeep t es → finally t es ≡ rota.finally did t (called es)
lent_finally [] t h = refl
lent_finally (e ∷ es) t h = lent_finally es (left_in e) h.1 ∙ ap (λ (d : Done Tray Reply). rota.finally did d.after (called es)) (lent_did t e h.0)

pub lent_refusals : LentRefusals
lent_refusals t e n h r = (number_alone (said_in e) n r, ap (λ (d : Done Tray Reply). d.after) (lent_did t e h) ∙ kept.1, buffer e h kept.2)
  where
    kept : NumberAlone n (did t (call_in e)).answer × ((did t (call_in e)).after ≡ t) × promises.BufferKept t (call_in e)
    kept = tray_refusals t (call_in e) n (ap (λ (d : Done Tray Reply). d.answer) (sym (lent_did t e h)) ∙ r)

    buffer : (e : Event) → Keeps t e → promises.BufferKept t (call_in e) → BufferKept e
    buffer (put p a u) h b = tt
    buffer (turn x a new u) h b = h.buffer ∙ b
    buffer (withdraw k a u) h b = tt

pub lent_account : LentAccount
lent_account es h = rw (lent_said es empty_tray h, lent_finally es empty_tray h) (tray_account (called es))

pub lent_tickets : LentTickets
lent_tickets es h = rw (lent_said es empty_tray h) (tray_tickets (called es))

pub lent_enough_places : LentEnoughPlaces
lent_enough_places es h = subst Counted (sym (lent_finally es empty_tray h)) (tray_enough_places (called es))

lent_done_with : (before : List Event) (k : ℕ) → AllKeep empty_tray before → DoneWith (called before) k → LentDoneWith before k
lent_done_with before k h d =
    record {
      unheard = λ after g. ap (heard k) (lent_said after t g ∙ ap (λ u. answers did u (called after)) (lent_finally before empty_tray h)) ∙ d.unheard (called after);
      not_waiting = λ after a u g w.
          ap (λ (x : Done Tray Reply). x.answer)
          (lent_did (finally t after) (withdraw k a u) w
          ∙ ap (λ v. did v (rota.withdraw k)) (lent_finally after t g ∙ ap (λ v. rota.finally did v (called after)) (lent_finally before empty_tray h)))
          ∙ d.not_waiting (called after);
    }
  where
    t : Tray
    t = finally empty_tray before

pub lent_silence : LentSilence
lent_silence before k h c = lent_done_with before k h (tray_silence (called before) k (rw (lent_said before empty_tray h) at c))

pub lent_withdrawn : LentWithdrawn
lent_withdrawn before k h c = lent_done_with before k h (tray_withdrawn (called before) k (rw (lent_said before empty_tray h) at c))

-- After a put that was given a ticket, the calls are those since the same put by value.
module _ {before : List Event} {p : Put} {k : ℕ} {after : List Event} (w : AfterPut before p k after) where
  lent_put : does (ticketed k) w.tray ≡ then_put (called before) p
  lent_put = lent_did (finally empty_tray before) (put p (Ok k) w.tray) w.given ∙ ap (λ (t : Tray). did t (rota.put p)) (lent_finally before empty_tray w.first)

  lent_given : (then_put (called before) p).answer ≡ ticketed k
  lent_given = ap (λ (d : Done Tray Reply). d.answer) (sym lent_put)

  lent_since : said after ≡ since (called before) p (called after)
  lent_since = lent_said after w.tray w.since ∙ ap (λ (d : Done Tray Reply). answers did d.after (called after)) lent_put

pub lent_bound : LentBound
lent_bound before p k after w o n =
    let e = lent_since w in
    rw e (tray_bound (called before) p (called after) k (lent_given w) (rw e at o) (rw e at n))

pub lent_content : LentContent
lent_content before p k after f m bytes q w o h =
    let e = lent_since w in
    rw e (tray_content (called before) p (called after) k f m bytes q (lent_given w) (rw e at o) (rw e at h))

pub lent_demand : LentDemand
lent_demand before p k after f m bytes q w o h n = (lent_content before p k after f m bytes q w o h).all (lent_bound before p k after w o n)
