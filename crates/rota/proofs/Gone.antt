-- A ticket that was given and does not wait never waits again, and no turn is its: so it is after its verdict, and after its withdrawal. Assumes nothing.
use Prim.Native.Nat.{ℕ, ◌+◌, ◌≤◌}
use mathlib.Core.Bool.{true, false}
use mathlib.Core.List.{List, [], ◌∷◌}
use mathlib.Core.Logic.{◌⊎◌, inl, inr, ⊎_elim}
use mathlib.Core.Path.{◌≡◌, refl, ◌∙◌}
use native.Mathlib.Omega.{arith}
use borrow.Author.Tests.{ne_eqb, eqb-true}
use lib.Dec.{eqb}
use Rattle.dimacs.proofs.Tests.{tested}
use Rattle.dimacs.specs.declared.Reason.{Reason}
use Rattle.rota.specs.Rota.{Call, withdraw, Answer, Done, answers, finally, is_withdrawn, heard, concluded, Round, fresh, Desk, waits, refuses, call}
use Rattle.rota.proofs.Waiting.{unlike, not_head, not_tail, waits-snoc, waits_without, waits_taken, waits_upto}
use Rattle.rota.proofs.Calls.{Does, nothing, enters, goes, ends, leaves, call_does}
use Rattle.rota.proofs.Tickets.{Lawful, Sound, sound_call, sound}

module _ {J P E A : Type 0} (D : Desk J P E A) (k : ℕ) where
  pub record Gone (t : Round J) : Type 0 where
    pub away : waits D.ticket k t.waiting ≡ false
    pub was_given : k ≤ t.given

  -- From a round on, no turn answers the ticket, and each withdrawal of it is refused.
  pub record DoneWith (t : Round J) : Type 0 where
    pub unheard : (after : List (Call P E)) → heard k (answers (call D) t after) ≡ []
    pub not_waiting : (after : List (Call P E)) → let u = finally (call D) t after in call D u (withdraw k) ≡ refuses u Reason.TicketNotWaiting

  -- The call says nothing to the ticket.
  abbrev Silent : Answer A → Type 0
  Silent a = (xs : List (Answer A)) → heard k (a ∷ xs) ≡ heard k xs

module _ {J P E A : Type 0} (D : Desk J P E A) (L : Lawful D) (k : ℕ) where
  gone_after : {t : Round J} {c : Call P E} {d : Done (Round J) A} → Does D t c d → Gone D k t → Gone D k d.after × Silent D k d.answer
  gone_after (nothing n) g = (g, λ xs. refl)
  gone_after (enters {js = js} {n = n} {p = p} make e l) g =
      let m = L.made p make e (n + 1) in
      let h = g.was_given in
      (record { away = waits-snoc D.ticket k js _ g.away (ne_eqb k (D.ticket (make (n + 1))) (λ x. omega arith)); was_given = omega arith }, λ xs. refl)
  gone_after (goes {js = js} {e = x} j j' e) g =
      let n = not_head D.ticket k j js g.away in
      (record { away = waits-snoc D.ticket k js j' (not_tail D.ticket k j js g.away) (rw (L.kept j x j' e) n); was_given = g.was_given }, λ xs. rw n)
  gone_after (ends {js = js} j e) g =
      let n = not_head D.ticket k j js g.away in
      (record { away = not_tail D.ticket k j js g.away; was_given = g.was_given }, λ xs. rw n)
  gone_after (leaves {js = js} {k = m} w) g = (record { away = waits_without D.ticket k m js g.away; was_given = g.was_given }, λ xs. refl)

  pub gone_on : (t : Round J) (cs : List (Call P E)) → Gone D k t → heard k (answers (call D) t cs) ≡ []
  gone_on t [] g = refl
  gone_on t (c ∷ cs) g =
      let h = gone_after (call_does D t c) g in
      h.1 (answers (call D) (call D t c).after cs) ∙ gone_on (call D t c).after cs h.0

  -- Past a verdict's ticket, or the verdict is still to come.
  after_verdict : {t : Round J} {c : Call P E} {d : Done (Round J) A} (xs : List (Answer A)) → Does D t c d → Sound D t
      → concluded (heard k (d.answer ∷ xs)) ≡ true → Gone D k d.after ⊎ (concluded (heard k xs) ≡ true)
  after_verdict xs (nothing n) s h = inr h
  after_verdict xs (enters make e l) s h = inr h
  after_verdict xs (goes j j' e) s h = tested (eqb k (D.ticket j)) (λ x. inr (rw x at h)) (λ x. inr (rw x at h))
  after_verdict xs (ends {js = js} j e) s h =
      tested (eqb k (D.ticket j))
      (λ x. let m = eqb-true k (D.ticket j) x in inl (record { away = rw m s.distinct.0; was_given = rw m s.upto.0 }))
      (λ x. inr (rw x at h))
  after_verdict xs (leaves w) s h = inr h

  gone_finally : (t : Round J) (cs : List (Call P E)) → Gone D k t → Gone D k (finally (call D) t cs)
  gone_finally t [] g = g
  gone_finally t (c ∷ cs) g = gone_finally (call D t c).after cs (gone_after (call_does D t c) g).0

  verdict_gone : (t : Round J) (cs : List (Call P E)) → Sound D t → concluded (heard k (answers (call D) t cs)) ≡ true → Gone D k (finally (call D) t cs)
  verdict_gone t [] s h = unlike h refl
  verdict_gone t (c ∷ cs) s h =
      let u = (call D t c).after in
      ⊎_elim (λ g. gone_finally u cs g) (λ r. verdict_gone u cs (sound_call D L t c s) r) (after_verdict (answers (call D) u cs) (call_does D t c) s h)

  -- Past a ticket's withdrawal, or it is still to come.
  after_withdrawal : {t : Round J} {c : Call P E} {d : Done (Round J) A} (xs : List (Answer A)) → Does D t c d → Sound D t
      → is_withdrawn k (d.answer ∷ xs) ≡ true → Gone D k d.after ⊎ (is_withdrawn k xs ≡ true)
  after_withdrawal xs (nothing n) s h = inr h
  after_withdrawal xs (enters make e l) s h = inr h
  after_withdrawal xs (goes j j' e) s h = inr h
  after_withdrawal xs (ends j e) s h = inr h
  after_withdrawal xs (leaves {js = js} {n = n} {k = m} w) s h =
      tested (eqb k m)
      (λ x.
      let same = eqb-true k m x in
      inl (record { away = rw same (waits_taken D.ticket m js s.distinct); was_given = rw same (waits_upto D.ticket n m js s.upto w) }))
      (λ x. inr (rw x at h))

  withdrawal_gone : (t : Round J) (cs : List (Call P E)) → Sound D t → is_withdrawn k (answers (call D) t cs) ≡ true → Gone D k (finally (call D) t cs)
  withdrawal_gone t [] s h = unlike h refl
  withdrawal_gone t (c ∷ cs) s h =
      let u = (call D t c).after in
      ⊎_elim (λ g. gone_finally u cs g) (λ r. withdrawal_gone u cs (sound_call D L t c s) r) (after_withdrawal (answers (call D) u cs) (call_does D t c) s h)

  gone_done_with : (t : Round J) → Gone D k t → DoneWith D k t
  gone_done_with t g = record { unheard = λ after. gone_on t after g; not_waiting = λ after. rw (gone_finally t after g).away }

  pub told_done_with : (before : List (Call P E)) → concluded (heard k (answers (call D) fresh before)) ≡ true → DoneWith D k (finally (call D) fresh before)
  told_done_with before h = gone_done_with (finally (call D) fresh before) (verdict_gone fresh before (sound D L []) h)

  pub withdrawn_done_with : (before : List (Call P E)) → is_withdrawn k (answers (call D) fresh before) ≡ true → DoneWith D k (finally (call D) fresh before)
  withdrawn_done_with before h = gone_done_with (finally (call D) fresh before) (withdrawal_gone fresh before (sound D L []) h)
