-- Each turn brings a waiting job nearer to the front, and each time that it is served it has fewer turns left: so its verdict comes. Assumes nothing.
use Prim.Native.Nat.{ℕ, zero, suc, ◌+◌, ◌*◌, ◌≤◌, ◌<◌}
use mathlib.Core.Bool.{Bool, true, false}
use mathlib.Core.List.{List, [], ◌∷◌}
use Rattle.std.specs.Prelude.{None, Some}
use mathlib.Core.Path.{◌≡◌, refl, ap, sym, subst}
use native.Mathlib.Omega.{arith}
use native.Mathlib.Nat.{mul-le-mul_left, mul-suc}
use borrow.Author.Tests.{eq-eqb}
use lib.ListN.{length}
use lib.Dec.{eqb}
use Rattle.dimacs.proofs.Tests.{tested}
use Rattle.rota.specs.Rota.{Call, put, turn, Answer, refused, ticketed, told, withdrawn, Done, answers, turns, heard, concluded, is_withdrawn, Round, good, Desk, call}
use Rattle.rota.proofs.Waiting.{unlike, Stands, front, behind, stands-append, stands_last, stands_below, stands_without, ahead_other}
use Rattle.rota.proofs.Calls.{Does, nothing, enters, goes, ends, leaves, call_does}
use Rattle.rota.proofs.Tickets.{Lawful, Sound, sound_call}
use Rattle.rota.proofs.Gone.{Gone}

module _ {J P E A : Type 0} (D : Desk J P E A) (j : J) (p : ℕ) (c : Call P E) (d : Done (Round J) A) where
  -- What becomes of a job with p ahead of it: it waits on, nearer by each turn; it is served and goes on; it is served for the last time.
  pub data Fate : Type 0 where
    stays : (q : ℕ) → Stands j q d.after.waiting → ((xs : List (Answer A)) → q + turns (d.answer ∷ xs) ≤ p + turns xs)
        → ((xs : List (Answer A)) → heard (D.ticket j) (d.answer ∷ xs) ≡ heard (D.ticket j) xs) → Fate
    moves : (e : E) (j' : J) (q : ℕ) → c ≡ turn e → (D.serve j e).goes ≡ Some j' → Stands j' q d.after.waiting
        → d.answer ≡ told (D.ticket j) (D.serve j e).said false → Fate
    finishes : (e : E) → c ≡ turn e → (D.serve j e).goes ≡ None → Gone D (D.ticket j) d.after
        → d.answer ≡ told (D.ticket j) (D.serve j e).said true → Fate

module _ {J P E A : Type 0} (D : Desk J P E A) where
  fate_after : {t : Round J} {c : Call P E} {d : Done (Round J) A} (j : J) (p : ℕ) → Does D t c d → Sound D t → Stands j p t.waiting
      → is_withdrawn (D.ticket j) (d.answer ∷ []) ≡ false → Fate D j p c d
  fate_after j p (nothing n) s st h = stays p st (λ xs. omega arith) (λ xs. refl)
  fate_after j p (enters {n = n} make e l) s st h = stays p (stands-append j (make (n + 1) ∷ []) st) (λ xs. omega arith) (λ xs. refl)
  fate_after j zero (goes {js = js} {e = x} y j' e) s front h = moves x j' (length js) refl e (stands_last j' js) refl
  fate_after j (suc p) (goes {js = js} y y' e) s (behind st) h =
      stays p (stands-append j (y' ∷ []) st) (λ xs. omega arith) (λ xs. rw (ahead_other j D.ticket y js s.distinct st))
  fate_after j zero (ends {e = x} y e) s front h = finishes x refl e (record { away = s.distinct.0; was_given = s.upto.0 }) refl
  fate_after j (suc p) (ends {js = js} y e) s (behind st) h =
      stays p st (λ xs. omega arith) (λ xs. rw (ahead_other j D.ticket y js s.distinct st))
  fate_after j p (leaves {k = k} w) s st h =
      let r = stands_without j D.ticket k (λ e. unlike (rw (eq-eqb (D.ticket j) k (sym e))) h) st in
      stays r.0 r.2 (λ xs. omega (arith, r.1)) (λ xs. refl)

  pub fate : (t : Round J) (c : Call P E) (j : J) (p : ℕ) → Sound D t → Stands j p t.waiting → is_withdrawn (D.ticket j) ((call D t c).answer ∷ []) ≡ false → Fate D j p c (call D t c)
  fate t c j p = fate_after j p (call_does D t c)

-- A withdrawal among later answers, or at the first.
pub not_withdrawn : {A : Type 0} (k : ℕ) (a : Answer A) (xs : List (Answer A)) → is_withdrawn k (a ∷ xs) ≡ false
    → (is_withdrawn k (a ∷ []) ≡ false) × (is_withdrawn k xs ≡ false)
not_withdrawn k (refused n) xs h = (refl, h)
not_withdrawn k (ticketed n) xs h = (refl, h)
not_withdrawn k (told n a last) xs h = (refl, h)
not_withdrawn k (withdrawn n) xs h = tested (eqb k n) (λ e. unlike refl (rw e at h)) (λ e. rw e (refl, rw e at h))

-- What is said to a ticket at its own turn.
pub heard_own : {A : Type 0} (k : ℕ) (a : A) (last : Bool) {x : Answer A} (xs : List (Answer A)) → x ≡ told k a last → heard k (x ∷ xs) ≡ (a, last) ∷ heard k xs
heard_own k a last xs e = rw (e, eq-eqb k k refl)

module _ {J P E A : Type 0} (D : Desk J P E A) (L : Lawful D) (left : J → ℕ)
    (falls : (j : J) (e : E) (j' : J) → (D.serve j e).goes ≡ Some j' → left j' < left j) where
  pub fair : (cs : List (Call P E)) (t : Round J) (j : J) (p : ℕ) → Sound D t → Stands j p t.waiting
      → is_withdrawn (D.ticket j) (answers (call D) t cs) ≡ false
      → D.places * left j + suc p ≤ turns (answers (call D) t cs) → concluded (heard (D.ticket j) (answers (call D) t cs)) ≡ true
  fair [] t j p s st w h = absurd (omega arith)
  fair (c ∷ cs) t j p s st w h =
      let d = call D t c in
      let k = D.ticket j in
      let xs = answers (call D) d.after cs in
      let v = not_withdrawn k d.answer xs w in
      let s' = sound_call D L t c s in
      elim (fate D t c j p s st v.0) [
        | stays q st' n m ↦ rw (m xs) (fair cs d.after j q s' st' v.1 (omega (arith, n xs)))
        | moves e j' q i g st' a ↦
            let same = L.kept j e j' g in
            let near = stands_below j' st' in
            let enough = s'.places_enough in
            let one : turns (d.answer ∷ xs) ≡ suc (turns xs) = ap (λ x. turns (x ∷ xs)) a in
            let less : D.places * left j' + D.places ≤ D.places * left j =
            subst (λ n. n ≤ D.places * left j) (mul-suc D.places (left j')) (mul-le-mul_left D.places (falls j e j' g)) in
            rw (heard_own k (D.serve j e).said false xs a)
            (subst (λ n. concluded (heard n xs) ≡ true) same (fair cs d.after j' q s' st' (rw same v.1) (omega arith)))
        | finishes e i g n a ↦ rw (heard_own k (D.serve j e).said true xs a)
      ]

-- A put that is given a ticket stands last.
pub record StandsLast {J P E A : Type 0} (D : Desk J P E A) (p : P) (k : ℕ) (t : Round J) : Type 0 where
  pub job : J
  pub made : (make : ℕ → J) × (D.entry p ≡ good make) × (job ≡ make k)
  pub ahead_of : ℕ
  pub below : ahead_of < D.places
  pub stands : Stands job ahead_of t.waiting

module _ {J P E A : Type 0} (D : Desk J P E A) where
  last_after : {t : Round J} {d : Done (Round J) A} (p : P) (k : ℕ) → Does D t (put p) d → d.answer ≡ ticketed k → StandsLast D p k d.after
  last_after p k (nothing n) h = absurd (cc)
  last_after p k (enters {js = js} {n = n} make e l) h =
      let same : n + 1 ≡ k = cc in
      record { job = make (n + 1); made = (make, e, ap make same); ahead_of = length js; below = l; stands = stands_last (make (n + 1)) js }

  pub put_stands : (t : Round J) (p : P) (k : ℕ) → (call D t (put p)).answer ≡ ticketed k → StandsLast D p k (call D t (put p)).after
  put_stands t p k = last_after p k (call_does D t (put p))
