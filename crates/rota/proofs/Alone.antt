-- What a ticket hears is what its job is told alone, if each of its own turns serves it as if it were alone. Assumes nothing.
use Prim.Native.Nat.{ℕ}
use mathlib.Core.Bool.{Bool, true, false}
use mathlib.Core.List.{List, [], ◌∷◌}
use Rattle.std.specs.Prelude.{None, Some}
use mathlib.Core.Path.{◌≡◌, refl, ap, sym, ◌∙◌, subst}
use Rattle.rota.specs.Rota.{Call, turn, Answer, told, answers, heard, to_the_last, is_withdrawn, AtOwnTurn, AtOwnTurns, Hears, Round, Served, serves, Desk, call}
use Rattle.rota.proofs.Waiting.{unlike, Stands}
use Rattle.rota.proofs.Tickets.{Lawful, Sound, sound_call}
use Rattle.rota.proofs.Gone.{gone_on}
use Rattle.rota.proofs.Fair.{stays, moves, finishes, fate, not_withdrawn, heard_own}

-- All that a job is told, by a function that serves it alone.
pub data Whole {J A : Type 0} (solo : J → Served J A) : J → List A → Type 0 where
  last : {j : J} {a : A} → solo j ≡ serves a None → Whole solo j (a ∷ [])
  more : {j j' : J} {a b : A} {l : List A} → solo j ≡ serves a (Some j') → Whole solo j' (b ∷ l) → Whole solo j (a ∷ b ∷ l)

module _ {J A : Type 0} (solo : J → Served J A) where
  -- It is told something.
  pub whole_more : {j j' : J} {a : A} {l : List A} → solo j ≡ serves a (Some j') → Whole solo j' l → Whole solo j (a ∷ l)
  whole_more e (last f) = more e (last f)
  whole_more e (more f w) = more e (more f w)

  -- What follows where the job goes on.
  record Rest (j j' : J) (l : List A) : Type 0 where
    head : A
    tail : List A
    is : l ≡ (solo j).said ∷ head ∷ tail
    whole : Whole solo j' (head ∷ tail)

  whole_rest : {j : J} {l : List A} (j' : J) → (solo j).goes ≡ Some j' → Whole solo j l → Rest j j' l
  whole_rest j' g (last e) = let f = ap (λ v. v.goes) e in absurd (cc)
  whole_rest j' g (more {j' = x} {a = a} {b = b} {l = r} e w) =
      let f = ap (λ v. v.goes) e in
      let same : x ≡ j' = cc in
      record { head = b; tail = r; is = ap (λ y. y ∷ b ∷ r) (sym (ap (λ v. v.said) e)); whole = subst (λ y. Whole solo y (b ∷ r)) same w }

  whole_last : {j : J} {l : List A} → (solo j).goes ≡ None → Whole solo j l → l ≡ (solo j).said ∷ []
  whole_last g (last e) = ap (λ y. y ∷ []) (sym (ap (λ v. v.said) e))
  whole_last g (more e w) = let f = ap (λ v. v.goes) e in absurd (cc)

own_turn : {P E A : Type 0} (F : E → Type 0) (k : ℕ) {c : Call P E} {x : Answer A} (e : E) (a : A) (b : Bool) → c ≡ turn e → x ≡ told k a b → AtOwnTurn F k c x → F e
own_turn F k e a b i h o = (rw (i, h) at o) refl

module _ {J P E A : Type 0} (D : Desk J P E A) (L : Lawful D) (Good : J → Type 0) (Fit : E → Type 0) (solo : J → Served J A)
    (lasts : (j : J) (e : E) (j' : J) → Good j → (D.serve j e).goes ≡ Some j' → Good j')
    (alike : (j : J) (e : E) → Good j → Fit e → D.serve j e ≡ solo j) where
  pub alone : (cs : List (Call P E)) (t : Round J) (j : J) (p : ℕ) (l : List A) → Good j → Sound D t → Stands j p t.waiting → Whole solo j l
      → is_withdrawn (D.ticket j) (answers (call D) t cs) ≡ false → AtOwnTurns Fit (D.ticket j) cs (answers (call D) t cs)
      → Hears l (heard (D.ticket j) (answers (call D) t cs))
  alone [] t j p l gd s st w h o = record { rest = to_the_last l; first = refl; all = λ z. unlike z refl }
  alone (c ∷ cs) t j p l gd s st w h o =
      let d = call D t c in
      let k = D.ticket j in
      let xs = answers (call D) d.after cs in
      let v = not_withdrawn k d.answer xs h in
      let s' = sound_call D L t c s in
      elim (fate D t c j p s st v.0) [
        | stays q st' n m ↦ rw (m xs) (alone cs d.after j q l gd s' st' w v.1 o.1)
        | moves e j' q i g st' a ↦
            let same = L.kept j e j' g in
            let own = alike j e gd (own_turn Fit k e (D.serve j e).said false i a o.0) in
            let r = whole_rest solo j' (rw (← own) g) w in
            let ih = alone cs d.after j' q (r.head ∷ r.tail) (lasts j e j' gd g) s' st' r.whole (rw same v.1) (rw same o.1) in
            hears_more k (solo j).said r.head r.tail l xs d.answer (a ∙ ap (λ x. told k x.said false) own) r.is
            (subst (λ n. Hears (r.head ∷ r.tail) (heard n xs)) same ih)
        | finishes e i g n a ↦
            let own = alike j e gd (own_turn Fit k e (D.serve j e).said true i a o.0) in
            hears_last k (solo j).said l xs d.answer (a ∙ ap (λ x. told k x.said true) own) (whole_last solo (rw (← own) g) w) (gone_on D L k d.after cs n)
      ]
    where
      hears_more : (k : ℕ) (a b : A) (r l : List A) (xs : List (Answer A)) (x : Answer A) → x ≡ told k a false → l ≡ a ∷ b ∷ r → Hears (b ∷ r) (heard k xs) → Hears l (heard k (x ∷ xs))
      hears_more k a b r l xs x e f h =
          rw (f, heard_own k a false xs e)
          (record { rest = h.rest; first = ap (λ y. (a, false) ∷ y) h.first; all = λ z. ap (λ y. (a, false) ∷ y) (h.all z) })

      hears_last : (k : ℕ) (a : A) (l : List A) (xs : List (Answer A)) (x : Answer A) → x ≡ told k a true → l ≡ a ∷ [] → heard k xs ≡ [] → Hears l (heard k (x ∷ xs))
      hears_last k a l xs x e f h = rw (f, heard_own k a true xs e, h) (record { rest = []; first = refl; all = λ z. refl })
