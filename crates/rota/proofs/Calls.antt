-- The four things that a call can do. Assumes nothing.
use Prim.Native.Nat.{ℕ, ◌+◌, ◌<◌}
use mathlib.Core.Bool.{true, false}
use mathlib.Core.List.{List, [], ◌∷◌}
use Rattle.std.specs.Prelude.{Option, None, Some}
use mathlib.Core.Path.{◌≡◌, refl}
use borrow.Author.Tests.{leb-false}
use lib.ListN.{length}
use lib.Dec.{leb}
use Rattle.dimacs.proofs.Tests.{chosen}
use Rattle.rota.specs.Rota.{Call, put, turn, withdraw, refused, ticketed, told, withdrawn, Done, does, Round, round, Entry, bad, good, Desk, waits, without, to_back, put_by, went, turn_by, call}

module _ {J P E A : Type 0} (D : Desk J P E A) where
  -- It is refused and changes nothing; a put gives the next ticket; the front job is served, and goes to the back or leaves; a ticket leaves.
  pub data Does : Round J → Call P E → Done (Round J) A → Type 0 where
    nothing : {t : Round J} {c : Call P E} (n : ℕ) → Does t c (does (refused n) t)
    enters : {js : List J} {n : ℕ} {p : P} (make : ℕ → J) → D.entry p ≡ good make → length js < D.places
        → Does (round js n) (put p) (does (ticketed (n + 1)) (round (to_back js (make (n + 1))) (n + 1)))
    goes : {js : List J} {n : ℕ} {e : E} (j j' : J) → (D.serve j e).goes ≡ Some j'
        → Does (round (j ∷ js) n) (turn e) (does (told (D.ticket j) (D.serve j e).said false) (round (to_back js j') n))
    ends : {js : List J} {n : ℕ} {e : E} (j : J) → (D.serve j e).goes ≡ None
        → Does (round (j ∷ js) n) (turn e) (does (told (D.ticket j) (D.serve j e).said true) (round js n))
    leaves : {js : List J} {n k : ℕ} → waits D.ticket k js ≡ true
        → Does (round js n) (withdraw k) (does (withdrawn k) (round (without D.ticket k js) n))

  put_does : (t : Round J) (p : P) (x : Entry J) → D.entry p ≡ x → Does t (put p) (put_by D t x)
  put_does t p (bad n) h = nothing n
  put_does t p (good make) h =
      chosen (Does t (put p)) (leb D.places (length t.waiting)) (λ _. nothing _)
      (λ l. chosen (Does t (put p)) (leb D.largest t.given) (λ _. nothing _) (λ _. enters make h (leb-false _ _ l)))

  turn_does : (e : E) (n : ℕ) (js : List J) → Does (round js n) (turn e) (turn_by D e n js)
  turn_does e n [] = nothing _
  turn_does e n (j ∷ js) = chosen (Does (round (j ∷ js) n) (turn e)) (D.short e) (λ _. nothing _) (λ _. go (D.serve j e).goes refl)
    where
      go : (o : Option J) → (D.serve j e).goes ≡ o → Does (round (j ∷ js) n) (turn e) (went D n js (D.ticket j) (D.serve j e).said o)
      go None h = ends j h
      go (Some j') h = goes j j' h

  pub call_does : (t : Round J) (c : Call P E) → Does t c (call D t c)
  call_does t (put p) = put_does t p (D.entry p) refl
  call_does t (turn e) = turn_does e t.given t.waiting
  call_does t (withdraw k) = chosen (Does t (withdraw k)) (waits D.ticket k t.waiting) leaves (λ _. nothing _)
