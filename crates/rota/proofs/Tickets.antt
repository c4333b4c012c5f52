-- No more jobs wait than there are places, no two have one ticket, and none has a ticket that was not given. Assumes nothing.
use Prim.Native.Nat.{ℕ, ◌+◌, ◌≤◌}
use mathlib.Core.List.{List, [], ◌∷◌}
use Rattle.std.specs.Prelude.{Some}
use mathlib.Core.Path.{◌≡◌}
use native.Mathlib.Omega.{arith}
use lib.ListN.{length}
use Rattle.rota.specs.Rota.{Call, Done, finally, Round, fresh, good, Desk, call}
use Rattle.rota.proofs.Waiting.{length-snoc, length_without, Distinct, UpTo, distinct_snoc, distinct_without, upto_snoc, upto_more, upto_without, above_waits}
use Rattle.rota.proofs.Calls.{Does, nothing, enters, goes, ends, leaves, call_does}

-- A put's job has the ticket that it is given, and a job that goes on keeps its own.
pub record Lawful {J P E A : Type 0} (D : Desk J P E A) : Type 0 where
  pub made : (p : P) (make : ℕ → J) → D.entry p ≡ good make → (k : ℕ) → D.ticket (make k) ≡ k
  pub kept : (j : J) (e : E) (j' : J) → (D.serve j e).goes ≡ Some j' → D.ticket j' ≡ D.ticket j

module _ {J P E A : Type 0} (D : Desk J P E A) where
  -- What any calls leave.
  pub record Sound (t : Round J) : Type 0 where
    pub places_enough : length t.waiting ≤ D.places
    pub distinct : Distinct D.ticket t.waiting
    pub upto : UpTo D.ticket t.given t.waiting

module _ {J P E A : Type 0} (D : Desk J P E A) (L : Lawful D) where
  sound_after : {t : Round J} {c : Call P E} {d : Done (Round J) A} → Does D t c d → Sound D t → Sound D d.after
  sound_after (nothing n) s = s
  sound_after (enters {js = js} {n = n} {p = p} make e l) s =
      let j = make (n + 1) in
      let k = L.made p make e (n + 1) in
      record {
        places_enough = omega (arith, length-snoc js j);
        distinct = distinct_snoc D.ticket js j s.distinct (above_waits D.ticket n (D.ticket j) js s.upto (omega arith));
        upto = upto_snoc D.ticket (n + 1) js j (upto_more D.ticket n js s.upto) (omega arith);
      }
  sound_after (goes {js = js} {n = n} {e = x} j j' e) s =
      let k = L.kept j x j' e in
      record {
        places_enough = let f = s.places_enough in omega (arith, length-snoc js j');
        distinct = distinct_snoc D.ticket js j' s.distinct.1 (rw k s.distinct.0);
        upto = upto_snoc D.ticket n js j' s.upto.1 (rw k s.upto.0);
      }
  sound_after (ends j e) s = record { places_enough = let f = s.places_enough in omega arith; distinct = s.distinct.1; upto = s.upto.1 }
  sound_after (leaves {js = js} {n = n} {k = k} w) s =
      record {
        places_enough = let f = s.places_enough in omega (arith, length_without D.ticket k js w);
        distinct = distinct_without D.ticket k js s.distinct;
        upto = upto_without D.ticket n k js s.upto;
      }

  pub sound_call : (t : Round J) (c : Call P E) → Sound D t → Sound D (call D t c).after
  sound_call t c s = sound_after (call_does D t c) s

  sound_from : (t : Round J) (cs : List (Call P E)) → Sound D t → Sound D (finally (call D) t cs)
  sound_from t [] s = s
  sound_from t (c ∷ cs) s = sound_from (call D t c).after cs (sound_call t c s)

  pub sound : (cs : List (Call P E)) → Sound D (finally (call D) fresh cs)
  sound cs = sound_from fresh cs (record { places_enough = omega arith; distinct = tt; upto = tt })
