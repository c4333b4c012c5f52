-- Over any calls, tickets given equal verdicts answered plus withdrawals accepted plus jobs waiting, and they go from 1 upward. Assumes nothing.
use Prim.Native.Nat.{◌+◌}
use mathlib.Core.List.{List, [], ◌∷◌}
use mathlib.Core.Path.{◌≡◌, refl, ap}
use native.Mathlib.Omega.{arith}
use lib.ListN.{length}
use Rattle.rota.specs.Rota.{Call, Answer, Done, answers, finally, tickets, upward, verdicts, withdrawals, Round, fresh, Desk, call}
use Rattle.rota.proofs.Waiting.{length-snoc, length_without}
use Rattle.rota.proofs.Calls.{Does, nothing, enters, goes, ends, leaves, call_does}

module _ {J P E A : Type 0} (D : Desk J P E A) where
  -- The tickets given and what became of them, between two rounds.
  record Even (t : Round J) (xs : List (Answer A)) (u : Round J) : Type 0 where
    count : length (tickets xs) + length t.waiting ≡ verdicts xs + withdrawals xs + length u.waiting
    given : u.given ≡ t.given + length (tickets xs)
    order : tickets xs ≡ upward (t.given + 1) (length (tickets xs))

  even_call : {t : Round J} {c : Call P E} {d : Done (Round J) A} (xs : List (Answer A)) (u : Round J)
      → Does D t c d → Even d.after xs u → Even t (d.answer ∷ xs) u
  even_call xs u (nothing n) h = record { count = h.count; given = h.given; order = h.order }
  even_call xs u (enters {js = js} {n = n} make e l) h =
      record {
        count = omega (arith, h.count, length-snoc js (make (n + 1)));
        given = omega (arith, h.given);
        order = ap (λ l. (n + 1) ∷ l) h.order;
      }
  even_call xs u (goes {js = js} j j' e) h = record { count = omega (arith, h.count, length-snoc js j'); given = h.given; order = h.order }
  even_call xs u (ends j e) h = record { count = omega (arith, h.count); given = h.given; order = h.order }
  even_call xs u (leaves {js = js} {k = k} w) h =
      record { count = omega (arith, h.count, length_without D.ticket k js w); given = h.given; order = h.order }

  even : (t : Round J) (cs : List (Call P E)) → Even t (answers (call D) t cs) (finally (call D) t cs)
  even t [] = record { count = refl; given = omega arith; order = refl }
  even t (c ∷ cs) = even_call _ _ (call_does D t c) (even (call D t c).after cs)

  pub account : (cs : List (Call P E))
      → let xs = answers (call D) fresh cs in length (tickets xs) ≡ verdicts xs + withdrawals xs + length (finally (call D) fresh cs).waiting
  account cs = let h = even fresh cs in omega (arith, h.count)

  pub in_order : (cs : List (Call P E)) → let xs = answers (call D) fresh cs in tickets xs ≡ upward 1 (length (tickets xs))
  in_order cs = (even fresh cs).order
