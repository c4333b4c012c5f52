-- Two jobs put for the same bytes hear the same up to the strict one's refusal: each hears what is said of its bytes read alone, and what is said leniently follows what is said strictly. Assumes nothing.
use Prim.Native.Nat.{ℕ}
use mathlib.Core.Bool.{Bool, true, false, cond}
use mathlib.Core.List.{List, [], ◌∷◌, ◌++◌, map}
use mathlib.Core.Path.{◌≡◌, refl}
use Rattle.dimacs.specs.Names.{in_mode, own_room}
use Rattle.dimacs.specs.Clauses.{Answer, clause, ended}
use Rattle.dimacs.specs.declared.Mode.{Mode}
use Rattle.dimacs.specs.declared.Format.{Format}
use Rattle.dimacs.specs.declared.Rigor.TheVariants.{Strict, Lenient}
use Rattle.dimacs.proofs.Tests.{tested, chosen}
use Rattle.dimacs.proofs.WidenedAnswers as follow
use Rattle.dimacs.proofs.WidenedAnswers.{Follow}
use Rattle.dimacs.proofs.Leniency.{alongside}
use Rattle.rota.specs.Rota.{to_the_last, Hears}
use Rattle.service.specs.Serving.{Reply, opening, answering}
use Rattle.fairness.specs.Promises.{said_alone}
use Rattle.fairness.specs.SideBySide.{JobFor, has_heard, is_refusal, unrefused, AlikeSoFar, SideBySide}
use Rattle.fairness.proofs.Promises.{tray_content}

-- The same is heard first, and then what is alike.
alike_first : (x : Reply × Bool) (xs ys : List (Reply × Bool)) → AlikeSoFar xs ys → AlikeSoFar (cond (is_refusal x.0) [] (x ∷ xs)) (x ∷ ys)
alike_first x xs ys h = chosen (λ l. AlikeSoFar l (x ∷ ys)) (is_refusal x.0) (λ _. tt) (λ _. (refl, h))

-- The same is said first, and then answers of which one follow the other.
alike_said : (x : Reply) {l m : List Answer} → Follow l m → AlikeSoFar (unrefused (to_the_last (x ∷ map answering l))) (to_the_last (x ∷ map answering m))
alike_said x follow.none = alike_first (x, true) [] [] tt
alike_said x follow.ends = alike_first (x, false) ((answering ended, true) ∷ []) ((answering ended, true) ∷ []) (refl, tt)
alike_said x (follow.stops {a} {l} k) = alike_first (x, false) [] (to_the_last (map answering (a ∷ l))) tt
alike_said x (follow.clause_then {extra} {so} {l} {m} k) =
    let c = answering (clause extra so) in
    alike_first (x, false) (unrefused (to_the_last (c ∷ map answering l))) (to_the_last (c ∷ map answering m)) (alike_said c k)

-- What is alike as far as both go, has first parts that are.
alike_sooner : (xs ys rest more : List (Reply × Bool)) → AlikeSoFar (unrefused (xs ++ rest)) (ys ++ more) → AlikeSoFar (unrefused xs) ys
alike_sooner [] ys rest more h = tt
alike_sooner (x ∷ xs) [] rest more h = tested (is_refusal x.0) (λ e. rw e tt) (λ e. rw e tt)
alike_sooner (x ∷ xs) (y ∷ ys) rest more h =
    tested (is_refusal x.0) (λ e. rw e tt)
    (λ e. let k : (x ≡ y) × AlikeSoFar (unrefused (xs ++ rest)) (ys ++ more) = rw e at h in rw e (k.0, alike_sooner xs ys rest more k.1))

-- A job hears what is said of its bytes read alone.
hears_alone : {f : Format} {m : Mode} {bytes : List ℕ} (j : JobFor f m bytes) → Hears (said_alone f m bytes) (has_heard j)
hears_alone {f} {m} {bytes} j = tray_content j.before j.put j.after j.ticket f m bytes j.kind j.given j.stays j.held

pub side_by_side : SideBySide
side_by_side f rule bytes strict lenient =
    let x = hears_alone strict in
    let y = hears_alone lenient in
    let k = alongside f rule own_room bytes in
    let said : AlikeSoFar (unrefused (to_the_last (said_alone f (in_mode Strict rule) bytes))) (to_the_last (said_alone f (in_mode Lenient rule) bytes)) = rw k.opened (alike_said (opening _) k.answers) in
    alike_sooner (has_heard strict) (has_heard lenient) x.rest y.rest (rw (x.first, y.first) at said)
