-- What a turn says, its literals read in the buffer, has the number, place, line and column, k and ticket of its answer. Assumes nothing.
use Prim.Native.Nat.{ℕ}
use mathlib.Core.Bool.{Bool}
use mathlib.Core.List.{List}
use mathlib.Core.Path.{◌≡◌, refl, ap, sym, ◌∙◌, subst}
use Rattle.std.specs.Prelude.{Option, Some, None, Result, Ok}
use lib.Dec.{ltb}
use lib.ListN.{length}
use lib.IntN.{ℤ}
use Rattle.dimacs.specs.Names.{own_room}
use Rattle.dimacs.specs.declared.Reason.{Reason}
use Rattle.dimacs.specs.Buffers.{laid}
use Rattle.dimacs.specs.Clauses as def
use Rattle.dimacs.proofs.Tests.{tested}
use Rattle.dimacs.proofs.Buffer as buffer
use Rattle.rota.specs.Rota.{Answer, refused}
use Rattle.service.specs.Serving as serving
use Rattle.service.specs.Serving.{Reply, opening, answering, said_of, literals_in}
use Rattle.ring.specs.declared.Job.{Job}
use Rattle.ring.specs.declared.Tray.{Tray}
use Rattle.ring.specs.Ring.{waiting, front_of}
use Rattle.tray.specs.declared.Done.{Done}
use Rattle.tray.specs.declared.Told.{Told}
use Rattle.tray.specs.Calls.{serve, turn_for, turn_of, buffer_for, buffer_of, Turns}
use Rattle.tray.specs.Answers.{reply_in, turn_says, number_in, place_in, spot_in, k_in, ticket_in, NumberAlone}

pub number_alone : (x : Answer Reply) (n : ℕ) → x ≡ refused n → NumberAlone n x
number_alone x n h = rw h (record { number = refl; place = refl; spot = refl; k = refl; ticket = refl })

-- What a caller reads in an answer and the buffer after it is what was said.
pub reply_in_buffer : (r : Reply) (old : List ℤ) → reply_in (laid (literals_in r) old) (said_of r) ≡ r
reply_in_buffer (opening o) old = refl
reply_in_buffer (answering (def.clause extra so)) old = ap (λ l. answering (def.clause extra l)) (buffer.laid_first so old)
reply_in_buffer (answering def.ended) old = refl
reply_in_buffer (answering (def.refused r so)) old = ap (λ l. answering (def.refused r l)) (buffer.laid_first so old)

-- It has these values.
pub record Tells (a : Told) (x : Answer Reply) : Type 0 where
  pub number : number_in x ≡ serving.number_in a.said
  pub place : place_in x ≡ serving.place_in a.said
  pub spot : spot_in x ≡ serving.spot_in a.said
  pub k_is : k_in x ≡ serving.k_in a.said
  pub ticket : ticket_in x ≡ a.ticket

-- What is told of a reply.
abbrev told_of : ℕ → Reply → Bool → Told
told_of k r last = record { ticket = k; said = said_of r; last = last }

reply_tells : (r : Reply) (old : List ℤ) (k : ℕ) (last : Bool) → Tells (told_of k r last) (turn_says (laid (literals_in r) old) (Ok (told_of k r last)))
reply_tells r old k last = rw (reply_in_buffer r old) (record { number = refl; place = refl; spot = refl; k_is = refl; ticket = refl })

turn_tells_by : (t : Tray) (area : List ℕ) (old : List ℤ) (x : Option Job) {a : Told} → (turn_for t area (length old) x).answer ≡ Ok a → Tells a (turn_says (buffer_for area old x) (Ok a))
turn_tells_by t area old None h = absurd (cc)
turn_tells_by t area old (Some j) {a} h =
    tested (ltb (length old) own_room) (λ b. let g = rw b at h in absurd (cc)) (λ b. rw b (told (rw b at h)))
  where
    r : Reply
    r = (serve area j).said

    told : {n : ℕ} {o : Bool} → ◌≡◌ {A = Result Told Reason} (Ok (told_of n r o)) (Ok a) → Tells a (turn_says (laid (literals_in r) old) (Ok a))
    told {n} {o} g = let e : told_of n r o ≡ a = cc in subst (λ y. Tells y (turn_says (laid (literals_in r) old) (Ok y))) e (reply_tells r old n o)

pub turn_tells : {t : Tray} {area : List ℕ} {old new : List ℤ} {r : Done Told} → Turns t area old new r → {a : Told} → r.answer ≡ Ok a → Tells a (turn_says new (Ok a))
unfolding turn_of buffer_of
turn_tells {t} {area} {old} p h = rw p.buffer (turn_tells_by t area old (front_of (waiting t)) (sym (ap (λ x. x.answer) p.done) ∙ h))
