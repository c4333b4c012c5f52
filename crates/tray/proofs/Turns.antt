-- A turn's promise has one answer, and serving with the first places of a buffer is serving with the buffer. Assumes nothing.
use Prim.Native.Nat.{ℕ, ◌≤◌}
use mathlib.Core.List.{List, ◌++◌, append_assoc}
use mathlib.Core.Path.{◌≡◌, ap, sym, ◌∙◌}
use native.Mathlib.Omega.{arith}
use lib.ListN.{length, take, drop, take-append-drop}
use lib.Seq.{length-take-le, drop-append-le}
use lib.IntN.{ℤ}
use Rattle.dimacs.specs.Names.{own_room}
use Rattle.dimacs.specs.Buffers.{laid}
use Rattle.service.specs.declared.Served.{Served}
use Rattle.service.specs.Serving.{literals_in, served_part, Serves}
use Rattle.service.proofs.Serving.{part_fits}
use Rattle.ring.specs.declared.Job.{Job}
use Rattle.ring.specs.declared.Tray.{Tray}
use Rattle.tray.specs.declared.Done.{Done}
use Rattle.tray.specs.declared.Told.{Told}
use Rattle.tray.specs.Calls.{serve, Turns}

-- Two permitted answers of a turn are equal, and so are the buffers after them.
pub one_turn : {t : Tray} {area : List ℕ} {old n₁ n₂ : List ℤ} {r₁ r₂ : Done Told} → Turns t area old n₁ r₁ → Turns t area old n₂ r₂ → (r₁ ≡ r₂) × (n₁ ≡ n₂)
one_turn p q = (p.done ∙ sym q.done, p.buffer ∙ sym q.buffer)

-- Literals laid in the first places of a buffer are laid in the buffer.
laid_front : (n : ℕ) (so old : List ℤ) → length so ≤ n → n ≤ length old → laid so (take n old) ++ drop n old ≡ laid so old
laid_front n so old h k =
    append_assoc so (drop (length so) (take n old)) (drop n old)
    ∙ ap (λ l. so ++ l)
    (sym (drop-append-le (length so) (take n old) (drop n old) (omega (arith, length-take-le n old k))) ∙ ap (drop (length so)) (take-append-drop n old))

-- Serving with the first places of a buffer is serving with the buffer.
pub served_first : (area : List ℕ) (j : Job) (old : List ℤ) {new : List ℤ} {v : Served} → own_room ≤ length old
    → Serves (served_part area j.part.start j.part.length (length (take own_room old)) j.stage) (take own_room old) new v
    → Serves (serve area j) old (new ++ drop own_room old) v
unfolding serve
served_first area j old {new} {v} b p =
    let w : Serves (serve area j) (take own_room old) new v = rw (length-take-le own_room old b) at p in
    record {
      answer = w.answer;
      buffer =
          ap (λ l. l ++ drop own_room old) w.buffer
          ∙ laid_front own_room (literals_in (serve area j).said) old (part_fits area j.part.start j.part.length own_room j.stage) b;
    }
