-- A turn tells of no more literals than the buffer lent to it holds. Assumes nothing.
use Prim.Native.Nat.{ℕ, ◌≤◌}
use mathlib.Core.List.{List}
use mathlib.Core.Path.{◌≡◌, ap, sym, ◌∙◌, subst}
use native.Mathlib.Omega.{arith}
use borrow.Author.Tests.{ltb-false}
use Rattle.std.specs.Prelude.{Option, Some, None, Result, Ok, Err}
use lib.Dec.{ltb}
use lib.ListN.{length}
use lib.IntN.{ℤ}
use Rattle.dimacs.specs.Names.{own_room}
use Rattle.dimacs.specs.declared.Reason.{Reason}
use Rattle.dimacs.proofs.Tests.{chosen}
use Rattle.clause.specs.Answers.{Next}
use Rattle.formula.proofs.Runs.{CountFits}
use Rattle.service.specs.declared.Said.TheVariants as said
use Rattle.ring.specs.declared.Tray.{Tray}
use Rattle.ring.specs.declared.Job.{Job}
use Rattle.ring.specs.Ring.{waiting, front_of}
use Rattle.tray.specs.declared.Done.{Done}
use Rattle.tray.specs.declared.Told.{Told}
use Rattle.service.specs.Serving.{k_in, literals_in}
use Rattle.service.proofs.Serving.{said_k, part_fits}
use Rattle.tray.specs.Calls.{serve, turn_for, turn_of, Turns}

-- The literals that a turn's answer counts are at most so many.
abbrev ToldFits : ℕ → Result Told Reason → Type 0
ToldFits room (Err why) = Unit {0}
ToldFits room (Ok a) = k_in a.said ≤ room

served_fits : (area : List ℕ) (j : Job) → length (literals_in (serve area j).said) ≤ own_room
unfolding serve
served_fits area j = part_fits area j.part.start j.part.length own_room j.stage

turn_fits_by : (t : Tray) (area : List ℕ) (room : ℕ) (x : Option Job) → ToldFits room (turn_for t area room x).answer
turn_fits_by t area room None = tt
turn_fits_by t area room (Some j) =
    chosen (λ (d : Done Told). ToldFits room d.answer) (ltb room own_room) (λ f. tt)
    (λ f. rw (said_k (serve area j).said) (omega (arith, served_fits area j, ltb-false room own_room f)))

turn_fits : (t : Tray) (area : List ℕ) (room : ℕ) → ToldFits room (turn_of t area room).answer
unfolding turn_of
turn_fits t area room = turn_fits_by t area room (front_of (waiting t))

turns_fit : {t : Tray} {area : List ℕ} {old new : List ℤ} {r : Done Told} → Turns t area old new r → {a : Result Told Reason} → r.answer ≡ a → ToldFits (length old) a
turns_fit {t} {area} {old} p g = subst (ToldFits (length old)) (sym (ap (λ x. x.answer) p.done) ∙ g) (turn_fits t area (length old))

-- The same as a caller takes the answer apart.
pub told_fits : {t : Tray} {area : List ℕ} {old new : List ℤ} {r : Done Told} → Turns t area old new r
    → {a : Told} {x y : Next} → r.answer ≡ Ok a → a.said ≡ said.Next x → x ≡ y → CountFits (length old) y
told_fits {t} {area} {old} p g h e = subst (CountFits (length old)) e (subst (λ x. k_in x ≤ length old) h (turns_fit p g))
