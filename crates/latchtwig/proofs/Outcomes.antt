-- What a text comes to by number: logs as their reader answers them, and numbers that no byte holds. Assumes nothing.
use Prim.Native.Nat.{ℕ, min}
use mathlib.Core.List.{List}
use mathlib.Core.Path.{◌≡◌, refl, sym, ap, ◌∙◌}
use lib.ListN.{length}
use lib.IntN.{ℤ}
use Rattle.std.specs.Prelude.{Result, Ok, Err}
use Rattle.dimacs.specs.Names.{own_room}
use Rattle.dimacs.specs.Logs.{LogAnswer, accepted, refused_log, log}
use Rattle.dimacs.specs.declared.Mode.{Mode}
use Rattle.dimacs.specs.declared.Refusal.{Refusal}
use Rattle.rows.specs.declared.Stopped.{Stopped}
use Rattle.log_line.specs.Answers.{log_of}
use Rattle.log_line.specs.declared.Accepted.{Accepted}
use Rattle.sat_solver_log.specs.Answers.{Parses}
use Rattle.numbers.proofs.Named.{named}
use Rattle.latchtwig.specs.Outcomes as host
use Rattle.latchtwig.specs.Outcomes.{outcome_by_log, outcome_of_log, outcome_kind, Checks}

-- What an answer of the log reader comes to.
abbrev pub log_told : Result Accepted Stopped → Result Unit Refusal
log_told (Ok a) = Ok tt
log_told (Err e) = Err e.refusal

pub log_told_lem : (m : Mode) (s : List ℕ) (old new : List ℤ) (r : Result Accepted Stopped) → length old ≡ own_room → Parses (log s m (length old)) old new r
    → {a : Result Accepted Stopped} → r ≡ a → log_told a ≡ outcome_of_log m s
unfolding outcome_of_log
log_told_lem m s old new r l p g = ap log_told (sym g ∙ p.answer ∙ ap (λ n. log_of (log s m n)) l) ∙ go (log s m own_room)
  where
    go : (d : LogAnswer) → log_told (log_of d) ≡ outcome_by_log d
    go (accepted v so) = refl
    go (refused_log q so) = refl

pub outcome_narrowed : (f m : ℕ) (s : List ℕ) {f' m' : ℕ} → f' ≡ min f 255 → m' ≡ min m 255 → host.outcome f' m' s ≡ host.outcome f m s
unfolding host.outcome
outcome_narrowed f m s ef em = ap (λ k. outcome_kind k s) (named f m ef em)

-- Two answers that the contract of a check permits are equal, and leave the same words.
pub one_check : {s l₁ l₂ : List ℕ} {o : Result Unit Refusal} {r₁ r₂ : ℕ} → Checks s o l₁ r₁ → Checks s o l₂ r₂ → (r₁ ≡ r₂) × (l₁ ≡ l₂)
one_check a b = (a.number ∙ sym b.number, a.words ∙ sym b.words)
