-- A log strictly and leniently, line by line. Assumes nothing.
use Prim.Native.Nat.{ℕ, ◌≤◌}
use mathlib.Core.Bool.{◌||◌}
use mathlib.Core.List.{List}
use mathlib.Core.Logic.{◌⊎◌, inl, inr}
use mathlib.Core.Path.{◌≡◌, refl}
use native.Mathlib.Omega.{arith}
use Rattle.dimacs.specs.Loop.{Step, again, answer}
use Rattle.dimacs.specs.Bytes.{bytes}
use Rattle.dimacs.specs.Names.{in_mode, numbered}
use Rattle.dimacs.specs.Lined.{lined}
use Rattle.dimacs.specs.Tokens.{unmoved, at_end, fixed, strict_comment}
use Rattle.dimacs.specs.Logs.{LogAnswer, accepted, refused_log, Log, log_begin, is_closed, is_said, other_line, log_line, log_from, log}
use Rattle.dimacs.specs.declared.Ends.{Ends}
use Rattle.dimacs.specs.declared.Rigor.TheVariants.{Strict, Lenient}
use Rattle.dimacs.proofs.Tests.{tested}
use Rattle.dimacs.proofs.Loops.{Beside, same_step, beside}
use Rattle.dimacs.proofs.Logs.{LogSpans, log_step, log_kept, log_from_spans}

-- A log is not refused before a place.
abbrev pub LogPast : ℕ → LogAnswer → Type 0
LogPast at (accepted v so) = Unit {0}
LogPast at (refused_log r so) = at ≤ r.place

-- A log that is accepted strictly is the same leniently, and one that is refused strictly is read on from there.
abbrev pub LogWidened : LogAnswer → LogAnswer → Type 0
LogWidened (accepted v so) y = y ≡ accepted v so
LogWidened (refused_log r so) y = LogPast r.place y

log_itself : (a : LogAnswer) → LogWidened a a
log_itself (accepted v so) = refl
log_itself (refused_log r so) = omega arith

-- A line at a place is refused there.
abbrev RefusedThere : ℕ → Step Log LogAnswer → Type 0
RefusedThere at (again l) = ⊥
RefusedThere at (answer (accepted v so)) = ⊥
RefusedThere at (answer (refused_log r so)) = r.place ≤ at

-- A line leads both readings the same way, or is refused where it begins.
abbrev LineWidened : ℕ → Step Log LogAnswer → Step Log LogAnswer → Type 0
LineWidened at x y = (y ≡ x) ⊎ RefusedThere at x

module _ (s : List ℕ) where
  other_line_widened : (l : Log) → LineWidened l.at (other_line s Strict l) (other_line s Lenient l)
  unfolding numbered
  other_line_widened l = inr (omega arith)

  log_line_widened : (room : ℕ) (l : Log) → LineWidened l.at (log_line s Strict room l) (log_line s Lenient room l)
  unfolding log_line
  log_line_widened room l =
      let at = l.at in
      let v = fixed s (bytes "v ") at in
      let e = fixed s (bytes "s ") at in
      tested (unmoved at (strict_comment s at))
      (λ a. tested (is_closed l.assignment || unmoved at v)
      (λ b. tested (is_said l.verdict || unmoved at e)
      (λ c. tested (at_end s at) (λ d. rw (a, b, c, d) (inl refl)) (λ d. rw (a, b, c, d) (other_line_widened l)))
      (λ c. rw (a, b, c) (inl refl)))
      (λ b. rw (a, b) (inl refl)))
      (λ a. rw a (inl refl))

  module _ (room : ℕ) where
    -- From where a log is read it is not refused before.
    log_past : (low : ℕ) (l : Log) → low ≤ l.at → LogPast low (log_from s Lenient room l)
    log_past low l h = go (log_from s Lenient room l) (log_from_spans s Lenient room l.at l (omega arith))
      where
        go : (a : LogAnswer) → LogSpans s l.at a → LogPast low a
        go (accepted v so) k = tt
        go (refused_log r so) k = omega (arith, k.on)

    line_beside : (l : Log) → Beside LogWidened (log_from s Lenient room) l (log_line s Strict room l)
    line_beside l = go (log_line s Strict room l) (log_line_widened room l)
      where
        there : (t : Step Log LogAnswer) → RefusedThere l.at t → Beside LogWidened (log_from s Lenient room) l t
        there (again x) h = absurd h
        there (answer (accepted v so)) h = absurd h
        there (answer (refused_log r so)) h = log_past r.place l h

        go : (t : Step Log LogAnswer) → LineWidened l.at t (log_line s Lenient room l) → Beside LogWidened (log_from s Lenient room) l t
        go t (inl e) = same_step LogWidened (log_from s Lenient room) log_itself l t (rw e at (log_step s Lenient room l))
        go t (inr h) = there t h

    log_from_widened : (l : Log) → LogWidened (log_from s Strict room l) (log_from s Lenient room l)
    log_from_widened = beside LogWidened (log_from s Lenient room) (log_line s Strict room) (log_from s Strict room) (log_kept s Strict room) line_beside

pub log_widened : (rule : Ends) (room : ℕ) (s : List ℕ) → LogWidened (log s (in_mode Strict rule) room) (log s (in_mode Lenient rule) room)
unfolding log
log_widened rule room s = log_from_widened (lined rule s) room log_begin
