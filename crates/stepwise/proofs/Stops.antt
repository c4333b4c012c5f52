-- The word a reader stopped at, by the number of a mode: it is within the text, and is what a cursor of that mode stops at. Assumes nothing.
use Prim.Native.Nat.{ℕ, suc, ◌+◌, ◌-◌, ◌≤◌, min}
use mathlib.Core.Bool.{Bool, true, false, cond}
use mathlib.Core.List.{List}
use mathlib.Core.Path.{◌≡◌, ap}
use native.Mathlib.Omega.{arith}
use lib.Dec.{eqb}
use Rattle.std.specs.Prelude.{Option, None, Some}
use lib.ListN.{length, drop, length-take, length-drop}
use Rattle.dimacs.specs.Bytes.{is_not_stop}
use Rattle.dimacs.specs.Names.{longest_word, log_format, in_mode, kind_in, kind_of}
use Rattle.dimacs.specs.Lined.{lined}
use Rattle.dimacs.specs.Tokens.{run, line_end, stopped_at}
use Rattle.dimacs.specs.declared.Format.{Format}
use Rattle.dimacs.specs.declared.Mode.{Mode}
use Rattle.dimacs.specs.declared.Rigor.TheVariants.{Strict, Lenient}
use Rattle.dimacs.specs.declared.Ends.TheVariants.{LineFeed, AlsoReturn}
use Rattle.dimacs.specs.declared.Kind.{Kind}
use Rattle.dimacs.specs.declared.Kind.TheVariants.{Clauses, Log}
use Rattle.dimacs.proofs.Tests.{chosen}
use Rattle.dimacs.proofs.Lined.{lined-length}
use Rattle.stepwise.specs.Calls.{word_by}

stopped_within : (s : List ℕ) (at : ℕ) → length (stopped_at s at) ≤ length s - at
unfolding stopped_at
stopped_within s at =
    let most = min longest_word (suc (run is_not_stop (drop (at + 1) s))) in
    chosen (λ (x : List ℕ). length x ≤ length s - at) (eqb (line_end s at) at) (λ _. omega (arith, length-take most (drop at s), length-drop at s)) (λ _. omega arith)

-- The word at a place lies within the text, so that a caller may cut it out.
pub word_within : (k : Option Kind) (s : List ℕ) (at : ℕ) → length (word_by k s at) ≤ length s - at
word_within None s at = omega arith
word_within (Some (Clauses f m)) s at = omega arith
word_within (Some (Log m)) s at = omega (arith, stopped_within (lined m.ends s) at, lined-length m.ends s)

-- Where two numbers name a text or a log, the number of logs and the same mode name a log in that mode.
data LogOf : Option Kind → Option Kind → Type 0 where
  of_none : LogOf None None
  of_clauses : {f : Format} {m : Mode} → LogOf (Some (Clauses f m)) (Some (Log m))
  of_log : {m : Mode} → LogOf (Some (Log m)) (Some (Log m))
  of_other : {m : Mode} → LogOf None (Some (Log m))

log_chosen : (t : Bool) {k l k' l' : Option Kind} → LogOf k l → LogOf k' l' → LogOf (cond t k k') (cond t l l')
log_chosen true h h' = h
log_chosen false h h' = h'

log_in : (m : Mode) (f : ℕ) → LogOf (kind_in m f) (kind_in m log_format)
unfolding kind_in
log_in m f =
    let P : Option Kind → Type 0 = λ k. LogOf k (Some (Log m)) in
    chosen P (eqb f 0) (λ _. of_clauses) (λ _. chosen P (eqb f 1) (λ _. of_clauses) (λ _. chosen P (eqb f 2) (λ _. of_clauses)
    (λ _. chosen P (eqb f log_format) (λ _. of_log) (λ _. chosen P (eqb f 4) (λ _. of_clauses) (λ _. of_other)))))

log_of_lem : (f m : ℕ) → LogOf (kind_of f m) (kind_of log_format m)
unfolding kind_of
log_of_lem f m =
    log_chosen (eqb m 0) (log_in (in_mode Strict LineFeed) f) (log_chosen (eqb m 1) (log_in (in_mode Lenient LineFeed) f)
    (log_chosen (eqb m 2) (log_in (in_mode Strict AlsoReturn) f) (log_chosen (eqb m 3) (log_in (in_mode Lenient AlsoReturn) f) of_none)))

log_is : {f : Format} {m : Mode} {k l : Option Kind} → LogOf k l → k ≡ Some (Clauses f m) → l ≡ Some (Log m)
log_is of_none e = absurd (let z : ◌≡◌ {A = ℕ} 0 1 = cc in omega arith)
log_is of_clauses e = cc
log_is of_log e = absurd (let z : ◌≡◌ {A = ℕ} 0 1 = cc in omega arith)
log_is of_other e = absurd (let z : ◌≡◌ {A = ℕ} 0 1 = cc in omega arith)

-- The word by the number of a mode is the word by the line rule of a text that is read in that mode.
pub word_of_mode : (f m : ℕ) {format : Format} {mode : Mode} (s : List ℕ) (at : ℕ) → kind_of f m ≡ Some (Clauses format mode) → word_by (kind_of log_format m) s at ≡ stopped_at (lined mode.ends s) at
word_of_mode f m s at e = ap (λ k. word_by k s at) (log_is (log_of_lem f m) e)
