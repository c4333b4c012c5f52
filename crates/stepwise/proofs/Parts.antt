-- What the calls over words come to, by what the calls below them promise. Assumes nothing.
use Prim.Native.Nat.{ℕ, min}
use mathlib.Core.List.{List}
use mathlib.Core.Path.{◌≡◌, refl, sym, ap, subst, ◌∙◌}
use lib.ListN.{length}
use lib.IntN.{ℤ}
use Rattle.std.specs.Prelude.{Result}
use Rattle.dimacs.specs.Names.{log_format, kind_of}
use Rattle.dimacs.specs.Buffers.{laid}
use Rattle.clause.specs.Answers.{left_by}
use Rattle.log_line.specs.Answers.{log_of, log_leaves}
use Rattle.rows.specs.declared.Stopped.{Stopped}
use Rattle.log_line.specs.declared.Accepted.{Accepted}
use Rattle.sat_solver_log.specs.Answers.{log_by, Parses}
use Rattle.formula.specs.Cursors.{opened_kind, opened, answer_from, step_of, Steps}
use Rattle.formula.specs.declared.Cursor.{Cursor}
use Rattle.formula.specs.declared.Opened.{Opened}
use Rattle.formula.specs.declared.Stepped.{Stepped}
use Rattle.numbers.proofs.Named.{named}
use Rattle.answer_words.specs.Words.{opening_kind, opening_words, next_kind, next_words, log_kind, log_words}
use Rattle.cursor_words.specs.Cursors.{held_cursor, Holds}
use Rattle.stepwise.specs.Calls.{Opens, Nexts, Logs}

-- The mode of a log by a number that was brought down to a byte.
pub log_named : (m : ℕ) {m' : ℕ} → m' ≡ min m 255 → kind_of log_format m' ≡ kind_of log_format m
log_named m em = named log_format m refl em

-- A text opened by numbers that were brought down to bytes.
pub opens : (f m : ℕ) (s : List ℕ) {f' m' : ℕ} (o : Opened) {after said : List ℕ} {r : ℕ} → f' ≡ min f 255 → m' ≡ min m 255 → o ≡ opened f' m' s
    → Holds o.cursor after → said ≡ opening_words o.opening → r ≡ opening_kind o.opening → Opens f m s after said r
opens f m s o {after} ef em e h w k =
    let q : o ≡ opened f m s = e ∙ ap (λ x. opened_kind x s) (named f m ef em) in
    record {
      kind = k ∙ ap (λ x. opening_kind x.opening) q;
      words = w ∙ ap (λ x. opening_words x.opening) q;
      cursor = subst (λ (x : Opened). Holds x.cursor after) q h;
    }

-- A call from the cursor that words hold.
pub nexts : (s before : List ℕ) (old new : List ℤ) (c : Cursor) (step : Stepped) {after said : List ℕ} {r : ℕ} → c ≡ held_cursor before → Steps s c old new step
    → Holds step.cursor after → said ≡ next_words step.answer → r ≡ next_kind step.answer → Nexts s before after old new said r
nexts s before old new c step {after} e p h w k =
    let q : step ≡ step_of s (length old) (held_cursor before) = p.answer ∙ ap (step_of s (length old)) e in
    record {
      kind = k ∙ ap (λ x. next_kind x.answer) q;
      words = w ∙ ap (λ x. next_words x.answer) q;
      cursor = subst (λ (x : Stepped). Holds x.cursor after) q h;
      buffer = p.buffer ∙ ap (λ x. laid (left_by (answer_from s (length old) x).answer) old) e;
    }

-- A log by a number that was brought down to a byte.
pub logs : (m : ℕ) (s : List ℕ) (old new : List ℤ) {m' : ℕ} (l : Result Accepted Stopped) {said : List ℕ} {r : ℕ} → m' ≡ min m 255 → Parses (log_by (kind_of log_format m') s (length old)) old new l
    → said ≡ log_words l → r ≡ log_kind l → Logs m s old new said r
logs m s old new l em p w k =
    let q = ap (λ x. log_by x s (length old)) (named log_format m refl em) in
    record {
      kind = k ∙ ap log_kind p.answer ∙ ap (λ x. log_kind (log_of x)) q;
      words = w ∙ ap log_words p.answer ∙ ap (λ x. log_words (log_of x)) q;
      buffer = p.buffer ∙ ap (λ x. laid (log_leaves x) old) q;
    }

-- Two answers that the contract of a call permits are equal, and so is what they leave.
pub one_open : {f m : ℕ} {s a₁ a₂ said₁ said₂ : List ℕ} {r₁ r₂ : ℕ} → Opens f m s a₁ said₁ r₁ → Opens f m s a₂ said₂ r₂ → (r₁ ≡ r₂) × (said₁ ≡ said₂) × (a₁ ≡ a₂)
one_open p q = (p.kind ∙ sym q.kind, p.words ∙ sym q.words, p.cursor.words ∙ sym q.cursor.words)

pub one_next : {s b a₁ a₂ said₁ said₂ : List ℕ} {old n₁ n₂ : List ℤ} {r₁ r₂ : ℕ} → Nexts s b a₁ old n₁ said₁ r₁ → Nexts s b a₂ old n₂ said₂ r₂
    → (r₁ ≡ r₂) × (said₁ ≡ said₂) × (a₁ ≡ a₂) × (n₁ ≡ n₂)
one_next p q = (p.kind ∙ sym q.kind, p.words ∙ sym q.words, p.cursor.words ∙ sym q.cursor.words, p.buffer ∙ sym q.buffer)

pub one_log : {m : ℕ} {s said₁ said₂ : List ℕ} {old n₁ n₂ : List ℤ} {r₁ r₂ : ℕ} → Logs m s old n₁ said₁ r₁ → Logs m s old n₂ said₂ r₂ → (r₁ ≡ r₂) × (said₁ ≡ said₂) × (n₁ ≡ n₂)
one_log p q = (p.kind ∙ sym q.kind, p.words ∙ sym q.words, p.buffer ∙ sym q.buffer)
