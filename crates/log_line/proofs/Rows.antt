-- The answers for a line are one, and k is how many literals they leave; and the line that a row of values stands in, a law for each way out. Assumes nothing.
use Prim.Native.Nat.{ℕ}
use mathlib.Core.List.{List}
use mathlib.Core.Path.{◌≡◌, refl, ap, sym, ◌∙◌, subst}
use lib.ListN.{length, replicate, length-replicate}
use lib.IntN.{ℤ, pos}
use Rattle.std.specs.Prelude.{Option, None, Some, Result, Ok, Err}
use Rattle.dimacs.specs.Loop.{Step, again, answer}
use Rattle.dimacs.specs.Names.{refusal}
use Rattle.dimacs.specs.declared.Reason.{Reason}
use Rattle.dimacs.specs.Tokens.{end_of_line, line_ends}
use Rattle.dimacs.specs.Rows as row
use Rattle.dimacs.specs.Rows.{read_by}
use Rattle.dimacs.specs.Logs as def
use Rattle.dimacs.specs.declared.Verdict.{Verdict}
use Rattle.dimacs.specs.declared.Assignment.{Assignment}
use Rattle.dimacs.specs.declared.Assignment.TheVariants.{Begun, Closed}
use Rattle.dimacs.specs.Buffers.{laid}
use Rattle.rows.specs.Answers.{row_of, ReadsRow, ByCount}
use Rattle.rows.specs.declared.Row.{Row}
use Rattle.rows.specs.declared.Row.TheVariants.{Ends, Closes}
use Rattle.rows.specs.declared.Stopped.{Stopped}
use Rattle.log_line.specs.Answers.{log_of, k_in, log_leaves}
use Rattle.log_line.specs.Lines.{Line, leads, log_line_of, line_leaves, ReadsLine}
use Rattle.log_line.specs.declared.Reading.{Reading}

-- Two permitted answers are equal, and so are the buffers after them.
pub one_line : {d : Step def.Log def.LogAnswer} {old n₁ n₂ : List ℤ} {r₁ r₂ : Line} → ReadsLine d old n₁ r₁ → ReadsLine d old n₂ r₂ → (r₁ ≡ r₂) × (n₁ ≡ n₂)
one_line p q = (p.line ∙ sym q.line, p.buffer ∙ sym q.buffer)

-- What the code answers for a line is told by what it leads to, so that two permitted answers of the code are equal too.
module _ (r₂ : Result Reading Stopped) where
  led : Line → Result Reading Stopped
  led (again r) = Ok r
  led (answer (Err e)) = Err e
  led (answer (Ok a)) = r₂

  led_leads : (r : Result Reading Stopped) → led (leads r) ≡ r
  unfolding led
  led_leads (Ok r) = refl
  led_leads (Err e) = refl

  pub one_reading : (r₁ : Result Reading Stopped) → leads r₁ ≡ leads r₂ → r₁ ≡ r₂
  one_reading r₁ e = sym (led_leads r₁) ∙ ap led e ∙ led_leads r₂

-- k is how many literals an answer leaves in the buffer.
pub log_k_left : (d : def.LogAnswer) → k_in (log_of d) ≡ length (log_leaves d)
log_k_left (def.accepted v so) = refl
log_k_left (def.refused_log r so) = refl

-- There are so many literals, whatever the count is.
pub one_count : {A : Type 0} {n : ℕ} {f : List ℤ → A} {r₁ r₂ : A} → ByCount n f r₁ → ByCount n f r₂ → r₁ ≡ r₂
one_count {n = n} p q = let so = replicate n (pos 0) in let e = length-replicate n (pos 0) in p so e ∙ sym (q so e)

pub line_read_leaves : (s : List ℕ) (at : ℕ) (verdict : Option Verdict) (a : Assignment) (so : List ℤ) → line_leaves (def.line_read s at verdict a so) ≡ so
line_read_leaves s at verdict a so = go (end_of_line s at)
  where
    go : (x : Option ℕ)
        → line_leaves (line_ends x (λ next. again (def.log_at next verdict a so)) (answer (def.refused_log (refusal s Reason.LineEndExpected at) so))) ≡ so
    go None = refl
    go (Some n) = refl

module _ (s : List ℕ) (verdict : Option Verdict) (d : row.Row) (old new : List ℤ) where
  -- What is read of a line at a place, after so many literals.
  abbrev ReadAt : ℕ → Assignment → ℕ → Line → Type 0
  ReadAt n a count = ByCount count (λ so. log_line_of (def.line_read s n verdict a so))

  -- What the values of a line lead to.
  abbrev ValuesLead : Result Row Stopped → Type 0
  ValuesLead (Ok (Ends n count)) = (r : Line) → ReadAt n Begun count r → ReadsLine (def.values_read s verdict d) old new r
  ValuesLead (Ok (Closes n count)) = (r : Line) → ReadAt n Closed count r → ReadsLine (def.values_read s verdict d) old new r
  ValuesLead (Err e) = ReadsLine (def.values_read s verdict d) old new (answer (Err e))

  pub values_lead : {r m : Result Row Stopped} → ReadsRow d old new r → r ≡ m → ValuesLead m
  values_lead h e = subst ValuesLead (sym h.row ∙ e) (go d refl h.buffer)
    where
      go : (x : row.Row) → d ≡ x → new ≡ laid (read_by x) old → ValuesLead (row_of x)
      go (row.ends n so) e b = λ r is. rw e (record { line = is so refl; buffer = rw (line_read_leaves s n verdict Begun so) b })
      go (row.closes n so) e b = λ r is. rw e (record { line = is so refl; buffer = rw (line_read_leaves s n verdict Closed so) b })
      go (row.stops x so) e b = rw e (record { line = refl; buffer = b })
