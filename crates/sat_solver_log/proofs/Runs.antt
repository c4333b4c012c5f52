-- The loop over the lines of a log: what it comes to from here on is what it comes to from the start. Assumes nothing.
use Prim.Native.Nat.{ℕ, ◌-◌, ◌≤◌, ◌<◌}
use mathlib.Core.List.{List}
use mathlib.Core.Path.{◌≡◌, refl, sym, ◌∙◌, subst}
use native.Mathlib.Omega.{arith}
use lib.ListN.{length, take, drop, length-append}
use lib.IntN.{ℤ}
use Rattle.std.specs.Prelude.{None, Result}
use Rattle.dimacs.specs.Loop.{Step, again, answer}
use Rattle.dimacs.specs.Logs as def
use Rattle.dimacs.specs.declared.Rigor.{Rigor}
use Rattle.dimacs.specs.declared.Assignment.TheVariants.{Unbegun}
use Rattle.dimacs.proofs.Loops.{after}
use Rattle.dimacs.proofs.Logs.{LineLeads, log_line_leads, log_step}
use Rattle.dimacs.specs.Buffers.{laid}
use Rattle.dimacs.proofs.Buffer.{Kept, kept_unchanged, kept_count, kept_beyond, kept_adds, laid_first}
use Rattle.rows.specs.declared.Stopped.{Stopped}
use Rattle.log_line.specs.Answers.{log_of, k_in, log_leaves}
use Rattle.log_line.specs.Lines.{log_state_of, reading_of, log_line_of, line_leaves, ReadsLine}
use Rattle.log_line.specs.declared.Accepted.{Accepted}
use Rattle.log_line.specs.declared.Reading.{Reading}
use Rattle.log_line.proofs.Rows.{log_k_left}
use Rattle.sat_solver_log.specs.Answers.{Parses}
use Rattle.sat_solver_log.proofs.Lines.{line_at, log_line_grows}

-- Two permitted answers are equal, and so are the buffers after them.
pub one_log : {d : def.LogAnswer} {old n₁ n₂ : List ℤ} {r₁ r₂ : Result Accepted Stopped} → Parses d old n₁ r₁ → Parses d old n₂ r₂ → (r₁ ≡ r₂) × (n₁ ≡ n₂)
one_log p q = (p.answer ∙ sym q.answer, p.buffer ∙ sym q.buffer)

-- No answer counts more literals than the buffer holds.
pub parses_fit : {d : def.LogAnswer} {old new : List ℤ} {r a : Result Accepted Stopped} → Parses d old new r → r ≡ a → k_in a ≤ length new
parses_fit {d} {old} {new} p g =
    let so = log_leaves d in
    subst (λ x. k_in x ≤ length new) (sym p.answer ∙ g) (rw (p.buffer, log_k_left d) (omega (arith, length-append so (drop (length so) old))))

-- The literals so far stand first in the buffer, and the log from here on is the log from the start.
pub record LogSoFar (s : List ℕ) (rigor : Rigor) (old lits : List ℤ) (x : Reading) : Type 0 where
  pub kept : Kept old lits x.count
  pub so_far : def.log_from s rigor (length old) def.log_begin ≡ def.log_from s rigor (length old) (log_state_of x (take x.count lits))

pub log_so_far_start : (s : List ℕ) (rigor : Rigor) (old : List ℤ) → LogSoFar s rigor old old (record { place = 0; verdict = None; assignment = Unbegun; count = 0 })
log_so_far_start s rigor old = record { kept = kept_unchanged (omega arith); so_far = refl }

module _ {s : List ℕ} {rigor : Rigor} {old lits : List ℤ} {x : Reading} (h : LogSoFar s rigor old lits x) where
  log_so_far_step : def.log_from s rigor (length old) def.log_begin ≡ after (line_at s rigor lits x) (def.log_from s rigor (length old))
  log_so_far_step = rw h.kept.same (h.so_far ∙ log_step s rigor (length old) (log_state_of x (take x.count lits)))

  log_so_far_grows : (x.count ≤ length (line_leaves (line_at s rigor lits x))) × (length (line_leaves (line_at s rigor lits x)) ≤ length lits)
  log_so_far_grows = let k = h.kept.fits in omega (arith, log_line_grows s rigor (length lits) (log_state_of x (take x.count lits)), kept_count h.kept)

  -- On to the next line, which is further on.
  pub log_so_far_on : {new : List ℤ} {y : Reading} → ReadsLine (line_at s rigor lits x) lits new (again y) → LogSoFar s rigor old new y × (length s - y.place < length s - x.place)
  log_so_far_on {new} {y} g = go (line_at s rigor lits x) log_so_far_step log_so_far_grows (log_line_leads s rigor (length lits) (log_state_of x (take x.count lits))) g.line g.buffer
    where
      go : (t : Step def.Log def.LogAnswer) → def.log_from s rigor (length old) def.log_begin ≡ after t (def.log_from s rigor (length old))
          → (x.count ≤ length (line_leaves t)) × (length (line_leaves t) ≤ length lits) → LineLeads s x.place t → again y ≡ log_line_of t → new ≡ laid (line_leaves t) lits
          → LogSoFar s rigor old new y × (length s - y.place < length s - x.place)
      go (again l) e k m a b =
          let q : reading_of l ≡ y = cc in
          subst (λ z. LogSoFar s rigor old new z × (length s - z.place < length s - x.place)) q
          (rw b (record { kept = kept_adds h.kept l.so k.0 k.1; so_far = rw (laid_first l.so lits) e }), omega arith)
      go (answer _) e k m a b = absurd (let z : ◌≡◌ {A = ℕ} 0 1 = cc in omega arith)

  pub log_so_far_answered : {new : List ℤ} {a : Result Accepted Stopped} → ReadsLine (line_at s rigor lits x) lits new (answer a) → Parses (def.log_from s rigor (length old) def.log_begin) old new a
  log_so_far_answered {new} {a} g = go (line_at s rigor lits x) log_so_far_step log_so_far_grows g.line g.buffer
    where
      go : (t : Step def.Log def.LogAnswer) → def.log_from s rigor (length old) def.log_begin ≡ after t (def.log_from s rigor (length old))
          → (x.count ≤ length (line_leaves t)) × (length (line_leaves t) ≤ length lits) → answer a ≡ log_line_of t → new ≡ laid (line_leaves t) lits
          → Parses (def.log_from s rigor (length old) def.log_begin) old new a
      go (again _) e k i b = absurd (let z : ◌≡◌ {A = ℕ} 0 1 = cc in omega arith)
      go (answer d) e k i b =
          let q : a ≡ log_of d = cc in
          rw e (record { answer = q; buffer = b ∙ rw (kept_beyond h.kept (length (log_leaves d)) k.0) })
