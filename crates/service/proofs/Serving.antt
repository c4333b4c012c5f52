-- Serving a job: its promise has one answer, and no more literals are read than there is room for. Assumes nothing.
use Prim.Native.Nat.{ℕ, ◌≤◌}
use mathlib.Core.List.{List}
use mathlib.Core.Path.{◌≡◌, refl, sym, ◌∙◌}
use native.Mathlib.Omega.{arith}
use Rattle.std.specs.Prelude.{Ok, Err}
use lib.ListN.{length, take, drop}
use lib.IntN.{ℤ}
use Rattle.dimacs.specs.Lined.{lined}
use Rattle.dimacs.specs.Clauses as def
use Rattle.dimacs.specs.declared.Opening.TheVariants as how
use Rattle.dimacs.proofs.Tests.{chosen}
use Rattle.dimacs.proofs.Clauses.{AnswerFits}
use Rattle.dimacs.proofs.Texts.{answer_fits}
use Rattle.formula.specs.Cursors.{answer_from}
use Rattle.clause.specs.Answers.{left_by}
use Rattle.clause.proofs.Finishes.{k_left}
use Rattle.service.specs.declared.Stage.{Stage}
use Rattle.service.specs.declared.Stage.TheVariants as stage
use Rattle.service.specs.declared.Served.{Served}
use Rattle.service.specs.Serving.{within, Reply, opening, answering, said_of, k_in, literals_in, Serving, serving, served_part, Serves}

-- Two permitted answers are equal, and so are the buffers after them.
pub one_serving : {v : Serving} {old n₁ n₂ : List ℤ} {r₁ r₂ : Served} → Serves v old n₁ r₁ → Serves v old n₂ r₂ → (r₁ ≡ r₂) × (n₁ ≡ n₂)
one_serving p q = (p.answer ∙ sym q.answer, p.buffer ∙ sym q.buffer)

-- k is how many literals are said.
pub said_k : (a : Reply) → k_in (said_of a) ≡ length (literals_in a)
said_k (opening (Ok (how.Header h at))) = refl
said_k (opening (Ok (how.NoHeader at))) = refl
said_k (opening (Err r)) = refl
said_k (answering a) = k_left a

-- No more literals are read than there is room for.
pub serving_fits : (s : List ℕ) (room : ℕ) (x : Stage) → length (literals_in (serving s room x).said) ≤ room
unfolding serving
serving_fits s room (stage.Fresh f m) = omega arith
serving_fits s room (stage.Reading c) = go (answer_from s room c).answer (answer_fits (lined c.ends s) c.format c.limits room c.progress)
  where
    go : (a : def.Answer) → AnswerFits room a → length (left_by a) ≤ room
    go (def.clause extra so) h = h
    go def.ended h = omega arith
    go (def.refused r so) h = h

pub part_fits : (area : List ℕ) (start size room : ℕ) (x : Stage) → length (literals_in (served_part area start size room x).said) ≤ room
unfolding served_part
part_fits area start size room x =
    chosen (λ (v : Serving). length (literals_in v.said) ≤ room) (within start size (length area)) (λ e. serving_fits (take size (drop start area)) room x) (λ e. omega arith)
