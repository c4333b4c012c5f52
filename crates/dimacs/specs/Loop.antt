-- Repetition that ends.
use Rattle.std.specs.Prelude.{ℕ, zero, suc, List, [], ◌∷◌}

-- A step leads to a state from which to step again, or to the answer.
pub data Step (S A : Type 0) : Type 0 where
  again : S → Step S A
  answer : A → Step S A

-- Steps are taken from s until one answers. At most n are taken; wherever `loop` is used fewer suffice, and `over` is never the answer (`enough`,
-- proofs/Loops.antt).
unfoldable pub loop : {S A : Type 0} → (S → Step S A) → A → ℕ → S → A
loop step over zero s = over
loop step over (suc n) s = elim (step s) [ again s' ↦ loop step over n s' | answer a ↦ a ]

-- A turn gives an answer and the state after it, or the last answer.
pub data Turn (S A : Type 0) : Type 0 where
  on : A → S → Turn S A
  last : A → Turn S A

-- The answers of the turns from s, up to the last. At most n are taken; wherever `said` is used fewer suffice.
unfoldable pub said : {S A : Type 0} → (S → Turn S A) → ℕ → S → List A
said turn zero s = []
said turn (suc n) s = elim (turn s) [ on a s' ↦ a ∷ said turn n s' | last a ↦ a ∷ [] ]
