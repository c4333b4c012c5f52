-- What a host hears that opens a text and calls on.
use Rattle.std.specs.Prelude.{ℕ, List, [], ◌∷◌, ◌≡◌, length, take, get_or, ℤ}
use Rattle.formula.specs.Whole.{Call}
use Rattle.answer_words.specs.Words.{next_kind, next_words}
use Rattle.stepwise.specs.Calls.{Nexts}

-- What is heard of one call: what it answers, the words that it leaves, and as many literals of the buffer as they count.
pub record Heard : Type 0 where
  pub kind : ℕ
  pub words : List ℕ
  pub literals : List ℤ

-- One call, by its answer, its words and the buffer after it. The fifth word is k.
abbrev pub heard : ℕ → List ℕ → List ℤ → Heard
heard r said new = record { kind = r; words = said; literals = take (get_or said 4 0) new }

-- A call of `next_clause` as a host hears it.
abbrev pub heard_of : Call → Heard
heard_of c = record { kind = next_kind c.answer; words = next_words c.answer; literals = c.left }

-- The calls of a host with buffers of one length, from words on. It calls on, with the words that the last call left, after each clause and no other answer. Between the calls it may
-- do what it likes with the buffer and the answer.
pub data Run (s : List ℕ) (room : ℕ) : List ℕ → List Heard → Type 0 where
  goes : (w w' said : List ℕ) (old new : List ℤ) (l : List Heard) → length old ≡ room → Nexts s w w' old new said 1 → Run s room w' l → Run s room w (heard 1 said new ∷ l)
  stops : (w w' said : List ℕ) (old new : List ℤ) (r : ℕ) → length old ≡ room → Nexts s w w' old new said r → (r ≡ 1 → ⊥) → Run s room w (heard r said new ∷ [])
