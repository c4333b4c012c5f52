-- A reader is a text with a cursor: its answers are the cursor's.
use Rattle.std.specs.Prelude.{ℕ, List, ◌≡◌, ℤ}
use Rattle.std.specs.Borrow.{Bor}
use Rattle.clause.specs.Answers.{Next}
use Rattle.formula.specs.Cursors.{opened, Steps}
use Rattle.reader.specs.declared.Reader.{Reader}
use Rattle.reader.specs.declared.Opened.{Opened}

-- A text opened by the numbers of a format and a mode.
abbrev pub opened_on : ℕ → ℕ → Bor (List ℕ) → Opened
opened_on f m t = let o = opened f m t.now in record { opening = o.opening; reader = record { text = t; cursor = o.cursor } }

-- A call's whole promise: the cursor's own on the reader's text, and the reader goes on with that text.
pub record Reads (r : Reader) (old new : List ℤ) (after : Reader) (a : Next) : Type 0 where
  pub step : Steps r.text.now r.cursor old new (record { answer = a; cursor = after.cursor })
  pub text : after.text ≡ r.text
