-- The first answer of a text is that of the first call from its cursor.
use Rattle.std.specs.Prelude.{ℕ, List, ◌≡◌, length, ℤ}
use Rattle.dimacs.specs.Buffers.{laid}
use Rattle.clause.specs.Answers.{left_by}
use Rattle.formula.specs.Cursors.{opened, answer_from, step_of}
use Rattle.first_answer.specs.declared.First.{First}

-- How a text opens, the answer of the first call from its cursor, and the place after it.
abbrev pub first_of : ℕ → ℕ → List ℕ → ℕ → First
first_of f m s room =
    let o = opened f m s in
    let step = step_of s room o.cursor in
    record { opening = o.opening; answer = step.answer; place = step.cursor.progress.place }

-- The whole promise of the first call on a text.
pub record ReadsFirst (f m : ℕ) (s : List ℕ) (old new : List ℤ) (r : First) : Type 0 where
  pub answer : r ≡ first_of f m s (length old)
  pub buffer : new ≡ laid (left_by (answer_from s (length old) (opened f m s).cursor).answer) old
