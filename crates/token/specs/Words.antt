-- The word a reader stopped at, as a part of the lent text itself.
use Rattle.std.specs.Prelude.{ℕ, ◌+◌, min, List, ◌≡◌, length}
use Rattle.std.specs.Borrow.{Bor}
use Rattle.dimacs.specs.Lined.{lined}
use Rattle.dimacs.specs.Tokens.{stopped_at}
use Rattle.dimacs.specs.declared.Ends.{Ends}

-- A part lies in a lent text from a place on, and has these bytes: it is in the text's own block of memory, so far behind the text's start, and no equal part elsewhere will do.
pub record LiesIn (text : Bor (List ℕ)) (from : ℕ) (s : List ℕ) (part : Bor (List ℕ)) : Type 0 where
  pub block : part.ref_ptr.0 ≡ text.ref_ptr.0
  pub offset : part.ref_ptr.1 ≡ text.ref_ptr.1 + from
  pub bytes : part.now ≡ s

-- The word at a place where a reader stopped lies there; for a place beyond the text's end, at that end.
abbrev pub WordAt : Bor (List ℕ) → Ends → ℕ → Bor (List ℕ) → Type 0
WordAt text ends at part = LiesIn text (min at (length text.now)) (stopped_at (lined ends text.now) at) part
