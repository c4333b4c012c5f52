-- A row of literals: numbers side by side, with blanks alone between them.
use Rattle.std.specs.Prelude.{ℕ, suc, cond, List, [], ◌∷◌, ◌++◌, length, leb, ℤ}
use Rattle.dimacs.specs.Loop.{Step, again, answer, loop}
use Rattle.dimacs.specs.Names.{refusal}
use Rattle.dimacs.specs.declared.Reason.{Reason}
use Rattle.dimacs.specs.Tokens.{int_at}
use Rattle.dimacs.specs.declared.Refusal.{Refusal}
use Rattle.dimacs.specs.declared.Int.{Int}
use Rattle.dimacs.specs.declared.Int.TheVariants as int

-- What a row comes to, with all literals so far: it ends at a place where no number stands; its 0 closes it, at the place past
-- the 0 and the blanks after it; or a refusal.
pub data Row : Type 0 where
  ends : ℕ → List ℤ → Row
  closes : ℕ → List ℤ → Row
  stops : Refusal → List ℤ → Row

-- The literals so far, whatever a row comes to.
abbrev pub read_by : Row → List ℤ
read_by (ends at so) = so
read_by (closes at so) = so
read_by (stops r so) = so

-- Reading literals: the place and the literals so far.
pub record Reading : Type 0 where
  pub at : ℕ
  pub so : List ℤ

-- A state of reading by its two parts.
abbrev pub reads : ℕ → List ℤ → Reading
reads at so = record { at = at; so = so }

module _ (s : List ℕ) (limit room : ℕ) where
  -- By the number at the place: the 0 closes, a literal beyond its limit or without room is refused, another is read, and without one the row ends.
  abbrev pub on_int : Int → ℕ → List ℤ → Step Reading Row
  on_int int.Missing at so = answer (ends at so)
  on_int (int.Zero next) at so = answer (closes next so)
  on_int int.TooBig at so = answer (stops (refusal s Reason.LiteralTooBig at) so)
  on_int (int.Literal v next) at so =
      cond (leb room (length so)) (answer (stops (refusal s Reason.BufferFull at) so)) (again (reads next (so ++ (v ∷ []))))

  -- One number.
  unfoldable pub next_int : Reading → Step Reading Row
  next_int r = on_int (int_at s limit r.at) r.at r.so

  -- The row from a state on.
  unfoldable pub row : Reading → Row
  row = loop next_int (ends 0 []) (suc (length s))
