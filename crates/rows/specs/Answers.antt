-- A row of the code by that of the definition, and what the lent buffer holds after it.
use Rattle.std.specs.Prelude.{ℕ, List, Result, Ok, Err, ◌≡◌, length, ℤ}
use Rattle.dimacs.specs.Rows as def
use Rattle.dimacs.specs.Buffers.{laid}
use Rattle.rows.specs.declared.Row.{Row}
use Rattle.rows.specs.declared.Row.TheVariants.{Ends, Closes}
use Rattle.rows.specs.declared.Stopped.{Stopped}
use Rattle.dimacs.specs.declared.Refusal.{Refusal}

-- A refusal, after so many literals.
abbrev pub stopped_after : ℕ → Refusal → Stopped
stopped_after n r = record { refusal = r; count = n }

-- The literals of a row are told by their count.
abbrev pub row_of : def.Row → Result Row Stopped
row_of (def.ends at so) = Ok (Ends at (length so))
row_of (def.closes at so) = Ok (Closes at (length so))
row_of (def.stops r so) = Err (stopped_after (length so) r)

-- A row is read: what it comes to, and the buffer after it.
pub record ReadsRow (d : def.Row) (old new : List ℤ) (r : Result Row Stopped) : Type 0 where
  pub row : r ≡ row_of d
  pub buffer : new ≡ laid (def.read_by d) old

-- An answer that tells by their count which literals the buffer holds: it is the same for any that are so many.
abbrev pub ByCount : {A : Type 0} → ℕ → (List ℤ → A) → A → Type 0
ByCount n f r = (so : List ℤ) → length so ≡ n → r ≡ f so
