-- What is told of the bytes that were asked for.
use Rattle.std.specs.Prelude.{◌≡◌, ℕ, ◌<◌, List, length, take}
use Rattle.std.specs.Io.KnownBytes.{Consumes, IsAtEnd}
use Rattle.std.specs.declared.option.Option.{Option}
use Rattle.std.specs.declared.result.Result.{Result}
use Rattle.std.specs.declared.result.Result.TheVariants.{Ok, Err}
use Rattle.console.specs.declared.Shortfall.{Shortfall}
use Rattle.console.specs.declared.Shortfall.TheVariants.{Part, Failed}

-- All of them, or why not.
abbrev pub Taken : Type 0
Taken = Result (Unit {0}) Shortfall

-- A part is less than was asked for, and where nothing is asked for nothing is read that could fail.
abbrev pub Takes : ℕ → Taken → Type 0
Takes asked (Ok _) = Unit
Takes asked (Err (Part n)) = n < asked
Takes asked (Err Failed) = 0 < asked

-- The known bytes of a reader, before and after, and those of the buffer: what came stands at its start. Behind a part the reader is at its end.
abbrev pub Fills : Option (List ℕ) → Option (List ℕ) → List ℕ → Taken → Type 0
Fills old new buf (Ok _) = Consumes old new buf
Fills old new buf (Err (Part n)) = Consumes old new (take n buf) × IsAtEnd new
Fills old new buf (Err Failed) = (n : ℕ) × (n < length buf) × Consumes old new (take n buf)

-- The same of bytes that are not kept.
abbrev pub Passes : ℕ → Option (List ℕ) → Option (List ℕ) → Taken → Type 0
Passes asked old new (Ok _) = (bs : List ℕ) × (length bs ≡ asked) × Consumes old new bs
Passes asked old new (Err (Part n)) = (bs : List ℕ) × (length bs ≡ n) × Consumes old new bs × IsAtEnd new
Passes asked old new (Err Failed) = (bs : List ℕ) × (length bs < asked) × Consumes old new bs
