-- Formulas, what is written of one, when that can be read, and what is then read: the formula.
use Rattle.std.specs.Prelude.{Result, Ok, Err}
use Rattle.dimacs.specs.declared.Refusal.{Refusal}
use Rattle.std.specs.Prelude.{ℕ, ◌≤◌, List, [], ◌∷◌, ◌++◌, map, true, ◌≡◌, ◌⊎◌, length, ℤ, nat_abs}
use Rattle.std.proofs.Math.Option.{Option, some, none}
use Rattle.dimacs.specs.Leniency.{Each}
use Rattle.dimacs.specs.Names.{ceiling, largest}
use Rattle.dimacs.specs.Header.{has_header, unlimited, limits_of}
use Rattle.dimacs.specs.Clauses.{Answer, clause, ended, refused}
use Rattle.dimacs.specs.Texts.{Text, text}
use Rattle.dimacs.specs.Writing.{header_line, clause_line, is_literal}
use Rattle.dimacs.specs.declared.Format.{Format}
use Rattle.dimacs.specs.declared.Format.TheVariants.{Plain, Weighted, Grouped, Weighted2022}
use Rattle.dimacs.specs.declared.Mode.{Mode}
use Rattle.dimacs.specs.declared.Header.{Header}
use Rattle.dimacs.specs.declared.Limits.{Limits}
use Rattle.dimacs.specs.declared.Opening.{Opening}
use Rattle.dimacs.specs.declared.Opening.TheVariants as opening

-- A clause: its weight or group, 0 if it has neither, and its literals.
pub record Clause : Type 0 where
  pub extra : ℕ
  pub literals : List ℤ

-- A formula: a header or none, and the clauses.
pub record Formula : Type 0 where
  pub header : Option Header
  pub clauses : List Clause

-- What is written of a header, if there is one.
abbrev pub header_lines : Format → Option Header → List ℕ
header_lines f none = []
header_lines f (some h) = header_line f h

-- The lines of clauses, one after the other.
unfoldable pub clause_lines : Format → List Clause → List ℕ
clause_lines f [] = []
clause_lines f (c ∷ rest) = clause_line f c.extra c.literals ++ clause_lines f rest

-- What is written of a formula: the header's line, and the clauses' lines.
abbrev pub writing : Format → Formula → List ℕ
writing f x = header_lines f x.header ++ clause_lines f x.clauses

-- How the text opens that is written of a formula.
abbrev pub opens : Format → Option Header → Opening
opens f none = opening.NoHeader 0
opens f (some h) = opening.Header h (length (header_line f h))

-- A clause as an answer.
abbrev pub answer_of : Clause → Answer
answer_of c = clause c.extra c.literals

-- What is to be read of a formula: its header, its clauses in their order, and the end.
abbrev pub reading : Format → Formula → Text
reading f x = record { opened = Ok (opens f x.header); answers = map answer_of x.clauses ++ (ended ∷ []) }

-- The limits that apply: those of the header, if there is one and the mode applies them.
abbrev pub limits_for : Format → Mode → Option Header → Limits
limits_for f m none = unlimited
limits_for f m (some h) = limits_of f m.rigor h

-- A third count is a 64-bit number, and 0 if the format has none.
abbrev pub ThirdFits : Format → ℕ → Type 0
ThirdFits Plain t = t ≡ 0
ThirdFits Weighted t = t ≤ largest
ThirdFits Grouped t = t ≤ largest
ThirdFits Weighted2022 t = t ≡ 0

-- The format has a header, and its counts are within their bounds.
pub record HeaderFits (f : Format) (h : Header) : Type 0 where
  pub there : has_header f ≡ true
  pub variables : h.variables ≤ ceiling
  pub clauses : h.clauses ≤ largest
  pub third : ThirdFits f h.third

-- So are those of the header of a formula, if there is one.
abbrev pub AnyFits : Format → Option Header → Type 0
AnyFits f none = Unit {0}
AnyFits f (some h) = HeaderFits f h

-- What a clause has before its literals: nothing, a weight of 64 bits, a group within the limit, or, in the 2022 form, a weight of 64 bits or the `h` for which 0 stands.
abbrev pub ExtraFits : Format → Limits → ℕ → Type 0
ExtraFits Plain limits extra = extra ≡ 0
ExtraFits Weighted limits extra = extra ≤ largest
ExtraFits Grouped limits extra = extra ≤ limits.groups
ExtraFits Weighted2022 limits extra = extra ≤ largest

-- A literal is not 0, and is within a limit either way.
pub record LiteralFits (limit : ℕ) (l : ℤ) : Type 0 where
  pub nonzero : 1 ≤ nat_abs l
  pub within : nat_abs l ≤ limit

-- A clause is within the limits, and has no more literals than there is room for.
pub record ClauseFits (f : Format) (limits : Limits) (room : ℕ) (c : Clause) : Type 0 where
  pub extra : ExtraFits f limits c.extra
  pub literals : Each (LiteralFits limits.literals) c.literals
  pub few : length c.literals ≤ room

-- A formula that can be read: the header's counts are within their bounds, the count of clauses that applies is 0 or the number of clauses,
-- and each clause is within the limits that apply.
pub record Readable (f : Format) (m : Mode) (room : ℕ) (x : Formula) : Type 0 where
  pub header : AnyFits f x.header
  pub count : ((limits_for f m x.header).clauses ≡ 0) ⊎ ((limits_for f m x.header).clauses ≡ length x.clauses)
  pub clauses : Each (ClauseFits f (limits_for f m x.header) room) x.clauses

-- What is written of a formula is read back.
abbrev pub ReadsBack : Format → Mode → ℕ → Formula → Type 0
ReadsBack f m room x = text f m room (writing f x) ≡ reading f x

-- An opening that is no refusal.
abbrev pub Opened : Result Opening Refusal → Type 0
Opened (Ok (opening.Header h at)) = Unit {0}
Opened (Ok (opening.NoHeader at)) = Unit {0}
Opened (Err r) = ⊥

-- An answer that is no refusal.
abbrev pub Told : Answer → Type 0
Told (clause extra so) = Unit {0}
Told ended = Unit {0}
Told (refused r so) = ⊥

-- A text of which nothing is refused.
pub record Unrefused (t : Text) : Type 0 where
  pub opened : Opened t.opened
  pub answers : Each Told t.answers

-- A line that the writer of headers wrote.
pub record HeaderWritten (f : Format) (h : Header) (line : List ℕ) : Type 0 where
  pub there : has_header f ≡ true
  pub is : line ≡ header_line f h
  pub variables : h.variables ≤ ceiling

-- A line that a writer of clauses wrote.
pub record ClauseWritten (f : Format) (extra : ℕ) (so : List ℤ) (line : List ℕ) : Type 0 where
  pub is : line ≡ clause_line f extra so
  pub literals : Each (λ l. is_literal l ≡ true) so
