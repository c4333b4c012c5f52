-- The loop over the rows of a clause: the literals read so far stand first in the buffer, and what is read from here on is what is read from
-- the start. Assumes nothing.
use Prim.Native.Nat.{ℕ, ◌-◌, ◌≤◌, ◌<◌}
use mathlib.Core.List.{List, ◌++◌}
use mathlib.Core.Path.{◌≡◌, refl, ap, sym, ◌∙◌, subst}
use native.Mathlib.Omega.{arith}
use lib.ListN.{length, take}
use lib.IntN.{ℤ}
use Rattle.std.proofs.lemmas.List.{nil_from_length}
use Rattle.std.specs.Prelude.{Some, None, Result, Ok, Err}
use Rattle.dimacs.specs.Names.{refusal}
use Rattle.dimacs.specs.declared.Reason.{Reason}
use Rattle.dimacs.specs.Tokens.{linebreaks}
use Rattle.dimacs.specs.Rows as def
use Rattle.dimacs.specs.Rows.{reads, row, read_by}
use Rattle.dimacs.specs.Buffers.{laid}
use Rattle.dimacs.specs.Clauses.{literals_from, literals}
use Rattle.dimacs.specs.declared.Refusal.{Refusal}
use Rattle.dimacs.proofs.Spans.{linebreaks_spans}
use Rattle.dimacs.proofs.Rows.{RowSpans, row_spans, Grown, row_grows}
use Rattle.dimacs.proofs.Literals.{closed_by, stopped_by, nothing_there, none_after_lines, none_on_line, breaks}
use Rattle.dimacs.proofs.Buffer.{Kept, kept_unchanged, kept_count, kept_beyond, kept_adds, laid_first}
use Rattle.rows.specs.Answers as rows
use Rattle.rows.specs.Answers.{row_of, stopped_after}
use Rattle.rows.specs.declared.Row.{Row}
use Rattle.rows.specs.declared.Row.TheVariants.{Ends, Closes}
use Rattle.rows.specs.declared.Stopped.{Stopped}
use Rattle.clause.specs.Answers.{ReadsLiterals}

pub record SoFar (s : List ℕ) (limit at : ℕ) (old lits : List ℤ) (from held : ℕ) : Type 0 where
  pub kept : Kept old lits held
  pub so_far : literals s limit (length old) at ≡ literals_from s limit (length old) (reads from (take held lits))

pub so_far_start : (s : List ℕ) (limit at : ℕ) (old : List ℤ) → SoFar s limit at old old at 0
unfolding literals
so_far_start s limit at old = record { kept = kept_unchanged (omega arith); so_far = refl }

module _ {s : List ℕ} {limit at : ℕ} {old lits : List ℤ} {from held : ℕ} (h : SoFar s limit at old lits from held) where
  the_row : def.Row
  the_row = row s limit (length old) (reads from (take held lits))

  -- A row adds literals to those before it, as many as the buffer can hold.
  grown : (d : def.Row) → the_row ≡ d → (held ≤ length (read_by d)) × (length (read_by d) ≤ length lits)
  unfolding the_row
  grown d e =
      let g = subst (λ x. Grown (length old) (take held lits) (read_by x)) e (row_grows s limit (length old) (reads from (take held lits))) in
      let k = h.kept.fits in
      omega (arith, kept_count h.kept, h.kept.same)

  -- The buffer after a row is that after all literals from the start.
  over : {new : List ℤ} (d : def.Row) → the_row ≡ d → new ≡ laid (read_by d) lits → new ≡ laid (read_by d) old
  over d e b = b ∙ ap (λ l. read_by d ++ l) (kept_beyond h.kept (length (read_by d)) (grown d e).0)

  -- A row that was read, as the definition has it.
  by_row : {new : List ℤ} {r : Result Row Stopped} (P : Result Row Stopped → Type 0) → rows.ReadsRow (row s limit (length lits) (reads from (take held lits))) lits new r
      → ((d : def.Row) → the_row ≡ d → new ≡ laid (read_by d) lits → P (row_of d)) → P r
  unfolding the_row
  by_row P g k =
      let e = h.kept.same in
      let b = rw e at g.buffer in
      let a = rw e at g.row in
      subst P (sym a) (k the_row refl b)

  -- What a row that ended without its 0 leads to: no literals at all, refusal 7 or 6, or on past the line ends.
  pub record EndsOpen (new : List ℤ) (place count : ℕ) : Type 0 where
    pub none : count ≡ 0 → ReadsLiterals s limit at old new (Ok None)
    pub after_lines : (count ≡ 0 → ⊥) → count ≡ held → (x : Refusal) → x ≡ refusal s Reason.LiteralExpectedAfterLines place → ReadsLiterals s limit at old new (Err (stopped_after count x))
    pub on_line : (count ≡ 0 → ⊥) → (count ≡ held → ⊥) → (q : ℕ) → q ≡ linebreaks s place → q ≡ place → (x : Refusal) → x ≡ refusal s Reason.LiteralExpected place
        → ReadsLiterals s limit at old new (Err (stopped_after count x))
    pub on : (count ≡ 0 → ⊥) → (count ≡ held → ⊥) → (q : ℕ) → q ≡ linebreaks s place → (q ≡ place → ⊥)
        → SoFar s limit at old new q count × (length s - q < length s - from)

  abbrev AfterRow : List ℤ → Result Row Stopped → Type 0
  AfterRow new (Ok (Ends place count)) = EndsOpen new place count
  AfterRow new (Ok (Closes place count)) = ReadsLiterals s limit at old new (Ok (Some (record { count = count; next = place })))
  AfterRow new (Err x) = ReadsLiterals s limit at old new (Err x)

  pub after_row : {new : List ℤ} {r m : Result Row Stopped} → rows.ReadsRow (row s limit (length lits) (reads from (take held lits))) lits new r
      → r ≡ m → AfterRow new m
  unfolding the_row
  after_row {new} g e = subst (AfterRow new) e (by_row (AfterRow new) g go)
    where
      here : def.Reading
      here = reads from (take held lits)

      n : length (take held lits) ≡ held
      n = kept_count h.kept

      go : (d : def.Row) → the_row ≡ d → new ≡ laid (read_by d) lits → AfterRow new (row_of d)
      go (def.closes p so) e b = let f = h.so_far ∙ closed_by s limit (length old) here e in record { answer = rw f; buffer = rw f (over (def.closes p so) e b) }
      go (def.stops x so) e b = let f = h.so_far ∙ stopped_by s limit (length old) here e in record { answer = rw f; buffer = rw f (over (def.stops x so) e b) }
      go (def.ends p so) e b =
          record {
            none = λ z. let f = h.so_far ∙ nothing_there s limit (length old) here e z in
                record { answer = rw f; buffer = rw f (rw (nil_from_length so z) at (over (def.ends p so) e b)) };
            after_lines = λ z k x is. let f = h.so_far ∙ none_after_lines s limit (length old) here e z (k ∙ sym n) in
                record { answer = rw (f, is); buffer = rw f (over (def.ends p so) e b) };
            on_line = λ z k q is l x y. let f = h.so_far ∙ none_on_line s limit (length old) here e z (λ j. k (j ∙ n)) q is l in
                record { answer = rw (f, y); buffer = rw f (over (def.ends p so) e b) };
            on = λ z k q is l. let w = grown (def.ends p so) e in
                let f = h.so_far ∙ breaks s limit (length old) here e z (λ j. k (j ∙ n)) q is l in
                let m = subst (RowSpans s from) e (row_spans s limit (length old) here) in
                let j = linebreaks_spans s p in
                (rw b (record { kept = kept_adds h.kept so w.0 w.1; so_far = rw (laid_first so lits) f }), omega arith);
          }
