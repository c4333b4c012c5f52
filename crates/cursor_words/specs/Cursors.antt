-- Cursors as words, and the cursor that any words hold.
use Rattle.std.specs.Prelude.{ℕ, min, cond, List, ◌∷◌, ◌≡◌, eqb, get_or, Option, None, Some, Result, Ok, Err}
use Rattle.dimacs.specs.Names.{call_numbered}
use Rattle.dimacs.specs.declared.Format.{Format}
use Rattle.dimacs.specs.declared.Format.TheVariants.{Plain, Weighted, Grouped, Weighted2022}
use Rattle.dimacs.specs.declared.Ends.{Ends}
use Rattle.dimacs.specs.declared.Ends.TheVariants.{LineFeed, AlsoReturn}
use Rattle.dimacs.specs.declared.Refusal.{Refusal}
use Rattle.numbers.specs.Words.{refusal_words}
use Rattle.formula.specs.Cursors.{unknown}
use Rattle.formula.specs.declared.Cursor.{Cursor}

-- The formats from 1, so that zeros hold none.
abbrev pub format_kind : Format → ℕ
format_kind Plain = 1
format_kind Weighted = 2
format_kind Grouped = 3
format_kind Weighted2022 = 4

-- What ends lines.
abbrev pub ends_kind : Ends → ℕ
ends_kind LineFeed = 0
ends_kind AlsoReturn = 1

-- The final answer: none yet, the end, or a refusal.
abbrev pub final_kind : Option (Result Unit Refusal) → ℕ
final_kind None = 0
final_kind (Some (Ok u)) = 1
final_kind (Some (Err r)) = 2

-- The refusal that is repeated, or one of zeros.
abbrev pub final_refusal : Option (Result Unit Refusal) → Refusal
final_refusal None = call_numbered 0 0
final_refusal (Some (Ok u)) = call_numbered 0 0
final_refusal (Some (Err r)) = r

-- The words of a cursor: how far the text is read, its limits, its format and line rule, and the final answer with its refusal.
abbrev pub cursor_words : Cursor → List ℕ
cursor_words c =
    let p = c.progress in
    let limits = c.limits in
    p.place ∷ p.count ∷ limits.literals ∷ limits.groups ∷ limits.clauses ∷ format_kind c.format ∷ ends_kind c.ends
    ∷ final_kind p.last ∷ refusal_words (final_refusal p.last)

-- The largest limit of literals that a cursor can hold: it has 32 bits.
abbrev pub largest_limit : ℕ
largest_limit = 4294967295

-- The format that a number holds, if any.
abbrev pub held_format : ℕ → Option Format
held_format n =
    cond (eqb n (format_kind Plain)) (Some Plain)
    (cond (eqb n (format_kind Weighted)) (Some Weighted)
    (cond (eqb n (format_kind Grouped)) (Some Grouped)
    (cond (eqb n (format_kind Weighted2022)) (Some Weighted2022) None)))

-- The line rule that a number holds.
abbrev pub held_ends : ℕ → Ends
held_ends n = cond (eqb n (ends_kind LineFeed)) LineFeed AlsoReturn

-- The refusal that words hold. Its number is a byte.
abbrev pub held_refusal : List ℕ → Refusal
held_refusal w = record { number = min (get_or w 8 0) 255; place = get_or w 9 0; line = get_or w 10 0; column = get_or w 11 0 }

-- The final answer that a number and a refusal hold.
abbrev pub held_final : ℕ → Refusal → Option (Result Unit Refusal)
held_final n r = cond (eqb n (final_kind None)) None (cond (eqb n (final_kind (Some (Ok tt)))) (Some (Ok tt)) (Some (Err r)))

-- The cursor in a format that words hold. A limit of literals above the largest is the largest.
unfoldable pub held_in : Format → List ℕ → Cursor
held_in f w =
    record {
      progress = record { place = get_or w 0 0; count = get_or w 1 0; last = held_final (get_or w 7 0) (held_refusal w) };
      limits = record { literals = min (get_or w 2 0) largest_limit; groups = get_or w 3 0; clauses = get_or w 4 0 };
      format = f;
      ends = held_ends (get_or w 6 0);
    }

-- The cursor that words hold by what the word of their format does. Words of no format hold the cursor that repeats refusal 26.
abbrev pub held_by : Option Format → List ℕ → Cursor
held_by (Some f) w = held_in f w
held_by None w = unknown.cursor

-- The cursor that any words hold.
unfoldable pub held_cursor : List ℕ → Cursor
held_cursor w = held_by (held_format (get_or w 5 0)) w

-- Words hold a cursor: they are its words, and it can be had from them again.
pub record Holds (c : Cursor) (w : List ℕ) : Type 0 where
  pub words : w ≡ cursor_words c
  pub again : held_cursor w ≡ c
