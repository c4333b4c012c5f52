-- Whole lines put, or refused. Assumes nothing.
use Prim.Native.Nat.{ℕ, ◌+◌, ◌-◌, ◌≤◌}
use mathlib.Core.Bool.{Bool, true, false, cond, ◌&&◌}
use mathlib.Core.List.{List, ◌++◌, append_assoc}
use mathlib.Core.Path.{◌≡◌, refl, ap, sym, ◌∙◌}
use native.Mathlib.Omega.{arith}
use borrow.Author.Tests.{le-leb, lt-leb, leb-true, leb-false}
use lib.Dec.{leb, eqb}
use lib.IntN.{ℤ}
use lib.ListN.{length, drop}
use lib.Seq.{sets-eq}
use Rattle.std.specs.Prelude.{Result, Ok, Err, IsErr, not, if◌then◌else◌}
use Rattle.std.specs.Result.{IsErrAnd}
use Rattle.std.proofs.lemmas.Result.{err_from_is_err_and}
use Rattle.dimacs.specs.Bytes.{bytes}
use Rattle.dimacs.specs.declared.Reason.{Reason}
use Rattle.dimacs.specs.Names.{number_of, ceiling, hard}
use Rattle.dimacs.specs.Spots.{nowhere}
use Rattle.dimacs.specs.Tokens.{run}
use Rattle.dimacs.specs.Header.{has_header}
use Rattle.dimacs.specs.Clauses.{has_hard}
use Rattle.dimacs.specs.Writing as def
use Rattle.dimacs.specs.Writing.{is_literal, items, lead, third_digits, header_line, clause_line}
use Rattle.dimacs.specs.declared.Format.{Format}
use Rattle.dimacs.specs.declared.Header.{Header}
use Rattle.dimacs.specs.declared.Refusal.{Refusal}
use Rattle.dimacs.proofs.Tests.{tested, chosen}
use Rattle.decimals.specs.Pieces.{PutAt}
use Rattle.measures.specs.Lines.{header_start, header_count}
use Rattle.measures.proofs.Lines.{header_to_come, clause_long}
use Rattle.writer.specs.Answers.{Writes, written_of, bytes_written, number_in, place_in, spot_in, line_length}

-- A clause's line in its pieces, as they are put.
pub clause_put : (f : Format) (extra : ℕ) (so : List ℤ) → clause_line f extra so ≡ lead f extra ++ items so ++ bytes "0\n"
unfolding clause_line
clause_put f extra so = refl

regrouped : (a b c d e : List ℕ) → a ++ (b ++ (c ++ (d ++ e))) ≡ a ++ b ++ c ++ d ++ e
regrouped a b c d e = simp append_assoc

-- A header's.
pub header_put : (f : Format) (h : Header) → header_line f h ≡ header_start f ++ header_count h.variables ++ header_count h.clauses ++ third_digits f h.third ++ bytes "\n"
header_put f h = header_to_come f h ∙ regrouped (header_start f) (header_count h.variables) (header_count h.clauses) (third_digits f h.third) (bytes "\n")

-- A line that is put stands at the output's front, and what was behind it is as it was.
pub written_at : {line old new : List ℕ} {r : ℕ} → length line ≤ length old → PutAt 0 line old new r → Writes (def.written line) old new (Ok r)
written_at {line} {old} {new} {r} l h =
    let k : 0 + length line ≡ length line = omega arith in
    record { answer = ap Ok (h.past ∙ k); output = h.output ∙ sets-eq line old 0 (omega (arith, l)) ∙ ap (λ n. line ++ drop n old) k }

-- What a test before anything is written comes to.
abbrev Tested : Bool → Refusal → Result (Unit {0}) Refusal → Type 0
Tested t why a = a ≡ (if t then Ok tt else Err why)

-- Where it fails, its refusal is answered, and the output is as it was.
pub refused : (t : Bool) (why : Refusal) (d : def.Written) {old : List ℕ} {e : Refusal} {r : Result ℕ Refusal} → Tested t why (Err e) → IsErr r × IsErrAnd r (λ y. y ≡ e)
    → Writes (cond t d (def.unwritten why)) old old r
refused true why d a h = absurd cc
refused false why d {r = r} a h = let p = err_from_is_err_and r h.1 in record { answer = cc; output = refl }

-- Where it holds, the call comes to what the rest of it does.
pub allowed : (t : Bool) (why : Refusal) {d : def.Written} {old new : List ℕ} {x : Unit {0}} {r : Result ℕ Refusal} → Tested t why (Ok x) → Writes d old new r → Writes (cond t d (def.unwritten why)) old new r
allowed true why a h = h
allowed false why a h = absurd cc

pub holds : (t : Bool) (why : Refusal) {x : Unit {0}} → Tested t why (Ok x) → t ≡ true
holds true why a = refl
holds false why a = absurd cc

turned : (t : Bool) (a b : def.Written) → cond t a b ≡ cond (not t) b a
turned true a b = refl
turned false a b = refl

-- The same where a test must fail.
pub refused_not : (t : Bool) (why : Refusal) (d : def.Written) {old : List ℕ} {e : Refusal} {r : Result ℕ Refusal} → Tested (not t) why (Err e) → IsErr r × IsErrAnd r (λ y. y ≡ e)
    → Writes (cond t (def.unwritten why) d) old old r
refused_not t why d a h = rw (turned t (def.unwritten why) d) (refused (not t) why d a h)

pub allowed_not : (t : Bool) (why : Refusal) {d : def.Written} {old new : List ℕ} {x : Unit {0}} {r : Result ℕ Refusal} → Tested (not t) why (Ok x) → Writes d old new r
    → Writes (cond t (def.unwritten why) d) old new r
allowed_not t why {d = d} a h = rw (turned t (def.unwritten why) d) (allowed (not t) why a h)

-- A clause's line fits the output exactly if what is around its literals fits what these leave.
module _ (f : Format) (extra : ℕ) (so : List ℤ) (room : ℕ) {around left : ℕ} (a : around ≡ length (lead f extra) + 2) (l : left ≡ room - length (items so)) where
  pub left_fits : around ≤ left → length (clause_line f extra so) ≤ room
  left_fits h = omega (arith, h, a, l, clause_long f extra so)

  pub left_tested : leb around left ≡ leb (length (clause_line f extra so)) room
  left_tested =
      tested (leb around left)
      (λ t. t ∙ sym (le-leb (length (clause_line f extra so)) room (left_fits (leb-true around left t))))
      (λ t. t ∙ sym (lt-leb (length (clause_line f extra so)) room (omega (arith, a, l, clause_long f extra so, leb-false around left t))))

-- What is written is no longer than the output.
abbrev Within : ℕ → def.Written → Type 0
Within room d = length (bytes_written d) ≤ room

fits_within : (room : ℕ) (line : List ℕ) → Within room (def.fits room line)
fits_within room line = chosen (Within room) (leb (length line) room) (leb-true (length line) room) (λ t. omega arith)

line_fits : (f : Format) (extra : ℕ) (so : List ℤ) (room : ℕ) → Within room (def.write_line f extra so room)
unfolding def.write_line
line_fits f extra so room = chosen (Within room) (leb (length so) (run is_literal so)) (λ t. fits_within room (clause_line f extra so)) (λ t. omega arith)

pub clause_within : (f : Format) (extra : ℕ) (so : List ℤ) (room : ℕ) → Within room (def.write_clause f extra so room)
unfolding def.write_clause
clause_within f extra so room = chosen (Within room) (has_hard f && eqb extra 0) (λ t. omega arith) (λ t. line_fits f extra so room)

pub hard_clause_within : (f : Format) (so : List ℤ) (room : ℕ) → Within room (def.write_hard_clause f so room)
unfolding def.write_hard_clause
hard_clause_within f so room = chosen (Within room) (has_hard f) (λ t. line_fits f hard so room) (λ t. omega arith)

pub header_within : (f : Format) (h : Header) (room : ℕ) → Within room (def.write_header f h room)
unfolding def.write_header
header_within f h room =
    chosen (Within room) (has_header f)
    (λ _. chosen (Within room) (leb h.variables ceiling) (λ t. fits_within room (header_line f h)) (λ t. omega arith)) (λ _. omega arith)

length-told : (d : def.Written) → line_length (written_of d) ≡ length (bytes_written d)
length-told (def.written line) = refl
length-told (def.unwritten r) = refl

-- So is the length that is answered.
pub line_within : {d : def.Written} {old new : List ℕ} {r : Result ℕ Refusal} → Within (length old) d → Writes d old new r → line_length r ≤ length old
line_within {d} h w = rw (w.answer, length-told d) h

-- A refused header is at place 0.
pub header_place : (f : Format) (h : Header) (room : ℕ) → place_in (written_of (def.write_header f h room)) ≡ 0
unfolding def.write_header
header_place f h room =
    tested (has_header f)
    (λ k. tested (leb h.variables ceiling) (λ a. tested (leb (length (header_line f h)) room) (λ b. rw (k, a, b)) (λ b. rw (k, a, b))) (λ a. rw (k, a)))
    (λ k. rw k)

-- A clause that is refused for a literal is at the index of the first bad one, any other at place 0.
abbrev PlacedBy : List ℤ → def.Written → Type 0
PlacedBy so d = let r = written_of d in place_in r ≡ cond (eqb (number_in r) (number_of Reason.LiteralNotWritable)) (run is_literal so) 0

line_place : (f : Format) (extra : ℕ) (so : List ℤ) (room : ℕ) → PlacedBy so (def.write_line f extra so room)
unfolding def.write_line
line_place f extra so room =
    chosen (PlacedBy so) (leb (length so) (run is_literal so)) (λ _. chosen (PlacedBy so) (leb (length (clause_line f extra so)) room) (λ _. refl) (λ _. refl)) (λ _. refl)

pub clause_place : (f : Format) (extra : ℕ) (so : List ℤ) (room : ℕ) → PlacedBy so (def.write_clause f extra so room)
unfolding def.write_clause
clause_place f extra so room = chosen (PlacedBy so) (has_hard f && eqb extra 0) (λ _. refl) (λ _. line_place f extra so room)

pub hard_clause_place : (f : Format) (so : List ℤ) (room : ℕ) → PlacedBy so (def.write_hard_clause f so room)
unfolding def.write_hard_clause
hard_clause_place f so room = chosen (PlacedBy so) (has_hard f) (λ _. line_place f hard so room) (λ _. refl)

-- What is written or refused has no line and no column.
abbrev Nowhere : def.Written → Type 0
Nowhere d = spot_in (written_of d) ≡ nowhere

pub header_nowhere : (f : Format) (h : Header) (room : ℕ) → Nowhere (def.write_header f h room)
unfolding def.write_header
header_nowhere f h room =
    chosen Nowhere (has_header f)
    (λ _. chosen Nowhere (leb h.variables ceiling) (λ _. chosen Nowhere (leb (length (header_line f h)) room) (λ _. refl) (λ _. refl)) (λ _. refl))
    (λ _. refl)

line_nowhere : (f : Format) (extra : ℕ) (so : List ℤ) (room : ℕ) → Nowhere (def.write_line f extra so room)
unfolding def.write_line
line_nowhere f extra so room =
    chosen Nowhere (leb (length so) (run is_literal so)) (λ _. chosen Nowhere (leb (length (clause_line f extra so)) room) (λ _. refl) (λ _. refl)) (λ _. refl)

pub clause_nowhere : (f : Format) (extra : ℕ) (so : List ℤ) (room : ℕ) → Nowhere (def.write_clause f extra so room)
unfolding def.write_clause
clause_nowhere f extra so room = chosen Nowhere (has_hard f && eqb extra 0) (λ _. refl) (λ _. line_nowhere f extra so room)

pub hard_clause_nowhere : (f : Format) (so : List ℤ) (room : ℕ) → Nowhere (def.write_hard_clause f so room)
unfolding def.write_hard_clause
hard_clause_nowhere f so room = chosen Nowhere (has_hard f) (λ _. line_nowhere f hard so room) (λ _. refl)

-- Two answers that the contract permits are equal, and leave the same output.
pub one_writing : {d : def.Written} {old n₁ n₂ : List ℕ} {r₁ r₂ : Result ℕ Refusal} → Writes d old n₁ r₁ → Writes d old n₂ r₂ → (r₁ ≡ r₂) × (n₁ ≡ n₂)
one_writing a b = (a.answer ∙ sym b.answer, a.output ∙ sym b.output)
