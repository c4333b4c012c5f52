-- What the writers write is what is read back, and they write no bad literal. Assumes nothing.
use Prim.Native.Nat.{ℕ, ◌≤◌}
use mathlib.Core.Bool.{Bool, true, false, cond, ◌&&◌}
use mathlib.Core.List.{List}
use mathlib.Core.Path.{◌≡◌, refl}
use native.Mathlib.Omega.{arith}
use borrow.Author.Tests.{leb-true}
use lib.Dec.{leb, eqb}
use lib.ListN.{length}
use lib.IntN.{ℤ, nat_abs}
use Rattle.dimacs.specs.Names.{ceiling, hard}
use Rattle.dimacs.specs.Header.{has_header, unlimited}
use Rattle.dimacs.specs.Tokens.{run}
use Rattle.dimacs.specs.Clauses.{has_hard}
use Rattle.dimacs.specs.Writing.{Written, written, unwritten, fits, header_line, clause_line, is_literal, write_header, write_line, write_clause, write_hard_clause}
use Rattle.dimacs.specs.declared.Format.{Format}
use Rattle.dimacs.specs.declared.Header.{Header}
use Rattle.dimacs.specs.declared.Refusal.{Refusal}
use Rattle.dimacs.proofs.Tests.{both_left, both_right}
use Rattle.read_back.specs.ReadBack.{ExtraFits, LiteralFits, ClauseFits, HeaderWritten, ClauseWritten}
use Rattle.read_back.proofs.Each.{each_on, run_all}

-- Where a line is written after a test, the test passed.
passed : (t : Bool) (w : Written) (r : Refusal) {line : List ℕ} → cond t w (unwritten r) ≡ written line → (t ≡ true) × (w ≡ written line)
passed true w r e = (refl, e)
passed false w r e = absurd (let z : ◌≡◌ {A = ℕ} 0 1 = cc in omega arith)

-- Where one is written that a test would have refused, it did not.
not_refused : (t : Bool) (w : Written) (r : Refusal) {line : List ℕ} → cond t (unwritten r) w ≡ written line → w ≡ written line
not_refused true w r e = absurd (let z : ◌≡◌ {A = ℕ} 0 1 = cc in omega arith)
not_refused false w r e = e

the_line : (n : ℕ) (w line : List ℕ) → fits n w ≡ written line → line ≡ w
the_line n w line e = let p = (passed (leb (length w) n) _ _ e).1 in cc

pub wrote_header : (f : Format) (h : Header) (n : ℕ) (line : List ℕ) → write_header f h n ≡ written line → HeaderWritten f h line
unfolding write_header
wrote_header f h n line e =
    let q = passed (has_header f) _ _ e in
    let p = passed (leb h.variables ceiling) _ _ q.1 in
    record { there = q.0; is = the_line n (header_line f h) line p.1; variables = leb-true h.variables ceiling p.0 }

wrote_line : (f : Format) (extra : ℕ) (so : List ℤ) (n : ℕ) (line : List ℕ) → write_line f extra so n ≡ written line → ClauseWritten f extra so line
unfolding write_line
wrote_line f extra so n line e =
    let p = passed (leb (length so) (run is_literal so)) _ _ e in
    record { is = the_line n (clause_line f extra so) line p.1; literals = run_all is_literal so (leb-true (length so) (run is_literal so) p.0) }

pub wrote_clause : (f : Format) (extra : ℕ) (so : List ℤ) (n : ℕ) (line : List ℕ) → write_clause f extra so n ≡ written line → ClauseWritten f extra so line
unfolding write_clause
wrote_clause f extra so n line e = wrote_line f extra so n line (not_refused (has_hard f && eqb extra 0) _ _ e)

pub wrote_hard_clause : (f : Format) (so : List ℤ) (n : ℕ) (line : List ℕ) → write_hard_clause f so n ≡ written line → ClauseWritten f hard so line
unfolding write_hard_clause
wrote_hard_clause f so n line e = wrote_line f hard so n line (passed (has_hard f) _ _ e).1

literal_fits : (l : ℤ) → is_literal l ≡ true → LiteralFits ceiling l
literal_fits l e =
    let a = leb 1 (nat_abs l) in
    let b = leb (nat_abs l) ceiling in
    record { nonzero = leb-true 1 (nat_abs l) (both_left a b e); within = leb-true (nat_abs l) ceiling (both_right a b e) }

-- Where no header limits the literals, a clause that was written needs only room, and a weight or group within its bound.
pub written_fits : {f : Format} {extra : ℕ} {so : List ℤ} {line : List ℕ} → ClauseWritten f extra so line → (room : ℕ) → ExtraFits f unlimited extra → length so ≤ room
    → ClauseFits f unlimited room (record { extra = extra; literals = so })
written_fits {so = so} w room e h = record { extra = e; literals = each_on literal_fits so w.literals; few = h }
