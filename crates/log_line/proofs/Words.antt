-- The words of a solution line, one after another. Assumes nothing.
use Prim.Native.Nat.{ℕ, zero, suc, ◌+◌, ◌≤◌, ◌<◌}
use mathlib.Core.Bool.{true}
use mathlib.Core.List.{List, [], ◌∷◌}
use mathlib.Core.Path.{◌≡◌, refl, sym, ◌∙◌}
use native.Mathlib.Omega.{arith}
use borrow.Author.Tests.{eq-eqb, ne_eqb}
use denote.Bor.{Bor}
use lib.ListN.{length, get_or, drop, drop_of_length-le}
use lib.Seq.{drop-cons}
use Rattle.std.specs.Prelude.{Some}
use Rattle.dimacs.specs.Loop.{Step, answer}
use Rattle.dimacs.specs.Lined.{lined}
use Rattle.dimacs.specs.Names.{refusal}
use Rattle.dimacs.specs.Tokens.{fixed}
use Rattle.dimacs.specs.Logs as def
use Rattle.dimacs.specs.declared.Ends.{Ends}
use Rattle.dimacs.specs.declared.Reason.{Reason}
use Rattle.dimacs.specs.declared.Verdict.{Verdict}
use Rattle.dimacs.proofs.LinedTokens.{on_one_line, fixed_lined}

-- A word as it is lent, and what it says.
abbrev Word : Type 0
Word = Bor (List ℕ) × Verdict

-- What a solution line comes to by the first of these words that stands.
abbrev pub said_by : List ℕ → ℕ → def.Log → List Word → Step def.Log def.LogAnswer
said_by s at l [] = answer (def.refused_log (refusal s Reason.SolutionExpected at) l.so)
said_by s at l (w ∷ more) = def.solution_is s w.1 w.0.now at l (said_by s at l more)

-- No word has the byte of a line end, which is read as another.
abbrev pub Plain : List Word → Type 0
Plain [] = Unit {0}
Plain (w ∷ more) = (on_one_line w.0.now ≡ true) × Plain more

plain_at : (ws : List Word) (i : ℕ) (d : Word) → Plain ws → i < length ws → on_one_line (get_or ws i d).0.now ≡ true
plain_at [] i d p h = absurd (omega arith)
plain_at (w ∷ more) zero d p h = p.0
plain_at (w ∷ more) (suc i) d p h = plain_at more i d p.1 (omega arith)

module _ (rule : Ends) (s : List ℕ) (at : ℕ) (l : def.Log) (ws : List Word) (i : ℕ) (d : Word) (plain : Plain ws) (h : i < length ws) (p : ℕ) (is : p ≡ fixed s (get_or ws i d).0.now at) where
  -- The word is at one place in a text and in the text as it is read.
  fixed_at : fixed (lined rule s) (get_or ws i d).0.now at ≡ p
  fixed_at = fixed_lined rule s (get_or ws i d).0.now at (plain_at ws i d plain h) ∙ sym is

  -- The next word stands.
  pub word_stands : (p ≡ at → ⊥) → said_by (lined rule s) at l (drop i ws) ≡ def.line_read (lined rule s) p (Some (get_or ws i d).1) l.assignment l.so
  word_stands n = rw (drop-cons ws i d h, fixed_at, ne_eqb p at n) refl

  -- It does not, and those after it are left.
  pub word_missing : p ≡ at → said_by (lined rule s) at l (drop i ws) ≡ said_by (lined rule s) at l (drop (i + 1) ws)
  word_missing e = let k : i + 1 ≡ suc i = omega arith in rw (drop-cons ws i d h, fixed_at, eq-eqb p at e, k) refl

-- None is left.
pub none_stands : (s : List ℕ) (at : ℕ) (l : def.Log) (ws : List Word) (i : ℕ) → length ws ≤ i → said_by s at l (drop i ws) ≡ answer (def.refused_log (refusal s Reason.SolutionExpected at) l.so)
none_stands s at l ws i h = rw (drop_of_length-le ws h) refl
