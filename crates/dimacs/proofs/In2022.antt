-- The 2022 form has no header and no counts, so that it is read alike strictly and leniently, and its hard clauses are those that begin with `h`. Assumes nothing.
use Rattle.std.specs.Prelude.{Ok}
use Prim.Native.Nat.{ℕ}
use mathlib.Core.Bool.{Bool, false, not}
use mathlib.Core.List.{List}
use mathlib.Core.Path.{◌≡◌, refl}
use lib.Dec.{eqb}
use Rattle.dimacs.specs.Bytes.{bytes}
use Rattle.dimacs.specs.Names.{in_mode, number_of, largest, hard}
use Rattle.dimacs.specs.declared.Reason.{Reason}
use Rattle.dimacs.specs.Tokens.{unmoved, blanks, lines, word, uint_at}
use Rattle.dimacs.specs.Header.{opening_of}
use Rattle.dimacs.specs.Clauses.{Start, with_literals, without, is_zero, start_by, start_in2022}
use Rattle.dimacs.specs.Texts.{text}
use Rattle.dimacs.specs.declared.Format.TheVariants.{Weighted2022}
use Rattle.dimacs.specs.declared.Rigor.{Rigor}
use Rattle.dimacs.specs.declared.Ends.{Ends}
use Rattle.dimacs.specs.declared.Opening.TheVariants as opening
use Rattle.dimacs.specs.declared.Absence.{Absence}
use Rattle.dimacs.specs.declared.Uint.{Uint}
use Rattle.dimacs.specs.declared.Uint.TheVariants as uint
use Rattle.dimacs.proofs.Tests.{tested, chosen}

pub no_header_in_2022 : (s : List ℕ) → opening_of s Weighted2022 ≡ Ok (opening.NoHeader (lines s (blanks s 0)))
unfolding opening_of
no_header_in_2022 s = refl

pub modes_alike_in_2022 : (m n : Rigor) (rule : Ends) (room : ℕ) (s : List ℕ) → text Weighted2022 (in_mode m rule) room s ≡ text Weighted2022 (in_mode n rule) room s
unfolding text opening_of
modes_alike_in_2022 m n rule room s = refl

-- A clause that begins so is hard or not.
abbrev pub Hard : Bool → Start → Type 0
Hard b (with_literals extra at absence) = eqb extra hard ≡ b
Hard b (without i) = Unit {0}

module _ (s : List ℕ) where
  start_soft : (absence : Absence) (at : ℕ) (u : Uint) → is_zero u ≡ false → Hard false (start_by s (number_of Reason.WeightTooBig) absence at u)
  start_soft absence at uint.Missing h = tt
  start_soft absence at (uint.Value n e) h = h
  start_soft absence at uint.TooBig h = tt

  -- A clause is answered as hard if and only if the word `h` begins it.
  pub hard_by_h : (absence : Absence) (at : ℕ) → Hard (not (unmoved at (word s (bytes "h") at))) (start_in2022 s absence at)
  unfolding start_in2022
  hard_by_h absence at =
      let h = unmoved at (word s (bytes "h") at) in
      let u = uint_at s largest at in
      chosen (Hard (not h)) (unmoved at (word s (bytes "p") at))
      (λ _. tested h (λ y. rw y (chosen (Hard false) (is_zero u) (λ _. tt) (λ z. start_soft absence at u z))) (λ y. rw y refl))
      (λ _. tt)
