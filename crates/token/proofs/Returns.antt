-- What the bytes at a place say of line ends in a text as it is read. Assumes nothing.
use Prim.Native.Nat.{ℕ, ◌+◌, ◌≤◌, ◌<◌}
use mathlib.Core.List.{List}
use mathlib.Core.Path.{◌≡◌, sym, ◌∙◌}
use native.Mathlib.Omega.{arith}
use lib.ListN.{length, get_or}
use Rattle.dimacs.specs.Bytes.{LF, CR, is_not_lf}
use Rattle.dimacs.specs.Lined.{lined, also_ends}
use Rattle.dimacs.specs.Tokens.{past, line_end, next_line}
use Rattle.dimacs.specs.declared.Ends.{Ends}
use Rattle.dimacs.specs.declared.Ends.TheVariants.{LineFeed, AlsoReturn}
use Rattle.dimacs.proofs.Bytes.{is_not_lf_lem}
use Rattle.dimacs.proofs.Past.{past_more}
use Rattle.dimacs.proofs.Lines.{line_end_lf, line_end_crlf, line_end_no, next_line_lf}
use Rattle.dimacs.proofs.Lined.{inside_lined, byte_other, byte_before_lf, byte_as_is, byte_return, ends_with_lf, ends_with_no, ends_before_lf, ends_with_return}
use Rattle.token.specs.Returns.{lone_return}

module _ (rule : Ends) (s : List ℕ) (at : ℕ) where
  pub ends_lf : get_or s at 0 ≡ LF → line_end (lined rule s) at ≡ at + 1
  ends_lf h = line_end_lf (lined rule s) at (ends_with_lf s at rule h)

  pub ends_crlf : get_or s at 0 ≡ CR → get_or s (at + 1) 0 ≡ LF → line_end (lined rule s) at ≡ at + 2
  ends_crlf h k = line_end_crlf (lined rule s) at (byte_before_lf rule s at k ∙ h) (ends_with_lf s (at + 1) rule k)

  pub ends_no : (get_or s at 0 ≡ LF → ⊥) → (get_or s at 0 ≡ CR → ⊥) → line_end (lined rule s) at ≡ at
  ends_no h k = let is = byte_other rule s at k in line_end_no (lined rule s) at (λ e. h (sym is ∙ e)) (λ e _. k (sym is ∙ e))

pub at_most_one : (rule : Ends) → lone_return rule ≤ 1
at_most_one LineFeed = omega arith
at_most_one AlsoReturn = omega arith

-- A CR alone is a line end of so many bytes.
pub ends_return : (rule : Ends) (s : List ℕ) (at : ℕ) → get_or s at 0 ≡ CR → (get_or s (at + 1) 0 ≡ LF → ⊥) → line_end (lined rule s) at ≡ at + lone_return rule
ends_return LineFeed s at h k =
    line_end_no (lined LineFeed s) at (λ e. omega (arith, byte_as_is s at)) (λ _ e. k (sym (byte_as_is s (at + 1)) ∙ e)) ∙ omega arith
ends_return AlsoReturn s at h k = line_end_lf (lined AlsoReturn s) at (byte_return s at h k)

-- By where a search for the next line stands: past bytes that end no line.
abbrev pub Searched : List ℕ → ℕ → Ends → ℕ → Type 0
Searched s at rule i = past is_not_lf (lined rule s) i ≡ past is_not_lf (lined rule s) at

module _ (s : List ℕ) (at i : ℕ) (h : i < length s) where
  pub skip_lf : (rule : Ends) → Searched s at rule i → get_or s i 0 ≡ LF → next_line (lined rule s) at ≡ i + 1
  skip_lf rule so e = next_line_lf (lined rule s) at i so (inside_lined rule s h) (ends_with_lf s i rule e)

  one_on : (rule : Ends) → Searched s at rule i → (get_or (lined rule s) i 0 ≡ LF → ⊥) → Searched s at rule (i + 1)
  one_on rule so n = past_more is_not_lf (lined rule s) i (inside_lined rule s h) (is_not_lf_lem (get_or (lined rule s) i 0) n) ∙ so

  module _ (n : get_or s i 0 ≡ LF → ⊥) where
    pub skip_on : (rule : Ends) → Searched s at rule i → (get_or s i 0 ≡ also_ends rule → ⊥) → Searched s at rule (i + 1)
    skip_on rule so m = one_on rule so (ends_with_no s i n rule m)

    pub skip_crlf : (rule : Ends) → Searched s at rule i → i + 1 < length s → get_or s (i + 1) 0 ≡ LF → next_line (lined rule s) at ≡ i + 2
    skip_crlf rule so l k =
        next_line_lf (lined rule s) at (i + 1) (one_on rule so (ends_before_lf s i n rule k)) (inside_lined rule s l) (ends_with_lf s (i + 1) rule k)
        ∙ omega arith

    pub skip_return : (rule : Ends) → Searched s at rule i → get_or s i 0 ≡ also_ends rule → (get_or s (i + 1) 0 ≡ LF → ⊥) → next_line (lined rule s) at ≡ i + 1
    skip_return rule so m k = next_line_lf (lined rule s) at i so (inside_lined rule s h) (ends_with_return s i n rule m k)
