-- A text as it is read by what ends its lines: its length, its bytes and its first bytes. Assumes nothing.
use Prim.Native.Nat.{ℕ, zero, suc, ◌+◌, ◌≤◌, ◌<◌}
use mathlib.Core.Bool.{false, not, ◌&&◌}
use mathlib.Core.List.{List, [], ◌∷◌}
use mathlib.Core.Path.{◌≡◌, refl, ap, sym, ◌∙◌}
use native.Mathlib.Numerals.{add-one, unary_clauses}
use native.Mathlib.Omega.{arith}
use borrow.Author.Tests.{eq-eqb, ne_eqb, eqb-true, eqb-false}
use lib.Dec.{eqb}
use lib.ListN.{length, get_or, take, drop}
use Rattle.dimacs.specs.Bytes.{LF, CR}
use Rattle.dimacs.specs.Lined.{line_byte, lined, also_ends, NoLoneReturn}
use Rattle.dimacs.specs.Seen.{Agree, with_next}
use Rattle.dimacs.specs.declared.Ends.{Ends}
use Rattle.dimacs.specs.declared.Ends.TheVariants.{LineFeed, AlsoReturn}
use Rattle.dimacs.proofs.Tests.{tested, chosen, both_left}

-- Where LF and CR LF alone end lines, a text is read as it is.
pub lined_same : (s : List ℕ) → lined LineFeed s ≡ s
unfolding lined
lined_same [] = refl
lined_same (b ∷ r) = ap (λ l. b ∷ l) (lined_same r)

module _ (rule : Ends) where
  pub lined-length : (s : List ℕ) → length (lined rule s) ≡ length s
  unfolding lined
  lined-length [] = refl
  lined-length (b ∷ r) = ap suc (lined-length r)

  pub lined-drop : (i : ℕ) (s : List ℕ) → drop i (lined rule s) ≡ lined rule (drop i s)
  unfolding lined
  lined-drop zero s = refl
  lined-drop (suc i) [] = refl
  lined-drop (suc i) (b ∷ r) = lined-drop i r

  pub lined_byte : (s : List ℕ) (i : ℕ) → get_or (lined rule s) i 0 ≡ line_byte rule (get_or s i 0) (get_or s (i + 1) 0)
  unfolding lined
  lined_byte s i = rw (add-one i) (go s i)
    where
      nothing : (rule : Ends) → 0 ≡ line_byte rule 0 0
      nothing LineFeed = refl
      nothing AlsoReturn = refl

      go : (s : List ℕ) (i : ℕ) → get_or (lined rule s) i 0 ≡ line_byte rule (get_or s i 0) (get_or s (suc i) 0)
      go [] i = nothing rule
      go (b ∷ r) zero = refl
      go (b ∷ r) (suc i) = go r i

  -- What is alike of CR and LF is so of a byte as it is read if it is so of the byte.
  pub alike : {A : Type 0} (p : ℕ → A) → p LF ≡ p CR → (b next : ℕ) → p (line_byte rule b next) ≡ p b
  alike p same b next = go rule
    where
      go : (rule : Ends) → p (line_byte rule b next) ≡ p b
      go LineFeed = refl
      go AlsoReturn =
          chosen (λ x. p x ≡ p b) (eqb b CR && not (eqb next LF))
          (λ t. same ∙ ap p (sym (eqb-true b CR (both_left (eqb b CR) (not (eqb next LF)) t)))) (λ t. refl)

  -- A byte that is no CR is read as it is.
  pub other_byte : (b next : ℕ) → (b ≡ CR → ⊥) → line_byte rule b next ≡ b
  other_byte b next h = go rule
    where
      go : (rule : Ends) → line_byte rule b next ≡ b
      go LineFeed = refl
      go AlsoReturn = rw (ne_eqb b CR h)

  -- So is a byte before LF.
  byte_with_lf : (b next : ℕ) → next ≡ LF → line_byte rule b next ≡ b
  byte_with_lf b next h = go rule
    where
      go : (rule : Ends) → line_byte rule b next ≡ b
      go LineFeed = refl
      go AlsoReturn = rw (eq-eqb next LF h) (tested (eqb b CR) (λ t. rw t) (λ t. rw t))

  -- So is a text in which no CR stands alone.
  pub lined_alone : (s : List ℕ) → NoLoneReturn s → lined rule s ≡ s
  unfolding lined
  lined_alone [] h = refl
  lined_alone (b ∷ r) h =
      rw (lined_alone r (λ i. simp unary_clauses (simp unary_clauses at (h (suc i)))))
      (ap (λ x. x ∷ r)
      (tested (eqb b CR) (λ t. byte_with_lf b (get_or r 0 0) (h 0 (eqb-true b CR t))) (λ t. other_byte b (get_or r 0 0) (eqb-false b CR t))))

  -- The first n bytes as they are read hang on the first n and the next.
  take-lined : (n : ℕ) (s : List ℕ) → take n (lined rule s) ≡ take n (lined rule (take (n + 1) s))
  unfolding lined
  take-lined n s = rw (add-one n) (go n s)
    where
      go : (n : ℕ) (s : List ℕ) → take n (lined rule s) ≡ take n (lined rule (take (suc n) s))
      go zero s = refl
      go (suc n) [] = refl
      go (suc n) (b ∷ []) = refl
      go (suc n) (b ∷ c ∷ r) = ap (λ l. line_byte rule b c ∷ l) (go n (c ∷ r))

  module _ (s : List ℕ) where
    pub ended_lined : {at : ℕ} → length s ≤ at → length (lined rule s) ≤ at
    ended_lined h = omega (arith, lined-length s)

    pub inside_lined : {at : ℕ} → at < length s → at < length (lined rule s)
    inside_lined h = omega (arith, lined-length s)

    -- The byte at a place as it is read, case by case.
    module _ (at : ℕ) where
      pub byte_other : (get_or s at 0 ≡ CR → ⊥) → get_or (lined rule s) at 0 ≡ get_or s at 0
      byte_other h = lined_byte s at ∙ other_byte (get_or s at 0) (get_or s (at + 1) 0) h

      pub byte_before_lf : get_or s (at + 1) 0 ≡ LF → get_or (lined rule s) at 0 ≡ get_or s at 0
      byte_before_lf h = lined_byte s at ∙ byte_with_lf (get_or s at 0) (get_or s (at + 1) 0) h

    -- A byte that is neither CR nor LF stands in both or in neither.
    module _ (b : ℕ) (h : eqb LF b ≡ false) (k : eqb CR b ≡ false) (at : ℕ) where
      pub eqb_lined : eqb (get_or (lined rule s) at 0) b ≡ eqb (get_or s at 0) b
      eqb_lined = rw (lined_byte s at) (alike (λ x. eqb x b) (h ∙ sym k) (get_or s at 0) (get_or s (at + 1) 0))

module _ (s : List ℕ) (at : ℕ) where
  pub byte_as_is : get_or (lined LineFeed s) at 0 ≡ get_or s at 0
  byte_as_is = ap (λ l. get_or l at 0) (lined_same s)

  pub byte_return : get_or s at 0 ≡ CR → (get_or s (at + 1) 0 ≡ LF → ⊥) → get_or (lined AlsoReturn s) at 0 ≡ LF
  byte_return h k = lined_byte AlsoReturn s at ∙ rw (eq-eqb (get_or s at 0) CR h, ne_eqb (get_or s (at + 1) 0) LF k)

-- Whether a line ends with the byte at a place, as the code finds it.
module _ (s : List ℕ) (at : ℕ) where
  pub ends_with_lf : (rule : Ends) → get_or s at 0 ≡ LF → get_or (lined rule s) at 0 ≡ LF
  ends_with_lf rule h = byte_other rule s at (λ e. omega arith) ∙ h

  module _ (n : get_or s at 0 ≡ LF → ⊥) where
    pub ends_with_no : (rule : Ends) → (get_or s at 0 ≡ also_ends rule → ⊥) → get_or (lined rule s) at 0 ≡ LF → ⊥
    ends_with_no LineFeed m e = n (sym (byte_as_is s at) ∙ e)
    ends_with_no AlsoReturn m e = n (sym (byte_other AlsoReturn s at m) ∙ e)

    pub ends_before_lf : (rule : Ends) → get_or s (at + 1) 0 ≡ LF → get_or (lined rule s) at 0 ≡ LF → ⊥
    ends_before_lf rule k e = n (sym (byte_before_lf rule s at k) ∙ e)

    pub ends_with_return : (rule : Ends) → get_or s at 0 ≡ also_ends rule → (get_or s (at + 1) 0 ≡ LF → ⊥) → get_or (lined rule s) at 0 ≡ LF
    ends_with_return LineFeed m k = absurd (n m)
    ends_with_return AlsoReturn m k = byte_return s at m k

    pub ends_unless_lf : (rule : Ends) → get_or s at 0 ≡ also_ends rule → not (eqb (get_or s (at + 1) 0) LF) ≡ eqb (get_or (lined rule s) at 0) LF
    ends_unless_lf rule m =
        tested (eqb (get_or s (at + 1) 0) LF)
        (λ t. rw (t, ne_eqb (get_or (lined rule s) at 0) LF (ends_before_lf rule (eqb-true (get_or s (at + 1) 0) LF t))))
        (λ t. rw (t, eq-eqb (get_or (lined rule s) at 0) LF (ends_with_return rule m (eqb-false (get_or s (at + 1) 0) LF t))))

-- Texts that agree on so many bytes agree as they are read.
pub agree_lined : (rule : Ends) (n : ℕ) (s t : List ℕ) → Agree (with_next rule n) s t → Agree n (lined rule s) (lined rule t)
agree_lined LineFeed n s t e = rw (lined_same s, lined_same t) e
agree_lined AlsoReturn n s t e = take-lined AlsoReturn n s ∙ ap (λ x. take n (lined AlsoReturn x)) e ∙ sym (take-lined AlsoReturn n t)
