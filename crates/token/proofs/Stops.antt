-- The word a reader stopped at: what a search for its end keeps, and the part of the text that it is. Assumes nothing.
use Prim.Native.Nat.{ℕ, suc, ◌+◌, ◌-◌, ◌≤◌, ◌<◌, min}
use mathlib.Core.Bool.{Bool, true, false, not}
use mathlib.Core.List.{List, [], ◌∷◌}
use mathlib.Core.Path.{◌≡◌, refl, ap, sym, ◌∙◌}
use native.Mathlib.Omega.{arith}
use borrow.Author.Tests.{ne_eqb, lt-leb}
use lib.Dec.{eqb}
use lib.ListN.{length, get_or, take, drop, drop_of_length-le}
use lib.Seq.{take-nil}
use denote.Ref.{Bor}
use Rattle.dimacs.specs.Bytes.{is_not_stop}
use Rattle.dimacs.specs.Names.{longest_word}
use Rattle.dimacs.specs.Lined.{lined}
use Rattle.dimacs.specs.Tokens.{run, past, line_end, word_ends, stopped_at}
use Rattle.dimacs.specs.declared.Ends.{Ends}
use Rattle.dimacs.proofs.Tests.{chosen}
use Rattle.dimacs.proofs.Past.{past_more, past_stop, past_end}
use Rattle.dimacs.proofs.Spans.{past_spans}
use Rattle.dimacs.proofs.Lined.{ended_lined}
use Rattle.dimacs.proofs.LinedTokens.{stopped_lined}
use Rattle.token.specs.Parts.{PastWord}
use Rattle.token.specs.Words.{LiesIn}

-- Up to i the word goes on.
pub record InWord (s : List ℕ) (at i : ℕ) : Type 0 where
  pub on : at < i
  pub short : i ≤ at + longest_word
  pub inside : i ≤ length s
  pub so : past is_not_stop s i ≡ past is_not_stop s (at + 1)

pub in_word_first : (s : List ℕ) (at : ℕ) → at < length s → InWord s at (at + 1)
in_word_first s at h = record { on = omega arith; short = omega arith; inside = omega arith; so = refl }

-- A place before the end is a stop if words end there.
not_stop_is : (s : List ℕ) (i : ℕ) {t : Bool} → i < length s → word_ends s i ≡ t → is_not_stop (get_or s i 0) ≡ not t
unfolding word_ends
not_stop_is s i {t} h e = ap not (rw (lt-leb (length s) i h) at e)

past_word_by : (s : List ℕ) (at i : ℕ) → at < i → i ≤ length s → i ≡ at + min longest_word (past is_not_stop s (at + 1) - at) → PastWord s at i
unfolding past
past_word_by s at i h k e = record { on = omega arith; within = k; there = omega (arith, e) }

module _ {s : List ℕ} {at i : ℕ} (w : InWord s at i) where
  pub in_word_more : i < length s → i - at < longest_word → word_ends s i ≡ false → InWord s at (i + 1)
  in_word_more h k e =
      record {
        on = omega (arith, w.on);
        short = omega (arith, w.on);
        inside = omega arith;
        so = past_more is_not_stop s i h (not_stop_is s i h e) ∙ w.so;
      }

  pub past_word_stop : i < length s → word_ends s i ≡ true → PastWord s at i
  past_word_stop h e = past_word_by s at i w.on w.inside (omega (arith, w.on, w.short, w.so, past_stop is_not_stop s i h (not_stop_is s i h e)))

  -- At the text's end, or as far as the longest word goes.
  pub past_word_there : {e : ℕ} → e ≡ i → i ≡ min (length s) (at + longest_word) → PastWord s at e
  past_word_there {e} h k = past_word_by s at e (omega (arith, w.on)) (omega arith) (omega (arith, w.on, w.short, w.inside, w.so, past_spans s i is_not_stop, past_end is_not_stop s i))

-- Bytes that are the word in a text as it is read. Nothing is, at a line end and at the end of the text, wherever it is taken from.
module _ (rule : Ends) (s : List ℕ) (at : ℕ) where
  pub stopped_at_word : (e : ℕ) → PastWord s at e → line_end (lined rule s) at ≡ at → take (e - at) (drop at s) ≡ stopped_at (lined rule s) at
  stopped_at_word e w h =
      let k : e - at ≡ min longest_word (suc (run is_not_stop (drop (at + 1) s))) = omega (arith, w.there) in
      rw k (sym (stopped_lined rule s at h))

  pub stopped_at_line_end : {x : List ℕ} → length x ≡ 0 → (line_end (lined rule s) at ≡ at → ⊥) → x ≡ stopped_at (lined rule s) at
  unfolding stopped_at
  stopped_at_line_end {x = []} k h = rw (ne_eqb (line_end (lined rule s) at) at h)
  stopped_at_line_end {x = b ∷ x} k h = absurd (omega arith)

  pub stopped_at_end : {x : List ℕ} → length x ≡ 0 → length s ≤ at → x ≡ stopped_at (lined rule s) at
  unfolding stopped_at
  stopped_at_end {x = []} k h =
      let read = lined rule s in
      rw (drop_of_length-le read (ended_lined rule s h)) (chosen (λ (x : List ℕ). [] ≡ x) (eqb (line_end read at) at) (λ _. sym (take-nil (min longest_word (suc (run is_not_stop (drop (at + 1) read)))))) (λ _. refl))
  stopped_at_end {x = b ∷ x} k h = absurd (omega arith)

-- Two permitted parts have equal bytes and lie at one place.
pub one_part : {text p₁ p₂ : Bor (List ℕ)} {from : ℕ} {s : List ℕ} → LiesIn text from s p₁ → LiesIn text from s p₂ → (p₁.now ≡ p₂.now) × (p₁.ref_ptr ≡ p₂.ref_ptr)
one_part a b = (a.bytes ∙ sym b.bytes, λ i. ((a.block ∙ sym b.block) i, (a.offset ∙ sym b.offset) i))
