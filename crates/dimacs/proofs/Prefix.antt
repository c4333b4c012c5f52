-- Texts are judged in byte order: what the first bytes of a text settle is answered of every text with the same first bytes. Assumes nothing.
use Rattle.std.specs.Prelude.{Result, Ok, Err}
use Rattle.dimacs.specs.declared.Refusal.{Refusal}
use Prim.Native.Nat.{ℕ, zero, suc, ◌≤◌, min, max}
use mathlib.Core.List.{List, ◌∷◌}
use mathlib.Core.Path.{◌≡◌, refl, ap, sym, ◌∙◌, subst}
use native.Mathlib.Omega.{arith}
use borrow.Author.Tests.{leb-true, leb-false}
use lib.Dec.{leb}
use lib.ListN.{length, get_or, take, length-take}
use lib.Seq.{take_all, take-take, get_or-take}
use Rattle.dimacs.specs.Bytes.{is_not_stop}
use Rattle.dimacs.specs.Header.{opening_of, unlimited, limits_of}
use Rattle.dimacs.specs.Clauses.{Answer, clause, ended, refused}
use Rattle.dimacs.specs.Texts.{answer_at, settled, turn_by, turn, answers_from, begin, text_by, text}
use Rattle.dimacs.specs.Lined.{lined}
use Rattle.dimacs.specs.Logs.{LogAnswer, accepted, refused_log, log_begin, log_from, log}
use Rattle.dimacs.specs.Seen.{Agree, answer_seen, opening_seen, answers_seen, text_seen_by, with_next, text_seen, SameFirst, log_seen}
use Rattle.dimacs.specs.declared.Format.{Format}
use Rattle.dimacs.specs.declared.Limits.{Limits}
use Rattle.dimacs.specs.declared.Mode.{Mode}
use Rattle.dimacs.specs.declared.Rigor.{Rigor}
use Rattle.dimacs.specs.declared.Opening.{Opening}
use Rattle.dimacs.specs.declared.Opening.TheVariants as opening
use Rattle.dimacs.specs.declared.Progress.{Progress}
use Rattle.dimacs.proofs.Loops.{and_on}
use Rattle.dimacs.proofs.Tests.{tested}
use Rattle.dimacs.proofs.Lined.{lined-length, agree_lined}
use Rattle.dimacs.proofs.LinedTokens.{past_lined}
use Rattle.dimacs.proofs.Texts.{answers_step}
use Rattle.dimacs.proofs.Alike.{Alike}
use Rattle.dimacs.proofs.AlikeClauses.{answer_same}
use Rattle.dimacs.proofs.AlikeOpenings.{opening_same}
use Rattle.dimacs.proofs.AlikeLogs.{log_from_same}

-- What is so of a text, and of each of at least n bytes that is alike in the first n, is so of each that agrees with it on n.
agreeing : (P : List ℕ → Type 0) (n : ℕ) (s t : List ℕ) → P s → (Alike n s t → P t) → Agree n s t → P t
agreeing P n s t here there e =
    let l : min n (length s) ≡ min n (length t) = sym (length-take n s) ∙ ap length e ∙ length-take n t in
    tested (leb n (length s))
    (λ h.
    let k = leb-true n (length s) h in
    there
    (record {
      first = k;
      second = omega arith;
      same = λ i o. sym (get_or-take n t i 0 o) ∙ ap (λ x. get_or x i 0) (sym e) ∙ get_or-take n s i 0 o;
    }))
    (λ h.
    let k = leb-false n (length s) h in
    subst P (sym (take_all n s (omega arith)) ∙ e ∙ take_all n t (omega arith)) here)

-- Texts that agree on some bytes agree on fewer.
agree_less : (m n : ℕ) (s t : List ℕ) → m ≤ n → Agree n s t → Agree m s t
agree_less m n s t h e = sym (take-take m n s h) ∙ ap (take m) e ∙ take-take m n t h

-- An answer hangs on no byte past those that settle it.
pub answer_prefix : (s t : List ℕ) (f : Format) (limits : Limits) (room : ℕ) (p : Progress)
    → Agree (answer_seen s (answer_at s f limits room p)) s t → answer_at t f limits room p ≡ answer_at s f limits room p
answer_prefix s t f limits room p =
    agreeing (λ x. answer_at x f limits room p ≡ answer_at s f limits room p) (answer_seen s (answer_at s f limits room p)) s t refl
    (λ a. answer_same a limits room f p (omega arith))

-- Nor does an opening.
pub opening_prefix : (s t : List ℕ) (f : Format) → Agree (opening_seen s (opening_of s f)) s t → opening_of t f ≡ opening_of s f
opening_prefix s t f =
    agreeing (λ x. opening_of x f ≡ opening_of s f) (opening_seen s (opening_of s f)) s t refl (λ a. opening_same a f (omega arith))

module _ (s t : List ℕ) (f : Format) (limits : Limits) (room : ℕ) where
  -- Nor do the next k answers.
  pub answers_prefix : (k : ℕ) (p : Progress) → Agree (answers_seen s f limits room k p) s t
      → take k (answers_from t f limits room p) ≡ take k (answers_from s f limits room p)
  unfolding answers_seen turn
  answers_prefix zero p e = refl
  answers_prefix (suc k) p e =
      let a = answer_at s f limits room p in
      let n = answer_seen s a in
      let m = answers_seen s f limits room k (settled p a) in
      rw (answers_step t f limits room p, answers_step s f limits room p, answer_prefix s t f limits room p (agree_less n (max n m) s t (omega arith) e))
      (go a.answer (settled p a) (answers_prefix k (settled p a) (agree_less m (max n m) s t (omega arith) e)))
    where
      go : (x : Answer) (q : Progress) → take k (answers_from t f limits room q) ≡ take k (answers_from s f limits room q)
          → take (suc k) (and_on (turn_by q x) (answers_from t f limits room)) ≡ take (suc k) (and_on (turn_by q x) (answers_from s f limits room))
      go (clause extra so) q h = ap (λ l. clause extra so ∷ l) h
      go ended q h = refl
      go (refused r so) q h = refl

-- Nor do an opening and the first k answers.
prefix_by : (f : Format) (rigor : Rigor) (room k : ℕ) (s t : List ℕ) → Agree (text_seen_by f rigor room k s (opening_of s f)) s t
    → SameFirst k (text_by f rigor room t (opening_of t f)) (text_by f rigor room s (opening_of s f))
prefix_by f rigor room k s t = go (opening_of s f) (opening_prefix s t f)
  where
    go : (o : Result Opening Refusal) → (Agree (opening_seen s o) s t → opening_of t f ≡ o) → Agree (text_seen_by f rigor room k s o) s t
        → SameFirst k (text_by f rigor room t (opening_of t f)) (text_by f rigor room s o)
    go (Ok (opening.Header h at)) is e =
        let x = opening_seen s (Ok (opening.Header h at)) in
        let y = answers_seen s f (limits_of f rigor h) room k (begin at) in
        rw (is (agree_less x (max x y) s t (omega arith) e))
        (record { opened = refl; answers = answers_prefix s t f (limits_of f rigor h) room k (begin at) (agree_less y (max x y) s t (omega arith) e) })
    go (Ok (opening.NoHeader at)) is e =
        let x = opening_seen s (Ok (opening.NoHeader at)) in
        let y = answers_seen s f unlimited room k (begin at) in
        rw (is (agree_less x (max x y) s t (omega arith) e))
        (record { opened = refl; answers = answers_prefix s t f unlimited room k (begin at) (agree_less y (max x y) s t (omega arith) e) })
    go (Err r) is e = rw (is e) (record { opened = refl; answers = refl })

-- Nor do the opening of a whole text and its first k answers.
pub text_prefix : (f : Format) (m : Mode) (room k : ℕ) (s t : List ℕ) → Agree (text_seen f m room k s) s t → SameFirst k (text f m room t) (text f m room s)
unfolding text
text_prefix f m room k s t e =
    let read = lined m.ends s in
    prefix_by f m.rigor room k read (lined m.ends t) (agree_lined m.ends (text_seen_by f m.rigor room k read (opening_of read f)) s t e)

-- Nor does a log.
pub log_prefix : (s t : List ℕ) (m : Mode) (room : ℕ) → Agree (with_next m.ends (log_seen s (log s m room))) s t → log t m room ≡ log s m room
unfolding log
log_prefix s t m room e =
    let from : List ℕ → LogAnswer = λ x. log_from x m.rigor room log_begin in
    let read = lined m.ends s in
    let n = log_seen s (from read) in
    agreeing (λ x. from x ≡ from read) n read (lined m.ends t) refl
    (λ a. log_from_same a m.rigor room log_begin (omega (arith, as_read (from read))))
    (agree_lined m.ends n s t e)
  where
    as_read : (a : LogAnswer) → log_seen (lined m.ends s) a ≡ log_seen s a
    as_read (accepted v so) = rw (lined-length m.ends s)
    as_read (refused_log r so) = rw (past_lined m.ends is_not_stop refl s r.place)
