-- Two texts with the same first bytes are as logs refused alike among them. Assumes nothing.
use Rattle.std.specs.Prelude.{Some}
use Rattle.std.specs.Prelude.{Option}
use Prim.Native.Nat.{ℕ, zero, suc, ◌+◌, ◌-◌, ◌≤◌, ◌<◌}
use mathlib.Core.Bool.{false, ◌||◌}
use mathlib.Core.List.{List}
use mathlib.Core.Path.{◌≡◌, refl, ap, sym, ◌∙◌, subst}
use native.Mathlib.Omega.{arith}
use borrow.Author.Tests.{lt-leb, eqb-true, eqb-false, leb-true}
use lib.Dec.{leb}
use lib.ListN.{length, drop}
use lib.IntN.{ℤ}
use Rattle.dimacs.specs.Loop.{Step, again, answer}
use Rattle.dimacs.specs.Bytes.{bytes, is_not_stop}
use Rattle.dimacs.specs.Names.{numbered, ceiling}
use Rattle.dimacs.specs.Tokens.{begins, unmoved, blanks, line_end, next_line, fixed, strict_comment, end_of_line}
use Rattle.dimacs.specs.Rows.{Row, ends, closes, stops, reads, row}
use Rattle.dimacs.specs.Logs.{LogAnswer, accepted, refused_log, Log, is_closed, is_said, line_read, values_read, value_line, solution_is, solution_line, log_end, other_line, log_line, log_from}
use Rattle.dimacs.specs.Seen.{word_seen, log_seen}
use Rattle.dimacs.specs.declared.Assignment.{Assignment}
use Rattle.dimacs.specs.declared.Assignment.TheVariants.{Unbegun, Begun, Closed}
use Rattle.dimacs.specs.declared.Rigor.{Rigor}
use Rattle.dimacs.specs.declared.Rigor.TheVariants.{Strict, Lenient}
use Rattle.dimacs.specs.declared.Verdict.{Verdict}
use Rattle.dimacs.proofs.Loops.{Leads, after}
use Rattle.dimacs.proofs.Tests.{tested}
use Rattle.dimacs.proofs.Spans.{past_spans, line_end_spans}
use Rattle.dimacs.proofs.Words.{fixed_no, fixed_is}
use Rattle.dimacs.proofs.Rows.{RowSpans, row_spans}
use Rattle.dimacs.proofs.Logs.{LineLeads, log_line_leads, log_step}
use Rattle.dimacs.proofs.WordEnds.{NoStops, begins_run, no_word_at_line_end}
use Rattle.dimacs.proofs.Alike.{Alike, numbered_same, blanks_same, line_end_same, next_line_same}
use Rattle.dimacs.proofs.AlikeWords.{all_fixed_same, fixed_same}
use Rattle.dimacs.proofs.AlikeRows.{row_reach, RowFollows, row_same}

-- The bytes that settle where a line leads are among the first n: the two at the place after it, or those of the answer.
abbrev pub StepSeen : ℕ → List ℕ → Step Log LogAnswer → Type 0
StepSeen n s = Leads (λ l. l.at + 2 ≤ n) (λ x. log_seen s x ≤ n)

module _ {n : ℕ} {s t : List ℕ} (a : Alike n s t) where
  refused_log_same : (number at : ℕ) (so : List ℤ) → word_seen s at ≤ n
      → ◌≡◌ {A = Step Log LogAnswer} (answer (refused_log (numbered t number at) so)) (answer (refused_log (numbered s number at) so))
  refused_log_same number at so h = ap (λ r. answer (refused_log r so)) (numbered_same a number at h)

  line_read_same : (at : ℕ) (verdict : Option Verdict) (g : Assignment) (so : List ℤ) → StepSeen n s (line_read s at verdict g so)
      → (word_seen s at ≤ n) × (line_read t at verdict g so ≡ line_read s at verdict g so)
  unfolding end_of_line numbered
  line_read_same at verdict g so k =
      let e = line_end s at in
      tested (leb (length s) at)
      (λ y. let q : at + 2 ≤ n = rw y at k in absurd (omega (arith, leb-true (length s) at y)))
      (λ y. tested (unmoved at e)
      (λ z.
      let q : word_seen s at ≤ n = rw (y, z) at k in
      let l : at + 2 ≤ n = omega (arith, past_spans s at is_not_stop) in
      (q, rw (y, lt-leb (length t) at (omega arith), line_end_same a at l, z) (refused_log_same _ at so q)))
      (λ z.
      let q : e + 2 ≤ n = rw (y, z) at k in
      let u = eqb-false e at z in
      let w = no_word_at_line_end s at u in
      let v = line_end_spans s at in
      let l : at + 2 ≤ n = omega arith in
      (omega arith, rw (y, lt-leb (length t) at (omega arith), line_end_same a at l, z))))

  value_line_same : (room at : ℕ) (r : Log) → StepSeen n s (value_line s room at r) → value_line t room at r ≡ value_line s room at r
  unfolding value_line
  value_line_same room at r k =
      let b = blanks s at in
      let q = go (row s ceiling room (reads b r.so)) (row_spans s ceiling room (reads b r.so)) (row_same a ceiling room (reads b r.so)) k in
      rw (blanks_same a at (omega (arith, q.0))) q.1
    where
      go : (w : Row) → RowSpans s (blanks s at) w → RowFollows a ceiling room (reads (blanks s at) r.so) w → StepSeen n s (values_read s r.verdict w)
          → (blanks s at + 2 ≤ n) × (values_read t r.verdict (row t ceiling room (reads (blanks s at) r.so)) ≡ values_read s r.verdict w)
      go (ends e so) p f k =
          let q = line_read_same e r.verdict Begun so k in
          (row_reach n s (blanks s at) (ends e so) p q.0, rw (f.1 q.0) q.1)
      go (closes e so) p f k =
          let q = line_read_same e r.verdict Closed so k in
          let l : e < n = omega (arith, past_spans s e is_not_stop, q.0) in
          (row_reach n s (blanks s at) (closes e so) p l, rw (f.1 l) q.1)
      go (stops x so) p f k = (row_reach n s (blanks s at) (stops x so) p k, rw (f.1 k))

  module _ (at : ℕ) (r : Log) where
    -- A verdict by its word is the same if the word at the place is seen. It is, if the word stands and what follows is seen.
    solution_is_same : (v : Verdict) (w : List ℕ) → NoStops w → (x y : Step Log LogAnswer) → (StepSeen n s x → (word_seen s at ≤ n) × (y ≡ x))
        → StepSeen n s (solution_is s v w at r x) → (word_seen s at ≤ n) × (solution_is t v w at r y ≡ solution_is s v w at r x)
    solution_is_same v w o x y next k =
        let e = fixed s w at in
        tested (unmoved at e)
        (λ z.
        let d : StepSeen n s x = rw z at k in
        let q = next d in
        (q.0, rw (fixed_same a w at o (omega (arith, q.0)), z) q.1))
        (λ z.
        let d : StepSeen n s (line_read s e (Some v) r.assignment r.so) = rw z at k in
        let q = line_read_same e (Some v) r.assignment r.so d in
        let l : word_seen s at ≤ n = there z q.0 in
        (l, rw (fixed_same a w at o (omega arith), z) q.1))
      where
        there : unmoved at (fixed s w at) ≡ false → word_seen s (fixed s w at) ≤ n → word_seen s at ≤ n
        there z h =
            tested (begins w (drop at s))
            (λ b. rw (sym (begins_run is_not_stop w s at o b), sym (fixed_is w s at b)) h)
            (λ b. absurd (eqb-false (fixed s w at) at z (fixed_no w s at b)))

    solution_line_same : StepSeen n s (solution_line s at r) → solution_line t at r ≡ solution_line s at r
    unfolding solution_line numbered
    solution_line_same k =
        (solution_is_same _ _ satisfiable _ _
        (solution_is_same _ _ (refl, (refl, satisfiable)) _ _
        (solution_is_same _ _ (refl, (refl, (refl, (refl, (refl, (refl, (refl, tt))))))) _ _
        (λ h. (h, refused_log_same _ at r.so h))))
        k).1
      where
        satisfiable : NoStops (bytes "SATISFIABLE")
        satisfiable = (refl, (refl, (refl, (refl, (refl, (refl, (refl, (refl, (refl, (refl, (refl, tt)))))))))))

  strict_comment_same : (at : ℕ) → at + 2 ≤ n → strict_comment s at < n → strict_comment t at ≡ strict_comment s at
  unfolding strict_comment
  strict_comment_same at h k =
      let e = fixed s (bytes "c ") at in
      rw (all_fixed_same a (bytes "c ") at h)
      (tested (unmoved at e) (λ y. rw y)
      (λ y. let l : next_line s e < n = rw y at k in rw (y, next_line_same a e l)))

  -- The end of the text is not seen.
  end_unseen : (at : ℕ) (verdict : Option Verdict) (so : List ℤ) (g : Assignment) → length s ≤ at → log_seen s (log_end s at verdict so g) ≤ n → ⊥
  unfolding numbered
  end_unseen at verdict so Unbegun h k = omega arith
  end_unseen at verdict so Begun h k = omega (arith, past_spans s at is_not_stop)
  end_unseen at verdict so Closed h k = omega arith

  other_line_same : (rigor : Rigor) (r : Log) → StepSeen n s (other_line s rigor r) → other_line t rigor r ≡ other_line s rigor r
  unfolding numbered
  other_line_same Strict r k = refused_log_same _ r.at r.so k
  other_line_same Lenient r k = rw (next_line_same a r.at (omega arith))

  module _ (rigor : Rigor) (room : ℕ) where
    line_reach : (at : ℕ) (x : Step Log LogAnswer) → LineLeads s at x → StepSeen n s x → at + 2 ≤ n
    line_reach at (again l) h k = omega arith
    line_reach at (answer (accepted v so)) h k = omega arith
    line_reach at (answer (refused_log r so)) h k = omega (arith, past_spans s r.place is_not_stop)

    log_line_same : (r : Log) → StepSeen n s (log_line s rigor room r) → log_line t rigor room r ≡ log_line s rigor room r
    unfolding log_line
    log_line_same r k =
        let at = r.at in
        let c = strict_comment s at in
        let v = fixed s (bytes "v ") at in
        let e = fixed s (bytes "s ") at in
        let h : at + 2 ≤ n = line_reach at (log_line s rigor room r) (log_line_leads s rigor room r) k in
        rw (all_fixed_same a (bytes "v ") at h, all_fixed_same a (bytes "s ") at h)
        (tested (unmoved at c)
        (λ y.
        let z = eqb-true c at y in
        rw (strict_comment_same at h (omega arith), y)
        (tested (is_closed r.assignment || unmoved at v)
        (λ y₁. rw y₁
        (tested (is_said r.verdict || unmoved at e)
        (λ y₂. rw y₂
        (tested (leb (length s) at)
        (λ y₃.
        let q : log_seen s (log_end s at r.verdict r.so r.assignment) ≤ n = rw (y, y₁, y₂, y₃) at k in
        absurd (end_unseen at r.verdict r.so r.assignment (leb-true (length s) at y₃) q))
        (λ y₃.
        let q : StepSeen n s (other_line s rigor r) = rw (y, y₁, y₂, y₃) at k in
        rw (y₃, lt-leb (length t) at (omega arith)) (other_line_same rigor r q))))
        (λ y₂.
        let q : StepSeen n s (solution_line s e r) = rw (y, y₁, y₂) at k in
        rw y₂ (solution_line_same e r q))))
        (λ y₁.
        let q : StepSeen n s (value_line s room v r) = rw (y, y₁) at k in
        rw y₁ (value_line_same room v r q))))
        (λ y.
        let q : c + 2 ≤ n = rw y at k in
        rw (strict_comment_same at h (omega arith), y)))

    log_by_lem : (m : ℕ) (r : Log) → length s - r.at < m → log_seen s (log_from s rigor room r) ≤ n
        → (r.at + 2 ≤ n) × (log_from t rigor room r ≡ log_from s rigor room r)
    log_by_lem zero r h k = absurd (omega arith)
    log_by_lem (suc m) r h k =
        let q = go (log_line s rigor room r) refl (log_line_leads s rigor room r) (λ x l. log_by_lem m x l) (rw (log_step s rigor room r) at k) in
        (q.0, q.1 ∙ sym (log_step s rigor room r))
      where
        go : (x : Step Log LogAnswer) → log_line s rigor room r ≡ x → LineLeads s r.at x
            → ((y : Log) → length s - y.at < m → log_seen s (log_from s rigor room y) ≤ n → (y.at + 2 ≤ n) × (log_from t rigor room y ≡ log_from s rigor room y))
            → log_seen s (after x (log_from s rigor room)) ≤ n → (r.at + 2 ≤ n) × (log_from t rigor room r ≡ after x (log_from s rigor room))
        go (again y) is l next k =
            let d = next y (omega arith) k in
            let e = log_line_same r (subst (StepSeen n s) (sym is) d.0) ∙ is in
            (omega (arith, d.0), log_step t rigor room r ∙ ap (λ x. after x (log_from t rigor room)) e ∙ d.1)
        go (answer x) is l next k =
            let e = log_line_same r (subst (StepSeen n s) (sym is) k) ∙ is in
            (line_reach r.at (answer x) l k, log_step t rigor room r ∙ ap (λ x. after x (log_from t rigor room)) e)

    pub log_from_same : (r : Log) → log_seen s (log_from s rigor room r) ≤ n → log_from t rigor room r ≡ log_from s rigor room r
    log_from_same r k = (log_by_lem (suc (length s - r.at)) r (omega arith) k).1
