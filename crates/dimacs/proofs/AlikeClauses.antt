-- Two texts with the same first bytes have the same clauses among them. Assumes nothing.
use Rattle.std.specs.Prelude.{Option, None, Some, Result, Ok, Err}
use Rattle.dimacs.specs.declared.Refusal.{Refusal}
use Prim.Native.Nat.{ℕ, ◌+◌, ◌≤◌, ◌<◌}
use mathlib.Core.Bool.{Bool, true, false, cond}
use mathlib.Core.List.{List, []}
use mathlib.Core.Path.{◌≡◌, refl, ap}
use native.Mathlib.Omega.{arith}
use borrow.Author.Tests.{lt-leb, leb-true}
use lib.Dec.{leb, eqb}
use lib.ListN.{length}
use lib.IntN.{ℤ}
use Rattle.dimacs.specs.Bytes.{bytes, is_not_stop}
use Rattle.dimacs.specs.Names.{number_of, numbered, refusal, largest, hard}
use Rattle.dimacs.specs.declared.Reason.{Reason}
use Rattle.dimacs.specs.Tokens.{unmoved, blanks, word, lines, linebreaks, uint_at, braced_uint_at, end_of_line, line_ends}
use Rattle.dimacs.specs.Rows.{reads}
use Rattle.dimacs.specs.Clauses.{Literals, nothing, closed, stopped, literals, clause, refused, Answered, says, instead, absent, is_zero, start_by, soft_by, start_in2022, start_at, closing, finish, clause_by, clause_at}
use Rattle.dimacs.specs.Texts.{next_clause, answer_by, answer_at}
use Rattle.dimacs.specs.Seen.{word_seen, answer_seen}
use Rattle.dimacs.specs.declared.Absence.{Absence}
use Rattle.dimacs.specs.declared.Absence.TheVariants.{MayEnd, NoClause, NoLiterals}
use Rattle.dimacs.specs.declared.Format.{Format}
use Rattle.dimacs.specs.declared.Format.TheVariants.{Plain, Weighted, Grouped, Weighted2022}
use Rattle.dimacs.specs.declared.Limits.{Limits}
use Rattle.dimacs.specs.declared.Progress.{Progress}
use Rattle.dimacs.specs.declared.Uint.{Uint}
use Rattle.dimacs.specs.declared.Uint.TheVariants as uint
use Rattle.dimacs.proofs.Tests.{tested}
use Rattle.dimacs.proofs.Spans.{past_spans, lines_spans, linebreaks_spans, UintMoves, uint_moves, braced_uint_moves}
use Rattle.dimacs.proofs.WordEnds.{word_moved, NoLFBefore}
use Rattle.dimacs.proofs.Alike.{Alike, numbered_same, blanks_same, lines_same, linebreaks_same}
use Rattle.dimacs.proofs.AlikeWords.{word_stands_same, word_same, EndSeen, line_ends_same, end_same, UintSeen, zero_same, uint_follows, braced_uint_follows}
use Rattle.dimacs.proofs.AlikeRows.{LiteralsFollow, literals_same}

module _ {n : ℕ} {s t : List ℕ} (a : Alike n s t) where
  refused_same : (number at : ℕ) → word_seen s at ≤ n → instead (Err (numbered t number at)) ≡ instead (Err (numbered s number at))
  refused_same number at h = ap (λ r. instead (Err r)) (numbered_same a number at h)

  absent_same : (absence : Absence) (at : ℕ) → answer_seen s (instead (absent s absence at)) ≤ n
      → (word_seen s at ≤ n) × (instead (absent t absence at) ≡ instead (absent s absence at))
  unfolding absent numbered
  absent_same MayEnd at h =
      tested (leb (length s) at)
      (λ e. let k : at + 1 ≤ n = rw e at h in absurd (omega (arith, leb-true (length s) at e)))
      (λ e.
      let k : word_seen s at ≤ n = rw e at h in
      (k, rw (e, lt-leb (length t) at (omega (arith, past_spans s at is_not_stop))) (refused_same _ at k)))
  absent_same NoClause at h = (h, refused_same _ at h)
  absent_same NoLiterals at h = (h, refused_same _ at h)

  closing_same : (extra at : ℕ) (so : List ℤ) → NoLFBefore s at → answer_seen s (closing s extra at so) ≤ n
      → (at < n) × (closing t extra at so ≡ closing s extra at so)
  unfolding closing numbered
  closing_same extra at so h k =
      let l = go (end_of_line s at) k in
      let q = end_same a at h l in
      (q.0, rw q.1 (line_ends_same a _ at (says (clause extra so)) (λ r. says (refused r so) at) (end_of_line s at) l))
    where
      go : (x : Option ℕ) → answer_seen s (line_ends x (says (clause extra so)) (says (refused (refusal s Reason.LineEndExpected at) so) at)) ≤ n → EndSeen n s at x
      go None k = k
      go (Some e) k = k

  module _ (limits : Limits) (room : ℕ) where
    abbrev from : List ℕ → ℕ → ℕ → Absence → Answered
    from x extra at absence = finish x extra at absence (literals x limits.literals room at)

    from_same : (extra at : ℕ) (absence : Absence) → answer_seen s (from s extra at absence) ≤ n → (at + 2 ≤ n) × (from t extra at absence ≡ from s extra at absence)
    unfolding literals
    from_same extra at absence = go (literals s limits.literals room at) (literals_same a limits.literals room at)
      where
        go : (l : Literals) → LiteralsFollow a limits.literals room (reads at []) l → answer_seen s (finish s extra at absence l) ≤ n
            → (at + 2 ≤ n) × (from t extra at absence ≡ finish s extra at absence l)
        go nothing f k =
            let q = absent_same absence at k in
            let d = f.1 (λ _. q.0) in
            (d.0, rw d.1 q.1)
        go (closed so e) f k =
            let q = closing_same extra e so f.0 k in
            let d = f.1 q.0 in
            (d.0, rw d.1 q.1)
        go (stopped r so) f k = let d = f.1 k in (d.0, rw d.1)

    start_same : (big : ℕ) (absence : Absence) (at : ℕ) (u u' : Uint) → UintMoves s at u → (UintSeen n s at u → u' ≡ u)
        → answer_seen s (clause_by s limits room (start_by s big absence at u)) ≤ n
        → (at + 2 ≤ n) × (clause_by t limits room (start_by t big absence at u') ≡ clause_by s limits room (start_by s big absence at u))
    unfolding numbered
    start_same big absence at uint.Missing u' m f k =
        let q = absent_same absence at k in
        (omega (arith, past_spans s at is_not_stop, q.0), rw (f q.0) q.1)
    start_same big absence at uint.TooBig u' m f k = (omega (arith, past_spans s at is_not_stop), rw (f k) (refused_same big at k))
    start_same big absence at (uint.Value extra e) u' m f k =
        let q = from_same extra (linebreaks s e) NoLiterals k in
        let l = linebreaks_spans s e in
        (omega (arith, q.0), rw (f (omega (arith, q.0)), linebreaks_same a e q.0) q.1)

    -- What is answered after a weight or group, or for it, is settled no sooner than it is.
    start_seen : (big : ℕ) (absence : Absence) (at : ℕ) (u : Uint) → answer_seen s (clause_by s limits room (start_by s big absence at u)) ≤ n → UintSeen n s at u
    unfolding numbered
    start_seen big absence at uint.Missing k = (absent_same absence at k).0
    start_seen big absence at uint.TooBig k = k
    start_seen big absence at (uint.Value extra e) k = omega (arith, (from_same extra (linebreaks s e) NoLiterals k).0, linebreaks_spans s e)

    soft_same : (absence : Absence) (at : ℕ) → let u = uint_at s largest at in let u' = uint_at t largest at in
        answer_seen s (clause_by s limits room (soft_by s absence at u)) ≤ n
        → (at + 2 ≤ n) × (clause_by t limits room (soft_by t absence at u') ≡ clause_by s limits room (soft_by s absence at u))
    unfolding numbered
    soft_same absence at k =
        let u = uint_at s largest at in
        let u' = uint_at t largest at in
        let big = number_of Reason.WeightTooBig in
        tested (is_zero u)
        (λ y.
        let l : word_seen s at ≤ n = rw y at k in
        (omega (arith, past_spans s at is_not_stop), rw (zero_same a largest at l, y) (refused_same _ at l)))
        (λ y.
        let l : answer_seen s (clause_by s limits room (start_by s big absence at u)) ≤ n = rw y at k in
        let q = start_same big absence at u u' (uint_moves s largest at) (uint_follows a largest at) l in
        let z = uint_follows a largest at (start_seen big absence at u l) in
        (q.0, rw (ap is_zero z, y) q.1))

    start_in_2022_same : (absence : Absence) (at : ℕ) → answer_seen s (clause_by s limits room (start_in2022 s absence at)) ≤ n
        → (at + 2 ≤ n) × (clause_by t limits room (start_in2022 t absence at) ≡ clause_by s limits room (start_in2022 s absence at))
    unfolding start_in2022 numbered
    start_in_2022_same absence at k =
        let p = bytes "p" in
        let h = bytes "h" in
        let e = word s h at in
        tested (unmoved at (word s p at))
        (λ y. tested (unmoved at e)
        (λ z.
        let q = soft_same absence at (rw (y, z) at k) in
        (q.0, rw (word_stands_same a p at (refl, tt) (omega (arith, q.0)), y, word_stands_same a h at (refl, tt) (omega (arith, q.0)), z) q.1))
        (λ z.
        let l : answer_seen s (from s hard (linebreaks s e) NoLiterals) ≤ n = rw (y, z) at k in
        let q = from_same hard (linebreaks s e) NoLiterals l in
        let m = linebreaks_spans s e in
        let o = word_moved s h at z in
        let w = word_same a h at (refl, tt) (omega (arith, q.0)) (omega (arith, q.0)) in
        (omega (arith, q.0), rw (word_stands_same a p at (refl, tt) (omega (arith, q.0)), y, w, z, linebreaks_same a e q.0) q.1)))
        (λ y.
        let l : word_seen s at ≤ n = rw y at k in
        let o = past_spans s at is_not_stop in
        (omega arith, rw (word_stands_same a p at (refl, tt) (omega arith), y) (refused_same _ at l)))

    clause_at_same : (f : Format) (absence : Absence) (at : ℕ) → answer_seen s (clause_at s limits room f absence at) ≤ n
        → (at + 2 ≤ n) × (clause_at t limits room f absence at ≡ clause_at s limits room f absence at)
    unfolding clause_at start_at
    clause_at_same Plain absence at k = from_same 0 at absence k
    clause_at_same Weighted absence at k =
        start_same (number_of Reason.WeightTooBig) absence at (uint_at s largest at) (uint_at t largest at) (uint_moves s largest at) (uint_follows a largest at) k
    clause_at_same Grouped absence at k =
        let g = limits.groups in
        start_same (number_of Reason.GroupTooBig) absence at (braced_uint_at s g at) (braced_uint_at t g at) (braced_uint_moves s g at) (braced_uint_follows a g at) k
    clause_at_same Weighted2022 absence at k = start_in_2022_same absence at k

    pub next_clause_same : (f : Format) (count at : ℕ) → answer_seen s (next_clause s f limits room count at) ≤ n
        → next_clause t f limits room count at ≡ next_clause s f limits room count at
    unfolding next_clause
    next_clause_same f count at k = let q = tried (eqb limits.clauses 0) (leb limits.clauses count) k in rw (place q.0) q.1
      where
        e : ℕ
        e = lines s (blanks s at)

        by : Bool → Bool → List ℕ → ℕ → Answered
        by b c x i = cond b (clause_at x limits room f MayEnd i) (cond c (instead (absent x MayEnd i)) (clause_at x limits room f NoClause i))

        tried : (b c : Bool) → answer_seen s (by b c s e) ≤ n → (e + 2 ≤ n) × (by b c t e ≡ by b c s e)
        tried true c k = clause_at_same f MayEnd e k
        tried false true k = let q = absent_same MayEnd e k in (omega (arith, past_spans s e is_not_stop, q.0), q.1)
        tried false false k = clause_at_same f NoClause e k

        place : e + 2 ≤ n → lines t (blanks t at) ≡ e
        place h = rw (blanks_same a at (omega (arith, lines_spans s (blanks s at)))) (lines_same a (blanks s at) h)

    pub answer_same : (f : Format) (p : Progress) → answer_seen s (answer_at s f limits room p) ≤ n → answer_at t f limits room p ≡ answer_at s f limits room p
    unfolding answer_at
    answer_same f p = go p.last
      where
        go : (x : Option (Result Unit Refusal)) → answer_seen s (answer_by s f limits room p x) ≤ n → answer_by t f limits room p x ≡ answer_by s f limits room p x
        go None k = next_clause_same f p.count p.place k
        go (Some (Ok u)) k = refl
        go (Some (Err r)) k = refl
