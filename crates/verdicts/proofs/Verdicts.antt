-- A log's verdict is what its first line that begins with `s ` says, and none if it has no such line: each line leads to the next, and none but a solution line says a verdict.
-- Assumes nothing.
use Prim.Native.Nat.{ℕ, ◌+◌, ◌≤◌}
use mathlib.Core.Bool.{true, false, ◌||◌}
use mathlib.Core.List.{List, [], ◌∷◌, ◌++◌}
use mathlib.Core.Logic.{◌⊎◌, inl, inr}
use mathlib.Core.Path.{◌≡◌, refl, sym, ◌∙◌, subst}
use native.Mathlib.Omega.{arith}
use borrow.Author.Tests.{eqb-true, eqb-false, leb-true, ltb-true, ltb-false}
use lib.Dec.{eqb, ltb}
use lib.ListN.{length, drop}
use lib.IntN.{ℤ}
use Rattle.std.specs.Prelude.{Option, None, Some}
use Rattle.dimacs.specs.Loop.{Step, again, answer}
use Rattle.dimacs.specs.Bytes.{bytes, is_not_lf}
use Rattle.dimacs.specs.Names.{refusal, ceiling}
use Rattle.dimacs.specs.declared.Reason.{Reason}
use Rattle.dimacs.specs.Lined.{lined}
use Rattle.dimacs.specs.Tokens.{begins, unmoved, at_end, blanks, next_line, end_of_line, line_ends, fixed, strict_comment}
use Rattle.dimacs.specs.Rows.{Row, ends, closes, stops, reads, row}
use Rattle.dimacs.specs.Logs.{LogAnswer, accepted, refused_log, Log, log_at, log_begin, is_closed, is_said, line_read, values_read, value_line, solution_is, solution_line, log_end, other_line, log_line, log_from, log}
use Rattle.dimacs.specs.declared.Assignment.{Assignment}
use Rattle.dimacs.specs.declared.Assignment.TheVariants.{Unbegun, Begun, Closed}
use Rattle.dimacs.specs.declared.Mode.{Mode}
use Rattle.dimacs.specs.declared.Rigor.{Rigor}
use Rattle.dimacs.specs.declared.Rigor.TheVariants.{Strict, Lenient}
use Rattle.dimacs.specs.declared.Verdict.{Verdict}
use Rattle.dimacs.specs.declared.Verdict.TheVariants.{Yes, No, Unknown}
use Rattle.dimacs.proofs.Tests.{tested, chosen, unlike, neither_left, neither_right}
use Rattle.dimacs.proofs.Loops.{Leads}
use Rattle.dimacs.proofs.Words.{fixed_is}
use Rattle.dimacs.proofs.WordEnds.{Passes, begins_run}
use Rattle.dimacs.proofs.Logs.{log_kept}
use Rattle.verdicts.specs.Lines.{LineAt, NoneBefore, FirstIs, LinesSay}
use Rattle.verdicts.proofs.Words.{other_word, words_differ, begins_first, begins_both, fixed_stands, fixed_stands_not, stands_within}
use Rattle.verdicts.proofs.SameLine.{SameLine, then_on_line, same_next, blanks_on_line, fixed_on_line, RowOnLine, row_on_line, EndNext, end_next, next_opens, none_between}

-- What the lines before a place say.
abbrev SayBefore : List ℕ → ℕ → Option Verdict → Type 0
SayBefore s n (Some v) = LinesSay s (Some v)
SayBefore s n None = NoneBefore s n

-- A log is read line by line, and its verdict so far is what the lines before say.
record Reached (s : List ℕ) (l : Log) : Type 0 where
  place : LineAt s l.at ⊎ (length s ≤ l.at)
  said : SayBefore s l.at l.verdict

-- The lines of an accepted log say its verdict.
abbrev LogSaid : List ℕ → LogAnswer → Type 0
LogSaid s (accepted v so) = LinesSay s v
LogSaid s (refused_log r so) = Unit {0}

-- What a line leads to.
abbrev LineSaid : List ℕ → Step Log LogAnswer → Type 0
LineSaid s = Leads (Reached s) (LogSaid s)

module _ (s : List ℕ) where
  -- A line that does not begin with `s ` says nothing, and after one that does no other is heard.
  abbrev Silent : ℕ → Option Verdict → Type 0
  Silent at v = v ≡ None → begins (bytes "s ") (drop at s) ≡ false

  say_on : (at : ℕ) (v : Option Verdict) → Silent at v → SayBefore s at v → SayBefore s (next_line s at) v
  say_on at (Some v) h t = t
  say_on at None h t =
      λ i k o. tested (ltb i at) (λ y. t i (ltb-true i at y) o)
      (λ y. tested (eqb i at) (λ z. rw (eqb-true i at z) (h refl))
      (λ z. absurd (none_between s at i (omega (arith, ltb-false i at y, eqb-false i at z)) k o)))

  -- A line that is closed leads to the next.
  line_read_said : (at e : ℕ) (v : Option Verdict) (a : Assignment) (so : List ℤ) → SameLine s at e → ((end_of_line s e ≡ None → ⊥) → SayBefore s (next_line s at) v) → LineSaid s (line_read s e v a so)
  line_read_said at e v a so p say = go (end_of_line s e) refl (end_next s e)
    where
      go : (x : Option ℕ) → end_of_line s e ≡ x → EndNext s e x → LineSaid s (line_ends x (λ next. again (log_at next v a so)) (answer (refused_log (refusal s Reason.LineEndExpected e) so)))
      go None c q = tt
      go (Some n) c q =
          let z = q ∙ same_next p in
          rw z (record { place = next_opens s at; said = say (λ m. let f : ◌≡◌ {A = ℕ} 0 1 = cc in omega arith) })

  value_line_said : (room at e : ℕ) (l : Log) → SameLine s at e → SayBefore s (next_line s at) l.verdict → LineSaid s (value_line s room e l)
  unfolding value_line
  value_line_said room at e l p t =
      let r = reads (blanks s e) l.so in
      go (row s ceiling room r) (row_on_line s ceiling room r)
    where
      k : SameLine s at (blanks s e)
      k = then_on_line p (blanks_on_line s e)

      go : (w : Row) → RowOnLine s (blanks s e) w → LineSaid s (values_read s l.verdict w)
      go (ends n so) h = line_read_said at n l.verdict Begun so (then_on_line k h) (λ _. t)
      go (closes n so) h = line_read_said at n l.verdict Closed so (then_on_line k h) (λ _. t)
      go (stops r so) h = tt

  module _ (at : ℕ) (l : Log) (here : LineAt s at) (none : NoneBefore s at) (s-is : begins (bytes "s ") (drop at s) ≡ true) where
    -- The first solution line, by its word.
    first_is : (w : List ℕ) → begins w (drop (at + 2) s) ≡ true → (end_of_line s (at + 2 + length w) ≡ None → ⊥) → FirstIs s (bytes "s " ++ w)
    first_is w h c =
        let i : at + length (bytes "s " ++ w) ≡ at + 2 + length w = omega arith in
        record { at = at; line = here; stands = begins_both (bytes "s ") w s at s-is h; closed = rw i c; first = none }

    solution_is_said : (v : Verdict) (w : List ℕ) → Passes is_not_lf w → (FirstIs s (bytes "s " ++ w) → SayBefore s (next_line s at) (Some v)) → (otherwise : Step Log LogAnswer) → LineSaid s otherwise
        → LineSaid s (solution_is s v w (at + 2) l otherwise)
    solution_is_said v w o say otherwise h =
        let e = fixed s w (at + 2) in
        chosen (LineSaid s) (unmoved (at + 2) e) (λ _. h)
        (λ y.
        let b = fixed_stands s w (at + 2) y in
        line_read_said at e (Some v) l.assignment l.so (then_on_line p (fixed_on_line s w o (at + 2))) (λ c. say (first_is w b (rw (fixed_is w s (at + 2) b) at c))))
      where
        p : SameLine s at (at + 2)
        p = record { next = begins_run is_not_lf (bytes "s ") s at (refl, (refl, tt)) s-is }

    solution_line_said : LineSaid s (solution_line s (at + 2) l)
    unfolding solution_line
    solution_line_said =
        solution_is_said Yes (bytes "SATISFIABLE") satisfiable (λ f. f) _
        (solution_is_said No (bytes "UNSATISFIABLE") (refl, (refl, satisfiable)) (λ f. f) _
        (solution_is_said Unknown (bytes "UNKNOWN") (refl, (refl, (refl, (refl, (refl, (refl, (refl, tt))))))) (λ f. f) _
        tt))
      where
        satisfiable : Passes is_not_lf (bytes "SATISFIABLE")
        satisfiable = (refl, (refl, (refl, (refl, (refl, (refl, (refl, (refl, (refl, (refl, (refl, tt)))))))))))

  -- The verdict that the end of the text finds.
  log_end_said : (at : ℕ) (v : Option Verdict) (so : List ℤ) (a : Assignment) → LinesSay s v → LogSaid s (log_end s at v so a)
  log_end_said at v so Unbegun t = t
  log_end_said at v so Begun t = tt
  log_end_said at v so Closed t = t

  say_at_end : (at : ℕ) (v : Option Verdict) → length s ≤ at → SayBefore s at v → LinesSay s v
  say_at_end at (Some v) h t = t
  say_at_end at None h t = λ i k o. t i (omega arith) o

  other_line_said : (rigor : Rigor) (l : Log) → SayBefore s (next_line s l.at) l.verdict → LineSaid s (other_line s rigor l)
  other_line_said Strict l t = tt
  other_line_said Lenient l t = record { place = next_opens s l.at; said = t }

unsaid : (v : Option Verdict) → is_said v ≡ false → v ≡ None
unsaid (Some v) h = unlike h
unsaid None h = refl

module _ (s : List ℕ) (rigor : Rigor) (room : ℕ) where
  comment_is : (at : ℕ) → unmoved at (strict_comment s at) ≡ false → (begins (bytes "c ") (drop at s) ≡ true) × (strict_comment s at ≡ next_line s at)
  unfolding strict_comment
  comment_is at y =
      let e = fixed s (bytes "c ") at in
      tested (unmoved at e) (λ z. let k : unmoved at at ≡ false = rw z at y in absurd (eqb-false at at k refl))
      (λ z. (fixed_stands s (bytes "c ") at z, rw z (same_next (fixed_on_line s (bytes "c ") (refl, (refl, tt)) at))))

  -- What is so of a line is so of the next.
  line_said : (l : Log) → Reached s l → LineSaid s (log_line s rigor room l)
  unfolding log_line
  line_said l h =
      let at = l.at in
      let c = strict_comment s at in
      let v = fixed s (bytes "v ") at in
      let e = fixed s (bytes "s ") at in
      chosen (LineSaid s) (unmoved at c)
      (λ _. chosen (LineSaid s) (is_closed l.assignment || unmoved at v)
      (λ _. chosen (LineSaid s) (is_said l.verdict || unmoved at e)
      (λ y. chosen (LineSaid s) (at_end s at)
      (λ k. log_end_said s at l.verdict l.so l.assignment (say_at_end s at l.verdict (leb-true (length s) at k) h.said))
      (λ _. other_line_said s rigor l (on (λ n. fixed_stands_not s (bytes "s ") at (omega arith) (subst (λ x. is_said x || unmoved at e ≡ true) n y)))))
      (λ y.
      let b = fixed_stands s (bytes "s ") at (neither_right (is_said l.verdict) (unmoved at e) y) in
      let n = unsaid l.verdict (neither_left (is_said l.verdict) (unmoved at e) y) in
      rw (fixed_is (bytes "s ") s at b) (solution_line_said s at l (here b) (subst (SayBefore s at) n h.said) b)))
      (λ y.
      let b = fixed_stands s (bytes "v ") at (neither_right (is_closed l.assignment) (unmoved at v) y) in
      value_line_said s room at v l (fixed_on_line s (bytes "v ") (refl, (refl, tt)) at) (on (λ _. other_word 118 115 _ _ (drop at s) (λ z. omega arith) b))))
      (λ y.
      let i = comment_is at y in
      rw i.1 (record { place = next_opens s at; said = on (λ _. other_word 99 115 _ _ (drop at s) (λ z. omega arith) i.0) }))
    where
      on : Silent s l.at l.verdict → SayBefore s (next_line s l.at) l.verdict
      on k = say_on s l.at l.verdict k h.said

      here : begins (bytes "s ") (drop l.at s) ≡ true → LineAt s l.at
      here b = go h.place
        where
          go : LineAt s l.at ⊎ (length s ≤ l.at) → LineAt s l.at
          go (inl o) = o
          go (inr o) = absurd (omega (arith, stands_within s (bytes "s ") l.at (omega arith) b))

  lines_said : LogSaid s (log_from s rigor room log_begin)
  lines_said = log_kept s rigor room (Reached s) (LogSaid s) line_said log_begin (record { place = inl (inl refl); said = λ i h o. absurd (omega arith) })

-- The verdict of an accepted log is what its lines say, as they are read.
pub lines_say_verdict : (s : List ℕ) (m : Mode) (room : ℕ) {v : Option Verdict} {so : List ℤ} → log s m room ≡ accepted v so → LinesSay (lined m.ends s) v
unfolding log
lines_say_verdict s m room e = subst (LogSaid (lined m.ends s)) e (lines_said (lined m.ends s) m.rigor room)

module _ (s : List ℕ) where
  none_earlier : (u : List ℕ) (f : FirstIs s (bytes "s " ++ u)) (n : ℕ) → NoneBefore s n → n ≤ f.at
  none_earlier u f n none =
      tested (ltb f.at n) (λ y. unlike (sym (begins_first (bytes "s ") u (drop f.at s) f.stands) ∙ none f.at (ltb-true f.at n y) f.line)) (λ y. ltb-false f.at n y)

  -- The first line that begins with `s ` begins in one place.
  first_once : (u w : List ℕ) (f : FirstIs s (bytes "s " ++ u)) (g : FirstIs s (bytes "s " ++ w)) → f.at ≡ g.at
  first_once u w f g = omega (arith, none_earlier u f g.at g.first, none_earlier w g f.at f.first)

  -- So it does not say two words that differ after a common beginning.
  firsts_differ : (u : List ℕ) (a b : ℕ) (v w : List ℕ) → (a ≡ b → ⊥) → FirstIs s (bytes "s " ++ (u ++ (a ∷ v))) → FirstIs s (bytes "s " ++ (u ++ (b ∷ w))) → ⊥
  firsts_differ u a b v w n f g =
      words_differ (bytes "s " ++ u) a b v w (drop f.at s) n f.stands (rw (first_once (u ++ (a ∷ v)) (u ++ (b ∷ w)) f g) g.stands)

  first_not_none : (w : List ℕ) → FirstIs s (bytes "s " ++ w) → NoneBefore s (length s) → ⊥
  first_not_none w f none = omega (arith, none_earlier w f (length s) none, stands_within s (bytes "s " ++ w) f.at (omega arith) f.stands)

  -- The lines of a log say one verdict.
  pub one_verdict : (v w : Option Verdict) → LinesSay s v → LinesSay s w → v ≡ w
  one_verdict (Some Yes) (Some Yes) p q = refl
  one_verdict (Some Yes) (Some No) p q = absurd (firsts_differ [] 83 85 _ _ (λ e. omega arith) p q)
  one_verdict (Some Yes) (Some Unknown) p q = absurd (firsts_differ [] 83 85 _ _ (λ e. omega arith) p q)
  one_verdict (Some Yes) None p q = absurd (first_not_none _ p q)
  one_verdict (Some No) (Some Yes) p q = absurd (firsts_differ [] 85 83 _ _ (λ e. omega arith) p q)
  one_verdict (Some No) (Some No) p q = refl
  one_verdict (Some No) (Some Unknown) p q = absurd (firsts_differ (bytes "UN") 83 75 _ _ (λ e. omega arith) p q)
  one_verdict (Some No) None p q = absurd (first_not_none _ p q)
  one_verdict (Some Unknown) (Some Yes) p q = absurd (firsts_differ [] 85 83 _ _ (λ e. omega arith) p q)
  one_verdict (Some Unknown) (Some No) p q = absurd (firsts_differ (bytes "UN") 75 83 _ _ (λ e. omega arith) p q)
  one_verdict (Some Unknown) (Some Unknown) p q = refl
  one_verdict (Some Unknown) None p q = absurd (first_not_none _ p q)
  one_verdict None (Some Yes) p q = absurd (first_not_none _ q p)
  one_verdict None (Some No) p q = absurd (first_not_none _ q p)
  one_verdict None (Some Unknown) p q = absurd (first_not_none _ q p)
  one_verdict None None p q = refl
