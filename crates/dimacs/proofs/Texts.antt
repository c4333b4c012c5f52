-- A text of n bytes has at most (n + 1) / 2 clauses; its answers end in one end or one refusal, which is then repeated and whose place is within
-- the text. Assumes nothing.
use Rattle.std.specs.Prelude.{Option, None, Some, Result, Ok, Err}
use Prim.Native.Nat.{ℕ, zero, suc, ◌+◌, ◌/◌, ◌≤◌, ◌<◌}
use mathlib.Core.List.{List, [], ◌∷◌}
use mathlib.Core.Path.{◌≡◌, refl, subst⁻¹}
use native.Mathlib.Omega.{arith}
use lib.Dec.{leb, eqb}
use lib.ListN.{length}
use lib.IntN.{ℤ}
use Rattle.dimacs.specs.Bytes.{bytes}
use Rattle.dimacs.specs.Names.{numbered, refusal, ceiling, largest}
use Rattle.dimacs.specs.declared.Reason.{Reason}
use Rattle.dimacs.specs.Lined.{lined}
use Rattle.dimacs.specs.Tokens.{unmoved, blanks, lines, word, uint_at, end_of_line, line_ends}
use Rattle.dimacs.specs.Header.{has_header, has_third, format_word, header_of, counted, header_end, third_there, third_count, clause_count, variable_count, after_p, opening_of, unlimited, limits_of}
use Rattle.dimacs.specs.Clauses.{Answer, clause, ended, refused, Answered, says, instead, absent, clause_at}
use Rattle.dimacs.specs.Leniency.{Each}
use Rattle.dimacs.specs.Texts.{progress, one_more, next_clause, answer_by, answer_at, final_of, settled_by, settled, turn_by, turn, answers_from, begin, text_by, text}
use Rattle.dimacs.specs.declared.Format.{Format}
use Rattle.dimacs.specs.declared.Limits.{Limits}
use Rattle.dimacs.specs.declared.Mode.{Mode}
use Rattle.dimacs.specs.declared.Rigor.{Rigor}
use Rattle.dimacs.specs.declared.Header.{Header}
use Rattle.dimacs.specs.declared.Opening.{Opening}
use Rattle.dimacs.specs.declared.Opening.TheVariants as opening
use Rattle.dimacs.specs.declared.Refusal.{Refusal}
use Rattle.dimacs.specs.declared.Uint.{Uint}
use Rattle.dimacs.specs.declared.Uint.TheVariants as uint
use Rattle.dimacs.specs.declared.Absence.TheVariants.{MayEnd, NoClause}
use Rattle.dimacs.specs.declared.Progress.{Progress}
use Rattle.dimacs.proofs.Loops.{and_on, Gives, Lowers, said_unrolled, said_has}
use Rattle.dimacs.proofs.Tests.{chosen}
use Rattle.dimacs.proofs.Spans.{then_spans, EndCloses, end_closes, blanks_spans, lines_spans, word_spans, UintMoves, uint_moves, UintWithin, uint_within}
use Rattle.dimacs.proofs.Lined.{lined-length}
use Rattle.dimacs.proofs.Clauses.{to_come, Placed, Onward, back, absent_onward, clause_at_onward, Fits, instead_fits, clause_at_fits}

-- Where a text opens: the clauses begin, or the header is refused, within the text; no more variables are counted than the ceiling, and no other count is above the largest.
abbrev pub Opens : List ℕ → Result Opening Refusal → Type 0
Opens s (Ok (opening.Header h at)) = (at ≤ length s) × (h.variables ≤ ceiling) × (h.third ≤ largest) × (h.clauses ≤ largest)
Opens s (Ok (opening.NoHeader at)) = at ≤ length s
Opens s (Err r) = r.place ≤ length s

module _ (s : List ℕ) where
  counted_opens : (none big : Reason) (limit at : ℕ) (then : ℕ → ℕ → Result Opening Refusal) → at ≤ length s
      → ((n e : ℕ) → n ≤ limit → e ≤ length s → Opens s (then n e)) → Opens s (counted s none big at then (uint_at s limit at))
  unfolding numbered
  counted_opens none big limit at then h k = go (uint_at s limit at) (uint_moves s limit at) (uint_within s limit at)
    where
      go : (u : Uint) → UintMoves s at u → UintWithin limit u → Opens s (counted s none big at then u)
      go uint.Missing m w = h
      go uint.TooBig m w = h
      go (uint.Value n e) m w = k n e w m.within

  header_end_opens : (h : Header) (at : ℕ) → h.variables ≤ ceiling → h.third ≤ largest → h.clauses ≤ largest → at ≤ length s → Opens s (header_end s h at)
  unfolding header_end numbered
  header_end_opens h at k n m l = go (end_of_line s at) (end_closes s at)
    where
      go : (x : Option ℕ) → EndCloses s at x → Opens s (line_ends x (λ next. Ok (opening.Header h next)) (Err (refusal s Reason.LineEndExpected at)))
      go None c = l
      go (Some e) c = omega arith

  third_opens : (f : Format) (v c at : ℕ) → v ≤ ceiling → c ≤ largest → at ≤ length s → Opens s (third_count s f v c at)
  unfolding third_count third_there
  third_opens f v c at k o l =
      chosen (Opens s) (has_third f) (λ _. counted_opens Reason.ThirdCountExpected Reason.ThirdCountTooBig largest at _ l (λ t e n m. header_end_opens (header_of v c t) e k n o m))
      (λ _. header_end_opens (header_of v c 0) at k (omega arith) o l)

  clause_count_opens : (f : Format) (v at : ℕ) → v ≤ ceiling → at ≤ length s → Opens s (clause_count s f v at)
  unfolding clause_count
  clause_count_opens f v at k l = counted_opens Reason.ClauseCountExpected Reason.ClauseCountTooBig largest at _ l (λ c e o m. third_opens f v c e k o m)

  variable_count_opens : (f : Format) (at : ℕ) → at ≤ length s → Opens s (variable_count s f at)
  unfolding variable_count
  variable_count_opens f at l = counted_opens Reason.VariableCountExpected Reason.VariableCountTooBig ceiling at _ l (λ v e k m. clause_count_opens f v e k m)

  pub opening_opens : (f : Format) → Opens s (opening_of s f)
  unfolding opening_of after_p numbered
  opening_opens f =
      let a = lines s (blanks s 0) in
      let p = word s (bytes "p") a in
      let e = word s (format_word f) p in
      let h = then_spans (blanks_spans s 0) (lines_spans s (blanks s 0)) in
      let k = then_spans h (word_spans s (bytes "p") a) in
      let l = then_spans k (word_spans s (format_word f) p) in
      chosen (Opens s) (has_header f)
      (λ _. chosen (Opens s) (unmoved a p) (λ _. omega arith)
      (λ _. chosen (Opens s) (unmoved p e) (λ _. omega arith) (λ _. variable_count_opens f e (omega arith))))
      (λ _. omega arith)

-- So many clauses, and then the end or a refusal.
pub data Finishes : ℕ → List Answer → Type 0 where
  ends : Finishes 0 (ended ∷ [])
  stops : {r : Refusal} {so : List ℤ} → Finishes 0 (refused r so ∷ [])
  clause_then : {n extra : ℕ} {so : List ℤ} {l : List Answer} → Finishes n l → Finishes (suc n) (clause extra so ∷ l)

pub record Finished (most : ℕ) (l : List Answer) : Type 0 where
  pub clauses : ℕ
  pub few : clauses ≤ most
  pub so : Finishes clauses l

module _ (s : List ℕ) (f : Format) (limits : Limits) (room : ℕ) where
  -- Where the next answer stands.
  pub next_clause_onward : (count at : ℕ) → Onward s at (next_clause s f limits room count at)
  unfolding next_clause
  next_clause_onward count at =
      let e = lines s (blanks s at) in
      let h = then_spans (blanks_spans s at) (lines_spans s (blanks s at)) in
      chosen (Onward s at) (eqb limits.clauses 0) (λ _. back h (clause_at s limits room f MayEnd e) (clause_at_onward s limits room f MayEnd e))
      (λ _. chosen (Onward s at) (leb limits.clauses count)
      (λ _. back h (instead (absent s MayEnd e)) (absent_onward s MayEnd e))
      (λ _. back h (clause_at s limits room f NoClause e) (clause_at_onward s limits room f NoClause e)))

  left : Progress → ℕ
  left c = to_come s c.place

  turn_lowers : (c : Progress) → Lowers left c (turn s f limits room c)
  unfolding turn answer_at left
  turn_lowers c = go c.last
    where
      by : (a : Answer) (e : ℕ) → Placed s c.place e a → Lowers left c (turn_by (settled_by c.count e (final_of a)) a)
      by (clause extra so) e h = h.fewer
      by ended e h = tt
      by (refused r so) e h = tt

      go : (x : Option (Result Unit Refusal)) → let a = answer_by s f limits room c x in Lowers left c (turn_by (settled c a) a.answer)
      go None = let d = next_clause s f limits room c.count c.place in by d.answer d.place (next_clause_onward c.count c.place)
      go (Some (Ok u)) = tt
      go (Some (Err r)) = tt

  -- One answer, and then those that come after it.
  pub answers_step : (c : Progress) → answers_from s f limits room c ≡ and_on (turn s f limits room c) (answers_from s f limits room)
  unfolding answers_from left
  answers_step c = said_unrolled (turn s f limits room) left turn_lowers (length s + 2) c (omega arith)

  -- No more clauses than may come, and then one end or one refusal.
  pub answers_finish : (c : Progress) → Finished (to_come s c.place) (answers_from s f limits room c)
  unfolding answers_from turn left
  answers_finish c =
      said_has (turn s f limits room) left turn_lowers (λ x l. Finished (left x) l)
      (λ x. let d = answer_at s f limits room x in one (left x) (settled x d) d.answer)
      (length s + 2) c (omega arith)
    where
      one : (n : ℕ) (y : Progress) (a : Answer)
          → Gives (λ b z. (l : List Answer) → left z < n → Finished (left z) l → Finished n (b ∷ l)) (λ b. Finished n (b ∷ [])) (turn_by y a)
      one n y (clause extra so) = λ l h k. record { clauses = suc k.clauses; few = omega (arith, k.few); so = clause_then k.so }
      one n y ended = record { clauses = 0; few = omega arith; so = ends }
      one n y (refused r so) = record { clauses = 0; few = omega arith; so = stops }

-- No answer has more literals than there is room for.
pub answer_fits : (s : List ℕ) (f : Format) (limits : Limits) (room : ℕ) (c : Progress) → Fits room (answer_at s f limits room c)
unfolding answer_at next_clause
answer_fits s f limits room c = go c.last
  where
    go : (x : Option (Result Unit Refusal)) → Fits room (answer_by s f limits room c x)
    go None =
        let e = lines s (blanks s c.place) in
        chosen (Fits room) (eqb limits.clauses 0) (λ _. clause_at_fits s limits room f MayEnd e)
        (λ _. chosen (Fits room) (leb limits.clauses c.count) (λ _. instead_fits room (absent s MayEnd e)) (λ _. clause_at_fits s limits room f NoClause e))
    go (Some (Ok u)) = tt
    go (Some (Err r)) = omega arith

-- An answer that is the end or a refusal is answered again after it, the refusal with no literals, and reading stays where it is.
pub record Repeats (s : List ℕ) (f : Format) (limits : Limits) (room : ℕ) (c : Progress) (again : Answered) : Type 0 where
  pub answer : answer_at s f limits room c ≡ again
  pub stays : settled c again ≡ c

abbrev pub RepeatsAfter : List ℕ → Format → Limits → ℕ → Progress → ℕ → Answer → Type 0
RepeatsAfter s f limits room c at (clause extra so) = Unit {0}
RepeatsAfter s f limits room c at ended = Repeats s f limits room (settled c (says ended at)) (says ended at)
RepeatsAfter s f limits room c at (refused r so) = Repeats s f limits room (settled c (says (refused r so) at)) (says (refused r []) at)

pub repeated : (s : List ℕ) (f : Format) (limits : Limits) (room : ℕ) (c : Progress) (at : ℕ) (a : Answer) → RepeatsAfter s f limits room c at a
unfolding answer_at
repeated s f limits room c at (clause extra so) = tt
repeated s f limits room c at ended = record { answer = refl; stays = refl }
repeated s f limits room c at (refused r so) = record { answer = refl; stays = refl }

-- A whole text: a refused header has no answers; else they finish, with at most (n + 1) / 2 clauses in n bytes.
abbrev pub TextEnds : ℕ → Result Opening Refusal → List Answer → Type 0
TextEnds n (Ok (opening.Header h at)) l = Finished ((n + 1) / 2) l
TextEnds n (Ok (opening.NoHeader at)) l = Finished ((n + 1) / 2) l
TextEnds n (Err r) l = l ≡ []

ends_by : (f : Format) (rigor : Rigor) (room : ℕ) (s : List ℕ) → let t = text_by f rigor room s (opening_of s f) in TextEnds (length s) t.opened t.answers
ends_by f rigor room s = go (opening_of s f)
  where
    from : (limits : Limits) (at : ℕ) → Finished ((length s + 1) / 2) (answers_from s f limits room (begin at))
    from limits at = let d = answers_finish s f limits room (begin at) in record { clauses = d.clauses; few = omega (arith, d.few); so = d.so }

    go : (o : Result Opening Refusal) → TextEnds (length s) (text_by f rigor room s o).opened (text_by f rigor room s o).answers
    go (Ok (opening.Header h at)) = from (limits_of f rigor h) at
    go (Ok (opening.NoHeader at)) = from unlimited at
    go (Err r) = refl

pub text_ends : (f : Format) (m : Mode) (room : ℕ) (s : List ℕ) → TextEnds (length s) (text f m room s).opened (text f m room s).answers
unfolding text
text_ends f m room s = rw (lined-length m.ends s) at (ends_by f m.rigor room (lined m.ends s))

-- A refusal's place is within the text.
abbrev pub AnswerWithin : ℕ → Answer → Type 0
AnswerWithin n (clause extra so) = Unit {0}
AnswerWithin n ended = Unit {0}
AnswerWithin n (refused r so) = r.place ≤ n

abbrev pub AllWithin : ℕ → List Answer → Type 0
AllWithin n = Each (AnswerWithin n)

abbrev pub OpeningWithin : ℕ → Result Opening Refusal → Type 0
OpeningWithin n (Ok (opening.Header h at)) = Unit {0}
OpeningWithin n (Ok (opening.NoHeader at)) = Unit {0}
OpeningWithin n (Err r) = r.place ≤ n

-- What holds at a place after so many clauses, if it holds past the next clause, holds at every place.
pub by_next : (s : List ℕ) (P : ℕ → ℕ → Type 0) → ((at count : ℕ) → ((e : ℕ) → to_come s e < to_come s at → P e (one_more count)) → P at count) → (at count : ℕ) → P at count
by_next s P step at count = go (suc (to_come s at)) at count (omega arith)
  where
    go : (n at count : ℕ) → to_come s at < n → P at count
    go zero at count h = absurd (omega arith)
    go (suc n) at count h = step at count (λ e k. go n e (one_more count) (omega arith))

module _ (s : List ℕ) (f : Format) (limits : Limits) (room : ℕ) where
  -- The answers from a place on, after so many clauses.
  abbrev pub answers_at : ℕ → ℕ → List Answer
  answers_at at count = answers_from s f limits room (progress at count None)

  -- One answer with its place, after so many clauses, and those that come after it.
  abbrev pub answer_then : ℕ → ℕ → Answer → List Answer
  answer_then count e a = and_on (turn_by (settled_by count e (final_of a)) a) (answers_from s f limits room)

  pub answers_next : (at count : ℕ) → let d = next_clause s f limits room count at in answers_at at count ≡ answer_then count d.place d.answer
  unfolding turn answer_at
  answers_next at count = answers_step s f limits room (progress at count None)

  answers_within : (at count : ℕ) → at ≤ length s → AllWithin (length s) (answers_at at count)
  answers_within =
      by_next s (λ at count. at ≤ length s → AllWithin (length s) (answers_at at count))
      (λ at count next h.
      let d = next_clause s f limits room count at in
      subst⁻¹ (AllWithin (length s)) (answers_next at count) (go at count d.place d.answer h (next_clause_onward s f limits room count at) next))
    where
      go : (at count e : ℕ) (a : Answer) → at ≤ length s → Placed s at e a → ((x : ℕ) → to_come s x < to_come s at → x ≤ length s → AllWithin (length s) (answers_at x (one_more count)))
          → AllWithin (length s) (answer_then count e a)
      go at count e (clause extra so) h p next = (tt, next e p.fewer p.within)
      go at count e ended h p next = (tt, tt)
      go at count e (refused r so) h p next = (omega (arith, p.within), tt)

within_by : (f : Format) (rigor : Rigor) (room : ℕ) (s : List ℕ) → let t = text_by f rigor room s (opening_of s f) in OpeningWithin (length s) t.opened × AllWithin (length s) t.answers
within_by f rigor room s = go (opening_of s f) (opening_opens s f)
  where
    from_start : (limits : Limits) (at : ℕ) → at ≤ length s → AllWithin (length s) (answers_from s f limits room (begin at))
    from_start limits at h = answers_within s f limits room at 0 h

    go : (o : Result Opening Refusal) → Opens s o → let t = text_by f rigor room s o in OpeningWithin (length s) t.opened × AllWithin (length s) t.answers
    go (Ok (opening.Header h at)) k = (tt, from_start (limits_of f rigor h) at k.0)
    go (Ok (opening.NoHeader at)) k = (tt, from_start unlimited at k)
    go (Err r) k = (k, tt)

pub text_within : (f : Format) (m : Mode) (room : ℕ) (s : List ℕ) → let t = text f m room s in OpeningWithin (length s) t.opened × AllWithin (length s) t.answers
unfolding text
text_within f m room s = rw (lined-length m.ends s) at (within_by f m.rigor room (lined m.ends s))
