-- All answers to come, under limits and under ones that allow more: the same up to the end, or up to a refusal of the narrow ones. Assumes nothing.
use Prim.Native.Nat.{ℕ, ◌≤◌, ◌<◌}
use mathlib.Core.List.{List, [], ◌∷◌}
use mathlib.Core.Path.{subst⁻¹}
use native.Mathlib.Omega.{arith}
use lib.IntN.{ℤ}
use Rattle.dimacs.specs.Clauses.{Answer, clause, ended, refused, Answered}
use Rattle.dimacs.specs.Texts.{one_more, next_clause}
use Rattle.dimacs.specs.declared.Format.{Format}
use Rattle.dimacs.specs.declared.Limits.{Limits}
use Rattle.dimacs.specs.declared.Refusal.{Refusal}
use Rattle.dimacs.proofs.Allows.{Allows}
use Rattle.dimacs.proofs.Clauses.{to_come, Placed}
use Rattle.dimacs.proofs.Texts.{next_clause_onward, by_next, answers_at, answer_then, answers_next}
use Rattle.dimacs.proofs.WidenedClauses.{AnswerPast, AnswerWidened, next_clause_widened}

-- None of the answers is refused before a place.
abbrev pub AllPast : ℕ → List Answer → Type 0
AllPast at [] = Unit {0}
AllPast at (clause extra so ∷ l) = AllPast at l
AllPast at (ended ∷ l) = Unit {0}
AllPast at (refused r so ∷ l) = at ≤ r.place

-- The second answers follow the first: the same clauses, and then the same end; or the first are refused, and the second go on, refused no sooner if at all.
pub data Follow : List Answer → List Answer → Type 0 where
  none : Follow [] []
  ends : Follow (ended ∷ []) (ended ∷ [])
  stops : {r : Refusal} {so : List ℤ} {a : Answer} {l : List Answer} → AllPast r.place (a ∷ l) → Follow (refused r so ∷ []) (a ∷ l)
  clause_then : {extra : ℕ} {so : List ℤ} {l m : List Answer} → Follow l m → Follow (clause extra so ∷ l) (clause extra so ∷ m)

module _ (s : List ℕ) (f : Format) (limits : Limits) (room : ℕ) where
  answers_past : (low at count : ℕ) → low ≤ at → AllPast low (answers_at s f limits room at count)
  answers_past low =
      by_next s (λ at count. low ≤ at → AllPast low (answers_at s f limits room at count))
      (λ at count next h.
      let d = next_clause s f limits room count at in
      subst⁻¹ (AllPast low) (answers_next s f limits room at count) (go at count d.place d.answer h (next_clause_onward s f limits room count at) next))
    where
      go : (at count e : ℕ) (a : Answer) → low ≤ at → Placed s at e a → ((x : ℕ) → to_come s x < to_come s at → low ≤ x → AllPast low (answers_at s f limits room x (one_more count)))
          → AllPast low (answer_then s f limits room count e a)
      go at count e (clause extra so) h p next = next e p.fewer (omega (arith, p.on))
      go at count e ended h p next = tt
      go at count e (refused r so) h p next = omega (arith, p.on)

  -- What is read on from a refusal, and all that comes after it, is refused no sooner.
  past_then : (r : Refusal) (so : List ℤ) (count e : ℕ) (a : Answer) → AnswerPast r.place e a → Follow (refused r so ∷ []) (answer_then s f limits room count e a)
  past_then r so count e (clause extra more) h = stops (answers_past r.place e (one_more count) h)
  past_then r so count e ended h = stops tt
  past_then r so count e (refused q more) h = stops h

module _ (s : List ℕ) (f : Format) (room : ℕ) {narrow wide : Limits} (a : Allows narrow wide) where
  -- From a place on, after so many clauses, the answers under the wide limits follow those under the narrow ones.
  abbrev FollowAt : ℕ → ℕ → Type 0
  FollowAt at count = Follow (answers_at s f narrow room at count) (answers_at s f wide room at count)

  follow_next : (at count e : ℕ) (x : Answer) (y : Answered) → AnswerWidened e x y → Placed s at e x → ((n : ℕ) → to_come s n < to_come s at → FollowAt n (one_more count))
      → Follow (answer_then s f narrow room count e x) (answer_then s f wide room count y.place y.answer)
  follow_next at count e (clause extra so) y w p next = rw w (clause_then (next e p.fewer))
  follow_next at count e ended y w p next = rw w ends
  follow_next at count e (refused r so) y w p next = past_then s f wide room r so count y.place y.answer w

  pub answers_follow : (at count : ℕ) → FollowAt at count
  answers_follow =
      by_next s FollowAt
      (λ at count next.
      let d = next_clause s f narrow room count at in
      rw (answers_next s f narrow room at count, answers_next s f wide room at count)
      (follow_next at count d.place d.answer (next_clause s f wide room count at) (next_clause_widened s a room f count at) (next_clause_onward s f narrow room count at) next))
