-- How a clause ends, by what was read of its literals; and answers that leave the buffer as it is. Assumes nothing.
use Prim.Native.Nat.{ℕ}
use mathlib.Core.List.{List, []}
use mathlib.Core.Path.{◌≡◌, refl, sym, ◌∙◌, subst}
use lib.ListN.{length}
use lib.IntN.{ℤ}
use Rattle.std.specs.Prelude.{Option, Some, None, Result, Ok, Err}
use Rattle.dimacs.specs.Names.{refusal}
use Rattle.dimacs.specs.declared.Reason.{Reason}
use Rattle.dimacs.specs.declared.Refusal.{Refusal}
use Rattle.dimacs.specs.Tokens.{end_of_line, line_ends}
use Rattle.dimacs.specs.Buffers.{laid}
use Rattle.dimacs.specs.Clauses as def
use Rattle.dimacs.specs.declared.Absence.{Absence}
use Rattle.dimacs.specs.declared.Format.{Format}
use Rattle.dimacs.specs.declared.Limits.{Limits}
use Rattle.rows.specs.Answers.{ByCount}
use Rattle.clause.specs.Answers.{literals_of, read_of, ReadsLiterals, next_of, k_in, answered_of, left_by, Answers}
use Rattle.rows.specs.declared.Stopped.{Stopped}
use Rattle.clause.specs.declared.Closed.{Closed}
use Rattle.clause.specs.declared.Answered.{Answered}

-- Two permitted answers are equal, and so are the buffers after them.
pub one_answer : {d : def.Answered} {old n₁ n₂ : List ℤ} {r₁ r₂ : Answered} → Answers d old n₁ r₁ → Answers d old n₂ r₂ → (r₁ ≡ r₂) × (n₁ ≡ n₂)
one_answer p q = (p.answer ∙ sym q.answer, p.buffer ∙ sym q.buffer)

-- k is how many literals an answer leaves in the buffer.
pub k_left : (a : def.Answer) → k_in (next_of a) ≡ length (left_by a)
k_left (def.clause extra so) = refl
k_left def.ended = refl
k_left (def.refused r so) = refl

-- What is answered where no clause stands has no literals.
instead_unread : (i : Result ℕ Refusal) → left_by (def.instead i).answer ≡ []
instead_unread (Ok at) = refl
instead_unread (Err r) = refl

-- So it leaves the buffer as it is.
pub instead_answers : (i : Result ℕ Refusal) (old : List ℤ) {r : Answered} → r ≡ answered_of (def.instead i) → Answers (def.instead i) old old r
instead_answers i old e = record { answer = e; buffer = rw (instead_unread i) }

-- Where a clause does not begin, that is the answer.
pub instead_at : (s : List ℕ) (limits : Limits) (f : Format) (absence : Absence) (at : ℕ) (old : List ℤ) {i : Result ℕ Refusal} {r : Answered}
    → def.without i ≡ def.start_at s f limits.groups absence at → r ≡ answered_of (def.instead i)
    → Answers (def.clause_at s limits (length old) f absence at) old old r
unfolding def.clause_at
instead_at s limits f absence at old {i} p e = rw (sym p) (instead_answers i old e)

-- Whatever closes their line, the literals stay.
closing_read : (s : List ℕ) (extra at : ℕ) (so : List ℤ) → left_by (def.closing s extra at so).answer ≡ so
unfolding def.closing
closing_read s extra at so = go (end_of_line s at)
  where
    go : (x : Option ℕ) → left_by (line_ends x (def.says (def.clause extra so)) (def.says (def.refused (refusal s Reason.LineEndExpected at) so) at)).answer ≡ so
    go None = refl
    go (Some e) = refl

module _ (s : List ℕ) (limit extra at : ℕ) (absence : Absence) (old new : List ℤ) where
  -- How a clause ends, by its literals.
  abbrev Ends : Answered → Type 0
  Ends = Answers (def.finish s extra at absence (def.literals s limit (length old) at)) old new

  abbrev Finishes : Result (Option Closed) Stopped → Type 0
  Finishes (Ok None) = (r : Answered) → r ≡ answered_of (def.instead (def.absent s absence at)) → Ends r
  Finishes (Ok (Some c)) = (r : Answered) → ByCount c.count (λ so. answered_of (def.closing s extra c.next so)) r → Ends r
  Finishes (Err x) = Ends (record { answer = Err x; place = x.refusal.place })

  pub literals_finish : {l m : Result (Option Closed) Stopped} → ReadsLiterals s limit at old new l → l ≡ m → Finishes m
  literals_finish h e = subst Finishes (sym h.answer ∙ e) (go (def.literals s limit (length old) at) refl h.buffer)
    where
      go : (x : def.Literals) → def.literals s limit (length old) at ≡ x → new ≡ laid (read_of x) old → Finishes (literals_of x)
      go def.nothing e b = λ r is. rw e (record { answer = is; buffer = rw (instead_unread (def.absent s absence at)) b })
      go (def.closed so p) e b = λ r is. rw e (record { answer = is so refl; buffer = rw (closing_read s extra p so) b })
      go (def.stopped x so) e b = rw e (record { answer = refl; buffer = b })
