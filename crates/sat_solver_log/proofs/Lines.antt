-- The answers for a line are one; the kinds of line of a log, a law for each; and the literals that each leaves. Assumes nothing.
use Prim.Native.Nat.{ℕ, ◌≤◌}
use mathlib.Core.Bool.{Bool, true, false, cond, ◌||◌}
use mathlib.Core.List.{List}
use mathlib.Core.Path.{◌≡◌, refl, ap, sym, ◌∙◌, subst⁻¹}
use native.Mathlib.Omega.{arith}
use lib.ListN.{length, take}
use lib.Seq.{length-take-le}
use lib.IntN.{ℤ}
use Rattle.std.specs.Prelude.{Option, None, Some, Result, Ok, Err}
use Rattle.std.specs.Result.{MatchResult, IsOkAnd}
use Rattle.dimacs.specs.Loop.{Step, again, answer}
use Rattle.dimacs.specs.Bytes.{bytes}
use Rattle.dimacs.specs.Names.{ceiling}
use Rattle.dimacs.specs.Lined.{lined}
use Rattle.dimacs.specs.Tokens.{unmoved, at_end, blanks, fixed, strict_comment}
use Rattle.dimacs.specs.Rows as row
use Rattle.dimacs.specs.Logs as def
use Rattle.dimacs.specs.declared.Rigor.{Rigor}
use Rattle.dimacs.specs.declared.Rigor.TheVariants.{Strict, Lenient}
use Rattle.dimacs.specs.declared.Ends.{Ends}
use Rattle.dimacs.specs.declared.Assignment.{Assignment}
use Rattle.dimacs.specs.declared.Assignment.TheVariants.{Unbegun, Begun, Closed}
use Rattle.dimacs.specs.declared.Verdict.{Verdict}
use Rattle.dimacs.proofs.Tests.{chosen}
use Rattle.dimacs.proofs.LinedTokens.{end_lined, fixed_lined}
use Rattle.dimacs.proofs.Rows.{Grown, row_grows}
use Rattle.dimacs.proofs.Buffer.{kept_unchanged, kept_in_place}
use Rattle.log_line.specs.Answers.{log_of, log_leaves}
use Rattle.rows.specs.Answers.{ByCount}
use Rattle.rows.specs.declared.Stopped.{Stopped}
use Rattle.log_line.specs.Lines.{Line, leads, log_state_of, log_line_of, line_leaves, ReadsLine}
use Rattle.log_line.specs.declared.Reading.{Reading}
use Rattle.log_line.specs.declared.Accepted.{Accepted}
use Rattle.log_line.proofs.Rows.{one_line, line_read_leaves}
use Rattle.sat_solver_log.specs.Answers.{line_leads}
use Rattle.sat_solver_log.specs.Starts.{found, value_start, solution_start}
use Rattle.sat_solver_log.specs.declared.Line as own
use Rattle.sat_solver_log.specs.declared.Line.TheVariants.{Again, End}

-- What the code answers for a line is told by what it leads to.
line_led : Line → Result own.Line Stopped
line_led (again x) = Ok (Again x)
line_led (answer (Ok a)) = Ok (End a)
line_led (answer (Err e)) = Err e

line_led_leads : (r : Result own.Line Stopped) → line_led (line_leads r) ≡ r
unfolding line_led
line_led_leads (Ok (Again x)) = refl
line_led_leads (Ok (End a)) = refl
line_led_leads (Err e) = refl

pub one_leading : {r₁ r₂ : Result own.Line Stopped} → line_leads r₁ ≡ line_leads r₂ → r₁ ≡ r₂
one_leading {r₁} {r₂} e = sym (line_led_leads r₁) ∙ ap line_led e ∙ line_led_leads r₂

-- So two permitted answers of the code are equal, and so are the buffers after them.
pub one_led_line : {d : Step def.Log def.LogAnswer} {old n₁ n₂ : List ℤ} {r₁ r₂ : Result own.Line Stopped}
    → ReadsLine d old n₁ (line_leads r₁) → ReadsLine d old n₂ (line_leads r₂) → (r₁ ≡ r₂) × (n₁ ≡ n₂)
one_led_line p q = let h = one_line p q in (one_leading h.0, h.1)

-- A line that leads to the next, and one that may be the log's end.
pub leads_again : (a : Result Reading Stopped) (r : Result own.Line Stopped) → MatchResult a (λ x. IsOkAnd r (λ y. y ≡ Again x)) (λ e. r ≡ Err e) → line_leads r ≡ leads a
leads_again (Ok x) (Ok y) h = rw h refl
leads_again (Ok x) (Err e) h = absurd h
leads_again (Err e) r h = rw h refl

pub leads_end : (a : Result Accepted Stopped) (r : Result own.Line Stopped) → MatchResult a (λ x. IsOkAnd r (λ y. y ≡ End x)) (λ e. r ≡ Err e) → line_leads r ≡ answer a
leads_end (Ok x) (Ok y) h = rw h refl
leads_end (Ok x) (Err e) h = absurd h
leads_end (Err e) r h = rw h refl

-- Only value lines add literals.
module _ (s : List ℕ) where
  solution_is_leaves : (v : Verdict) (w : List ℕ) (at : ℕ) (l : def.Log) (t : Step def.Log def.LogAnswer) → line_leaves t ≡ l.so
      → line_leaves (def.solution_is s v w at l t) ≡ l.so
  solution_is_leaves v w at l t h =
      chosen (λ d. line_leaves d ≡ l.so) (unmoved at (fixed s w at)) (λ _. h) (λ _. line_read_leaves s (fixed s w at) (Some v) l.assignment l.so)

  solution_line_leaves : (at : ℕ) (l : def.Log) → line_leaves (def.solution_line s at l) ≡ l.so
  unfolding def.solution_line
  solution_line_leaves at l =
      solution_is_leaves _ _ at l _
      (solution_is_leaves _ _ at l _
      (solution_is_leaves _ _ at l _
      refl))

  log_end_leaves : (at : ℕ) (verdict : Option Verdict) (so : List ℤ) (a : Assignment) → log_leaves (def.log_end s at verdict so a) ≡ so
  log_end_leaves at verdict so Unbegun = refl
  log_end_leaves at verdict so Begun = refl
  log_end_leaves at verdict so Closed = refl

  other_line_leaves : (rigor : Rigor) (l : def.Log) → line_leaves (def.other_line s rigor l) ≡ l.so
  other_line_leaves Strict l = refl
  other_line_leaves Lenient l = refl

-- The line that is read next.
abbrev pub line_at : List ℕ → Rigor → List ℤ → Reading → Step def.Log def.LogAnswer
line_at s rigor lits x = def.log_line s rigor (length lits) (log_state_of x (take x.count lits))

-- A line that adds none leaves the buffer.
line_adds_none : {d e : Step def.Log def.LogAnswer} {old : List ℤ} {count : ℕ} {r : Line} → count ≤ length old → d ≡ e → line_leaves e ≡ take count old → r ≡ log_line_of e → ReadsLine d old old r
line_adds_none h k l is = record { line = is ∙ ap log_line_of (sym k); buffer = rw (k, l) (kept_in_place (kept_unchanged h)) }

-- What is looked for only if a test fails.
module _ (t : Bool) (v : Option ℕ) (w at : ℕ) (is : v ≡ cond t None (found at w)) where
  starts_not : v ≡ None → t || unmoved at w ≡ true
  starts_not h = go t (unmoved at w) (sym is ∙ h)
    where
      go : (t b : Bool) → cond t None (cond b None (Some w)) ≡ None → t || b ≡ true
      go true b e = refl
      go false true e = refl
      go false false e = absurd (let z : ◌≡◌ {A = ℕ} 0 1 = cc in omega arith)

  starts_so : {n : ℕ} → v ≡ Some n → (t || unmoved at w ≡ false) × (n ≡ w)
  starts_so {n} h = go t (unmoved at w) (sym is ∙ h)
    where
      go : (t b : Bool) → cond t None (cond b None (Some w)) ≡ Some n → (t || b ≡ false) × (n ≡ w)
      go true b e = absurd (let z : ◌≡◌ {A = ℕ} 0 1 = cc in omega arith)
      go false true e = absurd (let z : ◌≡◌ {A = ℕ} 0 1 = cc in omega arith)
      go false false e = (refl, cc)

-- By the places that the calls for the first bytes gave, what the call for the kind of line gives.
module _ (rule : Ends) (s : List ℕ) (rigor : Rigor) (x : Reading) (old : List ℤ) (fits : x.count ≤ length old) where
  -- The log as it is read.
  abbrev read : List ℕ
  read = lined rule s

  many : length (take x.count old) ≡ x.count
  many = length-take-le x.count old fits

  module _ (c : Option ℕ) (c-is : c ≡ found x.place (strict_comment read x.place)) where
    comment_line_is : {n : ℕ} → c ≡ Some n → line_at read rigor old x ≡ again (def.log_at n x.verdict x.assignment (take x.count old))
    unfolding def.log_line
    comment_line_is h = let j = starts_so false c (strict_comment read x.place) x.place c-is h in rw (j.0, j.1) refl

    pub comment_line : {n : ℕ} → c ≡ Some n → ReadsLine (line_at read rigor old x) old old (again (record { place = n; verdict = x.verdict; assignment = x.assignment; count = x.count }))
    comment_line h = line_adds_none fits (comment_line_is h) refl (rw many)

    module _ (c-no : c ≡ None) (v : Option ℕ) (v-is : v ≡ value_start s x.assignment x.place) where
      no_comment : unmoved x.place (strict_comment read x.place) ≡ true
      no_comment = starts_not false c (strict_comment read x.place) x.place c-is c-no

      values_at : v ≡ cond (def.is_closed x.assignment) None (found x.place (fixed read (bytes "v ") x.place))
      values_at = v-is ∙ ap (λ e. cond (def.is_closed x.assignment) None (found x.place e)) (sym (fixed_lined rule s (bytes "v ") x.place refl))

      value_line_is : {n : ℕ} → v ≡ Some n → line_at read rigor old x ≡ def.value_line read (length old) n (log_state_of x (take x.count old))
      unfolding def.log_line
      value_line_is h =
          let j = starts_so (def.is_closed x.assignment) v (fixed read (bytes "v ") x.place) x.place values_at h in
          rw (no_comment, j.0, j.1) refl

      pub value_line_lem : {n : ℕ} → v ≡ Some n → {new : List ℤ} {r : Line} → ReadsLine (def.value_line read (length old) n (log_state_of x (take x.count old))) old new r
          → ReadsLine (line_at read rigor old x) old new r
      value_line_lem h g = rw (value_line_is h) g

      module _ (v-no : v ≡ None) (e : Option ℕ) (e-is : e ≡ solution_start s x.verdict x.place) where
        word_at : e ≡ cond (def.is_said x.verdict) None (found x.place (fixed read (bytes "s ") x.place))
        word_at = e-is ∙ ap (λ i. cond (def.is_said x.verdict) None (found x.place i)) (sym (fixed_lined rule s (bytes "s ") x.place refl))

        no_values : def.is_closed x.assignment || unmoved x.place (fixed read (bytes "v ") x.place) ≡ true
        no_values = starts_not (def.is_closed x.assignment) v (fixed read (bytes "v ") x.place) x.place values_at v-no

        solution_line_is : {n : ℕ} → e ≡ Some n → line_at read rigor old x ≡ def.solution_line read n (log_state_of x (take x.count old))
        unfolding def.log_line
        solution_line_is h =
            let i = starts_so (def.is_said x.verdict) e (fixed read (bytes "s ") x.place) x.place word_at h in
            rw (no_comment, no_values, i.0, i.1) refl

        pub solution_line_lem : {n : ℕ} → e ≡ Some n → {r : Line} → ByCount x.count (λ so. log_line_of (def.solution_line read n (log_state_of x so))) r
            → ReadsLine (line_at read rigor old x) old old r
        solution_line_lem {n} h is = line_adds_none fits (solution_line_is h) (solution_line_leaves read n (log_state_of x (take x.count old))) (is (take x.count old) many)

        module _ (e-no : e ≡ None) where
          no_solution : def.is_said x.verdict || unmoved x.place (fixed read (bytes "s ") x.place) ≡ true
          no_solution = starts_not (def.is_said x.verdict) e (fixed read (bytes "s ") x.place) x.place word_at e-no

          last_line_is : at_end s x.place ≡ true → line_at read rigor old x ≡ answer (def.log_end read x.place x.verdict (take x.count old) x.assignment)
          unfolding def.log_line
          last_line_is t = rw (no_comment, no_values, no_solution, end_lined rule s x.place, t)

          pub last_line : at_end s x.place ≡ true → {a : Result Accepted Stopped}
              → ByCount x.count (λ so. log_of (def.log_end read x.place x.verdict so x.assignment)) a → ReadsLine (line_at read rigor old x) old old (answer a)
          last_line t is = line_adds_none fits (last_line_is t) (log_end_leaves read x.place x.verdict (take x.count old) x.assignment) (ap answer (is (take x.count old) many))

          other_line_is : at_end s x.place ≡ false → line_at read rigor old x ≡ def.other_line read rigor (log_state_of x (take x.count old))
          unfolding def.log_line
          other_line_is t = rw (no_comment, no_values, no_solution, end_lined rule s x.place, t)

          pub other_line_lem : at_end s x.place ≡ false → {r : Line} → ByCount x.count (λ so. log_line_of (def.other_line read rigor (log_state_of x so))) r
              → ReadsLine (line_at read rigor old x) old old r
          other_line_lem t is = line_adds_none fits (other_line_is t) (other_line_leaves read rigor (log_state_of x (take x.count old))) (is (take x.count old) many)

module _ (s : List ℕ) (rigor : Rigor) (room : ℕ) (l : def.Log) where
  Grows : Step def.Log def.LogAnswer → Type 0
  Grows t = Grown room l.so (line_leaves t)

  same_grows : (t : Step def.Log def.LogAnswer) → line_leaves t ≡ l.so → Grows t
  unfolding Grows
  same_grows t h = rw h (omega arith)

  value_line_grows : (at : ℕ) → Grows (def.value_line s room at l)
  unfolding def.value_line Grows
  value_line_grows at =
      let r = row.reads (blanks s at) l.so in
      go (row.row s ceiling room r) (row_grows s ceiling room r)
    where
      go : (d : row.Row) → Grown room l.so (row.read_by d) → Grown room l.so (line_leaves (def.values_read s l.verdict d))
      go (row.ends n so) g = subst⁻¹ (Grown room l.so) (line_read_leaves s n l.verdict Begun so) g
      go (row.closes n so) g = subst⁻¹ (Grown room l.so) (line_read_leaves s n l.verdict Closed so) g
      go (row.stops r so) g = g

  -- A line adds literals or none, and only while there is room.
  pub log_line_grows : Grown room l.so (line_leaves (def.log_line s rigor room l))
  unfolding def.log_line Grows
  log_line_grows =
      let at = l.at in
      let c = strict_comment s at in
      let v = fixed s (bytes "v ") at in
      let e = fixed s (bytes "s ") at in
      chosen Grows (unmoved at c)
      (λ _. chosen Grows (def.is_closed l.assignment || unmoved at v)
      (λ _. chosen Grows (def.is_said l.verdict || unmoved at e)
      (λ _. chosen Grows (at_end s at)
      (λ _. same_grows (answer (def.log_end s at l.verdict l.so l.assignment)) (log_end_leaves s at l.verdict l.so l.assignment))
      (λ _. same_grows (def.other_line s rigor l) (other_line_leaves s rigor l)))
      (λ _. same_grows (def.solution_line s e l) (solution_line_leaves s e l)))
      (λ _. value_line_grows v))
      (λ _. same_grows (again (def.log_at c l.verdict l.assignment l.so)) refl)
