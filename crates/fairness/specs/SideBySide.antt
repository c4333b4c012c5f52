-- What two jobs hear that are put for the same bytes, one to be read strictly and one leniently.
use Rattle.std.specs.Prelude.{ℕ, Bool, true, false, cond, Some, Ok, Err, List, [], ◌∷◌, ◌≡◌}
use Rattle.dimacs.specs.Names.{in_mode, kind_of}
use Rattle.dimacs.specs.Clauses.{clause, ended, refused}
use Rattle.dimacs.specs.declared.Ends.{Ends}
use Rattle.dimacs.specs.declared.Format.{Format}
use Rattle.dimacs.specs.declared.Kind.TheVariants.{Clauses}
use Rattle.dimacs.specs.declared.Mode.{Mode}
use Rattle.dimacs.specs.declared.Rigor.TheVariants.{Strict, Lenient}
use Rattle.rota.specs.Rota.{ticketed, is_withdrawn, heard, AtOwnTurns}
use Rattle.service.specs.Serving.{Reply, opening, answering}
use Rattle.tray.specs.Calls.{Put}
use Rattle.fairness.specs.Promises.{Calls, then_put, since, Holds}

-- A job for some bytes: put after any calls, given a ticket and not withdrawn in the calls that follow, its bytes in the area lent to each of its own turns.
pub record JobFor (f : Format) (m : Mode) (bytes : List ℕ) : Type 0 where
  pub before : Calls
  pub put : Put
  pub after : Calls
  pub ticket : ℕ
  pub kind : kind_of put.format put.mode ≡ Some (Clauses f m)
  pub given : (then_put before put).answer ≡ ticketed ticket
  pub stays : is_withdrawn ticket (since before put after) ≡ false
  pub held : AtOwnTurns (Holds put bytes) ticket after (since before put after)

-- What its ticket has heard, each with whether it is the verdict.
abbrev pub has_heard : {f : Format} {m : Mode} {bytes : List ℕ} → JobFor f m bytes → List (Reply × Bool)
has_heard j = heard j.ticket (since j.before j.put j.after)

-- A refusal was said, of a header or instead of a clause.
abbrev pub is_refusal : Reply → Bool
is_refusal (opening (Ok o)) = false
is_refusal (opening (Err r)) = true
is_refusal (answering (clause extra so)) = false
is_refusal (answering ended) = false
is_refusal (answering (refused r so)) = true

-- What was heard before a refusal.
abbrev pub unrefused : List (Reply × Bool) → List (Reply × Bool)
unrefused [] = []
unrefused (x ∷ rest) = cond (is_refusal x.0) [] (x ∷ unrefused rest)

-- Two lists are the same as far as both go.
abbrev pub AlikeSoFar : {A : Type 0} → List A → List A → Type 0
AlikeSoFar [] ys = Unit {0}
AlikeSoFar (x ∷ xs) [] = Unit {0}
AlikeSoFar (x ∷ xs) (y ∷ ys) = (x ≡ y) × AlikeSoFar xs ys

-- Up to the strict job's refusal both hear the same, as far as each has heard, in one tray or in two, whatever else waits there.
abbrev pub SideBySide : Type 0
SideBySide =
    (f : Format) (rule : Ends) (bytes : List ℕ) (strict : JobFor f (in_mode Strict rule) bytes) (lenient : JobFor f (in_mode Lenient rule) bytes)
    → AlikeSoFar (unrefused (has_heard strict)) (has_heard lenient)
