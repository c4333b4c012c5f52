-- The place that a host call answers is within the text, so that a caller may cut the text there. Assumes nothing.
use Prim.Native.Nat.{ℕ, ◌≤◌}
use mathlib.Core.List.{List, [], ◌∷◌}
use native.Mathlib.Omega.{arith}
use lib.ListN.{length}
use Rattle.std.specs.Prelude.{Option, None, Some, Result, Ok, Err}
use Rattle.dimacs.specs.Names.{own_room, kind_of}
use Rattle.dimacs.specs.Clauses as def
use Rattle.dimacs.specs.Texts.{text}
use Rattle.dimacs.specs.Logs.{LogAnswer, accepted, refused_log, log}
use Rattle.dimacs.specs.declared.Kind.{Kind}
use Rattle.dimacs.specs.declared.Kind.TheVariants.{Clauses, Log}
use Rattle.dimacs.specs.declared.Refusal.{Refusal}
use Rattle.dimacs.specs.declared.Opening.{Opening}
use Rattle.dimacs.specs.declared.Opening.TheVariants as opening
use Rattle.dimacs.proofs.Texts.{OpeningWithin, AllWithin, text_within}
use Rattle.dimacs.proofs.Logs.{LogSpans, log_spans}
use Rattle.formula.specs.Whole.{outcome_by, outcome_of_text, outcome_in}
use Rattle.latchtwig.specs.Outcomes.{outcome_by_log, outcome_of_log, outcome_kind, outcome, place_told}

-- What a text comes to, comes to a place within it.
abbrev ToldWithin : List ℕ → Result Unit Refusal → Type 0
ToldWithin s o = place_told s o ≤ length s

answers_within : (s : List ℕ) (l : List def.Answer) → AllWithin (length s) l → ToldWithin s (outcome_by l)
unfolding outcome_by
answers_within s [] k = omega arith
answers_within s (def.clause extra so ∷ l) k = answers_within s l k.1
answers_within s (def.ended ∷ l) k = omega arith
answers_within s (def.refused r so ∷ l) k = k.0

by_opening : (s : List ℕ) (o : Result Opening Refusal) (l : List def.Answer) → OpeningWithin (length s) o × AllWithin (length s) l → ToldWithin s (outcome_of_text o l)
by_opening s (Ok (opening.Header h at)) l k = answers_within s l k.1
by_opening s (Ok (opening.NoHeader at)) l k = answers_within s l k.1
by_opening s (Err r) l k = k.0

by_log : (s : List ℕ) (d : LogAnswer) → LogSpans s 0 d → ToldWithin s (outcome_by_log d)
by_log s (accepted v so) k = omega arith
by_log s (refused_log r so) k = omega arith

by_kind : (s : List ℕ) (k : Option Kind) → ToldWithin s (outcome_kind k s)
unfolding outcome_in outcome_of_log
by_kind s (Some (Clauses f m)) = let t = text f m own_room s in by_opening s t.opened t.answers (text_within f m own_room s)
by_kind s (Some (Log m)) = by_log s (log s m own_room) (log_spans s m own_room)
by_kind s None = omega arith

pub outcome_within : (f m : ℕ) (s : List ℕ) → place_told s (outcome f m s) ≤ length s
unfolding outcome
outcome_within f m s = by_kind s (kind_of f m)
