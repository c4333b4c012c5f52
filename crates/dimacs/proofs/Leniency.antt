-- A lenient reading never changes a strict one, and a text is read alike both ways to its end exactly if its counts are true. Assumes nothing.
use Rattle.std.specs.Prelude.{Some}
use Rattle.std.specs.Prelude.{Result, Ok, Err}
use Prim.Native.Nat.{ℕ}
use mathlib.Core.List.{List, [], ◌∷◌}
use mathlib.Core.Logic.{inl, inr, ⊎_elim}
use mathlib.Core.Path.{◌≡◌, refl, ap, subst}
use native.Mathlib.Omega.{arith}
use Rattle.dimacs.specs.Lined.{lined}
use Rattle.dimacs.specs.Header.{opening_of, unlimited, limits_of}
use Rattle.dimacs.specs.Clauses.{Answer, clause, ended, refused}
use Rattle.dimacs.specs.Texts.{Text, text_by, text}
use Rattle.dimacs.specs.Logs.{LogAnswer, accepted, refused_log}
use Rattle.dimacs.specs.declared.Format.{Format}
use Rattle.dimacs.specs.declared.Rigor.TheVariants.{Strict, Lenient}
use Rattle.dimacs.specs.declared.Ends.{Ends}
use Rattle.dimacs.specs.declared.Opening.{Opening}
use Rattle.dimacs.specs.declared.Opening.TheVariants as opening
use Rattle.dimacs.specs.declared.Refusal.{Refusal}
use Rattle.dimacs.proofs.Allows.{allows_itself, lenient_allows}
use Rattle.dimacs.proofs.Texts.{Opens, opening_opens, answers_at}
use Rattle.dimacs.specs.Leniency.{strictly, leniently, log_strictly, log_leniently, handed_out, ReachesEnd, FirstOf, TextsUnchanged, LogsUnchanged, refusal_among, refusal_by, log_refusal, NoLater, TextsRefused, LogsRefused, CountsTrueBy, TrueCountsAlike, StrictCountsTrue}
use Rattle.dimacs.proofs.WidenedAnswers as follow
use Rattle.dimacs.proofs.WidenedAnswers.{AllPast, Follow, answers_follow}
use Rattle.dimacs.proofs.WidenedLogs.{LogWidened, log_widened}
use Rattle.dimacs.proofs.NarrowedAnswers.{answers_by_counts, answers_narrowed}
use Rattle.dimacs.proofs.TrueCounts.{answers_true, counts_by_answers}

-- Two readings open alike, and the answers of one follow those of the other.
pub record Alongside (strict lenient : Text) : Type 0 where
  pub opened : lenient.opened ≡ strict.opened
  pub answers : Follow strict.answers lenient.answers

alongside_by : (f : Format) (room : ℕ) (s : List ℕ) (o : Result Opening Refusal) → Opens s o → Alongside (text_by f Strict room s o) (text_by f Lenient room s o)
alongside_by f room s (Ok (opening.Header h at)) k = record { opened = refl; answers = answers_follow s f room (lenient_allows f h k.1 k.2) at 0 }
alongside_by f room s (Ok (opening.NoHeader at)) k = record { opened = refl; answers = answers_follow s f room (allows_itself unlimited) at 0 }
alongside_by f room s (Err r) k = record { opened = refl; answers = follow.none }

pub alongside : (f : Format) (rule : Ends) (room : ℕ) (s : List ℕ) → Alongside (strictly f rule room s) (leniently f rule room s)
unfolding text
alongside f rule room s = let read = lined rule s in alongside_by f room read (opening_of read f) (opening_opens read f)

first_clauses : {l m : List Answer} → Follow l m → FirstOf (handed_out l) (handed_out m)
first_clauses follow.none = record { rest = []; is = refl }
first_clauses follow.ends = record { rest = []; is = refl }
first_clauses (follow.stops {a} {l} h) = record { rest = handed_out (a ∷ l); is = refl }
first_clauses (follow.clause_then {extra} {so} h) = let k = first_clauses h in record { rest = k.rest; is = ap (λ x. (extra, so) ∷ x) k.is }

same_answers : {l m : List Answer} → Follow l m → ReachesEnd l → m ≡ l
same_answers follow.none e = absurd e
same_answers follow.ends e = refl
same_answers (follow.stops h) e = absurd e
same_answers (follow.clause_then {extra} {so} h) e = ap (λ x. clause extra so ∷ x) (same_answers h e)

past_no_later : (r : Refusal) (l : List Answer) → AllPast r.place l → NoLater (Some r) (refusal_among l)
past_no_later r [] h = tt
past_no_later r (clause extra so ∷ l) h = past_no_later r l h
past_no_later r (ended ∷ l) h = tt
past_no_later r (refused q so ∷ l) h = h

no_later : {l m : List Answer} → Follow l m → NoLater (refusal_among l) (refusal_among m)
no_later follow.none = tt
no_later follow.ends = tt
no_later (follow.stops {r} {a} {l} h) = past_no_later r (a ∷ l) h
no_later (follow.clause_then h) = no_later h

same_text : (x : Text) {o : Result Opening Refusal} {l : List Answer} → o ≡ x.opened → l ≡ x.answers → record { opened = o; answers = l } ≡ x
same_text x p q = rw (p, q)

pub texts_unchanged : TextsUnchanged
texts_unchanged f rule room s =
    let k = alongside f rule room s in
    record {
      opened = k.opened;
      clauses = first_clauses k.answers;
      whole = λ e. same_text (strictly f rule room s) k.opened (same_answers k.answers e);
    }

pub logs_unchanged : LogsUnchanged
logs_unchanged rule room s v so e = subst (λ a. LogWidened a (log_leniently rule room s)) e (log_widened rule room s)

pub texts_refused : TextsRefused
texts_refused f rule room s = let k = alongside f rule room s in rw k.opened (go (strictly f rule room s).opened k.answers)
  where
    go : (o : Result Opening Refusal) {l m : List Answer} → Follow l m → NoLater (refusal_by o l) (refusal_by o m)
    go (Ok (opening.Header h at)) k = no_later k
    go (Ok (opening.NoHeader at)) k = no_later k
    go (Err r) k = omega arith

pub logs_refused : LogsRefused
logs_refused rule room s = go (log_strictly rule room s) (log_leniently rule room s) (log_widened rule room s)
  where
    go : (a b : LogAnswer) → LogWidened a b → NoLater (log_refusal a) (log_refusal b)
    go (accepted v so) b h = rw h tt
    go (refused_log r so) (accepted v more) h = tt
    go (refused_log r so) (refused_log q more) h = h

counted_alike : (f : Format) (room : ℕ) (s : List ℕ) (o : Result Opening Refusal) → Opens s o
    → let t = text_by f Lenient room s o in ReachesEnd t.answers → CountsTrueBy f t.opened t.answers → text_by f Strict room s o ≡ t
counted_alike f room s (Ok (opening.Header h at)) k e c =
    let l = (text_by f Lenient room s (Ok (opening.Header h at))).answers in
    ap (λ l. record { opened = Ok (opening.Header h at); answers = l })
    (answers_narrowed s f room (limits_of f Strict h) unlimited refl at 0 (answers_by_counts f (limits_of f Strict h) k.3 l 0 e c.within (⊎_elim (λ z. inl z) (λ z. inr (omega (arith, z))) c.number)))
counted_alike f room s (Ok (opening.NoHeader at)) k e c = refl
counted_alike f room s (Err r) k e c = refl

pub true_counts_alike : TrueCountsAlike
unfolding text
true_counts_alike f rule room s = let read = lined rule s in counted_alike f room read (opening_of read f) (opening_opens read f)

counted_by : (f : Format) (room : ℕ) (s : List ℕ) (o : Result Opening Refusal) → Opens s o → let t = text_by f Strict room s o in ReachesEnd t.answers → CountsTrueBy f t.opened t.answers
counted_by f room s (Ok (opening.Header h at)) k e =
    let limits = limits_of f Strict h in
    let d = counts_by_answers f limits k.3 (answers_at s f limits room at 0) 0 (inr (omega arith)) (answers_true s f limits room at 0 e) in
    record { within = d.0; number = ⊎_elim (λ z. inl z) (λ z. inr (omega (arith, z))) d.1 }
counted_by f room s (Ok (opening.NoHeader at)) k e = tt
counted_by f room s (Err r) k e = tt

pub strict_counts_true : StrictCountsTrue
unfolding text
strict_counts_true f rule room s = let read = lined rule s in counted_by f room read (opening_of read f) (opening_opens read f)
