-- A lenient reading never changes a strict one: what is promised of one text, and of one log, read both ways with the same room and the same rule of line ends.
use Rattle.std.specs.Prelude.{Option, None, Some}
use Rattle.std.specs.Prelude.{ℕ, ◌≤◌, List, [], ◌∷◌, ◌++◌, ◌≡◌, ◌⊎◌, length, ℤ, nat_abs, Result, Ok, Err}
use Rattle.dimacs.specs.Names.{in_mode}
use Rattle.dimacs.specs.Header.{limits_of}
use Rattle.dimacs.specs.Clauses.{Answer, clause, ended, refused}
use Rattle.dimacs.specs.Texts.{Text, text}
use Rattle.dimacs.specs.Logs.{LogAnswer, accepted, refused_log, log}
use Rattle.dimacs.specs.declared.Format.{Format}
use Rattle.dimacs.specs.declared.Format.TheVariants.{Plain, Weighted, Grouped, Weighted2022}
use Rattle.dimacs.specs.declared.Header.{Header}
use Rattle.dimacs.specs.declared.Limits.{Limits}
use Rattle.dimacs.specs.declared.Rigor.TheVariants.{Strict, Lenient}
use Rattle.dimacs.specs.declared.Ends.{Ends}
use Rattle.dimacs.specs.declared.Opening.{Opening}
use Rattle.dimacs.specs.declared.Opening.TheVariants as opening
use Rattle.dimacs.specs.declared.Refusal.{Refusal}
use Rattle.dimacs.specs.declared.Verdict.{Verdict}

-- What is read of a text strictly, by a rule of line ends and with room for so many literals in a clause.
abbrev pub strictly : Format → Ends → ℕ → List ℕ → Text
strictly f rule room s = text f (in_mode Strict rule) room s

-- What is read of it leniently.
abbrev pub leniently : Format → Ends → ℕ → List ℕ → Text
leniently f rule room s = text f (in_mode Lenient rule) room s

-- What a log comes to strictly, with room for so many literals in all.
abbrev pub log_strictly : Ends → ℕ → List ℕ → LogAnswer
log_strictly rule room s = log s (in_mode Strict rule) room

-- What it comes to leniently.
abbrev pub log_leniently : Ends → ℕ → List ℕ → LogAnswer
log_leniently rule room s = log s (in_mode Lenient rule) room

-- The clauses handed out before the end or the first refusal, each with its weight or group, 0 if it has neither, and its literals.
abbrev pub handed_out : List Answer → List (ℕ × List ℤ)
handed_out [] = []
handed_out (clause extra so ∷ rest) = (extra, so) ∷ handed_out rest
handed_out (ended ∷ rest) = []
handed_out (refused r so ∷ rest) = []

-- The end is answered, and no refusal before it.
abbrev pub ReachesEnd : List Answer → Type 0
ReachesEnd [] = ⊥
ReachesEnd (clause extra so ∷ rest) = ReachesEnd rest
ReachesEnd (ended ∷ rest) = Unit {0}
ReachesEnd (refused r so ∷ rest) = ⊥

-- A list is the first part of another.
pub record FirstOf {A : Type 0} (first whole : List A) : Type 0 where
  pub rest : List A
  pub is : whole ≡ first ++ rest

-- A strict reading of a text that a lenient one of the same text leaves unchanged.
pub record Unchanged (strict lenient : Text) : Type 0 where
  -- Both open alike: with the same header, with none, or with the same refusal.
  pub opened : lenient.opened ≡ strict.opened
  -- The clauses handed out strictly are the first ones handed out leniently, with the same weights, groups and literals.
  pub clauses : FirstOf (handed_out strict.answers) (handed_out lenient.answers)
  -- Where the strict reading reaches its end, the lenient one is the same: header, clauses and end.
  pub whole : ReachesEnd strict.answers → lenient ≡ strict

-- So it is for each text, format, room and rule of line ends.
abbrev pub TextsUnchanged : Type 0
TextsUnchanged = (f : Format) (rule : Ends) (room : ℕ) (s : List ℕ) → Unchanged (strictly f rule room s) (leniently f rule room s)

-- A log that is accepted strictly is accepted leniently, with the same verdict and literals.
abbrev pub LogsUnchanged : Type 0
LogsUnchanged = (rule : Ends) (room : ℕ) (s : List ℕ) (v : Option Verdict) (so : List ℤ) → log_strictly rule room s ≡ accepted v so → log_leniently rule room s ≡ accepted v so

-- The refusal among the answers, if there is one.
abbrev pub refusal_among : List Answer → Option Refusal
refusal_among [] = None
refusal_among (clause extra so ∷ rest) = refusal_among rest
refusal_among (ended ∷ rest) = None
refusal_among (refused r so ∷ rest) = Some r

-- The refusal of a header that is refused, else that among the answers.
abbrev pub refusal_by : Result Opening Refusal → List Answer → Option Refusal
refusal_by (Ok (opening.Header h at)) l = refusal_among l
refusal_by (Ok (opening.NoHeader at)) l = refusal_among l
refusal_by (Err r) l = Some r

-- The refusal that a text meets, if it meets one.
abbrev pub refusal_of : Text → Option Refusal
refusal_of t = refusal_by t.opened t.answers

-- The refusal that a log meets, if it meets one.
abbrev pub log_refusal : LogAnswer → Option Refusal
log_refusal (accepted v so) = None
log_refusal (refused_log r so) = Some r

-- What the lenient reading refuses, the strict one refuses, at that place or before it.
abbrev pub NoLater : Option Refusal → Option Refusal → Type 0
NoLater strict None = Unit {0}
NoLater None (Some lenient) = ⊥
NoLater (Some strict) (Some lenient) = strict.place ≤ lenient.place

-- So it is for each text.
abbrev pub TextsRefused : Type 0
TextsRefused = (f : Format) (rule : Ends) (room : ℕ) (s : List ℕ) → NoLater (refusal_of (strictly f rule room s)) (refusal_of (leniently f rule room s))

-- And for each log.
abbrev pub LogsRefused : Type 0
LogsRefused = (rule : Ends) (room : ℕ) (s : List ℕ) → NoLater (log_refusal (log_strictly rule room s)) (log_refusal (log_leniently rule room s))

-- A fact of each element of a list.
abbrev pub Each : {A : Type 0} → (A → Type 0) → List A → Type 0
Each P [] = Unit {0}
Each P (a ∷ rest) = P a × Each P rest

-- Each literal is within a limit either way.
abbrev pub LiteralsWithin : ℕ → List ℤ → Type 0
LiteralsWithin limit = Each (λ v. nat_abs v ≤ limit)

-- A group is within its limit. Other formats have none.
abbrev pub GroupWithin : Format → ℕ → ℕ → Type 0
GroupWithin Plain limit extra = Unit {0}
GroupWithin Weighted limit extra = Unit {0}
GroupWithin Grouped limit extra = extra ≤ limit
GroupWithin Weighted2022 limit extra = Unit {0}

-- Each clause has its group and its literals within the limits.
abbrev pub ClausesWithin : Format → Limits → List (ℕ × List ℤ) → Type 0
ClausesWithin f limits = Each (λ c. GroupWithin f limits.groups c.0 × LiteralsWithin limits.literals c.1)

-- The counts of a header are true of clauses: these are within the limits that it sets, and as many as it counts. A count of 0 is true of any.
pub record CountsTrue (f : Format) (h : Header) (clauses : List (ℕ × List ℤ)) : Type 0 where
  pub within : ClausesWithin f (limits_of f Strict h) clauses
  pub number : (h.clauses ≡ 0) ⊎ (h.clauses ≡ length clauses)

-- So they are of the clauses of a text, if it has a header.
abbrev pub CountsTrueBy : Format → Result Opening Refusal → List Answer → Type 0
CountsTrueBy f (Ok (opening.Header h at)) l = CountsTrue f h (handed_out l)
CountsTrueBy f (Ok (opening.NoHeader at)) l = Unit {0}
CountsTrueBy f (Err r) l = Unit {0}

-- A text that is read to its end leniently, and whose counts are true, is read alike strictly.
abbrev pub TrueCountsAlike : Type 0
TrueCountsAlike =
    (f : Format) (rule : Ends) (room : ℕ) (s : List ℕ)
    → let t = leniently f rule room s in ReachesEnd t.answers → CountsTrueBy f t.opened t.answers → strictly f rule room s ≡ t

-- A text that is read to its end strictly has true counts. So strict takes exactly the texts that lenient takes and whose counts are true.
abbrev pub StrictCountsTrue : Type 0
StrictCountsTrue =
    (f : Format) (rule : Ends) (room : ℕ) (s : List ℕ) → let t = strictly f rule room s in ReachesEnd t.answers → CountsTrueBy f t.opened t.answers
