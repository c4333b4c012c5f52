-- The laws of `loop` and `said`: one step, and then the loop from where it leads; and two loops side by side. No file but this one counts steps. Assumes nothing.
use Prim.Native.Nat.{ℕ, zero, suc, ◌<◌}
use mathlib.Core.List.{List, [], ◌∷◌, map}
use mathlib.Core.Path.{◌≡◌, refl, ap, sym, ◌∙◌, subst, subst⁻¹}
use native.Mathlib.Omega.{arith}
use Rattle.dimacs.specs.Loop.{Step, again, answer, loop, Turn, on, last, said}

-- What follows a step.
abbrev pub after : {S A : Type 0} → Step S A → (S → A) → A
after (again s) f = f s
after (answer a) f = a

-- What is so of the state or the answer that a step leads to.
abbrev pub Leads : {S A : Type 0} → (S → Type 0) → (A → Type 0) → Step S A → Type 0
Leads P Q (again s) = P s
Leads P Q (answer a) = Q a

-- A step that is taken again lowers a measure.
abbrev pub Falls : {S A : Type 0} → (S → ℕ) → S → Step S A → Type 0
Falls μ s = Leads (λ s'. μ s' < μ s) (λ a. Unit {0})

leads_on : {S A : Type 0} {P P' : S → Type 0} (t : Step S A) → ((s : S) → P s → P' s) → Leads P (λ a. Unit {0}) t → Leads P' (λ a. Unit {0}) t
leads_on (again s) f h = f s h
leads_on (answer a) f h = h

after_same : {S A : Type 0} (t : Step S A) (f g : S → A) → Leads (λ s. f s ≡ g s) (λ a. Unit {0}) t → after t f ≡ after t g
after_same (again s) f g h = h
after_same (answer a) f g h = refl

after_is : {S A : Type 0} (Q : A → Type 0) (t : Step S A) (f : S → A) → Leads (λ s. Q (f s)) Q t → Q (after t f)
after_is Q (again s) f h = h
after_is Q (answer a) f h = h

pub loop_after : {S A : Type 0} (step : S → Step S A) (over : A) (n : ℕ) (s : S) → loop step over (suc n) s ≡ after (step s) (loop step over n)
unfolding loop
loop_after {S} {A} step over n s = go (step s)
  where
    go : (t : Step S A) → (elim t as (λ _. A) [ again s' ↦ loop step over n s' | answer a ↦ a ]) ≡ after t (loop step over n)
    go (again s') = refl
    go (answer a) = refl

module _ {S A : Type 0} (step : S → Step S A) (over : A) (μ : S → ℕ) (falls : (s : S) → Falls μ s (step s)) where
  -- Where more steps are granted than the measure is high, it does not matter how many more, and `over` is not the answer: any other in its stead
  -- gives the same.
  pub enough : (other : A) (n m : ℕ) (s : S) → μ s < n → μ s < m → loop step over n s ≡ loop step other m s
  enough other zero m s h k = absurd (omega arith)
  enough other (suc n) zero s h k = absurd (omega arith)
  enough other (suc n) (suc m) s h k =
      loop_after step over n s
      ∙ after_same (step s) (loop step over n) (loop step other m)
      (leads_on (step s) (λ s' l. enough other n m s' (omega arith) (omega arith)) (falls s))
      ∙ sym (loop_after step other m s)

  -- Where more steps are granted than the measure is high, the loop is one step and then the loop.
  pub unrolled : (n : ℕ) (s : S) → μ s < n → loop step over n s ≡ after (step s) (loop step over n)
  unrolled zero s h = absurd (omega arith)
  unrolled (suc n) s h =
      loop_after step over n s
      ∙ after_same (step s) (loop step over n) (loop step over (suc n))
      (leads_on (step s) (λ s' l. enough over n (suc n) s' (omega arith) (omega arith)) (falls s))

  -- What each step keeps, and each answer then has, the loop's answer has.
  pub kept : (P : S → Type 0) (Q : A → Type 0) → ((s : S) → P s → Leads P Q (step s)) → (n : ℕ) (s : S) → μ s < n → P s → Q (loop step over n s)
  kept P Q keeps zero s h p = absurd (omega arith)
  kept P Q keeps (suc n) s h p =
      subst⁻¹ Q (loop_after step over n s) (after_is Q (step s) (loop step over n) (both (step s) (falls s) (keeps s p) (λ s' l q. kept P Q keeps n s' (omega arith) q)))
    where
      both : (t : Step S A) → Falls μ s t → Leads P Q t → ((s' : S) → μ s' < μ s → P s' → Q (loop step over n s')) → Leads (λ s'. Q (loop step over n s')) Q t
      both (again s') l q k = k s' l q
      both (answer a) l q k = q

-- Two loops over the same states, side by side: the narrow one may answer where the wide one goes on.
module _ {S A : Type 0} (R : A → A → Type 0) (wide : S → A) where
  -- From a state the wide loop goes the way of a step of the narrow one; or the step answers, and what the wide loop comes to is in the relation to that.
  abbrev pub Beside : S → Step S A → Type 0
  Beside s = Leads (λ x. wide s ≡ wide x) (λ a. R a (wide s))

  -- So it is where both take the step.
  pub same_step : ((a : A) → R a a) → (s : S) (t : Step S A) → wide s ≡ after t wide → Beside s t
  same_step itself s (again x) e = e
  same_step itself s (answer a) e = subst⁻¹ (R a) e (itself a)

  beside_from : (from s : S) (t : Step S A) → Beside s t → wide s ≡ wide from → Leads (λ x. wide x ≡ wide from) (λ a. R a (wide from)) t
  beside_from from s (again x) h e = sym h ∙ e
  beside_from from s (answer a) h e = subst (R a) e h

  -- What both come to is in the relation, if it is so of each step; `kept` is the law of what the narrow loop keeps.
  pub beside : (step : S → Step S A) (narrow : S → A)
      → ((P : S → Type 0) (Q : A → Type 0) → ((s : S) → P s → Leads P Q (step s)) → (s : S) → P s → Q (narrow s))
      → ((s : S) → Beside s (step s)) → (s : S) → R (narrow s) (wide s)
  beside step narrow kept by s = kept (λ x. wide x ≡ wide s) (λ a. R a (wide s)) (λ x e. beside_from s x (step x) (by x) e) s refl

-- The same the other way: where the wide loop's answer is as asked, the narrow one has it.
module _ {S A : Type 0} (C : S → Type 0) (D : A → Type 0) (narrow : S → A) where
  -- Where a step of the wide loop leads to what is as asked, so is the state before it, and the narrow loop goes the way of that step.
  abbrev pub Along : S → Step S A → Type 0
  Along s = Leads (λ x. C x → C s × (narrow s ≡ narrow x)) (λ a. D a → C s × (narrow s ≡ a))

  along_from : (from s : S) (t : Step S A) → Along s t → (C s → narrow from ≡ narrow s) → Leads (λ x. C x → narrow from ≡ narrow x) (λ a. D a → narrow from ≡ a) t
  along_from from s (again x) h e = λ c. let k = h c in e k.0 ∙ k.1
  along_from from s (answer a) h e = λ d. let k = h d in e k.0 ∙ k.1

  -- So it is of what both come to, if it is so of each step; `kept` is the law of what the wide loop keeps.
  pub along : (step : S → Step S A) (wide : S → A)
      → ((P : S → Type 0) (Q : A → Type 0) → ((s : S) → P s → Leads P Q (step s)) → (s : S) → P s → Q (wide s))
      → ((s : S) → Along s (step s)) → (s : S) → D (wide s) → narrow s ≡ wide s
  along step wide kept by s = kept (λ x. C x → narrow s ≡ narrow x) (λ a. D a → narrow s ≡ a) (λ x e. along_from s x (step x) (by x) e) s (λ _. refl)

-- What follows a turn.
abbrev pub and_on : {S A : Type 0} → Turn S A → (S → List A) → List A
and_on (on a s) f = a ∷ f s
and_on (last a) f = a ∷ []

-- What is so of the answer and the state that a turn gives, or of the last answer.
abbrev pub Gives : {S A : Type 0} → (A → S → Type 0) → (A → Type 0) → Turn S A → Type 0
Gives P Q (on a s) = P a s
Gives P Q (last a) = Q a

-- A turn that is not the last lowers a measure.
abbrev pub Lowers : {S A : Type 0} → (S → ℕ) → S → Turn S A → Type 0
Lowers μ s = Gives (λ a s'. μ s' < μ s) (λ a. Unit {0})

said_on : {S A : Type 0} (turn : S → Turn S A) (n : ℕ) (s : S) → said turn (suc n) s ≡ and_on (turn s) (said turn n)
unfolding said
said_on {S} {A} turn n s = go (turn s)
  where
    go : (t : Turn S A) → (elim t as (λ _. List A) [ on a s' ↦ a ∷ said turn n s' | last a ↦ a ∷ [] ]) ≡ and_on t (said turn n)
    go (on a s') = refl
    go (last a) = refl

gives_same : {S A : Type 0} (t : Turn S A) (f g : S → List A) → Gives (λ a s. f s ≡ g s) (λ a. Unit {0}) t → and_on t f ≡ and_on t g
gives_same (on a s) f g h = ap (λ l. a ∷ l) h
gives_same (last a) f g h = refl

gives_on : {S A : Type 0} {P P' : A → S → Type 0} (t : Turn S A) → ((a : A) (s : S) → P a s → P' a s) → Gives P (λ a. Unit {0}) t → Gives P' (λ a. Unit {0}) t
gives_on (on a s) f h = f a s h
gives_on (last a) f h = h

module _ {S A : Type 0} (turn : S → Turn S A) (μ : S → ℕ) (lowers : (s : S) → Lowers μ s (turn s)) where
  said_enough : (n m : ℕ) (s : S) → μ s < n → μ s < m → said turn n s ≡ said turn m s
  said_enough zero m s h k = absurd (omega arith)
  said_enough (suc n) zero s h k = absurd (omega arith)
  said_enough (suc n) (suc m) s h k =
      said_on turn n s
      ∙ gives_same (turn s) (said turn n) (said turn m) (gives_on (turn s) (λ a s' l. said_enough n m s' (omega arith) (omega arith)) (lowers s))
      ∙ sym (said_on turn m s)

  -- Where more turns are granted than the measure is high, the answers are those of one turn and then the rest.
  pub said_unrolled : (n : ℕ) (s : S) → μ s < n → said turn n s ≡ and_on (turn s) (said turn n)
  said_unrolled zero s h = absurd (omega arith)
  said_unrolled (suc n) s h =
      said_on turn n s
      ∙ gives_same (turn s) (said turn n) (said turn (suc n)) (gives_on (turn s) (λ a s' l. said_enough n (suc n) s' (omega arith) (omega arith)) (lowers s))

  -- What holds of the answers of a last turn, and of an answer before answers of which it holds, holds of all.
  pub said_has : (P : S → List A → Type 0)
      → ((s : S) → Gives (λ a s'. (l : List A) → μ s' < μ s → P s' l → P s (a ∷ l)) (λ a. P s (a ∷ [])) (turn s))
      → (n : ℕ) (s : S) → μ s < n → P s (said turn n s)
  said_has P has zero s h = absurd (omega arith)
  said_has P has (suc n) s h = subst⁻¹ (P s) (said_on turn n s) (go (turn s) (lowers s) (has s) (λ s' l. said_has P has n s' (omega arith)))
    where
      go : (t : Turn S A) → Lowers μ s t → Gives (λ a s'. (l : List A) → μ s' < μ s → P s' l → P s (a ∷ l)) (λ a. P s (a ∷ [])) t
          → ((s' : S) → μ s' < μ s → P s' (said turn n s')) → P s (and_on t (said turn n))
      go (on a s') l g k = g (said turn n s') l (k s' l)
      go (last a) l g k = g

-- A turn carried over to other states and other answers.
abbrev pub carried : {S T A B : Type 0} → (S → T) → (A → B) → Turn S A → Turn T B
carried g h (on a s) = on (h a) (g s)
carried g h (last a) = last (h a)

-- Turns that are carried over say the answers carried over.
pub said_carried : {S T A B : Type 0} (turn : S → Turn S A) (turn' : T → Turn T B) (g : S → T) (h : A → B)
    → ((s : S) → turn' (g s) ≡ carried g h (turn s)) → (n : ℕ) (s : S) → said turn' n (g s) ≡ map h (said turn n s)
unfolding said
said_carried turn turn' g h same zero s = refl
said_carried turn turn' g h same (suc n) s =
    said_on turn' n (g s) ∙ rw (same s) (go (turn s) (λ s'. said_carried turn turn' g h same n s')) ∙ ap (map h) (sym (said_on turn n s))
  where
    go : (t : Turn _ _) → ((s' : _) → said turn' n (g s') ≡ map h (said turn n s')) → and_on (carried g h t) (said turn' n) ≡ map h (and_on t (said turn n))
    go (on a s') k = ap (λ l. h a ∷ l) (k s')
    go (last a) k = refl
