-- What arguments of types that are Copy own is had twice: once for a callee, and once for the exit. Assumes `Logic`.
use mathlib.Core.List.{List, [], ◌∷◌}
use seplogic.Ra.Ura.{Ura}
use base.Logic.{ent, sep}
use base.Fml.{Fml, ftrue}
use types.Logic.{Logic, sem}
use types.Kit.{Item, ‵, ◌⊛◌, Goal, Step, step, ◌$◌, ◌∵◌, !, qed, move, use1, split, fjoin, frame, done}
use denote.Laws.{Copy}
use denote.RattleType.{RattleType, Denots, Valss, owns}

module _ {M : Type 1} {𝓤 : Ura M} (𝓛 : Logic 𝓤) where
  -- Each type is Copy.
  abbrev pub Copies : List RattleType → Type 1
  Copies [] = Unit {1}
  Copies (R ∷ Rs) = Copy 𝓛 R × Copies Rs

  owns_twice : (Rs : List RattleType) → Copies Rs → (a : Denots Rs) (vs : Valss Rs) → ent 𝓤 (sem 𝓛 (owns Rs a vs)) (sep 𝓤 (sem 𝓛 (owns Rs a vs)) (sem 𝓛 (owns Rs a vs)))
  owns_twice [] cs a vs = qed 𝓛 (‵ ftrue ∷ []) ∵ frame ! $ done !
  owns_twice (R ∷ Rs) cs a vs =
      let F : Fml = R.own_val a.0 vs.0 in
      let G : Fml = owns Rs a.1 vs.1 in
      qed 𝓛 (‵ F ∷ ‵ G ∷ []) ∵ use1 𝓛 (‵ F ⊛ ‵ F) (cs.0.twice a.0 vs.0) $ split ! $ move ! (2 ∷ []) $
      use1 𝓛 (‵ G ⊛ ‵ G) (owns_twice Rs cs.1 a.1 vs.1) $ split ! $ move ! (2 ∷ 0 ∷ []) $ fjoin ! $ frame ! $ move ! (1 ∷ 0 ∷ []) $ fjoin ! $ done !

module _ {M : Type 1} {𝓤 : Ura M} {𝓛 : Logic 𝓤} {K : Type 0} {Γ : List (Item 𝓤)} {G : Goal 𝓤 𝓛.H} where
  pub copies : K → (Rs : List RattleType) → Copies 𝓛 Rs → (a : Denots Rs) (vs : Valss Rs) → Step K 𝓛 (‵ (owns Rs a vs) ∷ ‵ (owns Rs a vs) ∷ Γ) G (‵ (owns Rs a vs) ∷ Γ) G
  copies t Rs cs a vs = step (λ s. use1 𝓛 (‵ (owns Rs a vs) ⊛ ‵ (owns Rs a vs)) (owns_twice 𝓛 Rs cs a vs) $ split t $ s)
