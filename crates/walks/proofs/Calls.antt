-- A call inside a walk, of a function of which only its contract is known. Assumes nothing.
use mathlib.Core.List.{List, [], ◌∷◌}
use mathlib.Core.Path.{◌≡◌, sym, ap, subst}
use seplogic.Ra.Ura.{Ura}
use mir.Syntax.{Callee as Called, Place, Opd as Operand, Body, seq, call}
use mir.Val.{Val}
use base.Logic.{SProp, ent, sep, emp, via, id⊢, comm∗, emp∗, mono_r}
use prog.Wp.{Env, Calls, Loops}
use types.Logic.{Logic}
use sound.WpLaws.{FmC}
use contract.Monad.{fact}
use types.Kit.{Item, ‵, raw, ◌⊛◌, some, later, mean, Post, runs, lands, Seq, ◌$◌, move, use1, join, split, recast, pick, await}
use types.Run.{Opds}
use denote.Laws.{Is, Tells, shows}
use denote.RattleType.{RattleType, owns}
use denote.Signature.{type_at, types_at}
use denote.Steps.{only, peeks, heard}
use denote.Triple.Call.{calls_from}
use denote.Triple.Clauses.{Ended, Clauses, Lasts, at_exit, lasts, closing}
use denote.Triple.Entry.{Res, alive}
use denote.Triple.Spec.{triple_of}
use denote.Triple.Statement.{Contract, Triple}

module _ {M : Type 1} {𝓤 : Ura M} (𝓛 : Logic 𝓤) (T : Ended) (c : Clauses 𝓤 T) where
  -- The contract of a callee.
  abbrev pub Callee : Contract 𝓤
  Callee = triple_of 𝓛 T.signature (closing 𝓛 T c)

module _ {M : Type 1} {𝓤 : Ura M} {𝓛 : Logic 𝓤} {K : Type 0} {Γ : List (Item 𝓤)} {E : Env 𝓤 𝓛.H} {C : Calls 𝓤 𝓛.H} {Λ : Loops 𝓤 𝓛.H} {q : Post 𝓤 𝓛.H} {f : Called} {xs : List Operand} {d : Place} {rest : Body} where
  -- The tokens and what the arguments own are at the head. The tokens come back, with what the result owns at its machine value and what is said of the last values; the callee's promise Φ is known.
  open 𝓛 use {H}

  pub calls_by : K → {i : Item 𝓤} → FmC 𝓤 H 𝓛.laws C → (T : Ended) (c : Clauses 𝓤 T) → Triple 𝓤 (C f) (Callee 𝓛 T c) → (y : (Callee 𝓛 T c).Ghost)
      → (val : Res T.signature y.0.0 → Val) → Tells (type_at T.signature.result y.0.0) (Is (type_at T.signature.result y.0.0)) (λ r. val r ∷ [])
      → mean 𝓛 i ≡ alive 𝓛 T.signature y.0.0 y.0.1
      → ent 𝓤 (emp 𝓤) ((c y.0.0 y.0.3).requires y.1)
      → (Φ : Res T.signature y.0.0 → Lasts T y.0.0 y.0.3 → Type 0)
      → ((r : Res T.signature y.0.0) (ws : Lasts T y.0.0 y.0.3) → ent 𝓤 ((c y.0.0 y.0.3).ensures y.1 r (at_exit T y.0.0 y.0.3 ws)) (fact 𝓤 (Φ r ws)))
      → Opds K 𝓛 ((i ⊛ ‵ (owns (types_at T.signature.params y.0.0) y.0.3 y.0.4)) ∷ Γ) E xs ((Callee 𝓛 T c).args y)
      → ((r : Res T.signature y.0.0) (ws : Lasts T y.0.0 y.0.3) → Φ r ws → Is (type_at T.signature.result y.0.0) r (val r ∷ [])
      → Seq K 𝓛 (‵ ((type_at T.signature.result y.0.0).own_val r (val r ∷ [])) ∷ i ∷ ‵ (lasts T y.0.0 y.0.3 ws) ∷ Γ) (lands C Λ E d (val r) rest q))
      → Seq K 𝓛 (i ∷ ‵ (owns (types_at T.signature.params y.0.0) y.0.3 y.0.4) ∷ Γ) (runs C Λ E (seq (call f xs d) rest) q)
  calls_by t {i} fm T c met y val tells tokens asks Φ said os k =
      let κs = y.0.0 in
      let a = y.0.3 in
      let R : RattleType = type_at T.signature.result κs in
      let own : Item 𝓤 = ‵ (owns (types_at T.signature.params κs) a y.0.4) in
      let P : SProp 𝓤 = sep 𝓤 (alive 𝓛 T.signature κs y.0.1) (mean 𝓛 own) in
      join t $
      calls_from t fm (i ⊛ own) ((Callee 𝓛 T c).args y) ((Callee 𝓛 T c).post y)
      (via 𝓤 P (subst (λ (S : SProp 𝓤). ent 𝓤 (sep 𝓤 (mean 𝓛 i) (mean 𝓛 own)) (sep 𝓤 S (mean 𝓛 own))) tokens (id⊢ 𝓤 (sep 𝓤 (mean 𝓛 i) (mean 𝓛 own))))
      (via 𝓤 (sep 𝓤 P (emp 𝓤)) (via 𝓤 (sep 𝓤 (emp 𝓤) P) (emp∗ 𝓤 P) (comm∗ 𝓤 (emp 𝓤) P)) (via 𝓤 ((Callee 𝓛 T c).pre y) (mono_r 𝓤 P asks) (met y))))
      os
      (λ u. use1 𝓛 (later (some (λ (r : Res T.signature κs). (raw (alive 𝓛 T.signature κs y.0.1) ⊛ ‵ (R.own_val r (u ∷ []))) ⊛ some (λ (ws : Lasts T κs a). ‵ (lasts T κs a ws) ⊛ raw ((c κs a).ensures y.1 r (at_exit T κs a ws)))))) (id⊢ 𝓤 _) $
      await t tt $ pick t (λ r. split t $ move t (1 ∷ []) $ pick t (λ ws. split t $ move t (1 ∷ []) $ use1 𝓛 (raw (fact 𝓤 (Φ r ws))) (said r ws) $ heard t (Φ r ws) (λ e.
      move t (1 ∷ []) $ split t $ recast 𝓛 i (sym tokens) $ move t (1 ∷ []) $ peeks t R (Is R) (shows 𝓛 R) r (u ∷ []) (λ is.
      let p : u ≡ val r = ap only (tells r (u ∷ []) is) in
      subst (λ (w : Val). Seq K 𝓛 (‵ (R.own_val r (w ∷ [])) ∷ i ∷ ‵ (lasts T κs a ws) ∷ Γ) (lands C Λ E d w rest q)) (sym p) (k r ws e (subst (λ (w : Val). Is R r (w ∷ [])) p is)))))))
