-- A walk of a function's code to what is had at its exit, taken to the function's contract. Assumes nothing.
use seplogic.Ra.Ura.{Ura}
use mathlib.Core.List.{List}
use mir.Syntax.{Fn}
use mir.Val.{Val}
use base.Logic.{ent, via, fst∗}
use prog.Wp.{Calls, Loops, WpFn, Closed}
use prog.Model.{Model}
use prog.Routine.{Callee, Env}
use sound.Laws.{of_model}
use sound.WpLaws.{FmC, fm_of, WpFn-mono}
use types.Logic.{Logic}
use types.Kit.{Item, prop, Step, suffices}
use contract.Lifetimes.{Lfts, Shares, AllOutlive}
use contract.Running.{Running, tables, tables_of}
use denote.RattleType.{flat}
use denote.Laws.{Are, Ises, valss}
use denote.Signature.{types_at}
use denote.Triple.Entry.{Args, Vals, Res, on_entry}
use denote.Triple.Statement.{Triple}
use denote.Triple.Clauses.{Ended, Clauses, Lasts, closing}
use denote.Triple.Spec.{triple_of}
use denote.Triple.Table.{entered}
use denote.Triple.Walked.{Stays, walk_of, Walks, Fit, Ending, ends_at, walked, walk_Meets}
use Rattle.walks.proofs.Params.{Params, spelled, told, stays, go}

module _ {M : Type 1} {𝓤 : Ura M} (𝓛 : Logic 𝓤) (T : Ended) (c : Clauses 𝓤 T) (ps : Params T.signature.params T.kept) where
  open 𝓛 use {H}

  abbrev pub hs : Stays T.signature.params T.kept
  hs = stays T.signature.params T.kept ps

  -- The arguments as the machine has them.
  abbrev pub machine : (κs : Lfts T.signature.lifetimes) → Args T.signature κs → Vals T.signature κs
  machine κs a = valss (types_at T.signature.params κs) (spelled T.signature.params T.kept ps κs) a

  -- A walk of the code f: from what is had of the arguments as the function is entered to what is had at its exit.
  abbrev pub Walk : Calls 𝓤 H → Loops 𝓤 H → Fn → Type 1
  Walk C Λ f = (κs : Lfts T.signature.lifetimes) (qs : Shares T.signature.lifetimes) (bounds : AllOutlive T.signature.lifetimes T.signature.outlives κs) (a : Args T.signature κs) (g : (c κs a).ghost)
      → Are (types_at T.signature.params κs) (Ises (types_at T.signature.params κs)) a (machine κs a)
      → ent 𝓤 (on_entry 𝓛 T.signature κs qs a (machine κs a)) (WpFn 𝓤 H C Λ f (flat (types_at T.signature.params κs) (machine κs a)) ((walk_of 𝓛 T hs c).post ((κs, qs, bounds, a, machine κs a), g)))

  walks : (C : Calls 𝓤 H) (Λ : Loops 𝓤 H) (f : Fn) → Walk C Λ f → Walks 𝓛 T hs (WpFn 𝓤 H C Λ f) c
  walks C Λ f walk =
      walked 𝓛 T hs c (WpFn 𝓤 H C Λ f) (spelled T.signature.params T.kept ps) (told T.signature.params T.kept ps)
      (λ κs qs bounds a g are. via 𝓤 (on_entry 𝓛 T.signature κs qs a (machine κs a)) (fst∗ 𝓤 (on_entry 𝓛 T.signature κs qs a (machine κs a)) ((c κs a).requires g)) (walk κs qs bounds a g are))

-- A walk ends at a result and last values: the tokens, what is had of the parameters and the result are left to show, beside what the contract says.
module _ {M : Type 1} {𝓤 : Ura M} {𝓛 : Logic 𝓤} {K : Type 0} {Γ : List (Item 𝓤)} where
  pub ends : K → (T : Ended) (c : Clauses 𝓤 T) (ps : Params T.signature.params T.kept) (y : (walk_of 𝓛 T (hs 𝓛 T c ps) c).Ghost) (v : Val) (r : Res T.signature y.0.0) (ws : Lasts T y.0.0 y.0.3)
      → Fit T (hs 𝓛 T c ps) y.0.0 y.0.3 ws → Step K 𝓛 Γ (prop (Ending 𝓛 T (hs 𝓛 T c ps) c y v r ws)) Γ (prop ((walk_of 𝓛 T (hs 𝓛 T c ps) c).post y v))
  ends t T c ps y v r ws fits = suffices t _ (ends_at 𝓛 T (hs 𝓛 T c ps) c y v r ws fits)

module _ {M : Type 1} {𝓤 : Ura M} (𝓛 : Logic 𝓤) (𝓜 : Model 𝓤 𝓛.H) (𝓡 : Running 𝓤 𝓛.H 𝓜) where
  -- The function of the key k, whose code is f, meets its contract, where its walk does over what its calls mean.
  open 𝓛 use {H}

  pub proved : (T : Ended) (c : Clauses 𝓤 T) (ps : Params T.signature.params T.kept) (γ : Env) (k : Callee) (f : Fn) → Closed 𝓤 H (tables 𝓤 H 𝓜 𝓡 γ).C (tables 𝓤 H 𝓜 𝓡 γ).Λ k f
      → (FmC 𝓤 H (of_model 𝓤 H 𝓜) (tables 𝓤 H 𝓜 𝓡 γ).C → Walk 𝓛 T c ps (tables 𝓤 H 𝓜 𝓡 γ).C (tables 𝓤 H 𝓜 𝓡 γ).Λ f)
      → Triple 𝓤 ((tables 𝓤 H 𝓜 𝓡 γ).C k) (triple_of 𝓛 T.signature (closing 𝓛 T c))
  unfolding tables_of
  proved T c ps γ k f closed walk =
      let C : Calls 𝓤 H = (tables 𝓤 H 𝓜 𝓡 γ).C in
      let Λ : Loops 𝓤 H = (tables 𝓤 H 𝓜 𝓡 γ).Λ in
      entered 𝓤 H (triple_of 𝓛 T.signature (closing 𝓛 T c)) C Λ k f closed
      (walk_Meets 𝓛 T (hs 𝓛 T c ps) (go T.signature.params T.kept ps 𝓛) c (WpFn 𝓤 H C Λ f)
      (WpFn-mono 𝓤 H (of_model 𝓤 H 𝓜) (tables_of 𝓤 H 𝓜 (tables 𝓤 H 𝓜 𝓡 γ)) f)
      (walks 𝓛 T c ps C Λ f (walk (fm_of 𝓤 H (of_model 𝓤 H 𝓜) (tables_of 𝓤 H 𝓜 (tables 𝓤 H 𝓜 𝓡 γ))))))
