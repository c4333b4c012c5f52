-- The locals of a function: all are made and its arguments stored as it is entered, and all are freed as it returns. Assumes nothing.
use Prim.Native.Nat.{ℕ, zero, suc}
use mathlib.Core.List.{List, [], ◌∷◌, ◌++◌}
use mathlib.Core.Option.{Option, some, none}
use mathlib.Core.Path.{◌≡◌, subst}
use seplogic.Ra.Ura.{Ura}
use base.Fraction.{full_share}
use lib.Dec.{T}
use mir.Syntax.{Ty, Local, local, Fn}
use mir.Val.{Val, WT, has_ty}
use base.Logic.{SProp, ent, sep, wand, via, id⊢, comm∗, assoc∗, assoc', mono_l, mono_r, wand_i, guard_i}
use base.Fml.{fat, froom, fdies}
use prog.Wp.{Env, Calls, Loops, WpFn, pass, release}
use types.Logic.{Logic}
use types.Kit.{Item, ‵, mean, ⋆, push, pop, ++⊢, ⊢++, Goal, prop, runs, allocs, params', frees, at_ret, aim, Seq, Step, step, ◌$◌}
use types.Run.{enter, alloc1, alloc0}

-- A block for each local.
abbrev pub Blocks : List Local → Type 0
Blocks [] = Unit {0}
Blocks (l ∷ ls) = ℕ × Blocks ls

-- Each argument has the type of its local.
abbrev Typed : List Local → List Val → Type 0
Typed ls [] = Unit {0}
Typed [] (v ∷ vs) = ⊥
Typed (local τ h ∷ ls) (v ∷ vs) = (T (has_ty τ v) × WT v) × Typed ls vs

-- The arguments are stored in the locals after the result's.
abbrev pub ArgsTyped : List Local → List Val → Type 0
ArgsTyped [] vs = ⊥
ArgsTyped (l ∷ ls) vs = Typed ls vs

-- What the first of the locals holds, and what the others hold.
abbrev hd : List (Option Val) → Option Val
hd [] = none
hd (v ∷ vs) = v

abbrev tl : List (Option Val) → List (Option Val)
tl [] = []
tl (v ∷ vs) = vs

-- Each holds a value.
abbrev all : List Val → List (Option Val)
all [] = []
all (v ∷ vs) = some v ∷ all vs

module _ {M : Type 1} {𝓤 : Ura M} (𝓛 : Logic 𝓤) where
  -- The locals with their types and blocks.
  open 𝓛 use {H}

  abbrev pub env_of : (ls : List Local) → Blocks ls → Env 𝓤 H
  env_of [] bs = []
  env_of (local τ h ∷ ls) bs = (τ, bs.0) ∷ env_of ls bs.1

  -- A local's cell, by what it holds, if anything.
  abbrev pub cell : Ty × ℕ → Option Val → Item 𝓤
  cell e (some v) = ‵ (fat full_share e.0 e.1 zero v)
  cell e none = ‵ (froom e.0 e.1 zero)

  -- The cells of the locals in front of the rest, the last local first, each with the right to free it.
  abbrev pub cells : Env 𝓤 H → List (Option Val) → List (Item 𝓤) → List (Item 𝓤)
  cells [] vs Γ = Γ
  cells (e ∷ E) vs Γ = cells E (tl vs) (cell e (hd vs) ∷ ‵ (fdies e.0 e.1) ∷ Γ)

  -- The first n entries.
  abbrev front : ℕ → List (Item 𝓤) → List (Item 𝓤)
  front zero Γ = []
  front (suc n) [] = []
  front (suc n) (i ∷ Γ) = i ∷ front n Γ

  -- An entry set before the n-th.
  abbrev pub seated : ℕ → Item 𝓤 → List (Item 𝓤) → List (Item 𝓤)
  seated zero i Γ = i ∷ Γ
  seated (suc n) i [] = i ∷ []
  seated (suc n) i (j ∷ Γ) = j ∷ seated n i Γ

  swapped : (P Q R : SProp 𝓤) → ent 𝓤 (sep 𝓤 P (sep 𝓤 Q R)) (sep 𝓤 Q (sep 𝓤 P R))
  swapped P Q R = via 𝓤 _ (assoc' 𝓤 P Q R) (via 𝓤 _ (mono_l 𝓤 R (comm∗ 𝓤 P Q)) (assoc∗ 𝓤 Q P R))

  seat : (n : ℕ) (i : Item 𝓤) (Γ : List (Item 𝓤)) → ent 𝓤 (sep 𝓤 (mean 𝓛 i) (⋆ 𝓛 Γ)) (⋆ 𝓛 (seated n i Γ))
  seat zero i Γ = push 𝓛 i Γ
  seat (suc n) i [] = push 𝓛 i []
  seat (suc n) i (j ∷ Γ) =
      via 𝓤 _ (mono_r 𝓤 (mean 𝓛 i) (pop 𝓛 j Γ)) (via 𝓤 _ (swapped (mean 𝓛 i) (mean 𝓛 j) (⋆ 𝓛 Γ)) (via 𝓤 _ (mono_r 𝓤 (mean 𝓛 j) (seat n i Γ)) (push 𝓛 j (seated n i Γ))))

  -- The cells of the locals, and the rest.
  record Apart (E : Env 𝓤 H) (vs : List (Option Val)) (Γ : List (Item 𝓤)) : Type 1 where
    parted : ent 𝓤 (⋆ 𝓛 (cells E vs Γ)) (sep 𝓤 (⋆ 𝓛 (cells E vs [])) (⋆ 𝓛 Γ))
    joined : ent 𝓤 (sep 𝓤 (⋆ 𝓛 (cells E vs [])) (⋆ 𝓛 Γ)) (⋆ 𝓛 (cells E vs Γ))

  apart : (E : Env 𝓤 H) (vs : List (Option Val)) (Γ : List (Item 𝓤)) → Apart E vs Γ
  apart [] vs Γ = record { parted = ⊢++ 𝓛 [] Γ; joined = ++⊢ 𝓛 [] Γ }
  apart (e ∷ E) vs Γ =
      let Δ : List (Item 𝓤) = cell e (hd vs) ∷ ‵ (fdies e.0 e.1) ∷ [] in
      let C : SProp 𝓤 = ⋆ 𝓛 (cells E (tl vs) []) in
      record {
        parted =
            via 𝓤 _ (apart E (tl vs) (Δ ++ Γ)).parted
            (via 𝓤 _ (mono_r 𝓤 C (⊢++ 𝓛 Δ Γ)) (via 𝓤 _ (assoc' 𝓤 C (⋆ 𝓛 Δ) (⋆ 𝓛 Γ)) (mono_l 𝓤 (⋆ 𝓛 Γ) (apart E (tl vs) Δ).joined)));
        joined =
            via 𝓤 _ (mono_l 𝓤 (⋆ 𝓛 Γ) (apart E (tl vs) Δ).parted)
            (via 𝓤 _ (assoc∗ 𝓤 C (⋆ 𝓛 Δ) (⋆ 𝓛 Γ)) (via 𝓤 _ (mono_r 𝓤 C (++⊢ 𝓛 Δ Γ)) (apart E (tl vs) (Δ ++ Γ)).joined));
      }

  -- An entry behind the cells, taken out and put in.
  out : (E : Env 𝓤 H) (vs : List (Option Val)) (i : Item 𝓤) (Γ : List (Item 𝓤)) → ent 𝓤 (⋆ 𝓛 (cells E vs (i ∷ Γ))) (sep 𝓤 (mean 𝓛 i) (⋆ 𝓛 (cells E vs Γ)))
  out E vs i Γ =
      let C : SProp 𝓤 = ⋆ 𝓛 (cells E vs []) in
      via 𝓤 _ (apart E vs (i ∷ Γ)).parted (via 𝓤 _ (mono_r 𝓤 C (pop 𝓛 i Γ)) (via 𝓤 _ (swapped C (mean 𝓛 i) (⋆ 𝓛 Γ)) (mono_r 𝓤 (mean 𝓛 i) (apart E vs Γ).joined)))

  back : (E : Env 𝓤 H) (vs : List (Option Val)) (i : Item 𝓤) (Γ : List (Item 𝓤)) → ent 𝓤 (sep 𝓤 (mean 𝓛 i) (⋆ 𝓛 (cells E vs Γ))) (⋆ 𝓛 (cells E vs (i ∷ Γ)))
  back E vs i Γ =
      let C : SProp 𝓤 = ⋆ 𝓛 (cells E vs []) in
      via 𝓤 _ (mono_r 𝓤 (mean 𝓛 i) (apart E vs Γ).parted) (via 𝓤 _ (swapped (mean 𝓛 i) C (⋆ 𝓛 Γ)) (via 𝓤 _ (mono_r 𝓤 C (push 𝓛 i Γ)) (apart E vs (i ∷ Γ)).joined))

  -- The arguments are stored.
  passed : (ls : List Local) (bs : Blocks ls) (vs : List Val) (Γ : List (Item 𝓤)) (P : SProp 𝓤) → Typed ls vs → ent 𝓤 (⋆ 𝓛 (cells (env_of ls bs) (all vs) Γ)) P
      → ent 𝓤 (⋆ 𝓛 (cells (env_of ls bs) [] Γ)) (pass 𝓤 H (env_of ls bs) vs P)
  passed ls bs [] Γ P wt k = k
  passed [] bs (v ∷ vs) Γ P wt k = absurd wt
  passed (local τ h ∷ ls) bs (v ∷ vs) Γ P wt k =
      let E : Env 𝓤 H = env_of ls bs.1 in
      let b : ℕ = bs.0 in
      let Γ' : List (Item 𝓤) = ‵ (fdies τ b) ∷ Γ in
      let R : SProp 𝓤 = ⋆ 𝓛 (cells E [] Γ') in
      let Q : SProp 𝓤 = H.at full_share τ b zero v in
      via 𝓤 _ (out E [] (‵ (froom τ b zero)) Γ')
      (via 𝓤 _ (mono_r 𝓤 (H.room τ b zero) (wand_i 𝓤 R Q (pass 𝓤 H E vs P)
      (via 𝓤 (sep 𝓤 Q R) (comm∗ 𝓤 R Q) (via 𝓤 _ (back E [] (‵ (fat full_share τ b zero v)) Γ') (passed ls bs.1 vs (‵ (fat full_share τ b zero v) ∷ Γ') P wt.1 k)))))
      (guard_i 𝓤 (T (has_ty τ v) × WT v) (sep 𝓤 (H.room τ b zero) (wand 𝓤 Q (pass 𝓤 H E vs P))) wt.0))

  release_out : (E : Env 𝓤 H) (P Q : SProp 𝓤) → ent 𝓤 (release 𝓤 H E (sep 𝓤 P Q)) (sep 𝓤 P (release 𝓤 H E Q))
  release_out [] P Q = id⊢ 𝓤 (sep 𝓤 P Q)
  release_out (e ∷ E) P Q =
      let F : SProp 𝓤 = sep 𝓤 (H.room e.0 e.1 zero) (H.dies e.0 e.1) in
      via 𝓤 _ (mono_r 𝓤 F (release_out E P Q)) (swapped F P (release 𝓤 H E Q))

  module _ where
    -- A cell is room, whatever it holds.
    as_room : (e : Ty × ℕ) (v : Option Val) → ent 𝓤 (mean 𝓛 (cell e v)) (H.room e.0 e.1 zero)
    as_room e (some v) = 𝓛.laws.at_room e.0 e.1 zero v
    as_room e none = id⊢ 𝓤 (H.room e.0 e.1 zero)

    -- The locals are freed from behind the entries Δ.
    released : (E : Env 𝓤 H) (vs : List (Option Val)) (Δ Γ : List (Item 𝓤)) (P : SProp 𝓤) → ent 𝓤 (⋆ 𝓛 (Δ ++ Γ)) P → ent 𝓤 (⋆ 𝓛 (Δ ++ cells E vs Γ)) (release 𝓤 H E P)
    released [] vs Δ Γ P k = k
    released (e ∷ E) vs Δ Γ P k =
        let c : Item 𝓤 = cell e (hd vs) in
        let d : Item 𝓤 = ‵ (fdies e.0 e.1) in
        let F : SProp 𝓤 = sep 𝓤 (H.room e.0 e.1 zero) (H.dies e.0 e.1) in
        via 𝓤 _ (released E (tl vs) Δ (c ∷ d ∷ Γ) (sep 𝓤 F P)
        (via 𝓤 _ (⊢++ 𝓛 Δ (c ∷ d ∷ Γ))
        (via 𝓤 _ (mono_r 𝓤 (⋆ 𝓛 Δ) (via 𝓤 _ (⊢++ 𝓛 (c ∷ d ∷ []) Γ) (mono_l 𝓤 (⋆ 𝓛 Γ) (mono_l 𝓤 (H.dies e.0 e.1) (as_room e (hd vs))))))
        (via 𝓤 _ (swapped (⋆ 𝓛 Δ) F (⋆ 𝓛 Γ)) (mono_r 𝓤 F (via 𝓤 _ (++⊢ 𝓛 Δ Γ) k))))))
        (release_out E F P)

module _ {M : Type 1} {𝓤 : Ura M} {𝓛 : Logic 𝓤} {K : Type 0} where
  open 𝓛 use {H}

  made : K → (ls : List Local) {Γ : List (Item 𝓤)} (G : Env 𝓤 H → Goal 𝓤 H) → ((bs : Blocks ls) → Seq K 𝓛 (cells 𝓛 (env_of 𝓛 ls bs) [] Γ) (G (env_of 𝓛 ls bs))) → Seq K 𝓛 Γ (allocs ls G)
  made t [] G k = alloc0 t $ k tt
  made t (local τ h ∷ ls) G k = alloc1 t (λ b. made t ls (λ E. G ((τ, b) ∷ E)) (λ bs. k (b, bs)))

  stored : K → (Γ : List (Item 𝓤)) (ls : List Local) (bs : Blocks ls) (vs : List Val) (g : Goal 𝓤 H) → ArgsTyped ls vs → Seq K 𝓛 (cells 𝓛 (env_of 𝓛 ls bs) (none ∷ all vs) Γ) g
      → Seq K 𝓛 (cells 𝓛 (env_of 𝓛 ls bs) [] Γ) (params' (env_of 𝓛 ls bs) vs g)
  stored t Γ [] bs vs g wt k = absurd wt
  stored t Γ (local τ h ∷ ls) bs vs g wt k = record { prf = passed 𝓛 ls bs.1 vs (‵ (froom τ bs.0 zero) ∷ ‵ (fdies τ bs.0) ∷ Γ) (aim 𝓤 H g) wt k.prf }

  -- A function is entered: its locals are made, and its arguments, which have their types, are stored.
  pub enters : K → {Γ : List (Item 𝓤)} (C : Calls 𝓤 H) (Λ : Loops 𝓤 H) (f : Fn) (vs : List Val) (P : Val → SProp 𝓤) → ArgsTyped f.locals vs
      → ((bs : Blocks f.locals) → Seq K 𝓛 (cells 𝓛 (env_of 𝓛 f.locals bs) (none ∷ all vs) Γ) (runs C Λ (env_of 𝓛 f.locals bs) f.body (at_ret (env_of 𝓛 f.locals bs) P)))
      → Seq K 𝓛 Γ (prop (WpFn 𝓤 H C Λ f vs P))
  enters t {Γ} C Λ f vs P wt k =
      enter t C Λ f vs P $ made t f.locals (λ E. params' E vs (runs C Λ E f.body (at_ret E P))) (λ bs. stored t Γ f.locals bs vs (runs C Λ (env_of 𝓛 f.locals bs) f.body (at_ret (env_of 𝓛 f.locals bs) P)) wt (k bs))

  -- A function returns: the locals, whose cells stand after the first n entries and hold these values, are freed.
  pub leaves : K → (n : ℕ) {E : Env 𝓤 H} {g : Goal 𝓤 H} {Γ : List (Item 𝓤)} (vs : List Val) (Δ : List (Item 𝓤)) → front 𝓛 n Γ ++ cells 𝓛 E (all vs) Δ ≡ Γ → Step K 𝓛 (front 𝓛 n Γ ++ Δ) g Γ (frees E g)
  leaves t n {E} {g} {Γ} vs Δ e = step (λ s. subst (λ (Γ' : List (Item 𝓤)). Seq K 𝓛 Γ' (frees E g)) e (record { prf = released 𝓛 E (all vs) (front 𝓛 n Γ) Δ (aim 𝓤 H g) s.prf }))

  -- The head is set in its place among the rest, as a cell that was lent is once it is back.
  pub seats : K → (n : ℕ) {i : Item 𝓤} {Γ : List (Item 𝓤)} {g : Goal 𝓤 H} → Step K 𝓛 (seated 𝓛 n i Γ) g (i ∷ Γ) g
  seats t n {i} {Γ} {g} = step (λ s. record { prf = via 𝓤 (sep 𝓤 (mean 𝓛 i) (⋆ 𝓛 Γ)) (pop 𝓛 i Γ) (via 𝓤 (⋆ 𝓛 (seated 𝓛 n i Γ)) (seat 𝓛 n i Γ) s.prf) })
