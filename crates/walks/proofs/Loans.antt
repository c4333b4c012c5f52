-- A local struct is lent by `&mut` for a call, for a lifetime that the walk makes, and is back at what the call left in it. Assumes nothing.
use Prim.Native.Nat.{ℕ}
use mathlib.Core.List.{List, [], ◌∷◌}
use mathlib.Core.Path.{refl, sym}
use seplogic.Ra.Ura.{Ura}
use base.Fraction.{full_share, left, right}
use mir.Raw.{raw as raw_ty}
use mir.Syntax.{Ty, Lifetime}
use mir.Val.{Val}
use base.Fml.{Fml, GName, Lft, Share, fat, fsep, flft, fdead, fres, flent}
use base.Logic.{wand, apply∗}
use types.Logic.{Logic}
use contract.BorrowLft.{meet_⊑_left}
use types.Kit.{Item, ‵, raw, ◌⊛◌, some, later, Goal, Soaks, Seq, Step, step, ◌$◌, move, use1, use2, use3, rewrite, split, pick, await, fsplit, fjoin, fpick, fpack}
use types.SemTy.{Body}
use types.Tokens.{lft_new, lft_end}
use denote.Laws.{Is, shows}
use denote.Lend.{lends_ref, ref_back}
use denote.Memory.{mem, cell_at, part_of}
use denote.Ref.{MutBor}
use denote.Steps.{peeks}
use denote.Struct.Declared.{Declared, row}
use denote.Struct.Laws as LL
use denote.Struct.Steps.{spelt}
use Rattle.walks.proofs.Lent.{Cell, Owned, Lent, Lies}

-- The loan of the struct behind x for κ.
abbrev pub Loan : (D : Declared) → Lft → MutBor D.D → Fml
Loan D κ x = flent κ (Body (mem (row D)) x.ref_ptr.0 x.ref_ptr.1 x.ghost_name)

-- What the share that was handed out of the token of ν is given back for.
abbrev pub Rest : {M : Type 1} {𝓤 : Ura M} (𝓛 : Logic 𝓤) → ℕ → Share → Item 𝓤
Rest {𝓤 = 𝓤} 𝓛 ν q = raw (wand 𝓤 (𝓛.A.lft (ν ∷ []) (left q)) (𝓛.A.lft (ν ∷ []) full_share))

module _ {M : Type 1} {𝓤 : Ura M} {𝓛 : Logic 𝓤} {K : Type 0} {Γ : List (Item 𝓤)} {G : Goal 𝓤 𝓛.H} where
  -- A lifetime is made within κ, with a token of it and of κ.
  open 𝓛 use {A}

  pub within : K → Soaks G → {κ : Lft} {q : Share} → ((ν : ℕ) → Seq K 𝓛 (‵ (flft (ν ∷ κ) (left q)) ∷ ‵ (flft κ (right q)) ∷ Rest 𝓛 ν q ∷ Γ) G) → Seq K 𝓛 (‵ (flft κ q) ∷ Γ) G
  within t z {κ} {q} k = lft_new t z (λ ν.
      use1 𝓛 (‵ (flft (ν ∷ []) (left q)) ⊛ Rest 𝓛 ν q) (𝓛.lfts.lft_carve ν (left q)) $ split t $ move t (2 ∷ []) $
      use1 𝓛 (‵ (flft κ (left q)) ⊛ ‵ (flft κ (right q))) (𝓛.lfts.lft_split κ q) $ split t $ move t (2 ∷ 0 ∷ []) $
      use2 𝓛 (‵ (flft (ν ∷ κ) (left q))) (𝓛.lfts.lft_meet (ν ∷ []) κ (left q)) $ k ν)

  -- It is over, and the token of κ is whole again.
  pub over : K → Soaks G → (ν : ℕ) (κ : Lft) (q : Share) → Step K 𝓛 (‵ (fdead (ν ∷ κ)) ∷ ‵ (flft κ q) ∷ Γ) G (‵ (flft (ν ∷ κ) (left q)) ∷ ‵ (flft κ (right q)) ∷ Rest 𝓛 ν q ∷ Γ) G
  over t z ν κ q = step (λ s.
      use1 𝓛 (‵ (flft (ν ∷ []) (left q)) ⊛ ‵ (flft κ (left q))) (𝓛.lfts.lft_unmeet (ν ∷ []) κ (left q)) $ split t $ move t (1 ∷ 2 ∷ []) $
      use2 𝓛 (‵ (flft κ q)) (𝓛.lfts.lft_join κ q) $ move t (1 ∷ 2 ∷ []) $
      use2 𝓛 (‵ (flft (ν ∷ []) full_share)) (apply∗ 𝓤 (A.lft (ν ∷ []) (left q)) (A.lft (ν ∷ []) full_share)) $ lft_end t z $
      use1 𝓛 (‵ (fdead (ν ∷ κ))) (𝓛.lfts.dead-incl (ν ∷ κ) (ν ∷ []) (meet_⊑_left (ν ∷ []) κ)) $ s)

  -- The struct is lent for κ.
  pub lends : K → Soaks G → (D : Declared) (L : LL.Laws D) (τ : Ty) → Lies D L τ → (ℓ : Lifetime) (κ : Lft) (h : D.D) (b o : ℕ)
      → ((γ : GName) → Seq K 𝓛 (‵ (Lent D L ℓ κ (record { ref_ptr = (b, o); ghost_name = γ; now = h })) ∷ ‵ (Loan D κ (record { ref_ptr = (b, o); ghost_name = γ; now = h })) ∷ Γ) G)
      → Seq K 𝓛 (‵ (fat full_share τ b o (LL.val D L h)) ∷ ‵ (Owned D L h) ∷ Γ) G
  unfolding part_of
  lends t z D L τ lies ℓ κ h b o k =
      use1 𝓛 (‵ (fat full_share (raw_ty τ) b o (LL.val D L h))) (𝓛.laws.at_raw full_share τ b o (LL.val D L h)) $ rewrite t 0 (λ (F : Fml). ‵ F) (sym (lies (LL.val D L h) b o)) refl $
      fjoin t $ fpack t (List Val) (λ us. fsep (cell_at full_share (row D).mir us b o) ((row D).own_val h us)) (LL.vals D L h) $
      use1 𝓛 (later (some (λ (γ : GName). ‵ (Lent D L ℓ κ (record { ref_ptr = (b, o); ghost_name = γ; now = h })) ⊛ ‵ (Loan D κ (record { ref_ptr = (b, o); ghost_name = γ; now = h }))))) (lends_ref 𝓛 (row D) ℓ κ h b o) $ await t z $ pick t (λ γ. split t $ k γ)

  -- The lifetime is over, and the struct is back at its last value.
  pub is_back : K → Soaks G → (D : Declared) (L : LL.Laws D) (τ : Ty) → Lies D L τ → (κ : Lft) (x : MutBor D.D) (h : D.D)
      → (Is (row D) h (LL.vals D L h) → Seq K 𝓛 (‵ (Cell D L τ x h) ∷ ‵ (Owned D L h) ∷ Γ) G)
      → Seq K 𝓛 (‵ (fdead κ) ∷ ‵ (Loan D κ x) ∷ ‵ (fres x.ghost_name ((row D).coded.code h)) ∷ Γ) G
  unfolding part_of
  is_back t z D L τ lies κ x h k =
      let b : ℕ = x.ref_ptr.0 in
      let o : ℕ = x.ref_ptr.1 in
      use3 𝓛 (later (‵ ((mem (row D)).own_at h b o))) (ref_back 𝓛 (row D) κ x.ghost_name h b o) $ await t z $ fpick t (λ vs. fsplit t $
      spelt t (row D) (Is (row D)) (shows 𝓛 (row D)) (LL.vals D L) (LL.tells D L) full_share h vs b o $
      rewrite t 0 (λ (F : Fml). ‵ F) (lies (LL.val D L h) b o) refl $ use1 𝓛 (‵ (Cell D L τ x h)) (𝓛.laws.raw_at full_share τ b o (LL.val D L h)) $
      move t (1 ∷ []) $ peeks t (row D) (Is (row D)) (shows 𝓛 (row D)) h (LL.vals D L h) (λ is. move t (1 ∷ 0 ∷ []) $ k is))
