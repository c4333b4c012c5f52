-- A struct behind a `&mut`: opened, so that the walk reads and writes its cell, and closed at what the cell then holds. Assumes nothing.
use Prim.Native.Nat.{ℕ}
use mathlib.Core.List.{List, [], ◌∷◌}
use mathlib.Core.Path.{◌≡◌, refl, sym}
use seplogic.Ra.Ura.{Ura}
use base.Fraction.{full_share}
use mir.Raw.{raw as raw_ty}
use mir.Syntax.{Ty, Lifetime}
use mir.Val.{Val, vptr}
use base.Fml.{Fml, Lft, Share, fat, flft, fobs, fauth, fobor}
use base.Stored.{Gv}
use types.Logic.{Logic}
use types.Kit.{Item, ‵, Goal, Soaks, Seq, Step, step, ◌$◌, move, drop, use1, rewrite, fsplit3, fjoin3, feq_i}
use types.SemTy.{Body}
use denote.Laws.{Is, shows}
use denote.Memory.{mem, cell_at}
use denote.Ref.{MutBor, MutRef, at_last}
use denote.Steps.{opens, closes, peeks}
use denote.Struct.Declared.{Declared, row}
use denote.Struct.Laws as LL
use denote.Struct.Steps.{spelt}

module _ (D : Declared) (L : LL.Laws D) where
  -- The cell behind the reference x, of the type τ, holds the struct h.
  abbrev pub Cell : Ty → MutBor D.D → D.D → Fml
  Cell τ x h = fat full_share τ x.ref_ptr.0 x.ref_ptr.1 (LL.val D L h)

  abbrev pub Owned : D.D → Fml
  Owned h = (row D).own_val h (LL.vals D L h)

  abbrev pub Lent : Lifetime → Lft → MutBor D.D → Fml
  Lent ℓ κ x = (MutRef ℓ κ (row D)).own_val x (vptr x.ref_ptr.0 x.ref_ptr.1 ∷ [])

  -- What lies in memory is the cell of the type τ, whose lifetimes memory does not have.
  abbrev pub Lies : Ty → Type 1
  Lies τ = (v : Val) (b o : ℕ) → cell_at full_share (row D).mir (v ∷ []) b o ≡ fat full_share (raw_ty τ) b o v

  abbrev pub Opened : Lft → Share → MutBor D.D → Fml
  Opened κ q x = fobor κ q (Body (mem (row D)) x.ref_ptr.0 x.ref_ptr.1 x.ghost_name)

module _ {M : Type 1} {𝓤 : Ura M} {𝓛 : Logic 𝓤} {K : Type 0} {Γ : List (Item 𝓤)} {G : Goal 𝓤 𝓛.H} where
  -- The reference is opened: the cell, what the struct owns, and the open borrow.
  pub borrowed : K → Soaks G → (D : Declared) (L : LL.Laws D) (τ : Ty) → Lies D L τ → (ℓ : Lifetime) {κ : Lft} {q : Share} (x : MutBor D.D)
      → (Is (row D) x.now (LL.vals D L x.now)
      → Seq K 𝓛 (‵ (Cell D L τ x x.now) ∷ ‵ (Owned D L x.now) ∷ ‵ (Opened D L κ q x) ∷ ‵ (fobs x.ghost_name ((row D).coded.code x.now)) ∷ ‵ (fauth x.ghost_name ((row D).coded.code x.now)) ∷ Γ) G)
      → Seq K 𝓛 (‵ (Lent D L ℓ κ x) ∷ ‵ (flft κ q) ∷ Γ) G
  borrowed t z D L τ lies ℓ x k =
      let b : ℕ = x.ref_ptr.0 in
      let o : ℕ = x.ref_ptr.1 in
      fsplit3 t $ drop t $ opens t z (row D) {h = x.now} b o (λ vs. spelt t (row D) (Is (row D)) (shows 𝓛 (row D)) (LL.vals D L) (LL.tells D L) full_share x.now vs b o $
      rewrite t 0 (λ (F : Fml). ‵ F) (lies (LL.val D L x.now) b o) refl $ use1 𝓛 (‵ (Cell D L τ x x.now)) (𝓛.laws.raw_at full_share τ b o (LL.val D L x.now)) $
      move t (1 ∷ []) $ peeks t (row D) (Is (row D)) (shows 𝓛 (row D)) x.now (LL.vals D L x.now) (λ is. move t (1 ∷ 0 ∷ []) $ k is))

  -- It is closed: the reference again, at the struct that the cell holds.
  pub given_back : K → Soaks G → (D : Declared) (L : LL.Laws D) (τ : Ty) → Lies D L τ → (ℓ : Lifetime) {κ : Lft} {q : Share} (x : MutBor D.D) (h : D.D) {u v : Gv}
      → Step K 𝓛 (‵ (Lent D L ℓ κ (at_last x h)) ∷ ‵ (flft κ q) ∷ Γ) G (‵ (Cell D L τ x h) ∷ ‵ (Owned D L h) ∷ ‵ (Opened D L κ q x) ∷ ‵ (fobs x.ghost_name u) ∷ ‵ (fauth x.ghost_name v) ∷ Γ) G
  given_back t z D L τ lies ℓ x h =
      let b : ℕ = x.ref_ptr.0 in
      let o : ℕ = x.ref_ptr.1 in
      step (λ s. use1 𝓛 (‵ (fat full_share (raw_ty τ) b o (LL.val D L h))) (𝓛.laws.at_raw full_share τ b o (LL.val D L h)) $ rewrite t 0 (λ (F : Fml). ‵ F) (sym (lies (LL.val D L h) b o)) refl $
      closes t z (row D) h (LL.vals D L h) b o $ feq_i t (List Val) (vptr b o ∷ []) (vptr b o ∷ []) refl $ fjoin3 t $ s)
