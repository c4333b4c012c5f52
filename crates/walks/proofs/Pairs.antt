-- A struct of two fields in a local: each field is read whatever the types of the two are. Assumes `Logic`.
use Prim.Native.Nat.{ℕ, zero, ◌+◌}
use mathlib.Core.List.{List, [], ◌∷◌}
use mathlib.Core.Option.{some}
use mathlib.Core.Path.{◌≡◌, refl, sym, ◌∙◌, ap, subst}
use seplogic.Ra.Ura.{Ura}
use base.Fraction.{full_share}
use mir.Syntax.{Sym, Ty, ty_struct, tnil, tcons, place, field as fieldStep, copy}
use mir.Val.{Val, vstruct, vnil, vcons}
use mir.Fields.{get_v, set_v}
use base.Fml.{fat}
use prog.Memory.{up, align, size, field_at, field_of}
use prog.Wp.{Env, spot_of}
use types.Logic.{Logic}
use types.Kit.{Item, ‵, nth}
use types.Part.{Part, sub, whole}
use types.Run.{Opd}
use Rattle.walks.proofs.Statements.{field_of_lem}

-- The type of such a struct, and its value.
abbrev pub pair_ty : Sym → Ty → Ty → Ty
pair_ty ν σ τ = ty_struct ν (tcons σ (tcons τ tnil))

abbrev pub pair_val : Val → Val → Val
pair_val u v = vstruct (vcons u (vcons v vnil))

module _ {M : Type 1} {𝓤 : Ura M} {𝓛 : Logic 𝓤} {K : Type 0} {Γ : List (Item 𝓤)} {E : Env 𝓤 𝓛.H} {i : ℕ} where
  open 𝓛 use {H}

  module _ (t : K) (n : ℕ) (σ τ : Ty) (u v : Val) {ν : Sym} (lies : (spot_of 𝓤 H E i).0 ≡ pair_ty ν σ τ) (holds : nth 𝓛 n Γ ≡ ‵ (fat full_share (pair_ty ν σ τ) (spot_of 𝓤 H E i).1 zero (pair_val u v))) where
    -- A field of the pair, whose cell is entry n.
    at_field : (k : ℕ) (ρ : Ty) (d : ℕ) → field_at zero (tcons σ (tcons τ tnil)) k ≡ some (ρ, d) → Opd K 𝓛 Γ E (copy (place i (fieldStep k ∷ []))) (get_v (vcons u (vcons v vnil)) k)
    at_field k ρ d e =
        field_of_lem t n (ap (λ (s : Ty). field_of s k) lies ∙ e)
        (subst (λ (c : Item 𝓤). Part K 𝓛 c full_share ρ (spot_of 𝓤 H E i).1 (zero + d) (get_v (vcons u (vcons v vnil)) k) (λ w. ‵ (fat full_share (pair_ty ν σ τ) (spot_of 𝓤 H E i).1 zero (vstruct (set_v (vcons u (vcons v vnil)) k w)))))
        (sym holds) (sub t k e (whole t)))

    pub first_of : Opd K 𝓛 Γ E (copy (place i (fieldStep 0 ∷ []))) u
    first_of = at_field 0 σ (up (align σ) zero) refl

    pub second_of : Opd K 𝓛 Γ E (copy (place i (fieldStep 1 ∷ []))) v
    second_of = at_field 1 τ (up (align τ) (up (align σ) zero + size σ)) refl
