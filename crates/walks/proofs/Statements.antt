-- Statements over whole locals: what an operand reads, and where a value is put. Assumes nothing.
use Prim.Native.Nat.{ℕ, zero, ◌+◌}
use mathlib.Core.List.{List, [], ◌∷◌}
use mathlib.Core.Option.{some}
use mathlib.Core.Path.{◌≡◌}
use seplogic.Ra.Ura.{Ura}
use base.Fraction.{full_share}
use lib.Dec.{T}
use mir.Syntax.{Ty, Rv as RValue, Body, place, field as fieldStep, copy, seq, assign}
use mir.Val.{Val, WT, has_ty}
use base.Fml.{Share, fat, froom}
use prog.Memory.{field_of}
use prog.Wp.{Env, Calls, Loops, spot_of}
use types.Logic.{Logic}
use types.Kit.{Item, ‵, nth, put, Post, runs, lands, Step}
use types.Part.{Part, look_in}
use types.Run.{Opd, Rv, look, init, stop, fld, from, load, assigns, land}

module _ {M : Type 1} {𝓤 : Ura M} {𝓛 : Logic 𝓤} {K : Type 0} {Γ : List (Item 𝓤)} {E : Env 𝓤 𝓛.H} {i : ℕ} where
  -- A local's value, whose cell is entry n.
  open 𝓛 use {H}

  pub whole_of : K → (n : ℕ) {q : Share} {v : Val} → nth 𝓛 n Γ ≡ ‵ (fat q (spot_of 𝓤 H E i).0 (spot_of 𝓤 H E i).1 zero v) → Opd K 𝓛 Γ E (copy (place i [])) v
  whole_of t n e = load t (from t (stop t)) (look t n e)

  -- A field of it.
  pub field_of_lem : K → (n : ℕ) {k : ℕ} {q : Share} {τ : Ty} {d : ℕ} {v : Val} {back : Val → Item 𝓤} → field_of (spot_of 𝓤 H E i).0 k ≡ some (τ, d) → Part K 𝓛 (nth 𝓛 n Γ) q τ (spot_of 𝓤 H E i).1 (zero + d) v back → Opd K 𝓛 Γ E (copy (place i (fieldStep k ∷ []))) v
  field_of_lem t n e p = load t (from t (fld t e (stop t))) (look_in t n p)

  module _ {C : Calls 𝓤 H} {Λ : Loops 𝓤 H} {q : Post 𝓤 H} {rest : Body} where
    -- A value is put into a local, for which entry n is room.
    pub puts : K → {rv : RValue} {v : Val} → Rv K 𝓛 Γ E rv v → (n : ℕ) → nth 𝓛 n Γ ≡ ‵ (froom (spot_of 𝓤 H E i).0 (spot_of 𝓤 H E i).1 zero) → T (has_ty (spot_of 𝓤 H E i).0 v) × WT v
        → Step K 𝓛 (put 𝓛 n (‵ (fat full_share (spot_of 𝓤 H E i).0 (spot_of 𝓤 H E i).1 zero v)) Γ) (runs C Λ E rest q) Γ (runs C Λ E (seq (assign (place i []) rv) rest) q)
    puts t r n e wt = assigns t r (from t (stop t)) (init t n e wt)

    -- So is what a call returned.
    pub lands_in : K → {v : Val} (n : ℕ) → nth 𝓛 n Γ ≡ ‵ (froom (spot_of 𝓤 H E i).0 (spot_of 𝓤 H E i).1 zero) → T (has_ty (spot_of 𝓤 H E i).0 v) × WT v
        → Step K 𝓛 (put 𝓛 n (‵ (fat full_share (spot_of 𝓤 H E i).0 (spot_of 𝓤 H E i).1 zero v)) Γ) (runs C Λ E rest q) Γ (lands C Λ E (place i []) v rest q)
    lands_in t n e wt = land t (from t (stop t)) (init t n e wt)
