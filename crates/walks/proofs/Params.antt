-- What a walk needs of each parameter, by its kind: its machine values, and what is had of it at exit. Assumes nothing.
use Prim.Native.Nat.{ℕ}
use mathlib.Core.List.{List, [], ◌∷◌}
use mathlib.Core.Path.{◌≡◌, refl}
use seplogic.Ra.Ura.{Ura}
use mir.Syntax.{Width, named}
use mir.Val.{Val}
use base.Fml.{ftrue}
use types.Logic.{Logic}
use contract.Lifetimes.{Lfts}
use denote.Laws.{Is, Ises, Tells, Tellss, Spells}
use denote.Plain.{UInt, uint_vals, uint_Tells}
use denote.Ref.{mut_vals, mut_Tells}
use denote.RattleType.{RattleType}
use denote.Signature.{Slot, AllWithin, plain, mut_ref_to, mut_slice_of, shr_slice_of, meet_at, types_at}
use denote.Slice.{shr_slice_vals, mut_slice_vals, shr_slice_Tells, mut_slice_Tells}
use denote.Struct.Declared.{Declared, row}
use denote.Struct.Laws as LL
use denote.Triple.End.{Kepts}
use denote.Triple.Walked.{Stay, Stays, stay_none, stay_none_slice, stay_ref, gave_slice, Goes, AllGo, Goes-none, Goes-none_slice, Goes-ref, Goes-gave_slice}
use denote.Exit.{Kept, yes, Last, left}

pub record Param {n : ℕ} (s : Slot n) (k : Kept) : Type 2 where
  pub vals : (κs : Lfts n) → (s.row κs).Denot → List Val
  pub tells : (κs : Lfts n) → Tells (s.row κs) (Is (s.row κs)) (vals κs)
  pub stay : Stay s k
  pub goes : {M : Type 1} {𝓤 : Ura M} (𝓛 : Logic 𝓤) → Goes 𝓛 n s k stay

module _ (n : ℕ) where
  -- A number is as it was.
  abbrev pub number : (w : Width) → Param {n = n} (plain (λ _. UInt w)) yes
  number w = record {
    vals = λ κs. uint_vals w;
    tells = λ κs. uint_Tells w;
    stay = stay_none (λ _. UInt w) yes;
    goes = λ 𝓛. Goes-none 𝓛 n (λ _. UInt w) yes (λ κs x f. refl);
  }

  -- A `&[T]` is as it was.
  abbrev pub shared : (j : ℕ) (ok : AllWithin n (j ∷ [])) (R : RattleType) → Param {n = n} (shr_slice_of (j ∷ []) ok (plain (λ _. R))) yes
  shared j ok R = record {
    vals = λ κs. shr_slice_vals;
    tells = λ κs. shr_slice_Tells (named j) (meet_at n (j ∷ []) ok κs) R;
    stay = stay_none_slice (j ∷ []) ok (plain (λ _. R)) yes;
    goes = λ 𝓛. Goes-none_slice 𝓛 n (j ∷ []) ok (plain (λ _. R)) yes;
  }

  -- A `&mut [T]` is passed on for good: its last list is said.
  abbrev pub passed_on : (j : ℕ) (ok : AllWithin n (j ∷ [])) (R : RattleType) → Param {n = n} (mut_slice_of (j ∷ []) ok (plain (λ _. R))) yes
  passed_on j ok R = record {
    vals = λ κs. mut_slice_vals;
    tells = λ κs. mut_slice_Tells (named j) (meet_at n (j ∷ []) ok κs) R;
    stay = gave_slice (j ∷ []) ok (plain (λ _. R));
    goes = λ 𝓛. Goes-gave_slice 𝓛 n j ok (plain (λ _. R));
  }

  -- A `&mut T` is still held, at its last value.
  abbrev pub lent : (j : ℕ) (ok : AllWithin n (j ∷ [])) (F : Lfts n → RattleType) → Param {n = n} (mut_ref_to (j ∷ []) ok (plain F)) yes
  lent j ok F = record {
    vals = λ κs. mut_vals;
    tells = λ κs. mut_Tells (named j) (meet_at n (j ∷ []) ok κs) (F κs);
    stay = stay_ref (j ∷ []) ok (plain F);
    goes = λ 𝓛. Goes-ref 𝓛 n j ok (plain F);
  }

  -- A struct that is Copy is as it was.
  abbrev pub copied : (T : Lfts n → Declared) (L : (κs : Lfts n) → LL.Laws (T κs)) → ((κs : Lfts n) (x : (T κs).D) (f : Last ((row (T κs)).exit yes) x) → left ((row (T κs)).exit yes) x f ≡ ftrue) → Param {n = n} (plain (λ κs. row (T κs))) yes
  copied T L silent = record {
    vals = λ κs. LL.vals (T κs) (L κs);
    tells = λ κs. LL.tells (T κs) (L κs);
    stay = stay_none (λ κs. row (T κs)) yes;
    goes = λ 𝓛. Goes-none 𝓛 n (λ κs. row (T κs)) yes silent;
  }

module _ {n : ℕ} where
  -- One for each parameter.
  abbrev pub Params : (ss : List (Slot n)) → Kepts ss → Type 2
  Params [] ks = Unit {2}
  Params (s ∷ ss) ks = Param s ks.0 × Params ss ks.1

  abbrev pub spelled : (ss : List (Slot n)) (ks : Kepts ss) → Params ss ks → (κs : Lfts n) → Spells (types_at ss κs)
  spelled [] ks ps κs = tt
  spelled (s ∷ ss) ks ps κs = (ps.0.vals κs, spelled ss ks.1 ps.1 κs)

  abbrev pub told : (ss : List (Slot n)) (ks : Kepts ss) (ps : Params ss ks) (κs : Lfts n) → Tellss (types_at ss κs) (Ises (types_at ss κs)) (spelled ss ks ps κs)
  told [] ks ps κs = tt
  told (s ∷ ss) ks ps κs = (ps.0.tells κs, told ss ks.1 ps.1 κs)

  abbrev pub stays : (ss : List (Slot n)) (ks : Kepts ss) → Params ss ks → Stays ss ks
  stays [] ks ps = tt
  stays (s ∷ ss) ks ps = (ps.0.stay, stays ss ks.1 ps.1)

  abbrev pub go : (ss : List (Slot n)) (ks : Kepts ss) (ps : Params ss ks) {M : Type 1} {𝓤 : Ura M} (𝓛 : Logic 𝓤) → AllGo 𝓛 n ss ks (stays ss ks ps)
  go [] ks ps 𝓛 = tt
  go (s ∷ ss) ks ps 𝓛 = (ps.0.goes 𝓛, go ss ks.1 ps.1 𝓛)
