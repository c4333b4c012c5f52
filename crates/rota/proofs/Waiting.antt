-- Lists of waiting jobs: who waits, who has which ticket, and who stands where. Assumes nothing.
use Prim.Native.Nat.{ℕ, zero, suc, ◌+◌, ◌≤◌, ◌<◌}
use mathlib.Core.Bool.{Bool, true, false}
use mathlib.Core.List.{List, [], ◌∷◌, ◌++◌}
use mathlib.Core.Path.{◌≡◌, refl, ap, sym}
use native.Mathlib.Omega.{arith}
use native.Mathlib.Numerals.{add-one}
use borrow.Author.Tests.{eq-eqb, eqb-true, eqb-false, ne_eqb}
use lib.ListN.{length, length-append}
use lib.Dec.{eqb}
use Rattle.dimacs.proofs.Tests.{tested}
use Rattle.rota.specs.Rota.{waits, without}

-- A test does not say both.
pub unlike : {P : Type 0} {b : Bool} → b ≡ true → b ≡ false → P
unlike p q = absurd (cc)

pub length-snoc : {J : Type 0} (js : List J) (j : J) → length (js ++ j ∷ []) ≡ suc (length js)
length-snoc js j = rw (length-append, add-one)

pub length_without : {J : Type 0} (ticket : J → ℕ) (k : ℕ) (js : List J) → waits ticket k js ≡ true → length js ≡ suc (length (without ticket k js))
length_without ticket k [] h = unlike h refl
length_without ticket k (j ∷ js) h =
    tested (eqb k (ticket j)) (λ e. rw e) (λ e. rw e (ap suc (length_without ticket k js (rw e at h))))

module _ {J : Type 0} (ticket : J → ℕ) where
  abbrev pub Distinct : List J → Type 0
  Distinct [] = Unit {0}
  Distinct (j ∷ js) = (waits ticket (ticket j) js ≡ false) × Distinct js

  -- No ticket is above n.
  abbrev pub UpTo : ℕ → List J → Type 0
  UpTo n [] = Unit {0}
  UpTo n (j ∷ js) = (ticket j ≤ n) × UpTo n js

  pub not_head : (k : ℕ) (j : J) (js : List J) → waits ticket k (j ∷ js) ≡ false → eqb k (ticket j) ≡ false
  not_head k j js h = tested (eqb k (ticket j)) (λ e. unlike refl (rw e at h)) (λ e. e)

  pub not_tail : (k : ℕ) (j : J) (js : List J) → waits ticket k (j ∷ js) ≡ false → waits ticket k js ≡ false
  not_tail k j js h = rw (not_head k j js h) at h

  pub waits-snoc : (k : ℕ) (js : List J) (j : J) → waits ticket k js ≡ false → eqb k (ticket j) ≡ false → waits ticket k (js ++ j ∷ []) ≡ false
  waits-snoc k [] j h e = rw e
  waits-snoc k (x ∷ js) j h e = rw (not_head k x js h) (waits-snoc k js j (not_tail k x js h) e)

  pub waits_without : (k n : ℕ) (js : List J) → waits ticket k js ≡ false → waits ticket k (without ticket n js) ≡ false
  waits_without k n [] h = refl
  waits_without k n (x ∷ js) h =
      tested (eqb n (ticket x))
      (λ e. rw e (not_tail k x js h))
      (λ e. rw (e, not_head k x js h) (waits_without k n js (not_tail k x js h)))

  -- Of distinct tickets, the one that is taken out waits no more.
  pub waits_taken : (k : ℕ) (js : List J) → Distinct js → waits ticket k (without ticket k js) ≡ false
  waits_taken k [] d = refl
  waits_taken k (x ∷ js) d =
      tested (eqb k (ticket x)) (λ e. let m = eqb-true k (ticket x) e in rw e (rw m d.0)) (λ e. rw e (rw e (waits_taken k js d.1)))

  pub distinct_snoc : (js : List J) (j : J) → Distinct js → waits ticket (ticket j) js ≡ false → Distinct (js ++ j ∷ [])
  distinct_snoc [] j d h = (refl, tt)
  distinct_snoc (x ∷ js) j d h = (
    waits-snoc (ticket x) js j d.0 (ne_eqb (ticket x) (ticket j) (λ e. eqb-false (ticket j) (ticket x) (not_head (ticket j) x js h) (sym e))),
    distinct_snoc js j d.1 (not_tail (ticket j) x js h),
  )

  pub distinct_without : (n : ℕ) (js : List J) → Distinct js → Distinct (without ticket n js)
  distinct_without n [] d = tt
  distinct_without n (x ∷ js) d =
      tested (eqb n (ticket x)) (λ e. rw e d.1) (λ e. rw e (waits_without (ticket x) n js d.0, distinct_without n js d.1))

  pub upto_snoc : (n : ℕ) (js : List J) (j : J) → UpTo n js → ticket j ≤ n → UpTo n (js ++ j ∷ [])
  upto_snoc n [] j u h = (h, tt)
  upto_snoc n (x ∷ js) j u h = (u.0, upto_snoc n js j u.1 h)

  pub upto_more : (n : ℕ) (js : List J) → UpTo n js → UpTo (n + 1) js
  upto_more n [] u = tt
  upto_more n (x ∷ js) u = (omega arith, upto_more n js u.1)

  pub upto_without : (n k : ℕ) (js : List J) → UpTo n js → UpTo n (without ticket k js)
  upto_without n k [] u = tt
  upto_without n k (x ∷ js) u = tested (eqb k (ticket x)) (λ e. rw e u.1) (λ e. rw e (u.0, upto_without n k js u.1))

  -- A ticket that waits was given.
  pub waits_upto : (n k : ℕ) (js : List J) → UpTo n js → waits ticket k js ≡ true → k ≤ n
  waits_upto n k [] u h = unlike h refl
  waits_upto n k (x ∷ js) u h =
      tested (eqb k (ticket x)) (λ e. let m = eqb-true k (ticket x) e in omega (arith, u.0)) (λ e. waits_upto n k js u.1 (rw e at h))

  pub above_waits : (n k : ℕ) (js : List J) → UpTo n js → n < k → waits ticket k js ≡ false
  above_waits n k [] u h = refl
  above_waits n k (x ∷ js) u h =
      let e : eqb k (ticket x) ≡ false = ne_eqb k (ticket x) (λ q. omega arith) in
      rw e (above_waits n k js u.1 h)

-- The job stands in the list, with p jobs ahead of it.
pub data Stands {J : Type 0} (j : J) : ℕ → List J → Type 0 where
  front : {js : List J} → Stands j zero (j ∷ js)
  behind : {x : J} {js : List J} {p : ℕ} → Stands j p js → Stands j (suc p) (x ∷ js)

module _ {J : Type 0} (j : J) where
  pub stands-append : {p : ℕ} {js : List J} (l : List J) → Stands j p js → Stands j p (js ++ l)
  stands-append l front = front
  stands-append l (behind s) = behind (stands-append l s)

  pub stands_last : (js : List J) → Stands j (length js) (js ++ j ∷ [])
  stands_last [] = front
  stands_last (x ∷ js) = behind (stands_last js)

  pub stands_below : {p : ℕ} {js : List J} → Stands j p js → p < length js
  stands_below front = omega arith
  stands_below (behind s) = let h = stands_below s in omega arith

  module _ (ticket : J → ℕ) where
    stands_waits : {p : ℕ} {js : List J} → Stands j p js → waits ticket (ticket j) js ≡ true
    stands_waits front = rw (eq-eqb (ticket j) (ticket j) refl)
    stands_waits (behind {x = x} s) = tested (eqb (ticket j) (ticket x)) (λ e. rw e) (λ e. rw e (stands_waits s))

    pub stands_without : (k : ℕ) → (k ≡ ticket j → ⊥) → {p : ℕ} {js : List J} → Stands j p js → (q : ℕ) × (q ≤ p) × Stands j q (without ticket k js)
    stands_without k h front = rw (ne_eqb k (ticket j) h) (0, omega arith, front)
    stands_without k h (behind {x = x} {p = p} s) =
        tested (eqb k (ticket x))
        (λ e. rw e (p, omega arith, s))
        (λ e. rw e (let r = stands_without k h s in (suc r.0, omega (arith, r.1), behind r.2)))

    -- Whoever stands ahead has another ticket.
    pub ahead_other : {p : ℕ} (x : J) (js : List J) → Distinct ticket (x ∷ js) → Stands j p js → eqb (ticket j) (ticket x) ≡ false
    ahead_other x js d s = ne_eqb (ticket j) (ticket x) (λ e. unlike (stands_waits s) (rw e d.0))
