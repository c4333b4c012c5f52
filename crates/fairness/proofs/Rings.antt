-- A ring of jobs under a store: outside it nothing changes, just behind the last there is one more. Assumes nothing.
use Prim.Native.Nat.{ℕ, zero, suc, ◌+◌, ◌-◌, ◌%◌, ◌≤◌, ◌<◌, min}
use mathlib.Core.List.{List, [], ◌∷◌, ◌++◌, append-nil}
use mathlib.Core.Path.{◌≡◌, refl, sym, ap, ◌∙◌, subst}
use native.Mathlib.Omega.{arith}
use native.Mathlib.Numerals.{add-one}
use lib.ListN.{length, get_or, set, length-set}
use lib.Seq.{get_or-set_same, get_or-set_other}
use Rattle.dimacs.specs.Names.{places}
use Rattle.ring.specs.declared.Job.{Job}
use Rattle.ring.specs.Ring.{ring, no_job, moved_up}

pub length-ring : (js : List Job) (h n : ℕ) → length (ring js h n) ≡ n
length-ring js h zero = refl
length-ring js h (suc n) = ap suc (length-ring js (h + 1) n)

-- Only the place in the round counts.
pub ring-mod : (js : List Job) (h k n : ℕ) → h % places ≡ k % places → ring js h n ≡ ring js k n
ring-mod js h k zero e = refl
ring-mod js h k (suc n) e = rw (e, ring-mod js (h + 1) (k + 1) n (omega arith))

-- A ring in two parts.
ring_apart : (js : List Job) (h i m : ℕ) → ring js h (i + m) ≡ ring js h i ++ ring js (h + i) m
ring_apart js h zero m = let a : 0 + m ≡ m = omega arith in let b : h + 0 ≡ h = omega arith in rw (a, b)
ring_apart js h (suc i) m =
    let a : suc i + m ≡ suc (i + m) = omega arith in
    let b : h + suc i ≡ h + 1 + i = omega arith in
    rw (a, b) (ap (λ l. get_or js (h % places) no_job ∷ l) (ring_apart js (h + 1) i m))

ring-set : (js : List Job) (i : ℕ) (v : Job) (h n : ℕ) → ((q : ℕ) → q < n → (h + q) % places ≡ i → ⊥) → ring (set js i v) h n ≡ ring js h n
ring-set js i v h zero f = refl
ring-set js i v h (suc n) f =
    let a : get_or (set js i v) (h % places) no_job ≡ get_or js (h % places) no_job =
    get_or-set_other js i (h % places) v no_job (λ e. f 0 (omega arith) (omega arith)) in
    rw (a, ring-set js i v (h + 1) n (λ q l e. f (suc q) (omega arith) (omega arith)))

pub ring_more : (js : List Job) (i : ℕ) (v : Job) (h n : ℕ) → length js ≡ places → n < places → (h + n) % places ≡ i
    → ring (set js i v) h (suc n) ≡ ring js h n ++ v ∷ []
ring_more js i v h n l k e =
    let a : suc n ≡ n + 1 = omega arith in
    ap (ring (set js i v) h) a ∙ ring_apart (set js i v) h n 1
    ∙ rw (ring-set js i v h n (λ q m d. omega arith), e, get_or-set_same js i v no_job (omega arith))

-- The list without what has i ahead of it.
abbrev pub removed : ℕ → List Job → List Job
removed i [] = []
removed zero (x ∷ l) = l
removed (suc i) (x ∷ l) = x ∷ removed i l

removed_at : (l : List Job) (x : Job) (r : List Job) → removed (length l) (l ++ x ∷ r) ≡ l ++ r
removed_at [] x r = refl
removed_at (y ∷ l) x r = ap (λ m. y ∷ m) (removed_at l x r)

removed_next : (l : List Job) (x y : Job) (r : List Job) → removed (suc (length l)) (l ++ x ∷ y ∷ r) ≡ l ++ x ∷ r
removed_next [] x y r = refl
removed_next (z ∷ l) x y r = ap (λ m. z ∷ m) (removed_next l x y r)

removed_ring : (js : List Job) (h i : ℕ) (x : Job) (r : List Job) → removed i (ring js h i ++ x ∷ r) ≡ ring js h i ++ r
removed_ring js h i x r = subst (λ n. removed n (ring js h i ++ x ∷ r) ≡ ring js h i ++ r) (length-ring js h i) (removed_at (ring js h i) x r)

removed_ring_next : (js : List Job) (h i : ℕ) (x y : Job) (r : List Job) → removed (i + 1) (ring js h i ++ x ∷ y ∷ r) ≡ ring js h i ++ x ∷ r
removed_ring_next js h i x y r =
    rw (add-one i) (subst (λ n. removed (suc n) (ring js h i ++ x ∷ y ∷ r) ≡ ring js h i ++ x ∷ r) (length-ring js h i) (removed_next (ring js h i) x y r))

-- One job moves up, and its own place is the one to be taken out.
moved_once : (js : List Job) (h i m : ℕ) → length js ≡ places → i + suc m < places → let v = get_or js ((h + i + 1) % places) no_job in
    removed (i + 1) (ring (set js ((h + i) % places) v) h (i + suc (suc m))) ≡ removed i (ring js h (i + suc (suc m)))
moved_once js h i m l b =
    ap (removed (i + 1)) after ∙ removed_ring_next js h i v v rest ∙ sym (removed_ring js h i (get_or js ((h + i) % places) no_job) (v ∷ rest)) ∙ ap (removed i) (sym before)
  where
    v : Job
    v = get_or js ((h + i + 1) % places) no_job

    rest : List Job
    rest = ring js (h + i + 1 + 1) m

    before : ring js h (i + suc (suc m)) ≡ ring js h i ++ get_or js ((h + i) % places) no_job ∷ v ∷ rest
    before = ring_apart js h i (suc (suc m))

    after : ring (set js ((h + i) % places) v) h (i + suc (suc m)) ≡ ring js h i ++ v ∷ v ∷ rest
    after =
        ring_apart (set js ((h + i) % places) v) h i (suc (suc m))
        ∙ rw (
          ring-set js ((h + i) % places) v h i (λ q n e. omega arith),
          get_or-set_same js ((h + i) % places) v no_job (omega arith),
          get_or-set_other js ((h + i) % places) ((h + i + 1) % places) v no_job (λ e. omega arith),
          ring-set js ((h + i) % places) v (h + i + 1 + 1) m (λ q n e. omega arith),
        )

moved_ring : (m : ℕ) (js : List Job) (h i : ℕ) → length js ≡ places → i + m < places → ring (moved_up js h i m) h (i + m) ≡ removed i (ring js h (i + suc m))
unfolding moved_up
moved_ring zero js h i l b =
    let a : i + 0 ≡ i = omega arith in
    rw (a, ring_apart js h i 1, removed_ring js h i (get_or js ((h + i) % places) no_job) []) (sym (append-nil (ring js h i)))
moved_ring (suc m) js h i l b =
    let a : i + suc m ≡ i + 1 + m = omega arith in
    let e : i + 1 + suc m ≡ i + suc (suc m) = omega arith in
    let v = get_or js ((h + i + 1) % places) no_job in
    let js' = set js ((h + i) % places) v in
    rw a (moved_ring m js' h (i + 1) (length-set js ((h + i) % places) v ∙ l) (omega arith) ∙ rw e (moved_once js h i m l b))

-- What stands behind place i has moved up.
pub taken_ring : (js : List Job) (h n i : ℕ) → length js ≡ places → n ≤ places → i < n
    → ring (moved_up js (h % places) i (n - (i + 1))) h (min (n - 1) places) ≡ removed i (ring js h n)
taken_ring js h n i l b q =
    let m = n - (i + 1) in
    let a : min (n - 1) places ≡ i + (n - (i + 1)) = omega arith in
    let c : i + suc (n - (i + 1)) ≡ n = omega arith in
    ap (ring (moved_up js (h % places) i m) h) a
    ∙ ring-mod (moved_up js (h % places) i m) h (h % places) (i + m) (omega arith)
    ∙ moved_ring m js (h % places) i l (omega arith)
    ∙ ap (λ x. removed i (ring js (h % places) x)) c
    ∙ ap (removed i) (ring-mod js (h % places) h n (omega arith))

pub length_moved : (m : ℕ) (js : List Job) (h i : ℕ) → length (moved_up js h i m) ≡ length js
unfolding moved_up
length_moved zero js h i = refl
length_moved (suc m) js h i =
    let v = get_or js ((h + i + 1) % places) no_job in
    length_moved m (set js ((h + i) % places) v) h (i + 1) ∙ length-set js ((h + i) % places) v
