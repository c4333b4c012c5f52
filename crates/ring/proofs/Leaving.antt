-- How a ticket leaves: how many stand before it, and those behind it move up. Assumes nothing.
use Prim.Native.Nat.{ℕ, suc, ◌+◌, ◌-◌, ◌%◌, ◌≤◌, ◌<◌}
use mathlib.Core.List.{◌∷◌}
use mathlib.Core.Path.{◌≡◌, sym, ◌∙◌}
use native.Mathlib.Omega.{arith}
use borrow.Author.Tests.{eq-eqb, ne_eqb, lt-ltb, le-ltb}
use lib.ListN.{get_or, set}
use Rattle.dimacs.specs.Names.{places}
use Rattle.std.specs.Prelude.{Some, None}
use Rattle.ring.specs.Ring.{ring, no_job, how_many, ahead, moved_up, closed_up, place_at, place_of}
use Rattle.ring.specs.declared.Job.{Job}
use Rattle.ring.specs.declared.Tray.{Tray}

-- The ticket is not among the first i of n jobs.
pub record NotAmong (k : ℕ) (t : Tray) (n i : ℕ) : Type 0 where
  pub up_to : i ≤ n
  pub so_far : ahead k (ring t.jobs t.head n) ≡ i + ahead k (ring t.jobs (t.head + i) (n - i))

pub not_among_none : (k : ℕ) (t : Tray) (n : ℕ) → NotAmong k t n 0
not_among_none k t n =
    let a : t.head + 0 ≡ t.head = omega arith in
    let b : n - 0 ≡ n = omega arith in
    record { up_to = omega arith; so_far = rw (a, b) (omega arith) }

module _ {k : ℕ} {t : Tray} {n i : ℕ} (m : NotAmong k t n i) where
  -- The next job, by its place.
  abbrev at_next : ℕ → Job
  at_next p = get_or t.jobs p no_job

  same_place : (t.head % places + i) % places ≡ (t.head + i) % places
  same_place = omega arith

  next_ring : i < n → ring t.jobs (t.head + i) (n - i) ≡ at_next ((t.head + i) % places) ∷ ring t.jobs (t.head + (i + 1)) (n - (i + 1))
  next_ring l =
      let a : n - i ≡ suc (n - (i + 1)) = omega arith in
      let b : t.head + i + 1 ≡ t.head + (i + 1) = omega arith in
      rw (a, b)

  pub not_among_more : i < n → ((at_next ((t.head % places + i) % places)).ticket ≡ k → ⊥) → NotAmong k t n (i + 1)
  unfolding ahead
  not_among_more l other =
      let e = ne_eqb k (at_next ((t.head + i) % places)).ticket (λ x. other (rw same_place (sym x))) in
      let q : ahead k (ring t.jobs (t.head + i) (n - i)) ≡ suc (ahead k (ring t.jobs (t.head + (i + 1)) (n - (i + 1)))) = rw (next_ring l) (rw e) in
      record { up_to = omega arith; so_far = let p = m.so_far in omega arith }

  found_at : i < n → (at_next ((t.head % places + i) % places)).ticket ≡ k → i ≡ ahead k (ring t.jobs t.head n)
  unfolding ahead
  found_at l same =
      let e = eq-eqb k (at_next ((t.head + i) % places)).ticket (sym same ∙ rw same_place) in
      let q : ahead k (ring t.jobs (t.head + i) (n - i)) ≡ 0 = rw (next_ring l) (rw e) in
      let p = m.so_far in
      omega arith

  nowhere_at : n ≤ i → i ≡ ahead k (ring t.jobs t.head n)
  unfolding ahead
  nowhere_at l =
      let h = m.up_to in
      let z : n - i ≡ 0 = omega arith in
      let q : ahead k (ring t.jobs (t.head + i) (n - i)) ≡ 0 = rw z in
      let p = m.so_far in
      omega arith

  module _ (a : n ≡ how_many t) where
    same_at : i ≡ ahead k (ring t.jobs t.head n) → place_at t i ≡ place_of t k
    same_at b = rw (b, a)

    pub ahead_found : i < n → (at_next ((t.head % places + i) % places)).ticket ≡ k → Some i ≡ place_of t k
    ahead_found l same = rw (lt-ltb i (how_many t) (omega arith)) at (same_at (found_at l same))

    pub ahead_nowhere : n ≤ i → None ≡ place_of t k
    ahead_nowhere l = rw (le-ltb i (how_many t) (omega arith)) at (same_at (nowhere_at l))

-- From the first job behind the one that leaves on, those up to the i-th have moved up; the rest of the record is as it was.
pub record Moving (n : ℕ) (t : Tray) (from : ℕ) (u : Tray) (i : ℕ) : Type 0 where
  pub below : i < n
  pub jobs : moved_up t.jobs (t.head % places) from (n - (from + 1)) ≡ moved_up u.jobs (t.head % places) i (n - (i + 1))
  pub head : u.head ≡ t.head
  pub given : u.given ≡ t.given

module _ {n : ℕ} {t : Tray} {from : ℕ} {u : Tray} {i : ℕ} (m : Moving n t from u i) where
  abbrev place : ℕ
  place = (t.head % places + i) % places

  abbrev next_job : Job
  next_job = get_or u.jobs ((t.head % places + i + 1) % places) no_job

  pub moving_more : i + 1 < n → Moving n t from (record { jobs = set u.jobs place next_job; head = u.head; count = u.count; given = u.given }) (i + 1)
  unfolding moved_up
  moving_more l =
      let a : n - (i + 1) ≡ suc (n - (i + 1 + 1)) = omega arith in
      record { below = l; jobs = m.jobs ∙ rw a; head = m.head; given = m.given }

  pub moving_done : n ≤ i + 1 → record { jobs = u.jobs; head = u.head; count = n - 1; given = u.given } ≡ closed_up t n from
  unfolding moved_up
  moving_done l =
      let a : n - (i + 1) ≡ 0 = omega arith in
      let e : u.jobs ≡ moved_up t.jobs (t.head % places) from (n - (from + 1)) = sym (m.jobs ∙ rw a) in
      rw (e, m.head, m.given)
