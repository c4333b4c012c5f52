-- A call on a lent tray: its answer, and the tray that it leaves, are those of the call on the tray itself.
use Rattle.std.specs.Prelude.{ℕ, Result, List, ◌≡◌, length, ℤ}
use Rattle.dimacs.specs.declared.Reason.{Reason}
use Rattle.ring.specs.declared.Tray.{Tray}
use Rattle.tray.specs.declared.Told.{Told}
use Rattle.tray.specs.Calls.{Put, put_of, turn_of, buffer_of, withdraw_of}

-- A put's whole promise.
pub record LentPut (t : Tray) (p : Put) (after : Tray) (a : Result ℕ Reason) : Type 0 where
  pub answer : a ≡ (put_of t p).answer
  pub tray : after ≡ (put_of t p).tray

-- A turn's whole promise, with what the lent buffer held and then holds.
pub record LentTurn (t : Tray) (area : List ℕ) (old new : List ℤ) (after : Tray) (a : Result Told Reason) : Type 0 where
  pub answer : a ≡ (turn_of t area (length old)).answer
  pub tray : after ≡ (turn_of t area (length old)).tray
  pub buffer : new ≡ buffer_of t area old

-- A withdrawal's whole promise.
pub record LentWithdrawal (t : Tray) (k : ℕ) (after : Tray) (a : Result ℕ Reason) : Type 0 where
  pub answer : a ≡ (withdraw_of t k).answer
  pub tray : after ≡ (withdraw_of t k).tray
