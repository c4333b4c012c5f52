-- `cursor_words::cursor_words` meets its contract: they are its words, and the numbers in it are as small as its fields hold. Assumes nothing.
use mathlib.Core.Path.{subst}
use Prim.Native.Nat.{◌≤◌}
use Rattle.dimacs.specs.declared.Refusal.{Refusal}
use native.Mathlib.Omega.{arith}
use Rattle.cursor_words.proofs.Again.{holds}
use Rattle.cursor_words.proofs.cursor_words.Goals as goal

pub returns : goal.returns
returns c = let k = c.final_kind.ensures in let e = c.ends_kind.ensures in let f = c.format_kind.ensures in let r = c.final_refusal.ensures in let w = c.refusal_words.ensures in let number : c.final_refusal.result.number ≤ 255 = omega arith in
    holds _ (omega arith) (subst (λ (x : Refusal). x.number ≤ 255) r number) (rw (k, e, f, w, r))
