-- `rows::ints` meets its contract: each way out, and each way on, by its law. Assumes nothing.
use mathlib.Core.Path.{◌≡◌, sym, ◌∙◌}
use mir.Syntax.{w32}
use mir.Val.{to_z, of_z}
use Rattle.dimacs.proofs.LinedTokens.{int_lined}
use Rattle.dimacs.proofs.Rows.{row_ends, row_closes, row_too_big, row_full, row_takes, takes_falls}
use Rattle.dimacs.proofs.Buffer.{kept_full, kept_room}
use Rattle.rows.proofs.Buffer.{row_so_far_begin, row_so_far_ends, row_so_far_closes, row_so_far_stops, row_so_far_puts}
use borrow.Author.Rules.{rules}
use Rattle.rows.proofs.ints.Goals as goal
use Rattle.rows.proofs.ints.Goals.{Else-lits-count}

-- The literal as the machine reads it back.
literal_back : (c : Else-lits-count) → to_z w32 (of_z w32 c.in-Literal.v) ≡ c.in-Literal.v
literal_back c = search rules

pub loop-next-init : goal.loop-next-init
loop-next-init c = row_so_far_begin _ _ c.begins_after-count.ensures

pub returns-in-Missing : goal.returns-in-Missing
returns-in-Missing c = row_so_far_ends c.loop-next.invariant (row_ends _ _ _ _ _ (int_lined _ _ _ _ ∙ sym c.int.ensures ∙ c.in-Missing.is))

pub returns-in-Zero : goal.returns-in-Zero
returns-in-Zero c = row_so_far_closes c.loop-next.invariant (row_closes _ _ _ _ _ (int_lined _ _ _ _ ∙ sym c.int.ensures ∙ c.in-Zero.is))

pub returns-in-TooBig : goal.returns-in-TooBig
returns-in-TooBig c = row_so_far_stops c.loop-next.invariant _ c.refuse.ensures (row_too_big _ _ _ _ _ (int_lined _ _ _ _ ∙ sym c.int.ensures ∙ c.in-TooBig.is))

pub returns-then-lits-count : goal.returns-then-lits-count
returns-then-lits-count c = let inv = c.loop-next.invariant in row_so_far_stops inv _ c.refuse-then-lits-count.ensures (row_full _ _ _ _ _ (int_lined _ _ _ _ ∙ sym c.int.ensures ∙ c.in-Literal.is) (kept_full inv.kept c.if-lits-count.true))

pub loop-next-smaller : goal.loop-next-smaller
loop-next-smaller c = takes_falls _ _ _ (int_lined _ _ _ _ ∙ sym c.int.ensures ∙ c.in-Literal.is)

pub loop-next-preserved : goal.loop-next-preserved
loop-next-preserved c = let inv = c.loop-next.invariant in let left = c.if-lits-count.false in let z = literal_back (goal.at.loop-next-preserved c).Else-lits-count in
    rw z (row_so_far_puts inv _ _ left (row_takes _ _ _ _ _ (int_lined _ _ _ _ ∙ sym c.int.ensures ∙ c.in-Literal.is) (kept_room inv.kept left)))
