-- `numeral::int` meets its contract: each answer from the size past the minus. Assumes nothing.
use Prim.Native.Nat.{◌≤◌, min}
use Rattle.dimacs.specs.Names.{ceiling}
use Rattle.dimacs.proofs.Numbers.{UintTold, uint_told, int_missing, int_too_big, int_zero, int_beyond, int_positive, int_negative}
use Rattle.dimacs.specs.declared.Uint.TheVariants as uint
use Rattle.numeral.proofs.Negated.{sfits_pos, negated_fits, negated_back, twice_fits, twice_back, below_floor, above_floor}
use native.Mathlib.Omega.{arith}
use Rattle.numeral.proofs.int.Goals as goal
use Rattle.numeral.proofs.int.Goals.{Else-v-floor, In-Value}

-- What the number past the minus tells.
told_size : (c : In-Value)
    → UintTold c.args.text.now ceiling c.past_minus-from.result (uint.Value c.in-Value.n c.in-Value.next)
told_size c = uint_told _ _ _ c.in-Value.is c.size.ensures

-- Not below the floor, the size is within the limit.
within_limit : (c : Else-v-floor) → c.in-Value.n ≤ min c.args.limit ceiling
within_limit c = above_floor _ (uint_told _ _ _ c.in-Value.is c.size.ensures).1 (min c.args.limit ceiling) (omega arith) _ c.floor_of-floor.ensures c.if-v-floor.false

pub returns-then-n-eq0 : goal.returns-then-n-eq0
returns-then-n-eq0 c = int_zero _ _ _ _ c.past_minus-from.ensures (told_size (goal.at.returns-then-n-eq0 c).In-Value) c.if-n-eq0.true

pub overflow_cast-v : goal.overflow_cast-v
overflow_cast-v c = sfits_pos _ (told_size (goal.at.overflow_cast-v c).In-Value).1

pub overflow_sub-v : goal.overflow_sub-v
overflow_sub-v c = negated_fits _ (told_size (goal.at.overflow_sub-v c).In-Value).1

pub returns-then-v-floor : goal.returns-then-v-floor
returns-then-v-floor c = int_beyond _ _ _ _ c.past_minus-from.ensures (told_size (goal.at.returns-then-v-floor c).In-Value) c.if-n-eq0.false
    (below_floor _ (told_size (goal.at.returns-then-v-floor c).In-Value).1 (min c.args.limit ceiling) (omega arith) _ c.floor_of-floor.ensures c.if-v-floor.true)

pub overflow_sub-w : goal.overflow_sub-w
overflow_sub-w c = twice_fits _ (told_size (goal.at.overflow_sub-w c).In-Value).1

pub returns-in-Missing : goal.returns-in-Missing
returns-in-Missing c = int_missing _ _ _ _ c.past_minus-from.ensures (uint_told _ _ _ c.in-Missing.is c.size.ensures)

pub returns-in-TooBig : goal.returns-in-TooBig
returns-in-TooBig c = int_too_big _ _ _ _ c.past_minus-from.ensures (uint_told _ _ _ c.in-TooBig.is c.size.ensures)

pub returns-then-from-at : goal.returns-then-from-at
returns-then-from-at c = int_positive _ _ _ _ c.past_minus-from.ensures (told_size (goal.at.returns-then-from-at c).In-Value) c.if-n-eq0.false (within_limit (goal.at.returns-then-from-at c).Else-v-floor) c.if-from-at.true _ (twice_back _ (told_size (goal.at.returns-then-from-at c).In-Value).1)

pub returns-else-from-at : goal.returns-else-from-at
returns-else-from-at c = int_negative _ _ _ _ c.past_minus-from.ensures (told_size (goal.at.returns-else-from-at c).In-Value) c.if-n-eq0.false (within_limit (goal.at.returns-else-from-at c).Else-v-floor) c.if-from-at.false _ (negated_back _ (told_size (goal.at.returns-else-from-at c).In-Value).1)
