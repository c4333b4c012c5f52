-- `token::word_end` meets its contract: up to i the word goes on. Assumes nothing.
use Rattle.token.proofs.Stops.{InWord}
use Rattle.token.proofs.word_end.Given as goal

abbrev pub invariant-loop-i : goal.invariant-loop-i
invariant-loop-i l = InWord l.text l.at l.i
