-- `listing::clauses` ends, since each clause leaves fewer to come, and lends no more of the buffer than it has. Assumes nothing.
use Rattle.dimacs.proofs.Clauses.{to_come}
use Rattle.listing.proofs.clauses.Given as goal

abbrev pub decreases-loop-clause : goal.decreases-loop-clause
decreases-loop-clause l = to_come l.text l.cursor.progress.place
