-- `by_number::latchtwig_write_clause` meets its contract, by what the writer promises. Assumes nothing.
use Rattle.by_number.proofs.Left.{leaves}
use Rattle.by_number.proofs.latchtwig_write_clause.Goals as goal

pub returns : goal.returns
returns c = leaves _ c.clause_line.ensures c.leave.ensures.words c.leave.ensures.kind
