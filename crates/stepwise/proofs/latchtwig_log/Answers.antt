-- `stepwise::latchtwig_log` meets its contract, by what the reader of logs promises. Assumes nothing.
use Rattle.stepwise.proofs.Parts.{logs}
use Rattle.stepwise.proofs.latchtwig_log.Goals as goal

pub returns : goal.returns
returns c = let n = c.from.ensures in let m = c.narrowed.ensures in logs _ _ _ _ _ (rw n at m) c.parse_log-log.ensures c.log_words.ensures c.log_kind.ensures
