-- `latchtwig::read_log` meets its contract, by what the log reader answers. Assumes nothing.
use mathlib.Core.Path.{refl}
use Rattle.latchtwig.proofs.Outcomes.{log_told_lem}
use Rattle.latchtwig.proofs.read_log.Goals as goal

pub returns-in-Ok : goal.returns-in-Ok
returns-in-Ok c = log_told_lem _ _ _ _ _ refl c.parse_log_as.ensures c.in-Ok.is

pub returns-in-Err : goal.returns-in-Err
returns-in-Err c = log_told_lem _ _ _ _ _ refl c.parse_log_as.ensures c.in-Err.is
