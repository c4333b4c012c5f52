-- `tray::serve` meets its contract: the first places of the buffer are lent on. Assumes nothing.
use Rattle.tray.proofs.Turns.{served_first}
use Rattle.tray.proofs.serve.Goals as goal

pub returns : goal.returns
returns c = served_first c.args.area.now c.args.job c.args.lits.now c.requires c.serve.ensures
