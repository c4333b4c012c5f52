-- `stepwise::latchtwig_open` meets its contract, by what opening the text promises. Assumes nothing.
use Rattle.stepwise.proofs.Parts.{opens}
use Rattle.stepwise.proofs.latchtwig_open.Goals as goal

pub returns : goal.returns
returns c = let x = c.from.ensures in let y = c.from-2.ensures in let f = c.narrowed.ensures in let m = c.narrowed-2.ensures in
    opens _ _ _ _ (rw x at f) (rw y at m) c.open-opened.ensures c.cursor_words.ensures c.opening_words.ensures c.opening_kind.ensures
