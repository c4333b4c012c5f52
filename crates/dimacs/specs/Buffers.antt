-- What lent buffers hold.
use Rattle.std.specs.Prelude.{List, ◌++◌, length, drop}

-- After something is laid into a buffer: that, then its old contents.
abbrev pub laid : {A : Type 0} → List A → List A → List A
laid so old = so ++ drop (length so) old
