-- What the rule of line ends comes to at a CR, as the code asks it.
use Rattle.std.specs.Prelude.{ℕ}
use Rattle.dimacs.specs.declared.Ends.{Ends}
use Rattle.dimacs.specs.declared.Ends.TheVariants.{LineFeed, AlsoReturn}

-- How many bytes a CR alone has as a line end.
abbrev pub lone_return : Ends → ℕ
lone_return LineFeed = 0
lone_return AlsoReturn = 1
