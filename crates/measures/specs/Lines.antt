-- Parts of a header's line.
use Rattle.std.specs.Prelude.{ℕ, List, ◌++◌}
use Rattle.dimacs.specs.Bytes.{bytes}
use Rattle.dimacs.specs.Header.{format_word}
use Rattle.dimacs.specs.Writing.{digits}
use Rattle.dimacs.specs.declared.Format.{Format}

-- What a header begins with.
abbrev pub header_start : Format → List ℕ
header_start f = bytes "p " ++ format_word f

-- A count of a header, with the space before it.
abbrev pub header_count : ℕ → List ℕ
header_count n = bytes " " ++ digits n
