-- Number, place, line and column, and k of how a text opens.
use Rattle.std.specs.Prelude.{ℕ, Result, Ok, Err}
use Rattle.dimacs.specs.declared.Refusal.{Refusal}
use Rattle.dimacs.specs.Names.{refused_spot}
use Rattle.dimacs.specs.Spots.{nowhere}
use Rattle.dimacs.specs.declared.Opening.{Opening}
use Rattle.dimacs.specs.declared.Opening.TheVariants as opening
use Rattle.dimacs.specs.declared.Spot.{Spot}

-- The number of a refused header, 0 where nothing is refused.
abbrev pub number_in : Result Opening Refusal → ℕ
number_in (Ok (opening.Header h at)) = 0
number_in (Ok (opening.NoHeader at)) = 0
number_in (Err r) = r.number

-- The place of a refused header, 0 where nothing is refused.
abbrev pub place_in : Result Opening Refusal → ℕ
place_in (Ok (opening.Header h at)) = 0
place_in (Ok (opening.NoHeader at)) = 0
place_in (Err r) = r.place

-- Line and column of a refused header, 0 and 0 where nothing is refused.
abbrev pub spot_in : Result Opening Refusal → Spot
spot_in (Ok (opening.Header h at)) = nowhere
spot_in (Ok (opening.NoHeader at)) = nowhere
spot_in (Err r) = refused_spot r

-- k: no literals are read before the clauses.
abbrev pub k_in : Result Opening Refusal → ℕ
k_in (Ok (opening.Header h at)) = 0
k_in (Ok (opening.NoHeader at)) = 0
k_in (Err r) = 0
