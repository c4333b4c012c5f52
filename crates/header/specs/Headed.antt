-- How a text opens, with the limits of its clauses.
use Rattle.std.specs.Prelude.{List, ℕ, Result, Ok, Err}
use Rattle.dimacs.specs.declared.Refusal.{Refusal}
use Rattle.dimacs.specs.Lined.{lined}
use Rattle.dimacs.specs.Header.{opening_of, unlimited, limits_of}
use Rattle.dimacs.specs.declared.Format.{Format}
use Rattle.dimacs.specs.declared.Mode.{Mode}
use Rattle.dimacs.specs.declared.Rigor.{Rigor}
use Rattle.dimacs.specs.declared.Limits.{Limits}
use Rattle.dimacs.specs.declared.Opening.{Opening}
use Rattle.dimacs.specs.declared.Opening.TheVariants as opening
use Rattle.header.specs.declared.Headed.{Headed}

-- The limits of the clauses after an opening.
abbrev pub limits_after : Format → Rigor → Result Opening Refusal → Limits
limits_after f rigor (Ok (opening.Header h at)) = limits_of f rigor h
limits_after f rigor (Ok (opening.NoHeader at)) = unlimited
limits_after f rigor (Err r) = unlimited

-- A text opened in a format and a mode.
unfoldable pub headed_in : Format → Mode → List ℕ → Headed
headed_in f m s = let o = opening_of (lined m.ends s) f in record { opening = o; limits = limits_after f m.rigor o }
