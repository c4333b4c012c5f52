-- The numbers by which formats, modes and refusals go outside, and the bounds.
use Rattle.std.specs.Prelude.{ℕ, ◌-◌, ◌^◌, List, Option, Some, None, cond, eqb}
use Rattle.dimacs.specs.Spots.{line_and_column, spot_of}
use Rattle.dimacs.specs.declared.Format.TheVariants.{Plain, Weighted, Grouped, Weighted2022}
use Rattle.dimacs.specs.declared.Mode.{Mode}
use Rattle.dimacs.specs.declared.Rigor.{Rigor}
use Rattle.dimacs.specs.declared.Rigor.TheVariants.{Strict, Lenient}
use Rattle.dimacs.specs.declared.Ends.{Ends}
use Rattle.dimacs.specs.declared.Ends.TheVariants.{LineFeed, AlsoReturn}
use Rattle.dimacs.specs.declared.Reason.{Reason}
use Rattle.dimacs.specs.declared.Reason.TheVariants.{FormatWordExpected, VariableCountExpected, ClauseCountExpected, ThirdCountExpected, LineEndExpected, LiteralExpected, LiteralExpectedAfterLines, LiteralsExpected, ClauseExpected, VariableCountTooBig, ClauseCountTooBig, ThirdCountTooBig, WeightTooBig, GroupTooBig, LiteralTooBig, BufferFull, SolutionExpected, LogLineExpected, AssignmentOpen, TrayFull, PartOutsideArea, BufferTooShort, NothingWaits, TicketNotWaiting, TicketsUsedUp, FormatOrModeUnknown, LiteralNotWritable, OutputTooShort, WeightZero, HeaderNotExpected}
use Rattle.dimacs.specs.declared.Kind.{Kind}
use Rattle.dimacs.specs.declared.Kind.TheVariants.{Clauses, Log}
use Rattle.dimacs.specs.declared.Refusal.{Refusal}
use Rattle.dimacs.specs.declared.Spot.{Spot}

-- The largest variable, and the largest literal either way.
abbrev pub ceiling : ℕ
ceiling = 2147483647

-- The largest count, weight or group.
abbrev pub largest : ℕ
largest = 2 ^ 64 - 1

-- The longest word that a refusal shows.
abbrev pub longest_word : ℕ
longest_word = 60

-- The room for the literals of a clause where the caller lends no buffer.
abbrev pub own_room : ℕ
own_room = 1024

-- The weight with which a hard clause of the 2022 form is answered. No soft one has it.
abbrev pub hard : ℕ
hard = 0

-- The number that names a log.
abbrev pub log_format : ℕ
log_format = 3

-- The places of a tray.
abbrev pub places : ℕ
places = 32

-- A mode by its two choices.
abbrev pub in_mode : Rigor → Ends → Mode
in_mode rigor rule = record { rigor = rigor; ends = rule }

-- What the number of a format names in a mode, if anything.
unfoldable pub kind_in : Mode → ℕ → Option Kind
kind_in m f =
    cond (eqb f 0) (Some (Clauses Plain m)) (cond (eqb f 1) (Some (Clauses Weighted m)) (cond (eqb f 2) (Some (Clauses Grouped m))
    (cond (eqb f log_format) (Some (Log m)) (cond (eqb f 4) (Some (Clauses Weighted2022 m)) None))))

-- What the numbers of a format and a mode name, if anything.
unfoldable pub kind_of : ℕ → ℕ → Option Kind
kind_of f m =
    cond (eqb m 0) (kind_in (in_mode Strict LineFeed) f) (cond (eqb m 1) (kind_in (in_mode Lenient LineFeed) f)
    (cond (eqb m 2) (kind_in (in_mode Strict AlsoReturn) f) (cond (eqb m 3) (kind_in (in_mode Lenient AlsoReturn) f) None)))

-- The refusal numbers.
abbrev pub number_of : Reason → ℕ
number_of FormatWordExpected = 1  -- after `p`, not the format's word
number_of VariableCountExpected = 2  -- variable count expected
number_of ClauseCountExpected = 3  -- clause count expected
number_of ThirdCountExpected = 4  -- third count expected
number_of LineEndExpected = 5  -- line end expected
number_of LiteralExpected = 6  -- literal or 0 expected on a literal's line
number_of LiteralExpectedAfterLines = 7  -- the same after line ends
number_of LiteralsExpected = 8  -- literals expected after weight, group or `h`
number_of ClauseExpected = 9  -- no clause, comment, line end or permitted end
number_of VariableCountTooBig = 10  -- variable count above the ceiling
number_of ClauseCountTooBig = 11  -- clause count above 64 bits
number_of ThirdCountTooBig = 12  -- third count above 64 bits
number_of WeightTooBig = 13  -- weight above 64 bits
number_of GroupTooBig = 14  -- group above its limit
number_of LiteralTooBig = 15  -- literal beyond its limit either way
number_of BufferFull = 16  -- non-zero literal in range, buffer full
number_of SolutionExpected = 17  -- solution word expected
number_of LogLineExpected = 18  -- log line of no permitted kind
number_of AssignmentOpen = 19  -- log ends with an open assignment
number_of TrayFull = 20  -- tray: all its places are taken
number_of PartOutsideArea = 21  -- tray: start plus length above the lent area's length
number_of BufferTooShort = 22  -- tray: literal buffer shorter than its room
number_of NothingWaits = 23  -- tray: nothing waits
number_of TicketNotWaiting = 24  -- tray: ticket not waiting
number_of TicketsUsedUp = 25  -- tray: 2^64 - 1 tickets given
number_of FormatOrModeUnknown = 26  -- unknown format or mode number, or a format the call does not take
number_of LiteralNotWritable = 27  -- writer: literal is 0 or -2,147,483,648
number_of OutputTooShort = 28  -- writer: output too short
number_of WeightZero = 32  -- 2022 form: weight zero
number_of HeaderNotExpected = 33  -- 2022 form: the word `p` where a clause may start

-- A refusal of the text s by its number, at a place in it, with the line and the column of that place.
unfoldable pub numbered : List ℕ → ℕ → ℕ → Refusal
numbered s number at = let p = spot_of s at in record { number = number; place = at; line = p.line; column = p.column }

-- The line and the column of a refusal.
abbrev pub refused_spot : Refusal → Spot
refused_spot r = line_and_column r.line r.column

-- A refusal of the text s for a reason, at a place in it.
abbrev pub refusal : List ℕ → Reason → ℕ → Refusal
refusal s why at = numbered s (number_of why) at

-- A refusal by its number where no text is at fault, at the index of the literal at fault, or at 0. It has no line and no column.
abbrev pub call_numbered : ℕ → ℕ → Refusal
call_numbered number index = record { number = number; place = index; line = 0; column = 0 }

-- Such a refusal for a reason.
abbrev pub call_refusal : Reason → ℕ → Refusal
call_refusal why index = call_numbered (number_of why) index
