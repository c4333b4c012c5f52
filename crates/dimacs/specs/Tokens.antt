-- Tokens: what stands at a place of a text. A place is an offset in the text, and may lie past its end, where no token stands.
-- A token function answers the place past the token, or the place itself where there is none.
use Rattle.std.specs.Prelude.{ℕ, suc, ◌+◌, ◌-◌, ◌*◌, min, Bool, true, false, cond, ◌&&◌, ◌||◌, List, [], ◌∷◌, length, get_or, take, drop, ltb, leb, eqb, ℤ, pos, neg_ℤ, Option, None, Some}
use Prim.Native.Char.{code}
use Rattle.dimacs.specs.Loop.{Step, again, answer, loop}
use Rattle.dimacs.specs.Bytes.{bytes, LF, CR, is_blank, is_digit, is_stop, is_not_stop, is_not_lf}
use Rattle.dimacs.specs.Names.{ceiling, longest_word}
use Rattle.dimacs.specs.declared.Uint.{Uint}
use Rattle.dimacs.specs.declared.Uint.TheVariants as uint
use Rattle.dimacs.specs.declared.Int.{Int}
use Rattle.dimacs.specs.declared.Int.TheVariants as int

-- How many of the first elements pass a test.
unfoldable pub run : {A : Type 0} → (A → Bool) → List A → ℕ
run p [] = 0
run p (b ∷ r) = cond (p b) (suc (run p r)) 0

-- Past the longest run of bytes that pass a test.
unfoldable pub past : (ℕ → Bool) → List ℕ → ℕ → ℕ
past p s at = at + run p (drop at s)

-- The second list begins with the first.
unfoldable pub begins : List ℕ → List ℕ → Bool
begins [] r = true
begins (a ∷ w) [] = false
begins (a ∷ w) (b ∷ r) = eqb a b && begins w r

-- The number that the digits in front write, after those that wrote v.
unfoldable pub decimal : ℕ → List ℕ → ℕ
decimal v [] = v
decimal v (d ∷ r) = cond (is_digit d) (decimal (v * 10 + (d - code "0")) r) v

-- No token stands at a place if the place past it is the same.
abbrev pub unmoved : ℕ → ℕ → Bool
unmoved at e = eqb e at

-- By what closes a line: if a line end or the end of the text does, the first, for the place past it; else the second.
abbrev pub line_ends : {A : Type 0} → Option ℕ → (ℕ → A) → A → A
line_ends (Some next) then otherwise = then next
line_ends None then otherwise = otherwise

-- A number at a place: none, or its size and the place past it and the blanks after it.
pub data Number : Type 0 where
  none : Number
  found : ℕ → ℕ → Number

-- An unsigned number with its limit.
abbrev pub up_to : ℕ → Number → Uint
up_to limit none = uint.Missing
up_to limit (found n next) = cond (leb n limit) (uint.Value n next) uint.TooBig

-- A number by its sign and size.
abbrev pub with_sign : Bool → ℕ → ℤ
with_sign positive n = cond positive (pos n) (neg_ℤ (pos n))

-- A signed number with its limit either way, which is never above the ceiling. `-0` is zero.
abbrev pub up_to_either_way : ℕ → Bool → Number → Int
up_to_either_way limit positive none = int.Missing
up_to_either_way limit positive (found n next) =
    cond (eqb n 0) (int.Zero next) (cond (leb n (min limit ceiling)) (int.Literal (with_sign positive n) next) int.TooBig)

module _ (s : List ℕ) where
  -- The byte at a place. Past the end it is 0, with which no token begins.
  abbrev pub byte_at : ℕ → ℕ
  byte_at at = get_or s at 0

  -- The text has ended.
  abbrev pub at_end : ℕ → Bool
  at_end at = leb (length s) at

  -- Past a run of blanks.
  abbrev pub blanks : ℕ → ℕ
  blanks at = past is_blank s at

  -- A line end is LF or CR LF. A lone CR is none.
  unfoldable pub line_end : ℕ → ℕ
  line_end at = cond (eqb (byte_at at) LF) (at + 1) (cond (eqb (byte_at at) CR && eqb (byte_at (at + 1)) LF) (at + 2) at)

  -- Past the next LF, or to the end of the text.
  unfoldable pub next_line : ℕ → ℕ
  next_line at = let e = past is_not_lf s at in cond (ltb e (length s)) (e + 1) e

  -- What closes a line: a line end, or the end of the text.
  unfoldable pub end_of_line : ℕ → Option ℕ
  end_of_line at = cond (at_end at) (Some at) (cond (unmoved at (line_end at)) None (Some (line_end at)))

  -- A fixed word stands with its exact bytes, whatever follows.
  unfoldable pub fixed : List ℕ → ℕ → ℕ
  fixed w at = cond (begins w (drop at s)) (at + length w) at

  -- A word or number ends at tab, space, CR, LF or the end of the text.
  unfoldable pub word_ends : ℕ → Bool
  word_ends at = at_end at || is_stop (byte_at at)

  -- A fixed word that ends there, and the blanks after it.
  unfoldable pub word : List ℕ → ℕ → ℕ
  word w at = let e = fixed w at in cond (unmoved at e) at (cond (word_ends e) (blanks e) at)

  -- A log's comment is `c`, a space and all up to the next line.
  unfoldable pub strict_comment : ℕ → ℕ
  strict_comment at = let e = fixed (bytes "c ") at in cond (unmoved at e) at (next_line e)

  -- A line end that closes no header or clause goes with the blanks after it.
  unfoldable pub newline : ℕ → ℕ
  newline at = let e = line_end at in cond (unmoved at e) at (blanks e)

  -- Past a comment, which is `c` and all up to the next line, or past a line end.
  unfoldable pub line_past : ℕ → ℕ
  line_past at = cond (eqb (byte_at at) (code "c")) (next_line (at + 1)) (line_end at)

  -- One comment or line end, and the blanks after it.
  unfoldable pub comment_or_newline : ℕ → Step ℕ ℕ
  comment_or_newline at = let e = line_past at in cond (unmoved at e) (answer at) (again (blanks e))

  -- Comments and line ends, as many as there are.
  unfoldable pub lines : ℕ → ℕ
  lines at = loop comment_or_newline 0 (suc (length s)) at

  -- A line end with further comments and line ends.
  unfoldable pub linebreaks : ℕ → ℕ
  linebreaks at = let e = newline at in cond (unmoved at e) at (lines e)

  -- A digit run that ends as a word does.
  unfoldable pub unsigned : ℕ → Number
  unsigned at =
      let e = past is_digit s at in
      cond (unmoved at e) none (cond (word_ends e) (found (decimal 0 (drop at s)) (blanks e)) none)

  -- A digit run in braces, with no blank inside and none needed after.
  unfoldable pub braced : ℕ → Number
  braced at =
      let e = past is_digit s (at + 1) in
      cond (eqb (byte_at at) (code "{"))
      (cond (unmoved (at + 1) e) none
      (cond (eqb (byte_at e) (code "}")) (found (decimal 0 (drop (at + 1) s)) (blanks (e + 1))) none))
      none

  -- Past one minus.
  unfoldable pub minus : ℕ → ℕ
  minus at = cond (eqb (byte_at at) (code "-")) (at + 1) at

  -- A count or weight with its limit.
  unfoldable pub uint_at : ℕ → ℕ → Uint
  uint_at limit at = up_to limit (unsigned at)

  -- A group in braces with its limit.
  unfoldable pub braced_uint_at : ℕ → ℕ → Uint
  braced_uint_at limit at = up_to limit (braced at)

  -- A literal, or the 0 that closes them, with at most one minus and its limit either way.
  unfoldable pub int_at : ℕ → ℕ → Int
  int_at limit at = let e = minus at in up_to_either_way limit (unmoved at e) (unsigned e)

  -- The word a reader stopped at: none at a line end or the end of the text, else the first byte and all up to the next stop, up to the longest word.
  unfoldable pub stopped_at : ℕ → List ℕ
  stopped_at at = cond (unmoved at (line_end at)) (take (min longest_word (suc (run is_not_stop (drop (at + 1) s)))) (drop at s)) []
