-- Where a word ends, as the code looks for it.
use Rattle.std.specs.Prelude.{ℕ, suc, ◌+◌, ◌≤◌, min, List, ◌≡◌, length, drop}
use Rattle.dimacs.specs.Bytes.{is_not_stop}
use Rattle.dimacs.specs.Names.{longest_word}
use Rattle.dimacs.specs.Tokens.{run}

-- A place within the text past the word at another: past its first byte and all up to the next stop, or as far as the longest word goes.
pub record PastWord (s : List ℕ) (at e : ℕ) : Type 0 where
  pub on : at ≤ e
  pub within : e ≤ length s
  pub there : e ≡ at + min longest_word (suc (run is_not_stop (drop (at + 1) s)))
