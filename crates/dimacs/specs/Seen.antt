-- How many of a text's first bytes settle what is answered of it, and when two texts agree on so many.
use Rattle.std.specs.Prelude.{ℕ, zero, suc, ◌+◌, ◌-◌, max, cond, List, ◌≡◌, eqb, length, take, Result, Ok, Err}
use Rattle.dimacs.specs.declared.Refusal.{Refusal}
use Rattle.dimacs.specs.Bytes.{LF, is_not_stop}
use Rattle.dimacs.specs.Lined.{lined}
use Rattle.dimacs.specs.Tokens.{past, byte_at}
use Rattle.dimacs.specs.Header.{opening_of, unlimited, limits_of}
use Rattle.dimacs.specs.Clauses.{Answer, clause, ended, refused, Answered}
use Rattle.dimacs.specs.Texts.{answer_at, settled, begin, Text}
use Rattle.dimacs.specs.Logs.{LogAnswer, accepted, refused_log}
use Rattle.dimacs.specs.declared.Format.{Format}
use Rattle.dimacs.specs.declared.Mode.{Mode}
use Rattle.dimacs.specs.declared.Rigor.{Rigor}
use Rattle.dimacs.specs.declared.Ends.{Ends}
use Rattle.dimacs.specs.declared.Ends.TheVariants.{LineFeed, AlsoReturn}
use Rattle.dimacs.specs.declared.Limits.{Limits}
use Rattle.dimacs.specs.declared.Progress.{Progress}
use Rattle.dimacs.specs.declared.Opening.{Opening}
use Rattle.dimacs.specs.declared.Opening.TheVariants as opening

-- Two texts have the same first n bytes. If one of them has fewer, they are the same text.
abbrev pub Agree : ℕ → List ℕ → List ℕ → Type 0
Agree n s t = take n s ≡ take n t

module _ (s : List ℕ) where
  -- Where a line is closed at a place: the bytes up to and with the LF before it, or, closed by the text's end, one more than there are.
  abbrev pub line_seen : ℕ → ℕ
  line_seen at = cond (eqb (byte_at s (at - 1)) LF) at (at + 1)

  -- Where a text is refused at a place: the bytes up to the end of the word there, the stop after it, and the byte that makes CR a line end or not.
  abbrev pub word_seen : ℕ → ℕ
  word_seen at = past is_not_stop s at + 2

  -- A clause is settled by what closes its line, the end by the text's end, a refusal by the word at its place.
  abbrev pub answer_seen_by : Answer → ℕ → ℕ
  answer_seen_by (clause extra so) at = line_seen at
  answer_seen_by ended at = at + 1
  answer_seen_by (refused r so) at = word_seen at

  -- How many bytes settle an answer.
  abbrev pub answer_seen : Answered → ℕ
  answer_seen a = answer_seen_by a.answer a.place

  -- How many bytes settle an opening: a header's closing, the two bytes that are no word `p`, or the word at a refusal's place.
  abbrev pub opening_seen : Result Opening Refusal → ℕ
  opening_seen (Ok (opening.Header h at)) = line_seen at
  opening_seen (Ok (opening.NoHeader at)) = at + 2
  opening_seen (Err r) = word_seen r.place

module _ (s : List ℕ) (f : Format) (limits : Limits) (room : ℕ) where
  -- How many bytes settle the next k answers: the most that settle one of them.
  unfoldable pub answers_seen : ℕ → Progress → ℕ
  answers_seen zero p = 0
  answers_seen (suc k) p = let a = answer_at s f limits room p in max (answer_seen s a) (answers_seen k (settled p a))

-- How many bytes settle an opening and the k answers after it.
abbrev pub text_seen_by : Format → Rigor → ℕ → ℕ → List ℕ → Result Opening Refusal → ℕ
text_seen_by f rigor room k s (Ok (opening.Header h at)) = max (opening_seen s (Ok (opening.Header h at))) (answers_seen s f (limits_of f rigor h) room k (begin at))
text_seen_by f rigor room k s (Ok (opening.NoHeader at)) = max (opening_seen s (Ok (opening.NoHeader at))) (answers_seen s f unlimited room k (begin at))
text_seen_by f rigor room k s (Err r) = opening_seen s (Err r)

-- So many bytes of a text as it is read hang on so many of the text: where a CR alone ends a line, the byte after it tells whether it is alone.
abbrev pub with_next : Ends → ℕ → ℕ
with_next LineFeed n = n
with_next AlsoReturn n = n + 1

-- How many bytes settle how a text opens and its first k answers.
abbrev pub text_seen : Format → Mode → ℕ → ℕ → List ℕ → ℕ
text_seen f m room k s = let read = lined m.ends s in with_next m.ends (text_seen_by f m.rigor room k read (opening_of read f))

-- Two readings open in the same way and have the same first k answers.
pub record SameFirst (k : ℕ) (x y : Text) : Type 0 where
  pub opened : x.opened ≡ y.opened
  pub answers : take k x.answers ≡ take k y.answers

-- How many bytes settle a log: all and its end if it is accepted, or the word at the place of its refusal.
abbrev pub log_seen : List ℕ → LogAnswer → ℕ
log_seen s (accepted v so) = length s + 1
log_seen s (refused_log r so) = word_seen s r.place
