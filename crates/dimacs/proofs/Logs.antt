-- The laws of reading a log: a line and then the rest of the lines. Assumes nothing.
use Rattle.std.specs.Prelude.{Option, None, Some}
use Prim.Native.Nat.{ℕ, suc, ◌-◌, ◌<◌}
use mathlib.Core.Bool.{◌||◌}
use mathlib.Core.List.{List}
use mathlib.Core.Path.{◌≡◌}
use native.Mathlib.Omega.{arith}
use borrow.Author.Tests.{leb-false}
use lib.ListN.{length}
use lib.IntN.{ℤ}
use Rattle.dimacs.specs.Loop.{Step, again, answer}
use Rattle.dimacs.specs.Bytes.{bytes}
use Rattle.dimacs.specs.Names.{numbered, refusal, ceiling}
use Rattle.dimacs.specs.declared.Reason.{Reason}
use Rattle.dimacs.specs.Lined.{lined}
use Rattle.dimacs.specs.Tokens.{unmoved, at_end, blanks, fixed, strict_comment, end_of_line, line_ends}
use Rattle.dimacs.specs.Rows.{Row, ends, closes, stops, reads, row}
use Rattle.dimacs.specs.Logs.{LogAnswer, accepted, refused_log, Log, log_at, log_begin, is_closed, is_said, line_read, values_read, value_line, solution_is, solution_line, log_end, other_line, log_line, log_from, log}
use Rattle.dimacs.specs.declared.Mode.{Mode}
use Rattle.dimacs.specs.declared.Rigor.{Rigor}
use Rattle.dimacs.specs.declared.Rigor.TheVariants.{Strict, Lenient}
use Rattle.dimacs.specs.declared.Verdict.{Verdict}
use Rattle.dimacs.specs.declared.Assignment.{Assignment}
use Rattle.dimacs.specs.declared.Assignment.TheVariants.{Unbegun, Begun, Closed}
use Rattle.dimacs.proofs.Loops.{Leads, Falls, after, unrolled, kept}
use Rattle.dimacs.proofs.Tests.{chosen, neither_right}
use Rattle.dimacs.proofs.Spans.{Spans, then_spans, Moves, moves, then_moves, EndCloses, end_closes, blanks_spans, strict_comment_spans, next_line_moves, fixed_spans}
use Rattle.dimacs.proofs.Lined.{lined-length}
use Rattle.dimacs.proofs.Rows.{RowSpans, row_spans}

-- A line leads to a later place within the text, or to an answer whose refusal is within reach.
abbrev pub LogSpans : List ℕ → ℕ → LogAnswer → Type 0
LogSpans s at (accepted v so) = Unit {0}
LogSpans s at (refused_log r so) = Spans s at r.place

abbrev pub LineLeads : List ℕ → ℕ → Step Log LogAnswer → Type 0
LineLeads s at = Leads (λ l. Moves s at l.at) (LogSpans s at)

module _ (s : List ℕ) (room : ℕ) where
  -- A line that is read from a place past its first bytes.
  line_read_leads : (at e : ℕ) (verdict : Option Verdict) (a : Assignment) (so : List ℤ) → Moves s at e → LineLeads s at (line_read s e verdict a so)
  unfolding numbered
  line_read_leads at e verdict a so m = go (end_of_line s e) (end_closes s e)
    where
      go : (x : Option ℕ) → EndCloses s e x
          → LineLeads s at (line_ends x (λ next. again (log_at next verdict a so)) (answer (refused_log (refusal s Reason.LineEndExpected e) so)))
      go None c = omega arith
      go (Some n) c = omega arith

  value_line_leads : (at e : ℕ) (l : Log) → Moves s at e → LineLeads s at (value_line s room e l)
  unfolding value_line
  value_line_leads at e l m =
      let r = reads (blanks s e) l.so in
      go (row s ceiling room r) (row_spans s ceiling room r)
    where
      k : Moves s at (blanks s e)
      k = then_moves m (blanks_spans s e)

      go : (w : Row) → RowSpans s (blanks s e) w → LineLeads s at (values_read s l.verdict w)
      go (ends n so) h = line_read_leads at n l.verdict Begun so (then_moves k h)
      go (closes n so) h = line_read_leads at n l.verdict Closed so (omega (arith, k))
      go (stops r so) h = omega (arith, k)

  solution_is_leads : (at e : ℕ) (v : Verdict) (w : List ℕ) (l : Log) (otherwise : Step Log LogAnswer) → Moves s at e → LineLeads s at otherwise
      → LineLeads s at (solution_is s v w e l otherwise)
  solution_is_leads at e v w l otherwise m h =
      chosen (LineLeads s at) (unmoved e (fixed s w e)) (λ _. h)
      (λ _. line_read_leads at (fixed s w e) _ l.assignment l.so (then_moves m (fixed_spans s e w)))

  solution_line_leads : (at e : ℕ) (l : Log) → Moves s at e → LineLeads s at (solution_line s e l)
  unfolding solution_line numbered
  solution_line_leads at e l m =
      solution_is_leads at e _ _ l _ m
      (solution_is_leads at e _ _ l _ m
      (solution_is_leads at e _ _ l _ m
      (omega arith)))

  log_end_spans : (at : ℕ) (verdict : Option Verdict) (so : List ℤ) (a : Assignment) → LogSpans s at (log_end s at verdict so a)
  unfolding numbered
  log_end_spans at verdict so Unbegun = tt
  log_end_spans at verdict so Begun = omega arith
  log_end_spans at verdict so Closed = tt

  other_line_leads : (rigor : Rigor) (l : Log) → l.at < length s → LineLeads s l.at (other_line s rigor l)
  unfolding numbered
  other_line_leads Strict l h = omega arith
  other_line_leads Lenient l h = next_line_moves s l.at h

module _ (s : List ℕ) (rigor : Rigor) (room : ℕ) where
  -- Each line leads on.
  pub log_line_leads : (l : Log) → LineLeads s l.at (log_line s rigor room l)
  unfolding log_line
  log_line_leads l =
      let at = l.at in
      let c = strict_comment s at in
      let v = fixed s (bytes "v ") at in
      let e = fixed s (bytes "s ") at in
      chosen (LineLeads s at) (unmoved at c)
      (λ _. chosen (LineLeads s at) (is_closed l.assignment || unmoved at v)
      (λ _. chosen (LineLeads s at) (is_said l.verdict || unmoved at e)
      (λ _. chosen (LineLeads s at) (at_end s at)
      (λ _. log_end_spans s room at l.verdict l.so l.assignment)
      (λ k. other_line_leads s room rigor l (leb-false (length s) at k)))
      (λ k. solution_line_leads s room at e l (moves (fixed_spans s at (bytes "s ")) (neither_right (is_said l.verdict) (unmoved at e) k))))
      (λ k. value_line_leads s room at v l (moves (fixed_spans s at (bytes "v ")) (neither_right (is_closed l.assignment) (unmoved at v) k))))
      (λ k. moves (strict_comment_spans s at) k)

  rest_of : Log → ℕ
  rest_of l = length s - l.at

  log_falls : (l : Log) → Falls rest_of l (log_line s rigor room l)
  unfolding rest_of
  log_falls l = go (log_line s rigor room l) (log_line_leads l)
    where
      go : (t : Step Log LogAnswer) → LineLeads s l.at t → Falls rest_of l t
      go (again x) h = omega arith
      go (answer a) h = tt

  -- One line, and then the rest of them.
  pub log_step : (l : Log) → log_from s rigor room l ≡ after (log_line s rigor room l) (log_from s rigor room)
  unfolding log_from rest_of
  log_step l = unrolled (log_line s rigor room) _ rest_of log_falls (suc (length s)) l (omega arith)

  -- What each line keeps, and each answer then has, the log's answer has.
  pub log_kept : (P : Log → Type 0) (Q : LogAnswer → Type 0) → ((l : Log) → P l → Leads P Q (log_line s rigor room l)) → (l : Log) → P l → Q (log_from s rigor room l)
  unfolding log_from rest_of
  log_kept P Q keeps l = kept (log_line s rigor room) _ rest_of log_falls P Q keeps (suc (length s)) l (omega arith)

  -- From a place on, nothing is refused before it.
  pub log_from_spans : (from : ℕ) (l : Log) → Spans s from l.at → LogSpans s from (log_from s rigor room l)
  log_from_spans from = log_kept (λ l. Spans s from l.at) (LogSpans s from) (λ l h. go l.at h (log_line s rigor room l) (log_line_leads l))
    where
      to : (at : ℕ) → Spans s from at → (a : LogAnswer) → LogSpans s at a → LogSpans s from a
      to at h (accepted v so) k = tt
      to at h (refused_log r so) k = then_spans h k

      go : (at : ℕ) → Spans s from at → (t : Step Log LogAnswer) → LineLeads s at t → Leads (λ l. Spans s from l.at) (LogSpans s from) t
      go at h (again x) k = omega arith
      go at h (answer a) k = to at h a k

pub log_spans : (s : List ℕ) (m : Mode) (room : ℕ) → LogSpans s 0 (log s m room)
unfolding log
log_spans s m room = go (log_from (lined m.ends s) m.rigor room log_begin) (log_from_spans (lined m.ends s) m.rigor room 0 log_begin (omega arith))
  where
    go : (a : LogAnswer) → LogSpans (lined m.ends s) 0 a → LogSpans s 0 a
    go (accepted v so) h = tt
    go (refused_log r so) h = omega (arith, lined-length m.ends s)
