-- What the modes have in common: where LF and CR LF alone end lines, texts and logs are read as they are; where a CR alone does too, they are read as the others read them with LF in its
-- place, so that it makes no difference to a text in which no CR stands alone. Assumes nothing.
use Prim.Native.Nat.{ℕ}
use mathlib.Core.List.{List}
use mathlib.Core.Path.{◌≡◌, sym, ap, ◌∙◌}
use Rattle.dimacs.specs.Names.{in_mode}
use Rattle.dimacs.specs.Lined.{lined, NoLoneReturn}
use Rattle.dimacs.specs.Header.{opening_of}
use Rattle.dimacs.specs.Texts.{text_by, text}
use Rattle.dimacs.specs.Logs.{log_begin, log_from, log}
use Rattle.dimacs.specs.declared.Format.{Format}
use Rattle.dimacs.specs.declared.Rigor.{Rigor}
use Rattle.dimacs.specs.declared.Ends.{Ends}
use Rattle.dimacs.specs.declared.Ends.TheVariants.{LineFeed}
use Rattle.dimacs.proofs.Lined.{lined_same, lined_alone}

module _ (rigor : Rigor) (room : ℕ) (s : List ℕ) where
  -- Modes 0 and 1.
  pub text_as_is : (f : Format) → text f (in_mode rigor LineFeed) room s ≡ text_by f rigor room s (opening_of s f)
  unfolding text
  text_as_is f = ap (λ x. text_by f rigor room x (opening_of x f)) (lined_same s)

  pub log_as_is : log s (in_mode rigor LineFeed) room ≡ log_from s rigor room log_begin
  unfolding log
  log_as_is = ap (λ x. log_from x rigor room log_begin) (lined_same s)

  -- Modes 2 and 3 read a text as modes 0 and 1 read it with LF for each CR that stands alone.
  pub text_as_lined : (rule : Ends) (f : Format) → text f (in_mode rigor rule) room s ≡ text f (in_mode rigor LineFeed) room (lined rule s)
  unfolding text
  text_as_lined rule f = ap (λ x. text_by f rigor room x (opening_of x f)) (sym (lined_same (lined rule s)))

  pub log_as_lined : (rule : Ends) → log s (in_mode rigor rule) room ≡ log (lined rule s) (in_mode rigor LineFeed) room
  unfolding log
  log_as_lined rule = ap (λ x. log_from x rigor room log_begin) (sym (lined_same (lined rule s)))

  module _ (h : NoLoneReturn s) (one other : Ends) where
    -- Modes 0 and 2, and modes 1 and 3, where no CR stands alone.
    pub text_alike : (f : Format) → text f (in_mode rigor one) room s ≡ text f (in_mode rigor other) room s
    unfolding text
    text_alike f = ap (λ x. text_by f rigor room x (opening_of x f)) (lined_alone one s h ∙ sym (lined_alone other s h))

    pub log_alike : log s (in_mode rigor one) room ≡ log s (in_mode rigor other) room
    unfolding log
    log_alike = ap (λ x. log_from x rigor room log_begin) (lined_alone one s h ∙ sym (lined_alone other s h))
