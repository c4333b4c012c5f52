-- What is written of a formula is read back: its header opens the text, and its lines are its clauses. Assumes nothing.
use Rattle.std.specs.Prelude.{Ok}
use Prim.Native.Nat.{ℕ, ◌≤◌}
use mathlib.Core.List.{List, [], ◌∷◌, ◌++◌, map}
use mathlib.Core.Option.{Option, some, none}
use mathlib.Core.Path.{◌≡◌, refl, subst⁻¹}
use mathlib.Core.Logic.{inl, inr, ⊎_elim}
use native.Mathlib.Omega.{arith}
use lib.ListN.{length}
use Rattle.dimacs.specs.Leniency.{Each}
use Rattle.dimacs.specs.Names.{in_mode, ceiling, largest}
use Rattle.dimacs.specs.Header.{unlimited, limits_of}
use Rattle.dimacs.specs.Clauses.{ended}
use Rattle.dimacs.specs.Texts.{answers_from, begin, text}
use Rattle.dimacs.specs.Writing.{header_line}
use Rattle.dimacs.specs.declared.Format.{Format}
use Rattle.dimacs.specs.declared.Format.TheVariants.{Plain, Weighted, Grouped, Weighted2022}
use Rattle.dimacs.specs.declared.Mode.{Mode}
use Rattle.dimacs.specs.declared.Rigor.{Rigor}
use Rattle.dimacs.specs.declared.Rigor.TheVariants.{Strict, Lenient}
use Rattle.dimacs.specs.declared.Ends as rule
use Rattle.dimacs.specs.declared.Header.{Header}
use Rattle.dimacs.specs.declared.Limits.{Limits}
use Rattle.dimacs.proofs.Allows.{lenient_allows}
use Rattle.read_back.specs.ReadBack.{Clause, Formula, clause_lines, writing, answer_of, opens, limits_for, ThirdFits, AnyFits, ExtraFits, ClauseFits, Readable, ReadsBack, Opened, Told, Unrefused}
use Rattle.read_back.proofs.Each.{each_on}
use Rattle.read_back.proofs.Ends.{Ends, start, ends_all, ends_past, start_all, start_past}
use Rattle.read_back.proofs.Texts.{lines_open, Counts, answers_written}
use Rattle.read_back.proofs.Headers.{header_opens, none_opens}
use Rattle.read_back.proofs.Returns.{written_as_is}

-- The limits that apply are within the bounds.
record Bounded (limits : Limits) : Type 0 where
  literals : limits.literals ≤ ceiling
  groups : limits.groups ≤ largest
  clauses : limits.clauses ≤ largest

bounded : (f : Format) (m : Mode) (o : Option Header) → AnyFits f o → Bounded (limits_for f m o)
bounded f m none k = omega arith
bounded f m (some h) k = go m.rigor
  where
    third : (f : Format) → ThirdFits f h.third → h.third ≤ largest
    third Plain e = omega arith
    third Weighted e = e
    third Grouped e = e
    third Weighted2022 e = omega arith

    go : (rigor : Rigor) → Bounded (limits_of f rigor h)
    go Lenient = omega arith
    go Strict = let a = lenient_allows f h k.variables (third f k.third) in record { literals = a.literals; groups = a.groups; clauses = k.clauses }

-- A formula by its two parts.
abbrev formula : Option Header → List Clause → Formula
formula o cs = record { header = o; clauses = cs }

module _ (f : Format) (m : Mode) (room : ℕ) where
  -- The clauses, from the place where they begin.
  answers : (o : Option Header) (cs : List Clause) → Readable f m room (formula o cs) → (s : List ℕ) (at : ℕ) → Ends s (clause_lines f cs)
      → start s (clause_lines f cs) ≡ at → answers_from s f (limits_for f m o) room (begin at) ≡ map answer_of cs ++ (ended ∷ [])
  answers o cs k s at h e =
      let b = bounded f m o k.header in
      let n : Counts (limits_for f m o).clauses 0 (length cs) = ⊎_elim (λ z. inl z) (λ z. inr (omega arith, b.clauses)) k.count in
      rw e at (answers_written s f (limits_for f m o) b.literals room cs 0 n k.clauses h)

  back : (o : Option Header) (cs : List Clause) → Readable f m room (formula o cs) → ReadsBack f m room (formula o cs)
  unfolding text
  back none cs k =
      let s = clause_lines f cs in
      rw (written_as_is m.ends f (formula none cs), none_opens f s (lines_open f cs), answers none cs k s 0 (ends_all s) (start_all s))
  back (some h) cs k =
      let t = clause_lines f cs in
      let s = header_line f h ++ t in
      let e : start s t ≡ length (header_line f h) = omega (arith, start_past (header_line f h) t (ends_all s), start_all s) in
      rw (written_as_is m.ends f (formula (some h) cs), header_opens f h k.header t, e, answers (some h) cs k s (length (header_line f h)) (ends_past (header_line f h) t (ends_all s)) e)

  pub read_back : (x : Formula) → Readable f m room x → ReadsBack f m room x
  read_back x k = back x.header x.clauses k

-- Nothing is refused of what is written.
pub never_refused : (f : Format) (m : Mode) (room : ℕ) (x : Formula) → Readable f m room x → Unrefused (text f m room (writing f x))
never_refused f m room x k = subst⁻¹ Unrefused (read_back f m room x k) (record { opened = opened x.header; answers = answered x.clauses })
  where
    opened : (o : Option Header) → Opened (Ok (opens f o))
    opened none = tt
    opened (some h) = tt

    answered : (cs : List Clause) → Each Told (map answer_of cs ++ (ended ∷ []))
    answered [] = (tt, tt)
    answered (c ∷ cs) = (tt, answered cs)

-- What can be read strictly can be read leniently.
lenient_fits : (f : Format) (limits : Limits) → Bounded limits → (room : ℕ) (c : Clause) → ClauseFits f limits room c → ClauseFits f unlimited room c
lenient_fits f limits b room c k =
    record { extra = extra f k.extra; literals = each_on (λ l j. omega arith) c.literals k.literals; few = k.few }
  where
    extra : (f : Format) → ExtraFits f limits c.extra → ExtraFits f unlimited c.extra
    extra Plain e = e
    extra Weighted e = e
    extra Weighted2022 e = e
    extra Grouped e = omega arith

lenient_limits : (f : Format) (ends : rule.Ends) (o : Option Header) → limits_for f (in_mode Lenient ends) o ≡ unlimited
lenient_limits f ends none = refl
lenient_limits f ends (some h) = refl

pub lenient : (f : Format) (ends : rule.Ends) (room : ℕ) (x : Formula) → Readable f (in_mode Strict ends) room x → Readable f (in_mode Lenient ends) room x
lenient f ends room x k =
    let e = lenient_limits f ends x.header in
    let b = bounded f (in_mode Strict ends) x.header k.header in
    record {
      header = k.header;
      count = inl (rw e);
      clauses = rw e (each_on (lenient_fits f (limits_for f (in_mode Strict ends) x.header) b room) x.clauses k.clauses);
    }
