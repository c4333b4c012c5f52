-- No CR is written, so that what is written is read as it is whatever ends lines. Assumes nothing.
use Prim.Native.Nat.{ℕ, zero, suc, ◌+◌, ◌/◌, ◌%◌, ◌<◌}
use Prim.Native.Char.{code}
use mathlib.Core.Bool.{Bool, true, false, cond}
use mathlib.Core.List.{List, [], ◌∷◌, ◌++◌}
use mathlib.Core.Option.{Option, some, none}
use mathlib.Core.Path.{◌≡◌, refl, sym}
use native.Mathlib.Omega.{arith}
use borrow.Author.Tests.{eq-eqb, ne_eqb, ltb-true, ltb-false}
use lib.Dec.{eqb, ltb}
use lib.ListN.{get_or}
use lib.IntN.{ℤ, pos, negsuc}
use Rattle.dimacs.specs.Bytes.{bytes, CR}
use Rattle.dimacs.specs.Lined.{lined}
use Rattle.dimacs.specs.Names.{hard}
use Rattle.dimacs.specs.Header.{has_third, format_word}
use Rattle.dimacs.specs.Writing.{digits, signed_digits, third_digits, header_line, lead, item, items, clause_line}
use Rattle.dimacs.specs.declared.Ends.{Ends}
use Rattle.dimacs.specs.declared.Format.{Format}
use Rattle.dimacs.specs.declared.Format.TheVariants.{Plain, Weighted, Grouped, Weighted2022}
use Rattle.dimacs.specs.declared.Header.{Header}
use Rattle.dimacs.proofs.Tests.{tested, chosen, unlike}
use Rattle.dimacs.proofs.Lined.{lined_alone}
use Rattle.dimacs.proofs.Writing.{digits_one, digits_more}
use Rattle.read_back.specs.ReadBack.{Clause, Formula, header_lines, clause_lines, writing}

-- No CR stands in a list.
abbrev unreturned : List ℕ → Bool
unreturned [] = true
unreturned (b ∷ r) = cond (eqb b CR) false (unreturned r)

abbrev Unreturned : List ℕ → Type 0
Unreturned s = unreturned s ≡ true

nowhere : (s : List ℕ) → Unreturned s → (i : ℕ) → get_or s i 0 ≡ CR → ⊥
nowhere [] h i e = omega arith
nowhere (b ∷ r) h zero e = let t = eq-eqb b CR e in unlike (sym (rw t at h))
nowhere (b ∷ r) h (suc i) e = tested (eqb b CR) (λ t. unlike (sym (rw t at h))) (λ t. nowhere r (rw t at h) i e)

both : (a b : List ℕ) → Unreturned a → Unreturned b → Unreturned (a ++ b)
both [] b h k = k
both (x ∷ a) b h k = tested (eqb x CR) (λ t. unlike (sym (rw t at h))) (λ t. rw t (both a b (rw t at h) k))

digit : (d : ℕ) → Unreturned ((code "0" + d) ∷ [])
digit d = rw (ne_eqb (48 + d) CR (λ h. omega arith))

digits_up_to : (m n : ℕ) → n < m → Unreturned (digits n)
digits_up_to zero n h = absurd (omega arith)
digits_up_to (suc m) n h =
    tested (ltb n 10)
    (λ e. let l = ltb-true n 10 e in rw (digits_one n l) (digit n))
    (λ e. let l = ltb-false n 10 e in
    rw (digits_more n l) (both (digits (n / 10)) ((code "0" + n % 10) ∷ []) (digits_up_to m (n / 10) (omega arith)) (digit (n % 10))))

number : (n : ℕ) → Unreturned (digits n)
number n = digits_up_to (suc n) n (omega arith)

spaced : (n : ℕ) → Unreturned (digits n ++ bytes " ")
spaced n = both (digits n) (bytes " ") (number n) refl

signed : (l : ℤ) → Unreturned (signed_digits l)
signed (pos n) = number n
signed (negsuc n) = number (suc n)

named : (f : Format) → Unreturned (format_word f)
named Plain = refl
named Weighted = refl
named Grouped = refl
named Weighted2022 = refl

header : (f : Format) (h : Header) → Unreturned (header_line f h)
unfolding header_line
header f h =
    let p = bytes "p " ++ format_word f in
    let v = p ++ bytes " " ++ digits h.variables in
    let c = v ++ bytes " " ++ digits h.clauses in
    let v-so = both (p ++ bytes " ") (digits h.variables) (both p (bytes " ") (named f) refl) (number h.variables) in
    let c-so = both (v ++ bytes " ") (digits h.clauses) (both v (bytes " ") v-so refl) (number h.clauses) in
    let t-so = chosen Unreturned (has_third f) (λ _. number h.third) (λ _. refl) in
    both (c ++ third_digits f h.third) (bytes "\n") (both c (third_digits f h.third) c-so t-so) refl

leads : (f : Format) (n : ℕ) → Unreturned (lead f n)
leads Plain n = refl
leads Weighted n = spaced n
leads Grouped n = both (bytes "{" ++ digits n) (bytes "} ") (number n) refl
leads Weighted2022 n = chosen Unreturned (eqb n hard) (λ _. refl) (λ _. spaced n)

all_items : (so : List ℤ) → Unreturned (items so)
unfolding items
all_items [] = refl
all_items (l ∷ so) = both (item l) (items so) (both (signed_digits l) (bytes " ") (signed l) refl) (all_items so)

line : (f : Format) (n : ℕ) (so : List ℤ) → Unreturned (clause_line f n so)
unfolding clause_line
line f n so = both (lead f n ++ items so) (bytes "0\n") (both (lead f n) (items so) (leads f n) (all_items so)) refl

all_lines : (f : Format) (cs : List Clause) → Unreturned (clause_lines f cs)
unfolding clause_lines
all_lines f [] = refl
all_lines f (c ∷ cs) = both (clause_line f c.extra c.literals) (clause_lines f cs) (line f c.extra c.literals) (all_lines f cs)

headers : (f : Format) (o : Option Header) → Unreturned (header_lines f o)
headers f none = refl
headers f (some h) = header f h

-- What is written is read as it is.
pub written_as_is : (rule : Ends) (f : Format) (x : Formula) → lined rule (writing f x) ≡ writing f x
written_as_is rule f x =
    let k = both (header_lines f x.header) (clause_lines f x.clauses) (headers f x.header) (all_lines f x.clauses) in
    lined_alone rule (writing f x) (λ i e. absurd (nowhere (writing f x) k i e))
