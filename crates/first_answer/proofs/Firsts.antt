-- What follows from the promise of a first answer: there is one, which fits the buffer, and a reader of the text gives it. Assumes nothing.
use Prim.Native.Nat.{ℕ}
use mathlib.Core.List.{List}
use mathlib.Core.Path.{◌≡◌, refl, ap, sym, ◌∙◌, subst}
use lib.ListN.{length}
use lib.IntN.{ℤ}
use denote.Ref.{Bor}
use Rattle.clause.specs.Answers.{Next}
use Rattle.formula.specs.declared.Stepped.{Stepped}
use Rattle.formula.specs.Cursors.{opened, step_of, Steps}
use Rattle.formula.proofs.Runs.{CountFits, steps_fit}
use Rattle.reader.specs.declared.Reader.{Reader}
use Rattle.reader.specs.declared.Opened.{Opened}
use Rattle.reader.specs.Readers.{opened_on, Reads}
use Rattle.first_answer.specs.declared.First.{First}
use Rattle.first_answer.specs.Firsts.{ReadsFirst}

-- Two permitted first answers are equal, and so are the buffers after them.
pub one_first : {f m : ℕ} {s : List ℕ} {old n₁ n₂ : List ℤ} {r₁ r₂ : First} → ReadsFirst f m s old n₁ r₁ → ReadsFirst f m s old n₂ r₂ → (r₁ ≡ r₂) × (n₁ ≡ n₂)
one_first p q = (p.answer ∙ sym q.answer, p.buffer ∙ sym q.buffer)

-- The first answer counts no more literals than the buffer has room for.
pub first_fits : {f m : ℕ} {s : List ℕ} {old new : List ℤ} {r : First} → ReadsFirst f m s old new r → {a : Next} → r.answer ≡ a → CountFits (length old) a
first_fits {f} {m} {s} {old} {new} p g =
    let c = (opened f m s).cursor in
    steps_fit s c old new (step_of s (length old) c) (record { answer = refl; buffer = p.buffer }) (sym (ap (λ (x : First). x.answer) p.answer) ∙ g)

-- A call on the reader of a text, and its place then, are the first call on that text.
pub first_read : (f m : ℕ) (t : Bor (List ℕ)) {o : Opened} {after : Reader} {old new : List ℤ} {a : Next} {at : ℕ} → o ≡ opened_on f m t → Reads o.reader old new after a → at ≡ after.cursor.progress.place
    → ReadsFirst f m t.now old new (record { opening = o.opening; answer = a; place = at })
first_read f m t {after = after} {old = old} {new = new} {a = a} made p e =
    let k : Steps t.now (opened f m t.now).cursor old new (record { answer = a; cursor = after.cursor }) = (subst (λ (o : Opened). Reads o.reader old new after a) made p).step in
    record { answer = λ i. record { opening = (made i).opening; answer = (k.answer i).answer; place = (e ∙ ap (λ (z : Stepped). z.cursor.progress.place) k.answer) i }; buffer = k.buffer }
