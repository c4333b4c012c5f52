-- `frame::bytes_at` has the bytes that are there, and then zeros. Assumes nothing.
use Rattle.std.proofs.Common.{◌≡◌, ◌+◌, ◌-◌, ◌<◌, ◌++◌, ℕ, List, length, min, take, drop, get_or, replicate, rules, arith, sym, ap, ◌∙◌, length-take-le}
use mathlib.Core.Logic.{⊎_elim}
use Rattle.std.proofs.lemmas.Bool.{cases_lt}
use Rattle.std.proofs.lemmas.List.{get_or_append_left, get_or-append_right, get_or-take, get_or-drop, get_or-replicate, get_or_past}
use Rattle.frame.proofs.bytes_at.Goals as goal

-- A byte of the front, and a zero behind it, which stands where the list has no byte.
padded : (xs : List ℕ) (n count i : ℕ) → i < n → count ≡ min (length xs) n → get_or (take count xs ++ drop count (replicate n 0)) i 0 ≡ get_or xs i 0
padded xs n count i below most =
    let front = length-take-le count xs (omega (arith, most)) in
    ⊎_elim
    (λ inside. get_or_append_left (take count xs) (drop count (replicate n 0)) 0 i (omega (arith, front, inside)) ∙ get_or-take count xs i 0 inside)
    (λ beyond.
    get_or-append_right (take count xs) (drop count (replicate n 0)) count i 0 front beyond
    ∙ get_or-drop count (replicate n 0) (i - count) 0
    ∙ get_or-replicate n (count + (i - count)) 0 0 (omega (arith, below, beyond))
    ∙ sym (get_or_past xs i 0 (omega (arith, most, below, beyond))))
    (cases_lt i count)

pub returns : goal.returns
returns g c = λ i below.
    let rest = c.rest-rest.result.now in
    let copied = c.copy_from_slice.ensures.after in
    rw copied (padded rest g.row.N c.min-count.result i below (search rules))
    ∙ ap (λ l. get_or l i 0) c.rest-rest.ensures ∙ get_or-drop c.args.at c.args.bytes.now i 0
