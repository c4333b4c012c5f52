-- What a turn reads stands behind what came before it.
use Rattle.std.proofs.Common.{◌≡◌, ℕ, ◌+◌, ◌≤◌, List, ◌++◌, rules, length, take, sym, ap, ◌∙◌, subst, length-take-le}
use Rattle.std.proofs.lemmas.List.{take-append-le}
use Rattle.std.proofs.Math.Seq.{take-append-add}
use Rattle.std.specs.Io.KnownBytes.{Consumes}
use Rattle.std.proofs.KnownBytes.{Consumes-trans}
use borrow.Rule.Slice.PartMut.{put_mid, post_of}
use Rattle.console.proofs.take.Goals as goal

-- A list whose part from a place on was filled by ys: its front, and so many of the part.
front-part : (at k n : ℕ) (xs ys : List ℕ) → at ≤ length xs → n ≤ length ys → take at xs ++ take n ys ≡ take (at + n) (put_mid at k xs ys)
front-part at k n xs ys within fits =
    let rest = ys ++ post_of at k xs in
    sym
    (ap (λ m. take (m + n) (put_mid at k xs ys)) (sym (length-take-le at xs within))
    ∙ take-append-add (take at xs) rest n
    ∙ ap (λ l. take at xs ++ l) (take-append-le n ys (post_of at k xs) fits))

pub loop-done-preserved : goal.loop-done-preserved
loop-done-preserved g c =
    let (long, within, came) = c.loop-done.invariant in
    let read = c.in-Ok.ensures in
    (search rules, search rules, subst (Consumes _ _) (front-part c.loop-done.done _ c.in-Ok.n c.loop-done.buf c.read.new.buf within read.bound.0) (Consumes-trans _ _ _ _ _ came read.bytes.0))
