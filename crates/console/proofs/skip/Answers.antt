-- What a turn passes over stands behind what came before it.
use Rattle.std.proofs.Common.{◌++◌, subst, length-append, arith, Err}
use Rattle.std.proofs.KnownBytes.{Consumes-trans}
use Rattle.console.specs.Takes.{Passes}
use Rattle.console.proofs.skip.Goals as goal

pub loop-left-preserved : goal.loop-left-preserved
loop-left-preserved g c =
    let (before, made_up, came) = c.loop-left.invariant in
    let (few, long, read) = c.in-Ok.ensures.bytes in
    (before ++ few, omega (arith, length-append before few), Consumes-trans _ _ _ _ _ came read)

pub returns-in-Err-Part-clause-bytes : goal.returns-in-Err-Part-clause-bytes
returns-in-Err-Part-clause-bytes g c =
    let (before, made_up, came) = c.loop-left.invariant in
    let (few, long, read, end) = subst (λ s. Passes c.min-few.result (g.R.Read.remaining c.loop-left.input) (g.R.Read.remaining c.skip_few.new.input) (Err s)) c.in-Err-Part.field-0-is c.in-Err-Part.ensures.bytes in
    (before ++ few, omega (arith, length-append before few), Consumes-trans _ _ _ _ _ came read, end)

pub returns-in-Err-Failed-clause-bytes : goal.returns-in-Err-Failed-clause-bytes
returns-in-Err-Failed-clause-bytes g c =
    let (before, made_up, came) = c.loop-left.invariant in
    let (few, long, read) = subst (λ s. Passes c.min-few.result (g.R.Read.remaining c.loop-left.input) (g.R.Read.remaining c.skip_few.new.input) (Err s)) c.in-Err-Failed.field-0-is c.in-Err-Failed.ensures.bytes in
    (before ++ few, omega (arith, length-append before few), Consumes-trans _ _ _ _ _ came read)
