use Rattle.m2v_audit.proofs.TextEnds.{ends_skipped, ends_whole, ends_fault}
use Rattle.m2v_audit.proofs.pieces.read_text.Goals as goal

pub returns-then-optional-clause-ok : goal.returns-then-optional-clause-ok
returns-then-optional-clause-ok g c = ends_skipped _ _ _ _ _ _ _ _ (rw c.if-optional.true at c.in_ok-optional.ensures.ok)

pub returns-in-Ok-clause-ok : goal.returns-in-Ok-clause-ok
returns-in-Ok-clause-ok g c =
    let t = rw c.if-optional.false at c.in_ok-optional.ensures.ok in
    ends_whole _ _ _ _ _ _ _ _ t _ (rw c.place.ensures.value at (c.in-Ok.ensures.ok t.decoder t.follows))

pub returns-clause-err : goal.returns-clause-err
returns-clause-err g c =
    let t = rw c.if-optional.false at c.in_ok-optional.ensures.ok in
    ends_fault _ _ _ _ _ _ _ _ t c.in-Err.f c.in_ok-optional.ensures.going (rw c.place.ensures.value at (c.in-Err.ensures.err t.decoder t.follows))
