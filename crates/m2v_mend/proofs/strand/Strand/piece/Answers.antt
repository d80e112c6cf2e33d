use Rattle.std.proofs.Common.{refl}
use Rattle.m2v_mend.proofs.Stepping.{step_is, ready_is}
use Rattle.m2v_mend.proofs.strand.Strand.piece.Goals as goal

pub returns-in-Ok-clause-told : goal.returns-in-Ok-clause-told
returns-in-Ok-clause-told c =
    rw (← c.self.view_is) (λ d f. step_is d _ _ c.args.piece.now c.in-Ok.notes (c.in-Ok.ensures.ok d f) c.with-self-inside.ensures refl refl)

pub returns-in-Ok-clause-ready : goal.returns-in-Ok-clause-ready
returns-in-Ok-clause-ready c =
    let ready = rw (← c.self.view_is) at c.requires.ready in
    λ e. ready_is _ _ c.args.piece.now c.in-Ok.notes ready c.requires.piece c.in-Ok.ensures.ok refl
