use Rattle.std.proofs.Common.{arith, inl, inr}
use Rattle.std.proofs.lemmas.Result.{IfOk-weaker, IfErr-weaker}
use Rattle.m2v_encode.proofs.WithoutRecon.{unshown_coded, unshown_stops}
use Rattle.m2v_encode.proofs.unshown.encode_unshown.Goals as goal

pub returns-clause-ok : goal.returns-clause-ok
returns-clause-ok g c = IfOk-weaker c.encode_to.result _ _ (λ t h. unshown_coded _ _ _ _ t h) c.encode_to.ensures.ok

pub returns-clause-err : goal.returns-clause-err
returns-clause-err g c =
    IfErr-weaker c.encode_to.result _ _ (λ e h. unshown_stops _ _ _ _ e (λ failed. elim failed [ inl more ↦ omega (arith, more) | inr last ↦ omega (arith, last) ]) h) c.encode_to.ensures.err
