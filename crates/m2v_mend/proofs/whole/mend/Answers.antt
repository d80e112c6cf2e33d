use Rattle.std.proofs.Common.{arith, inl, inr}
use Rattle.std.proofs.lemmas.Result.{IfOk-weaker, IfErr-weaker}
use Rattle.m2v_mend.proofs.Ended.{unlisted_mended, unlisted_fails}
use Rattle.m2v_mend.proofs.whole.mend.Goals as goal

pub returns-clause-ok : goal.returns-clause-ok
returns-clause-ok g c = IfOk-weaker c.mend_listed.result _ _ (λ a of. unlisted_mended _ _ _ a of) c.mend_listed.ensures.ok

pub returns-clause-err : goal.returns-clause-err
returns-clause-err g c =
    IfErr-weaker c.mend_listed.result _ _ (λ e f. unlisted_fails _ _ _ e (λ failed. elim failed [ inl more ↦ omega (arith, more) | inr last ↦ omega (arith, last) ]) f) c.mend_listed.ensures.err
