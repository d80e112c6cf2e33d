use Rattle.std.proofs.Common.{ℕ, ap, ◌∙◌, refl}
use Rattle.std.specs.Prelude.{nat_eq}
use Rattle.m2v_mend.proofs.Made.{added_made}
use Rattle.m2v_mend.proofs.mender.Mender.add_gap.Goals as goal

pub returns-clause-told : goal.returns-clause-told
returns-clause-told c = λ written listed m is.
    added_made written listed m c.args.self.now c.args.gap c.is_empty.result _ is (c.is_empty.ensures ∙ ap (λ (n : ℕ). nat_eq n 0) c.args.self.now.gaps.ok.0) c.in_ok-push_gap.ensures
    (rw (c.in_ok-self.ensures, c.first_fault-self.ensures) refl)
