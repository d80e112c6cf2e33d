use Rattle.std.proofs.Common.{Option, Some, sym, ap, subst, ◌∙◌}
use Rattle.m2v_model.specs.declared.state.Sequence.{Sequence}
use Rattle.m2v_check.specs.declared.buffer.Setup.{Setup}
use Rattle.m2v_check.specs.Judging.{BeginsBy, opening_of, times_of}
use Rattle.m2v_check.proofs.judge.opened.Goals as goal

pub returns-in-Some-setup_of-clause-begins : goal.returns-in-Some-setup_of-clause-begins
returns-in-Some-setup_of-clause-begins c =
    let first = c.in-Some.first in
    subst (λ (o : Option Sequence). BeginsBy o c.args.p.now c.args.bits c.args.code (Some c.start.result)) (sym c.in-Some.is) (
      c.in-Some-setup_of.ensures.some,
      record {
        course = c.start.ensures.course ∙ ap (λ (s : Setup). opening_of s (times_of first) c.args.p.now c.args.bits c.args.code) c.in-Some-setup_of.ensures.is;
        times = c.start.ensures.times;
        most = c.start.ensures.most;
      },
    )
