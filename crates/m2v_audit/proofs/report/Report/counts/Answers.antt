use Rattle.std.proofs.Common.{refl, arith}
use Rattle.m2v_audit.specs.Report.{with_counts}
use Rattle.m2v_audit.proofs.Counting.{count_next}
use Rattle.m2v_audit.proofs.report.Report.counts.Goals as goal

pub loop-rule-init : goal.loop-rule-init
unfolding with_counts
loop-rule-init c = refl

pub loop-rule-preserved : goal.loop-rule-preserved
loop-rule-preserved c =
    let loop = c.loop-rule in
    count_next c.args.self.now loop.self c.count.new.self loop.rule (omega arith) loop.invariant c.in_ok-count.ensures
