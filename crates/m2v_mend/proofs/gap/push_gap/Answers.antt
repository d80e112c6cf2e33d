use Rattle.std.proofs.Common.{sym, ◌∙◌}
use Rattle.m2v_mend.proofs.Gaps.{gap_first, gap_joins, gap_follows}
use Rattle.m2v_mend.proofs.gap.push_gap.Goals as goal

pub returns-in_default : goal.returns-in_default
returns-in_default c =
    gap_first c.args.gaps.now.items c.pop.new.self.items c.push.new.self.items c.args.gap (sym c.args.gaps.now.ok.0 ∙ c.in_default.ensures.cases.0) c.in_default.ensures.items c.in_ok-push.ensures.items

pub returns-then-joins : goal.returns-then-joins
returns-then-joins c = gap_joins c.args.gaps.now.items c.pop.new.self.items c.push-then-joins.new.self.items c.in-Some.last c.args.gap c.in_ok-both.both c.in-Some.ensures.items (sym c.joins.ensures ∙ c.if-joins.true) c.in_ok-both.ensures c.in_ok-push-2.ensures.items

pub returns : goal.returns
returns c = gap_follows c.args.gaps.now.items c.pop.new.self.items c.push-2.new.self.items c.push-3.new.self.items c.in-Some.last c.args.gap c.in-Some.ensures.items (sym c.joins.ensures ∙ c.if-joins.false) c.in_ok-push-3.ensures.items c.in_ok-push-4.ensures.items
