use Rattle.std.proofs.Common.{◌∙◌, ◌*◌, sym, subst}
use Rattle.std.proofs.lemmas.Result.{on_ok_weaker}
use Rattle.m2v_rate.specs.Plans.{account_at}
use Rattle.m2v_order.specs.Whole.{handed}
use Rattle.m2v_encode.specs.declared.answer.Summary.{Summary}
use Rattle.m2v_encode.specs.Groups.{whole_ledger, IsPlace}
use Rattle.m2v_encode.proofs.GroupLaws.{group_none, first_place, coded_since}
use Rattle.m2v_encode.proofs.group.Coder.code_last.Goals as goal

pub returns-in_default-clause-err : goal.returns-in_default-clause-err
returns-in_default-clause-err g c = group_none g.K.Sink.held g.K.Sink.faults g.N.Sink.held g.N.Sink.faults _ _ _ _ _

pub put_group-requires-clause-place : goal.put_group-requires-clause-place
put_group-requires-clause-place g c =
    let b = c.work-done.result in
    subst (λ (t : Summary). IsPlace b.settings (account_at (whole_ledger b) 0) (8 * t.bytes)) (sym c.prepare.ensures.total)
    (first_place c.args.self.now (handed c.args.group.group) b _ (c.work-done.ensures.done ∙ c.in-Ok.ensures.value) c.requires.going)

pub returns-clause-coded : goal.returns-clause-coded
returns-clause-coded g c =
    on_ok_weaker c.put_group.result
    (λ coded. coded_since c.args.self.now c.prepare.new.self c.put_group.new.self _ c.work-done.result _ _ _ c.prepare.ensures.settings c.prepare.ensures.total
    (c.work-done.ensures.done ∙ c.in-Ok.ensures.value) coded)
    c.put_group.ensures.coded
