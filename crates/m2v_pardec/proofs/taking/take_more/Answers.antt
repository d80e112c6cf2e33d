use Rattle.std.proofs.Common.{rules, ◌≡◌, None}
use Rattle.std.proofs.lemmas.Result.{on_err_weaker, IfOk-weaker}
use Rattle.m2v_pardec.specs.declared.taking.Stop.TheVariants.{More}
use Rattle.m2v_pardec.specs.declared.taking.Taken.{Taken}
use Rattle.m2v_port.specs.Port.{Rose}
use Rattle.m2v_pardec.specs.Taken.{ReadFailed, ReadOn}
use Rattle.m2v_pardec.proofs.RestLaws.{if_takes_more, taking_fails, new_read}
use Rattle.m2v_pardec.proofs.taking.take_more.Goals as goal

pub returns : goal.returns
returns g c =
    let none : c.args.rest.now.other ≡ None = search rules in
    let more : c.args.rest.now.stop ≡ More = search rules in
    let r = c.args.rest.now in
    let left = g.S.Source.left c.args.input.now in
    let left' = g.S.Source.left c.take-2.new.input in
    let first = g.S.Source.faults c.args.input.now in
    let now = g.S.Source.faults c.take-2.new.input in
    let t = c.take-2.ensures in
    record {
      ok = if_takes_more r c.args.cutter.now left c.take-2.new.cutter left' c.take-2.result none more (c.requires).most t.most t.taken t.order t.some;
      told = t.told;
      err = on_err_weaker c.take-2.result (taking_fails r c.args.cutter.now left c.take-2.new.cutter left' none more) t.err;
      read = IfOk-weaker c.take-2.result (λ (x : Taken). ReadFailed x.stop (Rose first now)) (λ (x : Taken). ReadOn r.stop x.stop first now) (λ x failed. new_read r.stop x.stop first now failed) t.read;
      rises = t.faults;
    }
