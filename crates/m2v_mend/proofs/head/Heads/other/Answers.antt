use Rattle.std.proofs.lemmas.Bool.{eq-eqb}
use Rattle.std.proofs.lemmas.Result.{on_ok_weaker}
use Rattle.m2v_mend.proofs.HeadLaws.{heads_appended, kept_value}
use Rattle.m2v_mend.proofs.head.Heads.other.Goals as goal

pub returns-then-kept : goal.returns-then-kept
returns-then-kept c =
    on_ok_weaker c.append.result
    (λ a. heads_appended c.args.self.now c.append.new.self _ c.requires.other c.if-not-self.false (eq-eqb _ 0xB5 (kept_value c.args.kept.now c.args.zeros 0xB5 c.requires.code c.if-kept.true)) a)
    c.append.ensures
