use Rattle.std.proofs.Common.{refl}
use Rattle.std.proofs.lemmas.Result.{on_ok_weaker}
use Rattle.m2v_mend.proofs.HeadLaws.{heads_begun}
use Rattle.m2v_mend.proofs.head.Heads.begin.Goals as goal

pub returns : goal.returns
returns c = on_ok_weaker c.append.result (λ a. heads_begun c.args.self.now _ c.append.new.self _ c.requires.header refl refl refl c.truncate.ensures.items a) c.append.ensures
