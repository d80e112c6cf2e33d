use Rattle.std.proofs.Common.{◌*◌, Option, Some, sym, subst, arith}
use Rattle.m2v_check.specs.declared.buffer.Buffer.{Buffer}
use Rattle.m2v_check.specs.Judging.{Accounts}
use Rattle.m2v_check.proofs.judge.Judge.account.Goals as goal

pub returns-in_ok-picture-in-Some-clause-account : goal.returns-in_ok-picture-in-Some-clause-account
returns-in_ok-picture-in-Some-clause-account c =
    subst (λ (o : Option Buffer). Accounts c.args.self.now.rules.first o c.args.p.now (8 * c.args.length) c.args.code (Some c.picture.new.self)) (sym c.in-Some.is)
    (record { course = c.picture.ensures.course; times = c.picture.ensures.times; most = c.in_ok-picture-in-Some.ensures.most })

pub returns-then-p-eq0-clause-account : goal.returns-then-p-eq0-clause-account
returns-then-p-eq0-clause-account c =
    subst (λ (o : Option Buffer). Accounts c.args.self.now.rules.first o c.args.p.now (8 * c.args.length) c.args.code c.opened.result) (sym c.in-None.is)
    ((λ e. c.opened.ensures.begins), (λ l. absurd (omega arith)))

pub returns-else-p-eq0-clause-account : goal.returns-else-p-eq0-clause-account
returns-else-p-eq0-clause-account c =
    subst (λ (o : Option Buffer). Accounts c.args.self.now.rules.first o c.args.p.now (8 * c.args.length) c.args.code c.args.self.now.buffer) (sym c.in-None.is)
    ((λ e. absurd (omega arith)), (λ l. c.in-None.is))
