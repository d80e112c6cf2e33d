use Rattle.std.proofs.Common.{sym}
use Rattle.m2v_audit.proofs.Telling.{settle_says, open_says}
use Rattle.m2v_audit.proofs.account.Account.settle.Goals as goal

pub returns-then-is_settled-clause-told : goal.returns-then-is_settled-clause-told
returns-then-is_settled-clause-told c =
    let a = c.args.self.now in
    (settle_says a.buffer a.waiting a.last a.total c.first.result c.first.new.self (sym c.if-is_settled.ensures.value) c.first.ensures.exact).told

pub returns-then-is_settled-clause-after : goal.returns-then-is_settled-clause-after
returns-then-is_settled-clause-after c =
    let a = c.args.self.now in
    (settle_says a.buffer a.waiting a.last a.total c.first.result c.first.new.self (sym c.if-is_settled.ensures.value) c.first.ensures.exact).after

pub returns-then-is_settled-clause-none : goal.returns-then-is_settled-clause-none
returns-then-is_settled-clause-none c =
    let a = c.args.self.now in
    λ none. ((settle_says a.buffer a.waiting a.last a.total c.first.result c.first.new.self (sym c.if-is_settled.ensures.value) c.first.ensures.exact).none none).0

pub returns-then-is_settled-clause-all : goal.returns-then-is_settled-clause-all
returns-then-is_settled-clause-all c =
    let a = c.args.self.now in
    λ none. ((settle_says a.buffer a.waiting a.last a.total c.first.result c.first.new.self (sym c.if-is_settled.ensures.value) c.first.ensures.exact).none none).1

pub returns-else-is_settled-clause-none : goal.returns-else-is_settled-clause-none
returns-else-is_settled-clause-none c =
    let a = c.args.self.now in λ _. (open_says a.buffer a.waiting a.last a.total (sym c.if-is_settled.ensures.value)).0

pub returns-else-is_settled-clause-all : goal.returns-else-is_settled-clause-all
returns-else-is_settled-clause-all c =
    let a = c.args.self.now in λ _. (open_says a.buffer a.waiting a.last a.total (sym c.if-is_settled.ensures.value)).1
