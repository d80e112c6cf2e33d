use Rattle.std.proofs.Common.{Some, ap, ◌∙◌}
use Rattle.m2v_audit.specs.Account.{Account}
use Rattle.m2v_audit.proofs.Telling.{none_first, first_too, none_before, end_says}
use Rattle.m2v_audit.proofs.account.Account.finish.Goals as goal

pub end-requires : goal.end-requires
end-requires c =
    let a = c.args.self.now in
    record { alone = ap (λ (x : Account). x.waiting) c.in-None.ensures.exact.1 ∙ none_first a a.waiting c.in-None.ensures.exact.0 }

pub returns-in-Some-clause-exact : goal.returns-in-Some-clause-exact
returns-in-Some-clause-exact c =
    let a = c.args.self.now in first_too a a.waiting (c.in-Some.told, c.first.new.self) c.in-Some.ensures.exact

pub returns-in-Some-clause-told : goal.returns-in-Some-clause-told
returns-in-Some-clause-told c =
    let a = c.args.self.now in
    (end_says a (Some c.in-Some.told) c.first.new.self (first_too a a.waiting (c.in-Some.told, c.first.new.self) c.in-Some.ensures.exact)).told

pub returns-in-None-clause-exact : goal.returns-in-None-clause-exact
returns-in-None-clause-exact c =
    let before = c.in-None.ensures.exact in
    none_before c.args.self.now c.first.new.self c.end.result c.end.new.self before.0 before.1 c.end.ensures.exact

pub returns-in-None-clause-told : goal.returns-in-None-clause-told
returns-in-None-clause-told c =
    let a = c.args.self.now in
    let before = c.in-None.ensures.exact in
    (end_says a c.end.result c.end.new.self (none_before a c.first.new.self c.end.result c.end.new.self before.0 before.1 c.end.ensures.exact)).told

pub returns-in-None-clause-none : goal.returns-in-None-clause-none
returns-in-None-clause-none c =
    let a = c.args.self.now in
    let before = c.in-None.ensures.exact in
    (end_says a c.end.result c.end.new.self (none_before a c.first.new.self c.end.result c.end.new.self before.0 before.1 c.end.ensures.exact)).none
