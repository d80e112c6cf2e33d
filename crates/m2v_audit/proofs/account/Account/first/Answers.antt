use Rattle.std.proofs.Common.{◌≡◌, List, length, sym, ap, subst, ◌∙◌, rules}
use Rattle.std.proofs.lemmas.List.{nil_from_length}
use Rattle.m2v_audit.specs.declared.account.Due.{Due}
use Rattle.m2v_audit.specs.Account.{Account, IsSound, known, picture_of}
use Rattle.m2v_audit.proofs.Kept.{sound_first}
use Rattle.m2v_audit.proofs.Telling.{first_is, none_waits}
use Rattle.m2v_audit.proofs.account.Account.first.Goals as goal

pub returns-in_err-due : goal.returns-in_err-due
returns-in_err-due c =
    let s = c.self.inside in
    let with : List Due → Account = λ xs. record { buffer = s.buffer; waiting = xs; last = s.last; total = s.total } in
    let same = c.in_err-due.ensures.items in
    let n : length s.waiting.items ≡ 0 = search (rules, c.in_err-due.ensures.cases) in
    rw (← c.self.view_is, c.from_residual.ensures) (record { exact = (none_waits (with s.waiting.items) (nil_from_length s.waiting.items n), ap with (sym same)) })

pub invariant_of-self-2 : goal.invariant_of-self-2
invariant_of-self-2 c =
    let s = c.self.inside in
    let sound = subst (λ (xs : List Due). IsSound s.buffer xs s.whole s.last s.total) c.in_ok-due.ensures.items c.self.invariant in
    sound_first s.buffer c.remove-removed.new.self c.in_ok-due.due c.pop_front.new.self.items s.whole s.last s.total (picture_of c.in_ok-due.due) c.known-known.result c.remove-removed.ensures.next sound

pub returns : goal.returns
returns c =
    let s = c.self.inside in
    let old : Account = record { buffer = s.buffer; waiting = s.waiting.items; last = s.last; total = s.total } in
    let is = first_is old c.in_ok-due.due c.pop_front.new.self.items c.known-known.result c.remove-removed.result c.remove-removed.new.self c.in_ok-due.ensures.items in
    rw (← c.self.view_is) (record { exact = is (c.known-known.ensures.value ∙ ap known (sym c.self.view_is)) c.remove-removed.ensures.told c.remove-removed.ensures.next })
