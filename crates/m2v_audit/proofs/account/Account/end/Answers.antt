use Rattle.std.proofs.Common.{Option, sym, ap, subst, ◌∙◌}
use Rattle.m2v_audit.specs.declared.account.Due.{Due}
use Rattle.m2v_audit.specs.Account.{Account, IsSound, known, picture_of}
use Rattle.m2v_audit.proofs.Kept.{sound_end}
use Rattle.m2v_audit.proofs.Telling.{end_is, none_is_left}
use Rattle.m2v_audit.proofs.account.Account.end.Goals as goal

pub returns-in_err-due : goal.returns-in_err-due
returns-in_err-due c =
    let s = c.self.inside in
    let with : Option Due → Account = λ x. record { buffer = s.buffer; waiting = s.waiting.items; last = x; total = s.total } in
    let was = c.in_err-due.ensures.value in
    rw (← c.self.view_is, c.from_residual.ensures) (record { exact = (none_is_left (with s.last) (sym was), ap with (c.in_err-due.ensures.after ∙ was)) })

pub invariant_of-self-2 : goal.invariant_of-self-2
invariant_of-self-2 c =
    let s = c.self.inside in
    let sound = subst (λ (x : Option Due). IsSound s.buffer s.waiting.items s.whole x s.total) (sym c.in_ok-due.ensures.value) c.self.invariant in
    let is = sound_end s.buffer c.remove-removed.new.self c.in_ok-due.due s.waiting.items s.whole s.total (picture_of c.in_ok-due.due) c.known-known.result c.remove-removed.ensures.next sound in
    subst (λ (x : Option Due). IsSound c.remove-removed.new.self s.waiting.items s.whole x s.total) (sym c.in_ok-due.ensures.after) is

pub returns : goal.returns
returns c =
    let s = c.self.inside in
    let old : Account = record { buffer = s.buffer; waiting = s.waiting.items; last = s.last; total = s.total } in
    let empty = ap (λ (x : Account). x.waiting) c.self.view_is ∙ c.requires.alone in
    let is = end_is old c.in_ok-due.due c.known-known.result c.remove-removed.result c.remove-removed.new.self s.waiting.items c.take.new.self (sym c.in_ok-due.ensures.value) in
    rw (← c.self.view_is) (record { exact = is (c.known-known.ensures.value ∙ ap known (sym c.self.view_is)) c.remove-removed.ensures.told c.remove-removed.ensures.next empty c.in_ok-due.ensures.after })
