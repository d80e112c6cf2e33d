use Rattle.std.proofs.Common.{sym, ◌∙◌, arith}
use Rattle.m2v_slice.proofs.Planned.{may_plan}
use Rattle.m2v_slice.proofs.book.EncodeBook.plan_picture.Goals as goal

pub plan-made-requires : goal.plan-made-requires
plan-made-requires c =
    let h = may_plan c.args.self.now c.pictures-book.ensures.book c.args.p c.requires.picture c.ledger_for-ledger.result c.ledger_for-ledger.ensures.value in
    record { settings = h.settings ∙ sym c.settings.ensures.value; picture = h.picture; known = h.known; planned = omega (arith, h.first) }

pub planned-requires : goal.planned-requires
planned-requires c =
    let h = may_plan c.args.self.now c.pictures-book.ensures.book c.args.p c.requires.picture c.ledger_for-ledger.result c.ledger_for-ledger.ensures.value in
    record { picture = h.picture; first = h.first; known = h.known; plan = c.plan-made.ensures.value }

pub returns : goal.returns
returns c =
    let h = may_plan c.args.self.now c.pictures-book.ensures.book c.args.p c.requires.picture c.ledger_for-ledger.result c.ledger_for-ledger.ensures.value in
    record { plan = h.plan c.plan-made.result c.plan-made.ensures.value; ledger = c.planned.ensures.value ∙ h.after c.plan-made.result c.plan-made.ensures.value }
