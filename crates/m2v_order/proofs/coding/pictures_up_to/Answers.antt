use Rattle.std.proofs.Common.{sym, ◌∙◌, arith}
use Rattle.m2v_order.specs.Coding.{is_anchor}
use Rattle.m2v_order.specs.Groups.{jobs_of}
use Rattle.m2v_order.proofs.Orders.{order_none, past_last_none, anchor_more, past_anchor, other_more}
use Rattle.m2v_order.proofs.coding.pictures_up_to.Goals as goal
use Rattle.m2v_order.proofs.coding.pictures_up_to.Goals.{then-anchor_at+in_ok-push_anchor, else-anchor_at}

pub loop-display-init : goal.loop-display-init
loop-display-init c = (
  c.new-pictures.ensures.items ∙ order_none (jobs_of c.args.settings.now c.args.count c.args.first) (is_anchor c.args.settings.now c.args.count) c.args.first,
  past_last_none (is_anchor c.args.settings.now c.args.count) c.args.first,
  omega arith,
  omega arith,
)

pub loop-display-preserved : goal.loop-display-preserved
loop-display-preserved c =
    let jobs = jobs_of c.args.settings.now c.args.count c.args.first in
    let test = is_anchor c.args.settings.now c.args.count in
    elim c.if-anchor_at.branch [
      | then-anchor_at+in_ok-push_anchor w ↦ (
        rw (w.pictures-is, w.in_ok-push_anchor.ensures.ok, c.loop-display.invariant.0, c.loop-display.invariant.1)
            (sym (anchor_more jobs test c.args.first c.loop-display.display (omega arith) (sym w.if-anchor_at.ensures.value))),
        rw w.from-is (sym (past_anchor test c.args.first c.loop-display.display (omega arith) (sym w.if-anchor_at.ensures.value))),
        omega arith,
        omega arith,
      )
      | else-anchor_at w ↦ (
        rw (w.pictures-is, other_more test c.args.first c.loop-display.display (omega arith) (sym w.if-anchor_at.ensures.value)) c.loop-display.invariant.0,
        rw (w.from-is, other_more test c.args.first c.loop-display.display (omega arith) (sym w.if-anchor_at.ensures.value)) c.loop-display.invariant.1,
        omega arith,
        omega arith,
      )
    ]
