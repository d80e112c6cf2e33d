use Rattle.m2v_order.proofs.Shows.{handed_due, handed_shown, due_prefix}
use Rattle.m2v_order.proofs.laws.law_display.Goals as goal

pub returns : goal.returns
returns g c = record { due = handed_due; shown = handed_shown; prefix = due_prefix }
