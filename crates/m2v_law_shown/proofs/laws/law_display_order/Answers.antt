use Rattle.m2v_law_shown.proofs.Coding.{coding_shown}
use Rattle.m2v_law_shown.proofs.Order.{run_shown}
use Rattle.m2v_law_shown.proofs.laws.law_display_order.Goals as goal

pub returns : goal.returns
returns g c = record { all = coding_shown; run = run_shown }
