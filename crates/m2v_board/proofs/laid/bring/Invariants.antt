use Rattle.std.proofs.Common.{◌≡◌}
use Rattle.m2v_board.proofs.Slots.{from}
use Rattle.m2v_board.proofs.laid.bring.Given as goal

abbrev pub invariant-loop-i : goal.invariant-loop-i
invariant-loop-i g l = record {
  table : l.seat.table_id ≡ l.initial.seat.table_id;
  view : l.seat.me.0 ≡ l.initial.seat.me.0;
  slots : l.seat.me.1 ≡ from l._i l.initial.seat.me.1;
}
