use Rattle.std.proofs.Common.{◌≡◌}
use Rattle.std.specs.Prelude.{All}
use Rattle.std.specs.Vec.{vec_len}
use Rattle.m2v_board.specs.Slots.{IsRoom}
use Rattle.m2v_board.proofs.laid.rooms_for.Given as goal

abbrev pub invariant-loop-i : goal.invariant-loop-i
invariant-loop-i l = record {
  count : vec_len l.rooms ≡ l._i;
  rooms : All (λ q. IsRoom l.jobs q) l.rooms.items;
}
