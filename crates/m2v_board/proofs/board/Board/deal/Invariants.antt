use Rattle.std.proofs.Common.{◌≡◌, ◌+◌, []}
use Rattle.std.specs.Prelude.{All}
use Rattle.std.specs.Vec.{vec_len, vec_capacity}
use Rattle.m2v_board.specs.Rule.{first_view}
use Rattle.m2v_board.specs.Slots.{IsRoom}
use Rattle.m2v_board.specs.Passes.{IsNew, jobs_of}
use Rattle.m2v_board.proofs.board.Board.deal.Given as goal

abbrev pub invariant-loop-queue : goal.invariant-loop-queue
invariant-loop-queue g l = record {
  fits : l.seat.table_id ≡ l.self.table.shared.table_id;
  idle : l.seat.me ≡ (first_view (jobs_of l.self) (vec_len l.rooms + 1), []);
  count : vec_len l.passes + vec_len l.rooms ≡ vec_len l.initial.rooms;
  space : vec_capacity l.passes ≡ vec_capacity l.fn.passes;
  rooms : All (λ q. IsRoom (jobs_of l.self) q) l.rooms.items;
  all : All (λ p. IsNew l.self p) l.passes.items;
}

abbrev pub decreases-loop-queue : goal.decreases-loop-queue
decreases-loop-queue g l = vec_len l.rooms
