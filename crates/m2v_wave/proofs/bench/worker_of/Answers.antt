use Rattle.std.proofs.Common.{ap}
use Rattle.m2v_board.specs.Slots.{slot_at}
use Rattle.m2v_wave.specs.Works.{CanWork}
use Rattle.m2v_wave.proofs.bench.worker_of.Goals as goal

pub returns : goal.returns
unfolding CanWork
returns g c =
    let new = c.requires.new in
    (c.requires.board, (new.0, λ j. ap (λ m. slot_at m.1 j) new.1), c.requires.fits, ap (λ m. m.0.passes) new.1)
