use Rattle.std.proofs.Common.{arith, sym, ◌∙◌}
use Rattle.m2v_wave.specs.Benches.{IsBenchOf}
use Rattle.m2v_wave.proofs.bench.Bench.with_posts.Goals as goal

pub returns : goal.returns
unfolding IsBenchOf
returns g c =
    let board = c.in_ok-board.ensures.board in
    let count = c.hire.ensures.count ∙ c.in_ok-board.ensures.passes.0 in
    record { workers = count; bench = (board.0, board.1, omega (arith, count, c.requires.workers), board.2 ∙ sym count, c.hire.ensures.idle, c.in_ok-done.ensures.len, omega (arith, c.in_ok-done.ensures.capacity, board.1, c.jobs-jobs.ensures)) }
