use Rattle.std.proofs.Common.{◌≤◌}
use Rattle.m2v_dec_piece.specs.Stepping.{Advanced, Spends, measure_of}
use Rattle.m2v_dec_piece.proofs.cutter.look_on.Given as goal

abbrev pub invariant-loop-stand : goal.invariant-loop-stand
invariant-loop-stand g l = Advanced l.fn.hand l.fn.chunk (g.S.Source.left l.fn.input) l.hand l.chunk (g.S.Source.left l.input) × (g.S.Source.faults l.fn.input ≤ g.S.Source.faults l.input)
    × Spends l.fn.hand l.fn.chunk (g.S.Source.left l.fn.input) l.hand l.chunk (g.S.Source.left l.input)

abbrev pub decreases-loop-stand : goal.decreases-loop-stand
decreases-loop-stand g l = measure_of l.hand
