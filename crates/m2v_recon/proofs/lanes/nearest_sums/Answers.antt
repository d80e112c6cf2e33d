use Rattle.std.proofs.Common.{ap, sym, map, ◌∙◌}
use Rattle.std.proofs.lemmas.Simd.{length-zip2}
use Rattle.m2v_recon.specs.Macro.{clamped}
use Rattle.m2v_recon.proofs.EightLanes.{sum, sums_are, sums_fit, sums_within}
use Rattle.m2v_recon.proofs.lanes.nearest_sums.Goals as goal

pub overflow_add-sums : goal.overflow_add-sums
overflow_add-sums c = sums_fit c.args.x c.args.y c.requires.x c.requires.y

pub nearest-requires-clause-len : goal.nearest-requires-clause-len
nearest-requires-clause-len c =
    rw (sums_are c.args.x c.args.y c.requires.x c.requires.y) (length-zip2 sum c.args.x c.args.y (c.requires.len.0 ∙ sym c.requires.len.1) ∙ c.requires.len.0)

pub nearest-requires-clause-within : goal.nearest-requires-clause-within
nearest-requires-clause-within c = rw (sums_are c.args.x c.args.y c.requires.x c.requires.y) (sums_within c.args.x c.args.y c.requires.x c.requires.y)

pub returns : goal.returns
returns c = c.nearest.ensures ∙ ap (map clamped) (sums_are c.args.x c.args.y c.requires.x c.requires.y)
