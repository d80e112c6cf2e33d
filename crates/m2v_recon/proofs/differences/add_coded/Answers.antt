use Rattle.std.proofs.Common.{arith, ◌∙◌, ◌+◌, ◌*◌}
use Rattle.m2v_recon.specs.Steps.{luma_place}
use Rattle.m2v_recon.proofs.Luma.{not_added, added, spot}
use Rattle.m2v_recon.proofs.differences.add_coded.Goals as goal

pub returns-then-not-coded-clause-lines : goal.returns-then-not-coded-clause-lines
returns-then-not-coded-clause-lines g c k j lk lj =
    not_added c.args.coded (g.L.BlockLevels.list c.args.levels.now) c.args.kind.now (8 * k + j) _ c.if-not-coded.true (c.type_inv.samples (luma_place c.args.dct_field c.args.block k + j)).fits

pub returns-clause-lines : goal.returns-clause-lines
returns-clause-lines g c k j lk lj =
    c.add_block.ensures.lines k j lk lj
    ∙ added c.args.coded (g.L.BlockLevels.list c.args.levels.now) c.args.kind.now (8 * k + j) (spot c.args.samples.now (luma_place c.args.dct_field c.args.block k + j)) c.differences.new.out
    c.if-not-coded.false c.differences.ensures.value (omega (arith, c.differences.array_long))

pub returns-clause-rest : goal.returns-clause-rest
returns-clause-rest g c = c.add_block.ensures.rest
