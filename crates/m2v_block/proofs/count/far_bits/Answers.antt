use Rattle.std.proofs.Common.{ap, ◌∙◌, sym, length}
use Rattle.std.proofs.lemmas.Int.{to_z-of_z}
use Rattle.m2v_bits.proofs.Bits.{length-bits_of}
use Rattle.m2v_block.proofs.count.far_bits.Goals as goal

pub returns-clause-value : goal.returns-clause-value
returns-clause-value c =
    let fits = c.ranges.level in
    let spelled = simp to_z-of_z at c.pair_code.ensures.spelled in
    sym (length-bits_of c.pair_code.result.len c.pair_code.result.number) ∙ ap length spelled
