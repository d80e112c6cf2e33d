use Rattle.std.proofs.Common.{◌∙◌, arith}
use Rattle.std.proofs.lemmas.Int.{to_z-of_z}
use Rattle.m2v_quant.proofs.Reconstruction.{bits_parity, mixed_parity}
use Rattle.m2v_quant.proofs.inverse.parity_with.Goals as goal

pub returns : goal.returns
returns c =
    let fits = c.ranges.coefficient in
    let same = simp to_z-of_z at c.cast_unsigned.ensures in
    let bits = bits_parity c.args.coefficient c.requires in
    mixed_parity c.args.parity c.cast_unsigned.result ∙ omega (arith, same, bits)
