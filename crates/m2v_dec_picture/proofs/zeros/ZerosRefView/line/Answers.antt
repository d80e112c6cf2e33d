use Rattle.std.proofs.Common.{◌∙◌, arith}
use Rattle.std.specs.List.{range_with_len}
use Rattle.std.proofs.lemmas.List.FromFn.{length-range_with_len}
use Rattle.std.proofs.lemmas.Simd.{splat_is_map}
use Rattle.m2v_plane.proofs.Places.{columns-most}
use Rattle.m2v_dec_picture.proofs.zeros.ZerosRefView.line.Goals as goal

pub zero_part-requires : goal.zero_part-requires
zero_part-requires c =
    let size = rw c.dims-size.ensures.value at c.dims-size.ensures.size in
    let within = c.requires.within in
    omega (arith, columns-most c.args.self.now c.args.plane size, within)

pub returns : goal.returns
returns c = record { value = c.zero_part.ensures ∙ splat_is_map (range_with_len 0 c.args.len) c.args.len 0 (length-range_with_len 0 c.args.len) }
