use Rattle.std.proofs.Common.{arith, length, ap, sym, ◌∙◌, length}
use Rattle.m2v_plane.proofs.Places.{columns-most, length-line_part}
use Rattle.m2v_plane.specs.Samples.{sample_in}
use Rattle.m2v_plane.proofs.frame.FrameRefView.copy_line.Goals as goal

pub overflow_cast-out : goal.overflow_cast-out
overflow_cast-out c =
    let size = rw c.dims-size.ensures.value at c.dims-size.ensures.size in
    omega (arith, columns-most c.args.self.now.dims c.args.plane size, c.requires.within)

pub copy_from_slice-requires : goal.copy_from_slice-requires
copy_from_slice-requires c = sym (ap length c.line.ensures.value ∙ length-line_part (sample_in c.args.self.now c.args.plane c.args.lines c.args.line) c.args.column (length c.args.out.now))
