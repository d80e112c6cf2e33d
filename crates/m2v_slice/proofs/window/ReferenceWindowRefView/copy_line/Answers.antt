use Rattle.std.proofs.Common.{length, sym, ap, ◌∙◌}
use Rattle.m2v_plane.proofs.Places.{length-line_part}
use Rattle.m2v_slice.specs.Books.{reference, coded}
use Rattle.m2v_slice.proofs.window.ReferenceWindowRefView.copy_line.Goals as goal

pub copy_from_slice-requires : goal.copy_from_slice-requires
copy_from_slice-requires c =
    let w = c.args.self.now in
    sym (ap length c.line.ensures.value
    ∙ length-line_part (reference w.book (coded w.book w.picture) w.picture w.number c.args.plane c.args.lines c.args.line) c.args.column (length c.args.out.now))
