use Rattle.std.proofs.Common.{arith}
use Rattle.m2v_plane.proofs.Places.{line_fits, frame_line-below, part_of-le}
use Rattle.m2v_plane.specs.Sizes.{frame_line}
use Rattle.m2v_plane.proofs.moves.line_start.Goals as goal

pub place_of-requires : goal.place_of-requires
place_of-requires c = omega (arith, part_of-le c.args.lines c.args.total)

pub returns-clause-within : goal.returns-clause-within
returns-clause-within c =
    rw c.place_of.ensures.value
    (line_fits (frame_line c.args.lines c.args.line) c.args.total c.args.columns c.args.columns
    (frame_line-below c.args.lines c.args.line c.args.total c.requires.line) (omega arith))
