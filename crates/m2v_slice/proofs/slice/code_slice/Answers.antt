use Rattle.std.proofs.Common.{subst}
use Rattle.m2v_plane.specs.Sizes.{IsSize}
use Rattle.m2v_slice.proofs.slice.code_slice.Goals as goal

pub code_row_slice-requires-clause-slice : goal.code_row_slice-requires-clause-slice
code_row_slice-requires-clause-slice g c =
    let r = c.requires in
    record {
      own = r.own;
      size = subst IsSize c.dims-size.ensures.value c.dims-size.ensures.size;
      columns = r.columns;
      row = r.row;
      q = r.q;
      search = r.search;
      least = r.least;
      edge = r.whole;
    }
