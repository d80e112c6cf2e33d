use Rattle.std.proofs.Common.{◌≡◌, ◌+◌, ◌*◌, ◌≤◌, List, [], Ok, map, take}
use Rattle.m2v_model.specs.Samples.{put_in_row}
use Rattle.m2v_dec_picture.specs.Reads.{seen_by}
use Rattle.m2v_dec_rows.specs.Rows.{Begun, first_of, own, slices_read, slices_painted}
use Rattle.m2v_dec_rows.specs.Opened.{unread}
use Rattle.m2v_dec_rows.specs.Reads.{IsWide}
use Rattle.m2v_dec_rows.proofs.row.read_own.Given as goal

abbrev pub invariant-loop-u : goal.invariant-loop-u
invariant-loop-u g l = record {
  read : (xs : List Begun)
      × (slices_read l.basis.setup.now (Ok ([], first_of l.basis.setup.now l.row)) (own l.row (map (unread l.piece) (take l.u-index l.u-items))) ≡ Ok (xs, l.covered))
      × (l.out ≡ slices_painted put_in_row l.basis.setup.now (seen_by (g.V.RefView.at l.basis.forward.now) (g.V.RefView.at l.basis.backward.now)) l.fn.out xs);
  covered : l.covered ≤ (l.row + 1) * l.basis.setup.now.context.columns;
  wide : IsWide l.basis.setup.now l.out;
}
