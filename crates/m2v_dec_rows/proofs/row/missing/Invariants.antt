use Rattle.std.proofs.Common.{◌≡◌, [], map, take}
use Rattle.m2v_dec_rows.specs.Rows.{below}
use Rattle.m2v_dec_rows.specs.Opened.{unread}
use Rattle.m2v_dec_rows.proofs.row.missing.Given as goal

abbrev pub invariant-loop-u : goal.invariant-loop-u
invariant-loop-u g l = record {
  none : below l.row (map (unread l.piece) (take l.u-index l.u-items)) ≡ [];
  out : l.out ≡ l.fn.out;
}
