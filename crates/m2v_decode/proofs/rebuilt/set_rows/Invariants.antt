use Rattle.std.proofs.Common.{◌≡◌}
use Rattle.m2v_model.specs.Pictures.{on_frame}
use Rattle.m2v_dec_rows.specs.InFrames.{rows_set}
use Rattle.m2v_decode.proofs.rebuilt.set_rows.Given as goal

abbrev pub invariant-loop-row : goal.invariant-loop-row
invariant-loop-row g l =
    l.gallery ≡ record l.fn.gallery { current = on_frame (rows_set l.opened.context.extension.structure (g.R.PictureRows.samples l.rows) l.row) l.fn.gallery.current }
