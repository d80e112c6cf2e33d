use Rattle.std.proofs.Common.{◌∙◌, ap, take, drop}
use Rattle.m2v_plane.specs.declared.planes.Plane.TheVariants.{Cb, Cr}
use Rattle.m2v_plane.specs.declared.planes.Lines.{Lines}
use Rattle.m2v_plane.specs.Samples.{Samples, square_of, with_square}
use Rattle.m2v_model.specs.Samples.{with_squares}
use Rattle.m2v_dec_picture.proofs.Squares.{squares_are}
use Rattle.m2v_dec_picture.proofs.target.FrameTarget.put.Goals as goal

pub returns-clause-value : goal.returns-clause-value
returns-clause-value c = λ f is.
    let at = c.args.at in
    let s = c.args.self.now in
    let rows = s.dims.mb_rows in
    let xs = c.args.block.now.at in
    let which = c.own_lines-lines.result in
    let red = λ (z : Samples). with_square z.dims.mb_rows z Cr which at.row at.column (square_of 8 (take 64 (drop 320 xs))) in
    let blue = λ (z : Samples). with_square z.dims.mb_rows z Cb which at.row at.column (square_of 8 (take 64 (drop 256 xs))) in
    c.set_square-3.ensures.value ∙ ap red c.set_square-2.ensures.value ∙ ap (λ z. red (blue z)) c.set_square.ensures.value
    ∙ squares_are rows which at.row at.column s f xs is ∙ ap (λ (l : Lines). with_squares rows l at.row at.column f s) c.own_lines-lines.ensures.value
