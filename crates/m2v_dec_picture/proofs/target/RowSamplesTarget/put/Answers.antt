use Rattle.std.proofs.Common.{◌∙◌, ap, take, drop}
use Rattle.m2v_plane.specs.declared.planes.Plane.TheVariants.{Cb, Cr}
use Rattle.m2v_plane.specs.declared.planes.Lines.TheVariants.{Whole}
use Rattle.m2v_plane.specs.Samples.{Samples, square_of, with_square}
use Rattle.m2v_dec_picture.proofs.Squares.{squares_are}
use Rattle.m2v_dec_picture.proofs.target.RowSamplesTarget.put.Goals as goal

pub returns-clause-value : goal.returns-clause-value
returns-clause-value c = λ f is.
    let at = c.args.at in
    let s = c.args.self.now in
    let xs = c.args.block.now.at in
    let red = λ (z : Samples). with_square 1 z Cr Whole 0 at.column (square_of 8 (take 64 (drop 320 xs))) in
    let blue = λ (z : Samples). with_square 1 z Cb Whole 0 at.column (square_of 8 (take 64 (drop 256 xs))) in
    c.set_square-3.ensures.value ∙ ap red c.set_square-2.ensures.value ∙ ap (λ z. red (blue z)) c.set_square.ensures.value
    ∙ squares_are 1 Whole 0 at.column s f xs is
