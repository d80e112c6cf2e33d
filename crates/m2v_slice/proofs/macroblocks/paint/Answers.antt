use Rattle.std.proofs.Common.{◌∙◌, ap, take, drop}
use Rattle.m2v_plane.specs.declared.planes.Plane.TheVariants.{Cb, Cr}
use Rattle.m2v_plane.specs.declared.planes.Lines.TheVariants.{Whole}
use Rattle.m2v_plane.specs.Samples.{Samples, square_of, with_square}
use Rattle.m2v_macroblock.proofs.m2v_recon.Samples.{squares_are}
use Rattle.m2v_slice.proofs.macroblocks.paint.Goals as goal

pub returns : goal.returns
returns c =
    let xs = c.args.block.now.at in
    let column = c.args.column in
    let red = λ (s : Samples). with_square 1 s Cr Whole 0 column (square_of 8 (take 64 (drop 320 xs))) in
    let blue = λ (s : Samples). with_square 1 s Cb Whole 0 column (square_of 8 (take 64 (drop 256 xs))) in
    record {
      value = λ f is.
          c.set_square-3.ensures.value ∙ ap red c.set_square-2.ensures.value ∙ ap (λ s. red (blue s)) c.set_square.ensures.value
          ∙ squares_are c.args.out.now column f xs is;
    }
