use Rattle.std.proofs.Common.{◌∙◌, ap, map, take, drop}
use Rattle.m2v_pred.specs.m2v_plane.declared.planes.Plane.TheVariants.{Cb, Cr}
use Rattle.m2v_pred.specs.m2v_plane.declared.planes.Lines.TheVariants.{Whole}
use Rattle.m2v_pred.specs.m2v_plane.Samples.{Samples, square_of, with_square}
use Rattle.m2v_recon.specs.Macro.{kind_at, macro_sample}
use Rattle.m2v_recon.proofs.Samples.{squares_are}
use Rattle.m2v_recon.proofs.macroblock.rebuild.Goals as goal

pub returns : goal.returns
returns g c =
    let f = macro_sample c.args.pred.now.at (map g.L.BlockLevels.list c.args.levels.now) c.args.pattern (kind_at c.args.kinds.now 0) (kind_at c.args.kinds.now 1) c.args.dct_field in
    let xs = c.rebuild_block.new.block.at in
    let column = c.args.column in
    let red = λ (s : Samples). with_square 1 s Cr Whole 0 column (square_of 8 (take 64 (drop 320 xs))) in
    let blue = λ (s : Samples). with_square 1 s Cb Whole 0 column (square_of 8 (take 64 (drop 256 xs))) in
    record {
      value = c.set_square-3.ensures.value ∙ ap red c.set_square-2.ensures.value ∙ ap (λ s. red (blue s)) c.set_square.ensures.value
          ∙ squares_are c.args.out.now column f xs c.rebuild_block.ensures.value;
    }
