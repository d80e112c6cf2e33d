use Rattle.std.proofs.Common.{false, arith}
use Rattle.m2v_choose.specs.Trials.{block_squared}
use Rattle.m2v_choose.proofs.PartSquares.{squared_blocks, six}
use Rattle.m2v_choose.proofs.squares.squared.Goals as goal

pub returns : goal.returns
returns c =
    let s = c.args.source.now.at in
    let p = c.args.samples.now.at in
    record {
      value = omega (arith, squared_blocks s p false, six (block_squared false s p), c.lines_squared.ensures.value, c.lines_squared-2.ensures.value, c.lines_squared-3.ensures.value, c.lines_squared-4.ensures.value, c.lines_squared-5.ensures.value, c.lines_squared-6.ensures.value);
      most = omega (arith, c.lines_squared.ensures.most, c.lines_squared-2.ensures.most, c.lines_squared-3.ensures.most, c.lines_squared-4.ensures.most, c.lines_squared-5.ensures.most, c.lines_squared-6.ensures.most);
    }
