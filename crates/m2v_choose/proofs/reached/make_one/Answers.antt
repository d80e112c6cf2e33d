use Rattle.std.proofs.Common.{not, replicate, ap, ◌∙◌}
use Rattle.m2v_idct.specs.Forward.{forward_of}
use Rattle.m2v_choose.proofs.Small.{chroma_same}
use Rattle.m2v_choose.proofs.reached.make_one.Goals as goal

pub returns-then-block-other-clause-value : goal.returns-then-block-other-clause-value
returns-then-block-other-clause-value c =
    let s = c.args.source.now.at in
    c.requires.other.value c.args.block c.requires.block c.if-block-other.true
    ∙ ap forward_of (chroma_same s (replicate 384 0) (not c.args.dct_field) c.args.dct_field c.args.block c.if-block-ge4.true c.requires.block)
