use Rattle.m2v_quant.proofs.Bits.{lowest_less, lowest_others}
use Rattle.m2v_quant.proofs.marks.behind_first.Goals as goal

pub returns : goal.returns
returns c = record {
  less = lowest_less c.args.marks c.args._first c.requires.here;
  others = lowest_others c.args.marks c.args._first c.requires.here c.requires.before;
}
