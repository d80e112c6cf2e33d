use Rattle.std.proofs.Common.{◌≤◌, Bool, true, false, cond, arith}
use Rattle.m2v_choose.specs.Trials.{header_length, has_types}
use Rattle.m2v_choose.proofs.bits.headers_of.Goals as goal

pub returns : goal.returns
unfolding header_length
returns c =
    let kinds = c.requires.kinds in
    record {
      kept = omega (arith, c.requires.value, kinds.kept, c.dct_bits.ensures);
      sent = omega (arith, c.requires.value, kinds.sent, c.dct_bits.ensures);
      most_kept = omega (arith, c.requires.most, kinds.most_kept, c.dct_bits.ensures, one_most (has_types c.args.task.now.context.now));
      most_sent = omega (arith, c.requires.most, kinds.most_sent, c.dct_bits.ensures, one_most (has_types c.args.task.now.context.now));
    }
  where
    one_most : (b : Bool) → cond b 1 0 ≤ 1
    one_most true = omega arith
    one_most false = omega arith
