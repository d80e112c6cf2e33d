use Rattle.std.proofs.Common.{◌≡◌, length, rules}
use Rattle.m2v_search.proofs.Marking.{below_told}
use Rattle.m2v_search.proofs.marks.bits_below.Goals as goal

pub returns : goal.returns
returns c = λ k lt none.
    let len : length c.args.bounds.now ≡ 32 = search rules in
    below_told c.args.bounds.now c.args.limit c.min-limit.result len c.min-limit.ensures k (c.requires.most k lt) lt none
