use Rattle.m2v_search.proofs.Marking.{none_before, some_first}
use Rattle.m2v_search.proofs.marks.first_mark.Goals as goal

pub returns : goal.returns
returns c = record {
  none = λ k lt. none_before c.args.left k c.ranges.left.fits lt;
  some = some_first c.args.left c.ranges.left.fits;
}
