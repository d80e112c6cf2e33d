use Rattle.std.proofs.Common.{◌≡◌, ◌≤◌, ◌-◌, ◌^◌, false, length, map, None}
use Rattle.m2v_pardec.specs.declared.taking.Stop.TheVariants.{More}
use Rattle.m2v_pardec.specs.Ahead.{AreInOrder, HandsOut}
use Rattle.m2v_pardec.specs.Taken.{piece_of, TakenBehind}
use Rattle.m2v_pardec.proofs.taking.take.Given as goal

abbrev pub invariant-loop-alloc : goal.invariant-loop-alloc
invariant-loop-alloc g l = record {
  going : l.cutter.failed ≡ false;
  handed : HandsOut l.fn.cutter (g.S.Source.left l.fn.input) (map piece_of l.taken.pictures.pictures) l.cutter (g.S.Source.left l.input);
  behind : TakenBehind l.fn.before l.taken;
  order : AreInOrder l.fn.cutter.place (map piece_of l.taken.pictures.pictures) l.cutter.place;
  other : l.taken.other ≡ None;
  stop : l.taken.stop ≡ More;
  most : l.cutter.place ≤ 2 ^ 36;
  input : g.S.Source.faults l.fn.input ≤ g.S.Source.faults l.input;
}

abbrev pub decreases-loop-alloc : goal.decreases-loop-alloc
decreases-loop-alloc g l = 16 - length l.taken.pictures.pictures
