use Rattle.m2v_dec_picture.proofs.PassLaws.{all_held, slice_passed}
use Rattle.m2v_dec_picture.proofs.pass.SlicePass.slice.Goals as goal

pub read_slice-requires-clause-forward : goal.read_slice-requires-clause-forward
read_slice-requires-clause-forward c = all_held c.args.s.now c.new-reference.result _ _ c.new-reference.ensures

pub read_slice-requires-clause-backward : goal.read_slice-requires-clause-backward
read_slice-requires-clause-backward c = all_held c.args.s.now c.new-reference.result _ _ c.new-reference.ensures

pub returns-clause-exact : goal.returns-clause-exact
returns-clause-exact c = slice_passed _ c.args.s.now _ c.args.covered c.args.row c.args.input.now.rest c.read_slice.new.input.rest _ _ c.read_slice.result c.read_slice.ensures.exact
