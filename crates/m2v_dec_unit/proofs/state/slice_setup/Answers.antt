use Rattle.m2v_model.specs.States.{slice_setup}
use Rattle.m2v_dec_unit.proofs.Setups.{context_is}
use Rattle.m2v_dec_unit.proofs.state.slice_setup.Goals as goal

pub returns-clause-picture : goal.returns-clause-picture
unfolding slice_setup
returns-clause-picture c = λ matrices fits. rw c.dims-dims.ensures (context_is c.args.st.now c.args.s.now c.args.p.now matrices c.requires fits)
