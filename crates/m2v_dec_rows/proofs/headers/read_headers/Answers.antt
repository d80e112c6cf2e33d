use Rattle.std.proofs.Common.{refl}
use Rattle.m2v_model.specs.States.{after_end}
use Rattle.m2v_dec_rows.proofs.TellLaws.{tells_open, tells_none, tells_fault}
use Rattle.m2v_dec_rows.proofs.headers.read_headers.Goals as goal

pub returns-in-Some-clause-exact : goal.returns-in-Some-clause-exact
returns-in-Some-clause-exact c =
    let s = c.in_ok-skim in
    tells_open c.args.st.now c.args.piece.now s.skim s.fault c.in-Some.picture (after_end s.skim.state) s.ensures c.in-Some.ensures refl

pub returns-in-Some-fault-clause-exact : goal.returns-in-Some-fault-clause-exact
returns-in-Some-fault-clause-exact c =
    let s = c.in_ok-skim in
    tells_fault c.args.st.now c.args.piece.now s.skim s.fault c.in-Some-fault.fault s.skim.state s.ensures c.in-None.ensures c.in-Some-fault.is

pub returns-in-None-fault-clause-exact : goal.returns-in-None-fault-clause-exact
returns-in-None-fault-clause-exact c =
    let s = c.in_ok-skim in
    tells_none c.args.st.now c.args.piece.now s.skim s.fault (after_end s.skim.state) s.ensures c.in-None.ensures c.in-None-fault.is refl
