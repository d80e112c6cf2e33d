use Rattle.m2v_encode.proofs.whole.encode.Goals as goal

pub returns-in-Some-clause-ok : goal.returns-in-Some-clause-ok
returns-in-Some-clause-ok g c = rw c.in-Some.is c.encode_to.ensures.ok

pub returns-in-Some-clause-err : goal.returns-in-Some-clause-err
returns-in-Some-clause-err g c = rw c.in-Some.is c.encode_to.ensures.err

pub returns-in-Some-clause-recon : goal.returns-in-Some-clause-recon
returns-in-Some-clause-recon g c = rw c.in-Some.is c.encode_to.ensures.recon

pub returns-in-None-clause-ok : goal.returns-in-None-clause-ok
returns-in-None-clause-ok g c = rw c.in-None.is c.encode_unshown.ensures.ok

pub returns-in-None-clause-err : goal.returns-in-None-clause-err
returns-in-None-clause-err g c = rw c.in-None.is c.encode_unshown.ensures.err
