use Rattle.m2v_vbv.proofs.Sums.{held_is, never_under, taken_all, exactly}
use Rattle.m2v_vbv.proofs.laws.law_held.Goals as goal

pub returns-clause-held : goal.returns-clause-held
returns-clause-held c = held_is

pub returns-clause-whole : goal.returns-clause-whole
returns-clause-whole c = never_under

pub returns-clause-all : goal.returns-clause-all
returns-clause-all c = taken_all

pub returns-clause-exact : goal.returns-clause-exact
returns-clause-exact c = exactly
