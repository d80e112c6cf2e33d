use Rattle.std.proofs.Common.{◌*◌, arith}
use Rattle.m2v_vbv.specs.Buffer.{variable_start, tells}
use Rattle.m2v_vbv.specs.Deliveries.{amounts_of}
use Rattle.m2v_vbv.proofs.Varying.{follows_process, holds_no_more, all_in_time, delivers, within_room, no_overflow}
use Rattle.m2v_vbv.proofs.buffer_laws.law_variable_rate.Goals as goal

pub returns-clause-within : goal.returns-clause-within
returns-clause-within c = within_room

pub returns-clause-room : goal.returns-clause-room
returns-clause-room c = no_overflow

pub returns-clause-full : goal.returns-clause-full
returns-clause-full c = λ k size step rest. omega arith

pub returns-clause-process : goal.returns-clause-process
returns-clause-process c = follows_process

pub returns-clause-kindest : goal.returns-clause-kindest
returns-clause-kindest c = λ k size step behind ps os d.
    holds_no_more k size step 0 0 (1800 * size) (1800 * size) behind ps os (omega arith) d

pub returns-clause-exactly : goal.returns-clause-exactly
returns-clause-exactly c = λ k size step behind ps. (
  λ none. (amounts_of (tells (variable_start k size step) ps behind), delivers k size step 0 0 (1800 * size) (1800 * size) behind ps (omega arith) none),
  λ some. all_in_time k size step 0 0 (1800 * size) (1800 * size) behind ps some.0 (omega arith) some.1.0 some.1.1,
)
