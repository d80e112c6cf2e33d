use Rattle.std.proofs.Common.{arith, refl, ap}
use Rattle.std.proofs.lemmas.Result.{err_from_is_err_and}
use Rattle.m2v_bits.specs.Bits.{packed}
use Rattle.m2v_flat.specs.Steps.{EndStops}
use Rattle.m2v_flat.proofs.Stopping.{end_cut}
use Rattle.m2v_flat.proofs.profile.Coder.finish.Goals as goal

pub put-requires-clause-ready : goal.put-requires-clause-ready
put-requires-clause-ready g c = record {
  passed = c.requires.ready.passed;
  raw = c.requires.ready.raw;
  frame = c.requires.ready.frame;
  room = omega (arith, c.requires.ready.room, c.clear.ensures.room, c.write_end.ensures.room);
}

pub returns-then-frames-eq0-clause-err : goal.returns-then-frames-eq0-clause-err
unfolding EndStops
returns-then-frames-eq0-clause-err g c = (omega arith, record { same = refl; stays = refl })

pub returns-in_err-end-clause-err : goal.returns-in_err-end-clause-err
returns-in_err-end-clause-err g c =
    let p = err_from_is_err_and c.from_residual.result c.from_residual.ensures.1 in
    rw (p.1, p.2) (end_cut _ _ _ _ (omega arith) (ap packed c.write_end.ensures.written) c.in_err-end.ensures.err)
