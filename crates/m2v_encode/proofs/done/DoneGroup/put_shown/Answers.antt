use Rattle.m2v_port.proofs.Runs.{grows_by_none, grows_untold, stays_here}
use Rattle.m2v_encode.specs.Steps.{PutStops}
use Rattle.m2v_encode.proofs.done.DoneGroup.put_shown.Goals as goal

pub returns-in-Ok : goal.returns-in-Ok
returns-in-Ok g c = record {
  put = record { grown = grows_untold _ _ (c.requires.unshown c.if-shown.false); err = tt };
  anchor = c.in-Ok.ensures.value;
  recon = stays_here c.requires.recon;
}

pub returns-in-Err : goal.returns-in-Err
unfolding PutStops
returns-in-Err g c = record {
  put = record { grown = tt; err = grows_by_none _ };
  anchor = tt;
  recon = stays_here c.requires.recon;
}
