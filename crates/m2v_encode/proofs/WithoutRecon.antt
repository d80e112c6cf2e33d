-- What holds of a recon that keeps nothing holds where there is none.
use Rattle.m2v_port.specs.Ends.{Change, absent}
use Rattle.m2v_port.proofs.Runs.{grows_absent, prefix_absent}
use Rattle.m2v_set.specs.declared.settings.Settings.{Settings}
use Rattle.m2v_encode.specs.declared.answer.Summary.{Summary}
use Rattle.m2v_encode.specs.declared.answer.EncodeError.{EncodeError}
use Rattle.m2v_encode.specs.Answers.{AllCoded, Stops}
use Rattle.m2v_encode.proofs.Alike.{TellAlike, coded_alike, stops_alike}

untold : (left recon : Change) → TellAlike left recon left absent
untold left recon = record {
  moved = λ bytes m. m;
  end = λ e. e;
  shown = λ bytes g. grows_absent bytes;
  part = λ bytes g. prefix_absent bytes;
  same = λ u. tt;
}

pub unshown_coded : (s : Settings) (left held recon : Change) (t : Summary) → AllCoded s left held recon t → AllCoded s left held absent t
unshown_coded s left held recon t h = coded_alike left recon left absent (untold left recon) s held t h

pub unshown_stops : (s : Settings) (left held recon : Change) (e : EncodeError) → (recon.Failed → ⊥) → Stops s left held recon e → Stops s left held absent e
unshown_stops s left held recon e never h = stops_alike left recon left absent (untold left recon) s held e (λ is f. f) never h
