-- The report of a stream tells the breaches of the stream, and counts all that it tells.
use Rattle.std.proofs.Common.{ℕ, List}
use Rattle.m2v_model.specs.Streams.{Sofar}
use Rattle.m2v_model.specs.Decoding.{Stream}
use Rattle.m2v_law_audit.specs.Breaches.{TellsAll}
use Rattle.m2v_law_audit.specs.Found.{findings_of}
use Rattle.m2v_law_audit.proofs.ReportParts.{parts_of}
use Rattle.m2v_law_audit.proofs.BreachTexts.{all_told}

-- each breach of the stream, as often as it comes
pub tells_all : (text : List ℕ) (tree : Sofar) → Stream text tree → TellsAll text tree
tells_all text tree stream asked number start =
    let r = parts_of asked number start text in
    record {
      findings = findings_of asked number start text;
      failures = _;
      tells = r.tells;
      same = all_told text tree stream asked number start;
      counted = r.breaches;
    }
