use Rattle.std.proofs.Common.{subst, ap, ◌∙◌, List}
use Rattle.m2v_vbv.specs.Annex.{Removal, removed, Safe}
use Rattle.m2v_rate.specs.Plans.{start_of}
use Rattle.m2v_rate.proofs.Streams.{stream_safe}
use Rattle.m2v_enc_stream.specs.Removals.{Seen}
use Rattle.m2v_enc_stream.proofs.Groups.{all_coded}
use Rattle.m2v_enc_stream.proofs.Streams.{stream_bits}
use Rattle.m2v_enc_stream.proofs.Flat.{stream_sent}
use Rattle.m2v_enc_stream.proofs.Exact.{stream_exact}
use Rattle.m2v_enc_stream.proofs.Fronts.{stream_at}
use Rattle.m2v_enc_stream.proofs.Begins.{stream_begins}
use Rattle.m2v_enc_stream.proofs.Units.{stream_units}
use Rattle.m2v_enc_stream.proofs.safe.law_coded_sent.Goals as goal

pub returns-clause-removals : goal.returns-clause-removals
returns-clause-removals c = stream_sent

pub returns-clause-safe : goal.returns-clause-safe
returns-clause-safe c = λ s frames passes few.
    subst (Safe (start_of s)) (stream_sent s frames passes few) (stream_safe s (Seen s frames) passes (all_coded s frames passes few))

pub returns-clause-sizes : goal.returns-clause-sizes
returns-clause-sizes c = λ s frames passes some few.
    stream_bits s frames passes some few ∙ ap (λ (rs : List Removal). removed rs) (stream_sent s frames passes few)

pub returns-clause-at : goal.returns-clause-at
returns-clause-at c = stream_at

pub returns-clause-begins : goal.returns-clause-begins
returns-clause-begins c = stream_begins

pub returns-clause-exact : goal.returns-clause-exact
returns-clause-exact c = stream_exact

pub returns-clause-units : goal.returns-clause-units
returns-clause-units c = stream_units
