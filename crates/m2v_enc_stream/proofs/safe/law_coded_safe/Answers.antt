use Rattle.std.proofs.Common.{[], sym}
use Rattle.m2v_rate.proofs.Streams.{stream_safe}
use Rattle.m2v_enc_stream.specs.Removals.{Seen}
use Rattle.m2v_enc_stream.proofs.Groups.{all_coded}
use Rattle.m2v_enc_stream.proofs.Delays.{placed, place_is, delay_exact}
use Rattle.m2v_enc_stream.proofs.Bounds.{delay_small, delay_first}
use Rattle.m2v_enc_stream.proofs.Streams.{stream_bits}
use Rattle.m2v_enc_stream.proofs.safe.law_coded_safe.Goals as goal

pub returns-clause-coded : goal.returns-clause-coded
returns-clause-coded c = λ s frames passes few. all_coded s frames passes few

pub returns-clause-ledgers : goal.returns-clause-ledgers
returns-clause-ledgers c = λ s frames earlier g p passes few is.
    sym (placed s frames earlier g is.later passes few is.groups).closes

pub returns-clause-safe : goal.returns-clause-safe
returns-clause-safe c = λ s frames passes few. stream_safe s (Seen s frames) passes (all_coded s frames passes few)

pub returns-clause-sizes : goal.returns-clause-sizes
returns-clause-sizes c = stream_bits

pub returns-clause-places : goal.returns-clause-places
returns-clause-places c = λ s frames earlier g ends p passes few is.
    place_is s earlier g ends p is.picture (placed s frames earlier g is.later passes few is.groups)

pub returns-clause-delay : goal.returns-clause-delay
returns-clause-delay c = λ s frames earlier g ends p passes few is.
    delay_exact s earlier g ends p passes is.picture (placed s frames earlier g is.later passes few is.groups)

pub returns-clause-small : goal.returns-clause-small
returns-clause-small c = λ s frames earlier g ends p passes few is.
    delay_small s earlier g ends p is.picture (placed s frames earlier g is.later passes few is.groups)

pub returns-clause-first : goal.returns-clause-first
returns-clause-first c = λ s frames g ends passes few is.
    delay_first s g ends passes (placed s frames [] g is.later passes few is.groups)
