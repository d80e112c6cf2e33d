use Rattle.m2v_slice.proofs.Groups.{size_is}
use Rattle.m2v_encode.proofs.Due.{some_bytes}
use Rattle.m2v_encode.proofs.Ended.{not_begun}
use Rattle.m2v_encode.proofs.coding.encode_to.Goals as goal

pub returns-in_default-clause-err : goal.returns-in_default-clause-err
returns-in_default-clause-err g c =
    not_begun g.S.Source.left g.S.Source.faults g.K.Sink.held g.K.Sink.faults g.N.Sink.held g.N.Sink.faults c.args.settings.now c.args.input.now c.args.output.now c.args.recon.now
    (some_bytes _ (size_is c.args.settings.now c.settings-known.ensures.bounds))

pub returns-in_default-new-clause-err : goal.returns-in_default-new-clause-err
returns-in_default-new-clause-err g c =
    not_begun g.S.Source.left g.S.Source.faults g.K.Sink.held g.K.Sink.faults g.N.Sink.held g.N.Sink.faults c.args.settings.now c.args.input.now c.args.output.now c.args.recon.now
    (some_bytes _ (size_is c.args.settings.now c.settings-known.ensures.bounds))
