use Rattle.m2v_y4m.proofs.SizeLaws.{size_some}
use Rattle.m2v_y4m.proofs.Packs.{not_begun, packed_there, stopped_there}
use Rattle.m2v_y4m.proofs.packing.pack.Goals as goal

pub returns-in_default-clause-err : goal.returns-in_default-clause-err
returns-in_default-clause-err g c = not_begun g.S.Source.left g.S.Source.faults g.K.Sink.held g.K.Sink.faults _ _ _ (size_some c.args.header.now c.requires.header)

pub returns-in_default-frame_room-clause-err : goal.returns-in_default-frame_room-clause-err
returns-in_default-frame_room-clause-err g c = not_begun g.S.Source.left g.S.Source.faults g.K.Sink.held g.K.Sink.faults _ _ _ (size_some c.args.header.now c.requires.header)

pub returns-clause-ok : goal.returns-clause-ok
returns-clause-ok g c = packed_there _ _ _ c.pack_all.result c.pack_all.ensures.ends

pub returns-clause-err : goal.returns-clause-err
returns-clause-err g c = stopped_there _ _ _ c.pack_all.result c.pack_all.ensures.ends
