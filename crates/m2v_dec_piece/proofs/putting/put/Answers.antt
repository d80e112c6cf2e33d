use Rattle.m2v_dec_piece.proofs.PutLaws.{put_stops}
use Rattle.m2v_dec_piece.proofs.putting.put.Goals as goal

pub returns-clause-err : goal.returns-clause-err
returns-clause-err g c = put_stops g.K.Sink.held g.K.Sink.faults _ _ _ c.put.result c.put.ensures.err c.put.ensures.failed
