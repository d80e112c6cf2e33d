use Rattle.std.proofs.Common.{refl, arith}
use Rattle.m2v_choose.proofs.Asked.{room_enough}
use Rattle.m2v_test_trials.proofs.choose.chosen.Goals as goal

pub choose-requires-clause-room : goal.choose-requires-clause-room
choose-requires-clause-room c = room_enough _ _ _ _ _ _ _ c.requires.own c.start-state.ensures.state.predictors refl c.start-state.ensures.address (omega arith)
