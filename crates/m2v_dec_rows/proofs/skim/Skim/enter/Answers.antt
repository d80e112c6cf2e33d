use Rattle.std.proofs.Common.{ap, ◌∙◌}
use Rattle.m2v_model.specs.declared.state.State.{State}
use Rattle.m2v_model.specs.Streams.{after}
use Rattle.m2v_dec_unit.specs.Among.{part_of}
use Rattle.m2v_dec_rows.proofs.StateLaws.{entered}
use Rattle.m2v_dec_rows.proofs.skim.Skim.enter.Goals as goal

pub returns : goal.returns
returns c =
    let h = c.args.header.now in
    λ u. record {
      state = c.enter.ensures.state u ∙ ap (λ (z : State). after z (part_of u h)) c.give_up.ensures.state;
      slices = c.give_up.ensures.slices;
      sound = entered c.args.self.now.state c.give_up.new.self.state c.enter.new.st h c.give_up.ensures.state c.enter.ensures.state c.enter.ensures.matrices c.requires.fits c.requires.follows c.requires.sound;
    }
