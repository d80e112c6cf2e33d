use Rattle.std.proofs.Common.{arith, ap, sym, subst, ◌∙◌}
use Rattle.m2v_plane.specs.Raw.{frame_bytes}
use Rattle.m2v_plane.specs.Samples.{Samples}
use Rattle.m2v_order.specs.Groups.{Queue, is_due, IsSoundQueue}
use Rattle.m2v_order.proofs.Queues.{sound_opening}
use Rattle.m2v_encode.proofs.Loop.{opening_rest}
use Rattle.m2v_encode.proofs.intake.Intake.new.Goals as goal

pub returns-clause-ready : goal.returns-clause-ready
returns-clause-ready c =
    let q = c.in_ok-new.ensures.value in
    record {
      raw = c.in_ok-vec.ensures.len ∙ c.bytes_of.ensures.value ∙ ap frame_bytes c.dims.ensures.value;
      settings = ap (λ (x : Queue Samples). x.settings) q;
      going = ap (λ (x : Queue Samples). x.ended) q;
      count = ap (λ (x : Queue Samples). x.pushed) q;
      most = omega arith;
      sound = subst IsSoundQueue (sym q) (sound_opening c.args.settings.now);
      rest = ap (λ (x : Queue Samples). is_due x) q ∙ opening_rest c.args.settings.now;
    }
