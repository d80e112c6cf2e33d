use Rattle.std.proofs.Common.{◌≡◌, arith}
use Rattle.std.proofs.lemmas.List.Elements.{All-push}
use Rattle.m2v_set.specs.m2v_plane.Samples.{Samples}
use Rattle.m2v_set.specs.Numbers.{dims_of}
use Rattle.m2v_order.specs.Groups.{Queue}
use Rattle.m2v_order.proofs.Queues.{grouped, sound_push}
use Rattle.m2v_order.proofs.reorder.Reorder.push.Goals as goal

pub invariant_of-self-2 : goal.invariant_of-self-2
invariant_of-self-2 c =
    let fields = c.self.inside in
    let q : Queue Samples = record { settings = fields.passed; pushed = fields.pushed; frames = fields.frames.items; ended = fields.ended } in
    let sound = sound_push q c.args.frame (grouped fields.passed c.settings-known.ensures.passes) c.self.invariant.0 (rw (← c.self.view_is) at c.requires.before_end) in
    rw c.in_default.ensures.items (
      sound,
      omega (arith, rw (← c.self.view_is) at c.requires.few),
      All-push (λ (f : Samples). f.dims ≡ dims_of fields.passed) fields.frames.items c.args.frame c.self.invariant.2 (rw (← c.self.view_is) at c.requires.size),
    )
