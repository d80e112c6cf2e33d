use Rattle.std.proofs.Common.{◌≡◌, true, drop, sym, rules}
use Rattle.std.proofs.lemmas.List.Elements.{All-drop}
use Rattle.m2v_set.specs.m2v_plane.Samples.{Samples}
use Rattle.m2v_set.specs.Numbers.{dims_of}
use Rattle.m2v_order.specs.Groups.{Queue, anchor_before, is_due, group_of, group_size}
use Rattle.m2v_order.proofs.Queues.{grouped, due_is, turn_is, sound_next, group_some, group_places}
use Rattle.m2v_order.proofs.Wholes.{group_is}
use Rattle.m2v_order.proofs.reorder.Reorder.next_group.Goals as goal

pub returns-clause-nonempty : goal.returns-clause-nonempty
unfolding group_of
returns-clause-nonempty c =
    let fields = c.self.inside in
    let q : Queue Samples = record { settings = fields.passed; pushed = fields.pushed; frames = fields.frames.items; ended = fields.ended } in
    let ok = grouped fields.passed c.settings-settings.ensures.passes in
    let due = due_is q (rw (← c.self.view_is) at (sym c.if-not-is_due.ensures.value)) in
    let turn = turn_is q ok c.self.invariant.0 due in
    let same : c.replace-frames.result.items ≡ (group_of q).frames = search rules in
    rw same (group_some q c.self.invariant.0 turn)

pub returns-clause-places : goal.returns-clause-places
unfolding group_of
returns-clause-places c =
    let fields = c.self.inside in
    let q : Queue Samples = record { settings = fields.passed; pushed = fields.pushed; frames = fields.frames.items; ended = fields.ended } in
    let ok = grouped fields.passed c.settings-settings.ensures.passes in
    let due = due_is q (rw (← c.self.view_is) at (sym c.if-not-is_due.ensures.value)) in
    let turn = turn_is q ok c.self.invariant.0 due in
    let same : c.replace-frames.result.items ≡ (group_of q).frames = search rules in
    let pictures : c.in_ok-pictures.pictures.items ≡ (group_of q).pictures = search rules in
    rw (← c.self.view_is, same, pictures) (group_places q c.self.invariant.0 turn)

pub invariant_of-self-2 : goal.invariant_of-self-2
unfolding group_of
invariant_of-self-2 c =
    let fields = c.self.inside in
    let q : Queue Samples = record { settings = fields.passed; pushed = fields.pushed; frames = fields.frames.items; ended = fields.ended } in
    let ok = grouped fields.passed c.settings-settings.ensures.passes in
    let due = due_is q (rw (← c.self.view_is) at (sym c.if-not-is_due.ensures.value)) in
    let turn = turn_is q ok c.self.invariant.0 due in
    let rest : c.replace-frames.new.dest.items ≡ drop (group_size q) fields.frames.items = search rules in
    rw rest (
      sound_next q ok due turn,
      c.self.invariant.1,
      All-drop (λ (f : Samples). f.dims ≡ dims_of fields.passed) (group_size q) fields.frames.items c.self.invariant.2,
    )

pub returns-clause-group : goal.returns-clause-group
unfolding group_of anchor_before
returns-clause-group c =
    let fields = c.self.inside in
    let q : Queue Samples = record { settings = fields.passed; pushed = fields.pushed; frames = fields.frames.items; ended = fields.ended } in
    let is : is_due q ≡ true = rw (← c.self.view_is) at (sym c.if-not-is_due.ensures.value) in
    let frames : c.replace-frames.result.items ≡ (group_of q).frames = search rules in
    let pictures : c.in_ok-pictures.pictures.items ≡ (group_of q).pictures = search rules in
    let before : c.checked_sub.result ≡ (group_of q).before = search rules in
    rw (← c.self.view_is, frames, pictures, before) (group_is q c.settings-settings.ensures.passes c.self.invariant.0 is)
