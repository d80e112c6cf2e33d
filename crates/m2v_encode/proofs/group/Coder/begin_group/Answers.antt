use Rattle.std.proofs.Common.{◌∙◌, length, sym, subst, ap}
use Rattle.std.specs.Prelude.{All}
use Rattle.std.proofs.lemmas.List.{length-map}
use Rattle.std.proofs.lemmas.List.Elements.{All-map}
use Rattle.m2v_order.specs.declared.jobs.PictureJob.{PictureJob}
use Rattle.m2v_rate.specs.Steady.{IsKind}
use Rattle.m2v_slice.proofs.Begun.{times_length}
use Rattle.m2v_encode.proofs.group.Coder.begin_group.Goals as goal

pub group-requires-clause-kinds : goal.group-requires-clause-kinds
group-requires-clause-kinds c =
    subst (All IsKind) (sym (c.deref.ensures.value ∙ c.in_ok-kinds.ensures.value))
    (All-map IsKind (λ (j : PictureJob). j.kind) c.args.pictures.now c.requires.kinds)

pub group-requires-clause-timed : goal.group-requires-clause-timed
group-requires-clause-timed c =
    ap length (c.deref-2.ensures.value ∙ c.in_ok-times.ensures.value)
    ∙ times_length c.args.self.now.settings c.args.before c.args.pictures.now
    ∙ sym (length-map c.args.pictures.now (λ (j : PictureJob). j.kind))
    ∙ sym (ap length (c.deref.ensures.value ∙ c.in_ok-kinds.ensures.value))

pub group-requires-clause-active : goal.group-requires-clause-active
group-requires-clause-active c =
    c.requires.active
    ∙ sym (length-map c.args.pictures.now (λ (j : PictureJob). j.kind))
    ∙ sym (ap length (c.deref.ensures.value ∙ c.in_ok-kinds.ensures.value))
