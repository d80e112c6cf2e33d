use Rattle.std.proofs.Common.{◌∙◌, ◌+◌, sym, ap, Some, Option, ℕ, drop, arith, cond}
use Rattle.std.specs.Prelude.{nat_eq}
use Rattle.m2v_order.specs.declared.jobs.PictureJob.{PictureJob}
use Rattle.m2v_law_shown.specs.m2v_enc_stream.Streams.{anchor_frame}
use Rattle.m2v_encode.proofs.Anchors.{anchor_more, anchor_end}
use Rattle.m2v_encode.proofs.done.DoneGroup.last_anchor.Goals as goal

pub loop-p-preserved : goal.loop-p-preserved
loop-p-preserved c =
    let b = c.args.self.now in
    c.loop-p.invariant
    ∙ anchor_more b c.loop-p.p c.loop-p.last (omega (arith, c.pictures-p-end.ensures.value))
    ∙ ap (λ (j : PictureJob). anchor_frame (cond (nat_eq j.kind 3) c.loop-p.last (Some j.frame)) (drop (c.loop-p.p + 1) b.pictures)) (sym c.job.ensures.value)
    ∙ ap (λ (o : Option ℕ). anchor_frame o (drop (c.loop-p.p + 1) b.pictures)) (sym c.anchor_after-last.ensures.value)

pub returns : goal.returns
returns c = record { value = sym (c.loop-p.invariant ∙ anchor_end c.args.self.now c.loop-p.p c.loop-p.last (omega (arith, c.pictures-p-end.ensures.value))) }
