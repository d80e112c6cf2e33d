use Rattle.std.proofs.Common.{◌≡◌, ◌∙◌, length, ap, arith, inl, inr}
use Rattle.std.specs.Prelude.{nat_eq}
use Rattle.std.proofs.lemmas.Bool.{cases_Bool}
use Rattle.m2v_plane.specs.declared.dims.Dims.{Dims}
use Rattle.m2v_plane.specs.Samples.{Samples, blank}
use Rattle.m2v_set.specs.Numbers.{dims_of}
use Rattle.m2v_slice.specs.Books.{job_at}
use Rattle.m2v_encode.specs.Rebuilt.{rebuilt_by}
use Rattle.m2v_encode.proofs.Rebuilding.{rebuilt_size, taken_more, passed_more, frame_is}
use Rattle.m2v_encode.proofs.done.DoneGroup.rebuilt.Goals as goal

pub loop-p-init : goal.loop-p-init
unfolding rebuilt_by
loop-p-init c = c.in_ok-frame.ensures.value ∙ ap (λ (d : Dims). blank d d.mb_rows) (c.dims.ensures.value ∙ ap dims_of c.settings.ensures.value)

pub take_picture-requires-clause-size : goal.take_picture-requires-clause-size
take_picture-requires-clause-size c =
    ap (λ (x : Samples). x.dims) c.loop-p.invariant
    ∙ rebuilt_size c.args.self.now c.pictures-book.ensures.book c.args.k c.loop-p.p (omega (arith, c.pictures-p-end.ensures.value))

pub loop-p-preserved : goal.loop-p-preserved
loop-p-preserved c =
    let b = c.args.self.now in
    elim (cases_Bool (nat_eq (job_at b c.loop-p.p).frame c.args.k)) [
      | inl here ↦ taken_more b c.args.k c.loop-p.p c.loop-p.frame c.take_picture.new.frame c.loop-p.invariant (c.take_picture.ensures.here here) here
      | inr other ↦ c.take_picture.ensures.other other ∙ passed_more b c.args.k c.loop-p.p c.loop-p.frame c.loop-p.invariant other
    ]

pub returns : goal.returns
returns c =
    let b = c.args.self.now in
    let end : c.loop-p.p ≡ length b.pictures = omega (arith, c.pictures-p-end.ensures.value) in
    record { value = c.loop-p.invariant ∙ frame_is b c.pictures-book.ensures.book c.args.k c.loop-p.p c.requires.frame end }
