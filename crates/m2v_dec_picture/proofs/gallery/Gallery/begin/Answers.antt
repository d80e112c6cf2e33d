use Rattle.std.proofs.Common.{◌∙◌, ap}
use Rattle.std.specs.Prelude.{Some}
use Rattle.m2v_plane.specs.declared.dims.Dims.{Dims}
use Rattle.m2v_plane.specs.Samples.{blank}
use Rattle.m2v_dec_picture.proofs.FrameLaws.{frame_begun, on_ok_then}
use Rattle.m2v_dec_picture.proofs.gallery.Gallery.begin.Goals as goal

pub returns-clause-value : goal.returns-clause-value
returns-clause-value c =
    let p = c.args.p.now in
    let f = c.args.self.now in
    let sized = ap (λ (d : Dims). record f { current = Some (blank d d.mb_rows); reading = Some (record { kind = p.info.kind; second_field = p.second_field; structure = p.extension.structure }) }) c.dims.ensures in
    on_ok_then c.begin_frame.result c.begin_frame.ensures (λ is. frame_begun c.args.s.now c.args.p.now c.args.self.now c.begin_frame.new.self c.if-p.false c.if-p-2.false (is ∙ sized))
