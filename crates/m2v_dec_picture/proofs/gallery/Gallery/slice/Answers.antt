use Rattle.std.proofs.Common.{◌∙◌, sym, ap, subst}
use Rattle.std.specs.Prelude.{IsSome}
use Rattle.m2v_dec_picture.proofs.FrameLaws.{references_are, both_shown, shown, view_holds, slice_told, slice_size}
use Rattle.m2v_plane.specs.Fields.{sample_at}
use Rattle.m2v_dec_picture.specs.Reads.{seen_by}
use Rattle.m2v_dec_picture.specs.Frames.{Frames, forward_top, forward_bottom, backward_frame}
use Rattle.m2v_dec_picture.proofs.gallery.Gallery.slice.Goals as goal

pub read_slice-requires-clause-forward : goal.read_slice-requires-clause-forward
read_slice-requires-clause-forward c =
    let fv = c.forward_view-forward in
    let older = c.lent-older.ensures in
    let newer = c.lent-newer.ensures in
    let first = c.as_ref-first.ensures.value in
    let top = fv.ensures.top ∙ (λ i. forward_top c.self.inside.reading (older i) (newer i) (first i)) in
    let bottom = fv.ensures.bottom ∙ (λ i. forward_bottom c.self.inside.reading (older i) (newer i) (first i)) in
    view_holds c.args.s.now fv.result _ _ fv.ensures.dims
    (λ e. subst IsSome (sym top) (rw (← c.self.view_is) at (c.requires.decoded.top e)))
    (λ e. subst IsSome (sym bottom) (rw (← c.self.view_is) at (c.requires.decoded.bottom e)))

pub read_slice-requires-clause-backward : goal.read_slice-requires-clause-backward
read_slice-requires-clause-backward c =
    let bv = c.backward_view-backward in
    let newer = c.lent-newer.ensures in
    let top = bv.ensures.top ∙ ap (backward_frame c.self.inside.reading) newer in
    let bottom = bv.ensures.bottom ∙ ap (backward_frame c.self.inside.reading) newer in
    view_holds c.args.s.now bv.result _ _ bv.ensures.dims
    (λ e. subst IsSome (sym top) (rw (← c.self.view_is) at (c.requires.decoded.back_top e)))
    (λ e. subst IsSome (sym bottom) (rw (← c.self.view_is) at (c.requires.decoded.back_bottom e)))

pub returns-clause-exact : goal.returns-clause-exact
returns-clause-exact c =
    let inside = c.self.inside in
    let f : Frames = record { older = inside.older; newer = inside.newer; current = inside.current; first_field = inside.first_field; reading = inside.reading } in
    let fv = c.forward_view-forward in
    let bv = c.backward_view-backward in
    let older = c.lent-older.ensures in
    let newer = c.lent-newer.ensures in
    let first = c.as_ref-first.ensures.value in
    let top = fv.ensures.top ∙ (λ i. forward_top f.reading (older i) (newer i) (first i)) in
    let bottom = fv.ensures.bottom ∙ (λ i. forward_bottom f.reading (older i) (newer i) (first i)) in
    let back_top = bv.ensures.top ∙ ap (backward_frame f.reading) newer in
    let back_bottom = bv.ensures.bottom ∙ ap (backward_frame f.reading) newer in
    let are = references_are f.reading f.older f.newer f.first_field
    ∙ (λ i. both_shown (sym top i) (sym bottom i) (backward_frame f.reading f.newer))
    ∙ (λ i. record { forward = sample_at fv.result; backward = shown (sym back_top i) (sym back_bottom i) }) in
    rw (← c.self.view_is)
    (slice_told c.args.s.now c.args.covered c.args.row c.args.input.now.rest c.read_slice.new.input.rest f c.in-Some.frame c.read_slice.new.out
    (seen_by (sample_at fv.result) (sample_at bv.result)) c.read_slice.result are c.in-Some.is c.read_slice.ensures.exact)

pub returns-clause-frames : goal.returns-clause-frames
returns-clause-frames c =
    let inside = c.self.inside in
    let f : Frames = record { older = inside.older; newer = inside.newer; current = inside.current; first_field = inside.first_field; reading = inside.reading } in
    slice_size c.args.s.now c.args.covered c.args.row c.args.input.now.rest c.read_slice.new.input.rest f c.in-Some.frame c.read_slice.new.out
    (seen_by (sample_at c.forward_view-forward.result) (sample_at c.backward_view-backward.result)) c.read_slice.result c.args.s.now.dims
    (rw (← c.self.view_is) at c.requires.frames) c.in-Some.is c.read_slice.ensures.exact
