use Rattle.std.proofs.Common.{◌≤◌, ◌%◌, List, Bool, length, ap, sym, ◌∙◌, subst}
use Rattle.m2v_plane.specs.declared.dims.Dims.{Dims}
use Rattle.m2v_plane.specs.Samples.{Samples}
use Rattle.m2v_slice.specs.Slices.{most_bits_of}
use Rattle.m2v_slice.specs.Steps.{task_by}
use Rattle.m2v_slice.proofs.Fits.{slice_fits}
use Rattle.m2v_slice.proofs.Whole.{slice_dims}
use Rattle.m2v_slice.proofs.slice.code_row_slice.Goals as goal

pub invariant_of-out : goal.invariant_of-out
invariant_of-out g c =
    let t = task_by c.args.source.now (g.V.RefView.at c.args.forward.now) (g.V.RefView.at c.args.backward.now) c.args.context.now c.args.plan.now in
    let wide = ap (λ (s : Samples). s.dims.mb_width) c.write_slice-out-inside.ensures.row ∙ ap (λ (d : Dims). d.mb_width) (slice_dims t) ∙ sym c.requires.slice.columns in
    (c.write_slice-out-inside.ensures.room ∙ ap most_bits_of (sym wide), ap (λ (xs : List Bool). length xs % 8) c.write_slice-out-inside.ensures.text ∙ (slice_fits t c.requires.slice).edge)

pub returns-clause-cap : goal.returns-clause-cap
returns-clause-cap g c =
    let t = task_by c.args.source.now (g.V.RefView.at c.args.forward.now) (g.V.RefView.at c.args.backward.now) c.args.context.now c.args.plan.now in
    subst (λ (xs : List Bool). length xs ≤ c.args.plan.now.cap) (sym c.write_slice-out-inside.ensures.text) (slice_fits t c.requires.slice).cap

pub returns-clause-edge : goal.returns-clause-edge
returns-clause-edge g c =
    let t = task_by c.args.source.now (g.V.RefView.at c.args.forward.now) (g.V.RefView.at c.args.backward.now) c.args.context.now c.args.plan.now in
    ap (λ (xs : List Bool). length xs % 8) c.write_slice-out-inside.ensures.text ∙ (slice_fits t c.requires.slice).edge
