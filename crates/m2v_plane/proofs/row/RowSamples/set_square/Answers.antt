use Rattle.std.proofs.Common.{◌≡◌, ap, sym, ◌∙◌, vec_len, rules, length, ◌+◌, ◌*◌}
use Rattle.std.proofs.lemmas.List.{with_items_is}
use Rattle.m2v_plane.proofs.Rows.{parted, joined, planes, three_long}
use Rattle.m2v_plane.specs.Samples.{row_of, with_square, square_of}
use Rattle.m2v_plane.specs.Sizes.{side}
use Rattle.m2v_plane.specs.declared.planes.Lines.TheVariants.{Whole}
use Rattle.m2v_plane.specs.declared.planes.Plane.TheVariants.{Y, Cb, Cr}
use Rattle.m2v_plane.proofs.row.RowSamples.set_square.Goals.{in-Y, in-Cb, in-Cr}
use Rattle.m2v_plane.proofs.row.RowSamples.set_square.Goals as goal
use Rattle.m2v_plane.specs.contracts.row.RowSamples.{the_view}

pub returns : goal.returns
returns c =
    let d = c.self.inside.dims in
    let luma = c.split_at_mut-luma in
    let cb = c.split_at_mut-cb in
    let l = luma.result.0.now in
    let b = cb.result.0.now in
    let r = cb.result.1.now in
    let now = parted d _ l _ b r luma.ensures.front luma.ensures.back cb.ensures.front cb.ensures.back ∙ ap (row_of d) c.deref_mut.ensures.value ∙ c.self.view_is in
    let v = c.self.inside.samples in
    let counted : vec_len v ≡ length v.items = search rules in
    let all = counted ∙ c.self.invariant.1 in
    let rest = luma.ensures.back_len ∙ c.deref_mut.ensures.len in
    record {
      value = elim c.match-plane.branch [
        | in-Y w ↦
            let same = w.set_square.auto.plane ∙ luma.ensures.front_len in
            ap the_view w.self-inside-is
            ∙ joined d _ w.set_square.new.plane b r (with_items_is v _ (three_long d _ _ w.set_square.new.plane b r all rest cb.ensures.back_len same cb.ensures.front_len)) same cb.ensures.front_len
            ∙ ap (λ x. planes d x b r) w.set_square.ensures.value ∙ ap (λ s. with_square 1 s Y Whole 0 c.args.column (square_of 16 c.args.samples.now)) now ∙ ap (λ p. with_square 1 c.args.self.now p Whole 0 c.args.column (square_of (side p) c.args.samples.now)) (sym w.in-Y.is)
        | in-Cb w ↦
            let same = w.set_square-in-Cb.auto.plane ∙ cb.ensures.front_len in
            ap the_view w.self-inside-is
            ∙ joined d _ l w.set_square-in-Cb.new.plane r (with_items_is v _ (three_long d _ _ l w.set_square-in-Cb.new.plane r all rest cb.ensures.back_len luma.ensures.front_len same)) luma.ensures.front_len same
            ∙ ap (λ x. planes d l x r) w.set_square-in-Cb.ensures.value ∙ ap (λ s. with_square 1 s Cb Whole 0 c.args.column (square_of 8 c.args.samples.now)) now ∙ ap (λ p. with_square 1 c.args.self.now p Whole 0 c.args.column (square_of (side p) c.args.samples.now)) (sym w.in-Cb.is)
        | in-Cr w ↦
            let back = ap (λ n. n + 64 * d.mb_width) w.set_square-in-Cr.auto.plane ∙ cb.ensures.back_len in
            ap the_view w.self-inside-is
            ∙ joined d _ l b w.set_square-in-Cr.new.plane (with_items_is v _ (three_long d _ _ l b w.set_square-in-Cr.new.plane all rest back luma.ensures.front_len cb.ensures.front_len)) luma.ensures.front_len cb.ensures.front_len
            ∙ ap (λ x. planes d l b x) w.set_square-in-Cr.ensures.value ∙ ap (λ s. with_square 1 s Cr Whole 0 c.args.column (square_of 8 c.args.samples.now)) now ∙ ap (λ p. with_square 1 c.args.self.now p Whole 0 c.args.column (square_of (side p) c.args.samples.now)) (sym w.in-Cr.is)
      ];
    }
