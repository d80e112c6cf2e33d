use Rattle.std.proofs.Common.{◌≡◌, ap, sym, ◌∙◌, vec_len, rules, length, ◌+◌, ◌*◌}
use Rattle.std.proofs.lemmas.List.{with_items_is}
use Rattle.m2v_plane.proofs.Rows.{parted, joined, planes, three_long}
use Rattle.m2v_plane.specs.Samples.{row_of, with_part}
use Rattle.m2v_plane.specs.declared.planes.Plane.TheVariants.{Y, Cb, Cr}
use Rattle.m2v_plane.proofs.row.RowSamples.set_part.Goals.{in-Y, in-Cb, in-Cr}
use Rattle.m2v_plane.proofs.row.RowSamples.set_part.Goals as goal
use Rattle.m2v_plane.specs.contracts.row.RowSamples.{the_view}

pub returns : goal.returns
returns c =
    let d = c.self.inside.dims in
    let luma = c.split_at_mut-luma in
    let cb = c.split_at_mut-cb in
    let l = luma.result.0.now in
    let b = cb.result.0.now in
    let r = cb.result.1.now in
    let now = parted d _ l _ b r luma.ensures.front luma.ensures.back cb.ensures.front cb.ensures.back ∙ ap (row_of d) c.deref_mut.ensures.value ∙ c.self.view_is in
    let v = c.self.inside.samples in
    let counted : vec_len v ≡ length v.items = search rules in
    let all = counted ∙ c.self.invariant.1 in
    let rest = luma.ensures.back_len ∙ c.deref_mut.ensures.len in
    record {
      value = elim c.match-plane.branch [
        | in-Y w ↦
            let same = w.put_part.auto.out ∙ luma.ensures.front_len in
            ap the_view w.self-inside-is
            ∙ joined d _ w.put_part.new.out b r (with_items_is v _ (three_long d _ _ w.put_part.new.out b r all rest cb.ensures.back_len same cb.ensures.front_len)) same cb.ensures.front_len
            ∙ ap (λ x. planes d x b r) w.put_part.ensures.value ∙ ap (λ s. with_part s Y c.args.line c.args.column c.args.samples.now) now ∙ ap (λ p. with_part c.args.self.now p c.args.line c.args.column c.args.samples.now) (sym w.in-Y.is)
        | in-Cb w ↦
            let same = w.put_part-in-Cb.auto.out ∙ cb.ensures.front_len in
            ap the_view w.self-inside-is
            ∙ joined d _ l w.put_part-in-Cb.new.out r (with_items_is v _ (three_long d _ _ l w.put_part-in-Cb.new.out r all rest cb.ensures.back_len luma.ensures.front_len same)) luma.ensures.front_len same
            ∙ ap (λ x. planes d l x r) w.put_part-in-Cb.ensures.value ∙ ap (λ s. with_part s Cb c.args.line c.args.column c.args.samples.now) now ∙ ap (λ p. with_part c.args.self.now p c.args.line c.args.column c.args.samples.now) (sym w.in-Cb.is)
        | in-Cr w ↦
            let back = ap (λ n. n + 64 * d.mb_width) w.put_part-in-Cr.auto.out ∙ cb.ensures.back_len in
            ap the_view w.self-inside-is
            ∙ joined d _ l b w.put_part-in-Cr.new.out (with_items_is v _ (three_long d _ _ l b w.put_part-in-Cr.new.out all rest back luma.ensures.front_len cb.ensures.front_len)) luma.ensures.front_len cb.ensures.front_len
            ∙ ap (λ x. planes d l b x) w.put_part-in-Cr.ensures.value ∙ ap (λ s. with_part s Cr c.args.line c.args.column c.args.samples.now) now ∙ ap (λ p. with_part c.args.self.now p c.args.line c.args.column c.args.samples.now) (sym w.in-Cr.is)
      ];
    }
