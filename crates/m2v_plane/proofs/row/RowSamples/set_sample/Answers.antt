use Rattle.std.proofs.Common.{◌≡◌, ◌+◌, ◌*◌, ap, sym, ◌∙◌, slice_set, length-set, vec_len, length, rules}
use Rattle.std.proofs.lemmas.List.{with_items_is}
use Rattle.m2v_plane.proofs.Rows.{parted, joined, three_long}
use Rattle.m2v_plane.specs.Samples.{row_of, with_sample}
use Rattle.m2v_plane.specs.declared.planes.Plane.TheVariants.{Cb, Cr}
use Rattle.m2v_plane.proofs.row.RowSamples.set_sample.Goals as goal

pub returns-in-Cb : goal.returns-in-Cb
returns-in-Cb c =
    let d = c.self.inside.dims in
    let luma = c.split_at_mut-luma in
    let cb = c.split_at_mut-cb in
    let l = luma.result.0.now in
    let b = cb.result.0.now in
    let r = cb.result.1.now in
    let v = c.self.inside.samples in
    let counted : vec_len v ≡ length v.items = search rules in
    let all = counted ∙ c.self.invariant.1 in
    let rest = luma.ensures.back_len ∙ c.deref_mut.ensures.len in
    let now = parted d _ l _ b r luma.ensures.front luma.ensures.back cb.ensures.front cb.ensures.back ∙ ap (row_of d) c.deref_mut.ensures.value ∙ c.self.view_is in
    let at = c.args.line * (8 * d.mb_width) + c.args.column in
    let b' = slice_set b at c.args.value in
    let same = length-set b at c.args.value ∙ cb.ensures.front_len in
    record {
      value =
          joined d _ l b' r (with_items_is v _ (three_long d _ _ l b' r all rest cb.ensures.back_len luma.ensures.front_len same)) luma.ensures.front_len same
          ∙ ap (λ s. with_sample s Cb c.args.line c.args.column c.args.value) now
          ∙ ap (λ p. with_sample c.args.self.now p c.args.line c.args.column c.args.value) (sym c.in-Cb.is);
    }

pub returns-in-Cr : goal.returns-in-Cr
returns-in-Cr c =
    let d = c.self.inside.dims in
    let luma = c.split_at_mut-luma in
    let cb = c.split_at_mut-cb in
    let l = luma.result.0.now in
    let b = cb.result.0.now in
    let r = cb.result.1.now in
    let v = c.self.inside.samples in
    let counted : vec_len v ≡ length v.items = search rules in
    let all = counted ∙ c.self.invariant.1 in
    let rest = luma.ensures.back_len ∙ c.deref_mut.ensures.len in
    let now = parted d _ l _ b r luma.ensures.front luma.ensures.back cb.ensures.front cb.ensures.back ∙ ap (row_of d) c.deref_mut.ensures.value ∙ c.self.view_is in
    let at = c.args.line * (8 * d.mb_width) + c.args.column in
    let r' = slice_set r at c.args.value in
    let back = ap (λ n. n + 64 * d.mb_width) (length-set r at c.args.value) ∙ cb.ensures.back_len in
    record {
      value =
          joined d _ l b r' (with_items_is v _ (three_long d _ _ l b r' all rest back luma.ensures.front_len cb.ensures.front_len)) luma.ensures.front_len cb.ensures.front_len
          ∙ ap (λ s. with_sample s Cr c.args.line c.args.column c.args.value) now
          ∙ ap (λ p. with_sample c.args.self.now p c.args.line c.args.column c.args.value) (sym c.in-Cr.is);
    }
