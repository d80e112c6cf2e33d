use Rattle.std.proofs.Common.{◌≡◌, ◌-◌, ◌*◌, ◌++◌, vec_len, rules, length, length-take, ap, ◌∙◌, arith, replicate}
use Rattle.std.proofs.lemmas.List.{nil_from_length}
use Rattle.m2v_plane.proofs.Rows.{blanked}
use Rattle.m2v_plane.specs.Samples.{row_of, blank}
use Rattle.m2v_plane.proofs.row.RowRoom.blank.Goals as goal

pub returns : goal.returns
returns c =
    let d = c.self.inside.dims in
    let n = 384 * d.mb_width in
    let v = c.self.inside.samples in
    let counted : vec_len v ≡ length v.items = search rules in
    record {
      value =
          ap (row_of d) (c.in-Ok.ensures.items
          ∙ ap (λ xs. xs ++ replicate (n - vec_len v) 0) (nil_from_length _ (omega (arith, length-take n v.items, counted, c.self.invariant.1)))
          ∙ ap (λ k. replicate k 0) (omega arith))
          ∙ blanked d n (omega arith) ∙ ap (λ s. blank s 1) c.self.view_is;
    }
