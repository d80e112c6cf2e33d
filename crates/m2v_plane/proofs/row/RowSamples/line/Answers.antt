use Rattle.std.proofs.Common.{◌≡◌, ◌+◌, ◌*◌, ◌-◌, arith, ap, ◌∙◌, get_or}
use Rattle.m2v_plane.proofs.Places.{line_is, line_fits, part_at, part_len}
use Rattle.m2v_plane.specs.Samples.{Samples, sample_of, plane_of}
use Rattle.m2v_plane.specs.Sizes.{side}
use Rattle.m2v_plane.proofs.row.RowSamples.line.Goals as goal

pub returns : goal.returns
returns c =
    let s = c.args.self.now in
    let p = c.args.plane in
    let w = side p * s.dims.mb_width in
    let start : c.args.line * (c.side.result * c.self.inside.dims.mb_width) ≡ c.args.line * w =
    ap (λ n. c.args.line * (n * c.self.inside.dims.mb_width)) c.side.ensures.value
    ∙ ap (λ (v : Samples). c.args.line * (side p * v.dims.mb_width)) c.self.view_is in
    let from = c.args.line * (c.side.result * c.self.inside.dims.mb_width) + c.args.column in
    let m = from + c.args.len - from in
    let fits = line_fits c.args.line (side p) w w c.requires.line (omega arith) in
    record {
      value = line_is _ (sample_of s p c.args.line) c.args.column c.args.len
          (part_len c.plane.result.now from m (omega (arith, start, fits, c.plane.ensures.whole, c.requires.within)) ∙ omega arith)
          (λ k lt. part_at c.plane.result.now from m k (omega arith)
          ∙ ap (λ xs. get_or xs (from + k) 0) c.plane.ensures.value
          ∙ ap (λ j. get_or (plane_of s p) j 0) (omega (arith, start)));
    }
