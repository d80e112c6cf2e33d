use Rattle.std.proofs.Common.{◌≡◌, ◌+◌, ◌*◌, ◌-◌, arith, ap, ◌∙◌, get_or}
use Rattle.m2v_plane.proofs.Places.{line_is, part_at, part_len}
use Rattle.m2v_plane.specs.Samples.{Samples, sample_in, plane_of}
use Rattle.m2v_plane.specs.Sizes.{side, frame_line}
use Rattle.m2v_plane.proofs.frame.FrameRefView.line.Goals as goal

pub returns : goal.returns
returns c =
    let from = c.line_start.result + c.args.column in
    let m = from + c.args.len - from in
    let is : m ≡ c.args.len = omega arith in
    let s = c.args.self.now in
    let p = c.args.plane in
    let at = frame_line c.args.lines c.args.line in
    let width : c.self.inside.dims.mb_width ≡ s.dims.mb_width = ap (λ (v : Samples). v.dims.mb_width) c.self.view_is in
    let rows : c.self.inside.dims.mb_rows ≡ s.dims.mb_rows = ap (λ (v : Samples). v.dims.mb_rows) c.self.view_is in
    let start : c.line_start.result ≡ at * (side p * s.dims.mb_width) =
    c.line_start.ensures.value ∙ ap (λ n. at * (n * c.self.inside.dims.mb_width)) c.side-side.ensures.value ∙ ap (λ n. at * (side p * n)) width in
    let inside = rw (c.side-side.ensures.value, width, rows) at c.line_start.ensures.within in
    record {
      value = line_is _ (sample_in s p c.args.lines c.args.line) c.args.column c.args.len
          (part_len c.plane.result.now from m (omega (arith, inside, c.plane.ensures.whole, c.requires.within)) ∙ is)
          (λ k lt. part_at c.plane.result.now from m k (omega arith)
          ∙ ap (λ xs. get_or xs (from + k) 0) c.plane.ensures.value
          ∙ ap (λ j. get_or (plane_of s p) j 0) (omega (arith, start)));
    }
