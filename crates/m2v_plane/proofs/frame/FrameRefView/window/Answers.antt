use Rattle.std.proofs.Common.{◌≡◌, ℕ, ◌+◌, ◌*◌, ◌-◌, arith, ap, sym, ◌∙◌, length, take, drop, List}
use Rattle.std.proofs.lemmas.List.{length-drop, take_rest}
use Rattle.m2v_plane.proofs.Windows.{window_fits, window_is}
use Rattle.m2v_plane.specs.Samples.{Samples, plane_of}
use Rattle.m2v_plane.specs.Sizes.{side, columns_of, frame_line, stride_in}
use Rattle.m2v_plane.proofs.frame.FrameRefView.window.Goals as goal

pub returns : goal.returns
returns c =
    let s = c.args.self.now in
    let p = c.args.plane in
    let which = c.args.lines in
    let from = c.line_start.result + c.args.parts.column in
    let xs = c.plane.result.now in
    let width : c.self.inside.dims.mb_width ≡ s.dims.mb_width = ap (λ (v : Samples). v.dims.mb_width) c.self.view_is in
    let columns : c.side-side.result * c.self.inside.dims.mb_width ≡ columns_of s.dims p =
    ap (λ n. n * c.self.inside.dims.mb_width) c.side-side.ensures.value ∙ ap (λ n. side p * n) width in
    let starts : from ≡ frame_line which c.args.parts.line * columns_of s.dims p + c.args.parts.column =
    ap (λ n. n + c.args.parts.column) (c.line_start.ensures.value ∙ ap (λ n. frame_line which c.args.parts.line * n) columns) in
    let apart : c.stride_of.result ≡ stride_in which (columns_of s.dims p) = c.stride_of.ensures ∙ ap (stride_in which) columns in
    let whole : length (plane_of s p) ≡ side p * s.dims.mb_rows * columns_of s.dims p = ap length (sym c.plane.ensures.value) ∙ c.plane.ensures.whole in
    let last = c.args.parts.count - 1 in
    let far : last * c.stride_of.result ≡ last * stride_in which (columns_of s.dims p) = ap (λ n. last * n) apart in
    let fits = window_fits s p which c.args.parts.line last c.args.parts.column c.args.parts.len whole (c.requires.held last (omega arith)) c.requires.within in
    let same : length xs ≡ length (plane_of s p) = ap length c.plane.ensures.value in
    let rest = take_rest xs from in
    record {
      fits = omega (arith, fits, far, starts, same, length-drop from xs, ap length rest);
      value = λ k lt.
          ap (λ (ys : List ℕ). take c.args.parts.len (drop (k * c.stride_of.result) ys))
          (rest ∙ ap (λ (ys : List ℕ). drop from ys) c.plane.ensures.value)
          ∙ window_is s p which c.args.parts.line k c.args.parts.column c.args.parts.len from c.stride_of.result whole (c.requires.held k lt) c.requires.within starts apart;
    }
