-- Lines of a plane one behind another.
use Rattle.std.proofs.Common.{◌≡◌, ℕ, ◌+◌, ◌*◌, ◌<◌, ◌≤◌, length, get_or, take, drop, ap, ◌∙◌, arith}
use Rattle.std.proofs.lemmas.List.{get_or-drop, length-drop}
use Rattle.m2v_plane.specs.declared.planes.Plane.{Plane}
use Rattle.m2v_plane.specs.declared.planes.Lines.{Lines}
use Rattle.m2v_plane.specs.declared.planes.Lines.TheVariants.{Whole, Top, Bottom}
use Rattle.m2v_plane.specs.Sizes.{side, columns_of, lines_of, frame_line, stride_in}
use Rattle.m2v_plane.specs.Samples.{Samples, plane_of, sample_in, line_part}
use Rattle.m2v_plane.proofs.Places.{line_is, line_fits, part_at, part_len, frame_line-below}

-- a line begins k strides behind the one k lines before it
pub lines_on : (which : Lines) (line k w : ℕ) → frame_line which (line + k) * w ≡ frame_line which line * w + k * stride_in which w
lines_on Whole line k w = omega arith
lines_on Top line k w = omega arith
lines_on Bottom line k w = omega arith

-- a part of it ends within the plane
pub window_fits : (s : Samples) (p : Plane) (which : Lines) (line k column len : ℕ)
    → length (plane_of s p) ≡ side p * s.dims.mb_rows * columns_of s.dims p
    → line + k < lines_of s.dims p which → column + len ≤ columns_of s.dims p
    → frame_line which line * columns_of s.dims p + column + (k * stride_in which (columns_of s.dims p) + len) ≤ length (plane_of s p)
window_fits s p which line k column len whole held within =
    let w = columns_of s.dims p in
    let below = frame_line-below which (line + k) (side p * s.dims.mb_rows) held in
    let fits = line_fits (frame_line which (line + k)) (side p * s.dims.mb_rows) w w below (omega arith) in
    omega (arith, whole, fits, lines_on which line k w, within)

-- and is the part of that line
pub window_is : (s : Samples) (p : Plane) (which : Lines) (line k column len from stride : ℕ)
    → length (plane_of s p) ≡ side p * s.dims.mb_rows * columns_of s.dims p
    → line + k < lines_of s.dims p which → column + len ≤ columns_of s.dims p
    → from ≡ frame_line which line * columns_of s.dims p + column → stride ≡ stride_in which (columns_of s.dims p)
    → take len (drop (k * stride) (drop from (plane_of s p))) ≡ line_part (sample_in s p which (line + k)) column len
window_is s p which line k column len from stride whole held within starts apart =
    let xs = plane_of s p in
    let w = columns_of s.dims p in
    let far : k * stride ≡ k * stride_in which w = ap (λ n. k * n) apart in
    let fits = window_fits s p which line k column len whole held within in
    let step = lines_on which line k w in
    line_is _ (sample_in s p which (line + k)) column len
    (part_len (drop from xs) (k * stride) len (omega (arith, fits, far, starts, length-drop from xs)))
    (λ j lt. part_at (drop from xs) (k * stride) len j lt
    ∙ get_or-drop from xs (k * stride + j) 0
    ∙ ap (λ i. get_or xs i 0) (omega (arith, starts, far, step)))
