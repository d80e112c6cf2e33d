-- Raw video: frames one after another, each of the planes Y, Cb and Cr, line by line from the top, a byte a sample.
use Rattle.std.specs.Prelude.{ℕ, ◌+◌, ◌-◌, ◌*◌, ◌/◌, List, ◌++◌, map, length, take, drop, slice_index, min}
use Rattle.std.specs.List.{range_with_len, flat_map}
use Rattle.m2v_plane.specs.declared.dims.Dims.{Dims}
use Rattle.m2v_plane.specs.Samples.{Samples, plane_by}

-- the luma bytes, and those of each chroma plane, whose lines and columns are rounded up
abbrev pub luma_bytes : Dims → ℕ
luma_bytes d = d.width * d.height

abbrev pub chroma_width : Dims → ℕ
chroma_width d = (d.width + 1) / 2

abbrev pub chroma_height : Dims → ℕ
chroma_height d = (d.height + 1) / 2

abbrev pub chroma_bytes : Dims → ℕ
chroma_bytes d = chroma_width d * chroma_height d

-- the bytes of a raw frame
abbrev pub frame_bytes : Dims → ℕ
frame_bytes d = luma_bytes d + 2 * chroma_bytes d

-- the raw video of raw frames
abbrev pub raw : List (List ℕ) → List ℕ
raw frames = flat_map (λ frame. frame) frames

-- the raw frames of raw video; what is left behind the last whole one is left out
abbrev pub cut : Dims → List ℕ → List (List ℕ)
cut d bytes =
    map (λ k. take (frame_bytes d) (drop (k * frame_bytes d) bytes)) (range_with_len 0 (length bytes / frame_bytes d))

-- a plane of a raw frame, with its right and its lower edge repeated up to so many lines and columns
unfoldable pub padded : ℕ → ℕ → ℕ → ℕ → List ℕ → List ℕ
padded lines columns height width bytes =
    plane_by lines columns
    (λ line column. slice_index bytes (min line (height - 1) * width + min column (width - 1)))

-- a raw frame as samples of whole macroblocks
abbrev pub pad : Dims → List ℕ → Samples
pad d bytes = record {
  dims = d;
  luma = padded (16 * d.mb_rows) (16 * d.mb_width) d.height d.width (take (luma_bytes d) bytes);
  cb = padded (8 * d.mb_rows) (8 * d.mb_width) (chroma_height d) (chroma_width d) (take (chroma_bytes d) (drop (luma_bytes d) bytes));
  cr = padded (8 * d.mb_rows) (8 * d.mb_width) (chroma_height d) (chroma_width d) (drop (luma_bytes d + chroma_bytes d) bytes);
}

-- the lines and columns of a plane that are shown
unfoldable pub shown : ℕ → ℕ → ℕ → List ℕ → List ℕ
shown columns height width plane = plane_by height width (λ line column. slice_index plane (line * columns + column))

-- the displayed part of a frame, as a raw frame
abbrev pub crop : Samples → List ℕ
crop s =
    shown (16 * s.dims.mb_width) s.dims.height s.dims.width s.luma
    ++ (shown (8 * s.dims.mb_width) (chroma_height s.dims) (chroma_width s.dims) s.cb
    ++ shown (8 * s.dims.mb_width) (chroma_height s.dims) (chroma_width s.dims) s.cr)
