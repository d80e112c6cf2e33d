-- Laws of planes and raw frames.
use Rattle.std.proofs.Common.{◌≡◌, ℕ, zero, suc, ◌+◌, ◌-◌, ◌*◌, ◌/◌, ◌%◌, ◌<◌, ◌≤◌, List, ◌++◌, length, get_or, take, drop, map, ap, sym, ◌∙◌, arith, min, zero-mul}
use Rattle.std.proofs.Math.Nat.{mul_comm, add-mul, suc-mul, mul-pos}
use Rattle.std.proofs.Math.Seq.{take-length, take-add}
use Rattle.std.proofs.lemmas.Nat.{div-mul-add, mod-mul-add}
use Rattle.std.specs.List.{range_with_len, flat_map}
use Rattle.std.proofs.lemmas.List.{length-take-le, length-drop, take-append-drop, drop-drop}
use Rattle.std.proofs.lemmas.List.FromFn.{get_or-map-range_with_len, length-map-range_with_len}
use Rattle.m2v_plane.specs.declared.dims.Dims.{Dims}
use Rattle.m2v_plane.specs.Sizes.{IsSize}
use Rattle.m2v_plane.specs.Samples.{plane_by}
use Rattle.m2v_plane.specs.Raw.{raw, cut, padded, shown, pad, crop, frame_bytes, luma_bytes, chroma_bytes, chroma_width, chroma_height}
use Rattle.m2v_plane.proofs.Places.{line_fits, plane_is}

pub length-plane_by : (lines columns : ℕ) (at : ℕ → ℕ → ℕ) → length (plane_by lines columns at) ≡ lines * columns
unfolding plane_by
length-plane_by lines columns at = length-map-range_with_len (λ (k : ℕ). at (k / columns) (k % columns)) 0 (lines * columns)

-- what stands at a line and a column
pub plane_at : (lines columns : ℕ) (at : ℕ → ℕ → ℕ) (r c : ℕ) → r < lines → c < columns
    → get_or (plane_by lines columns at) (r * columns + c) 0 ≡ at r c
unfolding plane_by
plane_at lines columns at r c lt small =
    let fits = line_fits r lines columns (c + 1) lt (omega arith) in
    get_or-map-range_with_len (λ (k : ℕ). at (k / columns) (k % columns)) 0 (lines * columns) (r * columns + c) (r * columns + c) 0 (omega arith) (omega arith)
    ∙ ap (λ n. at n ((r * columns + c) % columns)) (div-mul-add r columns c small)
    ∙ ap (λ n. at r n) (mod-mul-add r columns c small)

pub length-padded : (lines columns height width : ℕ) (bytes : List ℕ) → length (padded lines columns height width bytes) ≡ lines * columns
unfolding padded
length-padded lines columns height width bytes = length-plane_by lines columns _

pub length-shown : (columns height width : ℕ) (plane : List ℕ) → length (shown columns height width plane) ≡ height * width
unfolding shown
length-shown columns height width plane = length-plane_by height width _

-- a sample of a padded plane is that of the nearest place that is shown
pub padded_at : (lines columns height width : ℕ) (bytes : List ℕ) (r c : ℕ) → r < lines → c < columns
    → get_or (padded lines columns height width bytes) (r * columns + c) 0 ≡ get_or bytes (min r (height - 1) * width + min c (width - 1)) 0
unfolding padded
padded_at lines columns height width bytes r c lt small =
    plane_at lines columns (λ line column. get_or bytes (min line (height - 1) * width + min column (width - 1)) 0) r c lt small

-- what is shown of a padded plane is the plane
shown_padded : (lines columns height width : ℕ) (bytes : List ℕ) → length bytes ≡ height * width → height ≤ lines → width ≤ columns
    → shown columns height width (padded lines columns height width bytes) ≡ bytes
unfolding shown
shown_padded lines columns height width bytes len tall wide =
    sym (plane_is bytes height width (λ line column. get_or (padded lines columns height width bytes) (line * columns + column) 0) len
    (λ r c lt small.
    let line : r ≡ min r (height - 1) = omega arith in
    let column : c ≡ min c (width - 1) = omega arith in
    ap (λ n. get_or bytes (n * width + c) 0) line
    ∙ ap (λ n. get_or bytes (min r (height - 1) * width + n) 0) column
    ∙ sym (padded_at lines columns height width bytes r c (omega arith) (omega arith))))

-- padding loses nothing that is shown
pub crop_pad : (d : Dims) (bytes : List ℕ) → IsSize d → length bytes ≡ frame_bytes d → crop (pad d bytes) ≡ bytes
crop_pad d bytes is len =
    let n = luma_bytes d in
    let m = chroma_bytes d in
    let cb = take m (drop n bytes) in
    let cr = drop (n + m) bytes in
    let y_len : length (take n bytes) ≡ d.height * d.width = length-take-le n bytes (omega (arith, len)) ∙ mul_comm d.width d.height in
    let cb_len : length cb ≡ chroma_height d * chroma_width d =
    length-take-le m (drop n bytes) (omega (arith, len, length-drop n bytes)) ∙ mul_comm (chroma_width d) (chroma_height d) in
    let cr_len : length cr ≡ chroma_height d * chroma_width d =
    omega (arith, len, length-drop (n + m) bytes, mul_comm (chroma_width d) (chroma_height d)) in
    let y_is = shown_padded (16 * d.mb_rows) (16 * d.mb_width) d.height d.width (take n bytes) y_len (omega (arith, is.covered)) (omega (arith, is.mb_width)) in
    let cb_is = shown_padded (8 * d.mb_rows) (8 * d.mb_width) (chroma_height d) (chroma_width d) cb cb_len (omega (arith, is.covered)) (omega (arith, is.mb_width)) in
    let cr_is = shown_padded (8 * d.mb_rows) (8 * d.mb_width) (chroma_height d) (chroma_width d) cr cr_len (omega (arith, is.covered)) (omega (arith, is.mb_width)) in
    ap (λ xs. xs ++ (shown (8 * d.mb_width) (chroma_height d) (chroma_width d) (padded (8 * d.mb_rows) (8 * d.mb_width) (chroma_height d) (chroma_width d) cb)
    ++ shown (8 * d.mb_width) (chroma_height d) (chroma_width d) (padded (8 * d.mb_rows) (8 * d.mb_width) (chroma_height d) (chroma_width d) cr))) y_is
    ∙ ap (λ xs. take n bytes ++ (xs ++ shown (8 * d.mb_width) (chroma_height d) (chroma_width d) (padded (8 * d.mb_rows) (8 * d.mb_width) (chroma_height d) (chroma_width d) cr))) cb_is
    ∙ ap (λ xs. take n bytes ++ (cb ++ xs)) (cr_is ∙ sym (drop-drop m n bytes))
    ∙ ap (λ xs. take n bytes ++ xs) (take-append-drop m (drop n bytes))
    ∙ take-append-drop n bytes

-- frame after frame, from the one at i on
pieces : (size : ℕ) (bytes : List ℕ) (n i : ℕ)
    → flat_map (λ frame. frame) (map (λ k. take size (drop (k * size) bytes)) (range_with_len i n)) ≡ take (n * size) (drop (i * size) bytes)
pieces size bytes zero i = ap (λ n. take n (drop (i * size) bytes)) (sym (zero-mul size))
pieces size bytes (suc n) i =
    let next : drop ((i + 1) * size) bytes ≡ drop size (drop (i * size) bytes) =
    ap (λ k. drop k bytes) (add-mul i 1 size ∙ omega arith) ∙ sym (drop-drop size (i * size) bytes) in
    ap (λ xs. take size (drop (i * size) bytes) ++ xs) (pieces size bytes n (i + 1) ∙ ap (λ xs. take (n * size) xs) next)
    ∙ sym (take-add size (n * size) (drop (i * size) bytes))
    ∙ ap (λ k. take k (drop (i * size) bytes)) (omega (arith, suc-mul n size))

frame-some : (d : Dims) → IsSize d → 0 < frame_bytes d
frame-some d is = let some : 0 < d.width * d.height = mul-pos (omega (arith, is.wide)) (omega (arith, is.tall)) in omega arith

-- cutting raw video of whole frames loses nothing
pub raw_cut : (d : Dims) (bytes : List ℕ) (n : ℕ) → IsSize d → length bytes ≡ n * frame_bytes d → raw (cut d bytes) ≡ bytes
raw_cut d bytes n is len =
    let size = frame_bytes d in
    let some : 0 < size = frame-some d is in
    let count : length bytes / size ≡ n = ap (λ k. k / size) (len ∙ omega arith) ∙ div-mul-add n size 0 some in
    pieces size bytes (length bytes / size) 0
    ∙ ap (λ k. take (k * size) (drop (0 * size) bytes)) count
    ∙ ap (λ k. take (n * size) (drop k bytes)) (zero-mul size)
    ∙ ap (λ k. take k (drop 0 bytes)) (sym len)
    ∙ take-length (drop 0 bytes)
