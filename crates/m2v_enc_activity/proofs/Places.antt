-- Where the activities of a macroblock row stand among those of a group, how many they are, and their range.
use Rattle.std.proofs.Common.{◌≡◌, ℕ, zero, suc, ◌+◌, ◌-◌, ◌*◌, ◌/◌, ◌%◌, ◌<◌, ◌≤◌, List, [], ◌∷◌, ◌++◌, map, length, take, drop, get_or, replicate, min, arith, ap, sym, ◌∙◌, subst}
use Rattle.std.specs.Prelude.{All, sum, slice_index_or}
use Rattle.std.specs.List.{range_with_len, flat_map}
use Rattle.std.proofs.lemmas.List.{take-take, drop-take, drop-drop, length-append}
use Rattle.std.proofs.Math.Nat.{mul-le-mul}
use Rattle.std.proofs.Math.Seq.{take-append_seam, drop-append-add}
use Rattle.std.proofs.lemmas.List.FromFn.{length-map-range_with_len}
use Rattle.std.proofs.lemmas.List.Elements.{All-nil, All-cons}
use Rattle.m2v_kernel.specs.Sums.{sad}
use Rattle.m2v_pred.specs.m2v_plane.declared.dims.Dims.{Dims}
use Rattle.m2v_pred.specs.m2v_plane.declared.planes.Plane.TheVariants.{Y}
use Rattle.m2v_pred.specs.m2v_plane.declared.planes.Lines.{Lines}
use Rattle.m2v_pred.specs.m2v_plane.declared.planes.Lines.TheVariants.{Whole, Top, Bottom}
use Rattle.m2v_pred.specs.m2v_plane.Sizes.{IsSize, frame_line, columns_of, part_of}
use Rattle.m2v_pred.specs.m2v_plane.Samples.{Samples, plane_by, sample_in}
use Rattle.m2v_pred.specs.m2v_plane.Fields.{no_samples}
use Rattle.m2v_pred.specs.Motion.{own_lines}
use Rattle.m2v_pred.proofs.m2v_plane.Places.{line_fits}
use Rattle.m2v_order.specs.declared.jobs.PictureJob.{PictureJob}
use Rattle.m2v_enc_activity.specs.Activity.{luma_at, luma_of, texture, least, activity, Look, look_of, job_in, activity_at, row_activities, rows_in, picture_activities, activities, group_activities, IsActivity}
use Rattle.m2v_enc_activity.proofs.Sums.{sad_zeros, sad_most, same_small}

-- ---- parts of one length, one after another

first_part : (w : ℕ) (x rest : List ℕ) → length x ≡ w → take w (x ++ rest) ≡ x
first_part w x rest e = subst (λ (n : ℕ). take n (x ++ rest) ≡ x) e (take-append_seam x rest)

behind_first : (w n : ℕ) (x rest : List ℕ) → length x ≡ w → drop (w + n) (x ++ rest) ≡ drop n rest
behind_first w n x rest e = subst (λ (k : ℕ). drop (k + n) (x ++ rest) ≡ drop n rest) e (drop-append-add x rest n)

-- part k of n, the first of which is that of i
part_at : (f : ℕ → List ℕ) (w n i k : ℕ) → ((j : ℕ) → i ≤ j → j < i + n → length (f j) ≡ w) → k < n
    → take w (drop (k * w) (flat_map f (range_with_len i n))) ≡ f (i + k)
part_at f w zero i k each small = absurd (omega arith)
part_at f w (suc n) i zero each small =
    let same : i + 0 ≡ i = omega arith in
    let none : 0 * w ≡ 0 = omega arith in
    ap (λ (m : ℕ). take w (drop m (f i ++ flat_map f (range_with_len (i + 1) n)))) none
    ∙ first_part w (f i) (flat_map f (range_with_len (i + 1) n)) (each i (omega arith) (omega arith)) ∙ ap f (sym same)
part_at f w (suc n) i (suc k) each small =
    let same : i + 1 + k ≡ i + suc k = omega arith in
    let more : suc k * w ≡ w + k * w = omega arith in
    ap (λ (m : ℕ). take w (drop m (f i ++ flat_map f (range_with_len (i + 1) n)))) more
    ∙ ap (take w) (behind_first w (k * w) (f i) (flat_map f (range_with_len (i + 1) n)) (each i (omega arith) (omega arith)))
    ∙ part_at f w n (i + 1) k (λ j from to. each j (omega (arith, from)) (omega (arith, to))) (omega arith) ∙ ap f same

whole_length : (f : ℕ → List ℕ) (w n i : ℕ) → ((j : ℕ) → i ≤ j → j < i + n → length (f j) ≡ w) → length (flat_map f (range_with_len i n)) ≡ n * w
whole_length f w zero i each = let none : 0 ≡ 0 * w = omega arith in none
whole_length f w (suc n) i each =
    let rest = whole_length f w n (i + 1) (λ j from to. each j (omega (arith, from)) (omega (arith, to))) in
    let more : suc n * w ≡ w + n * w = omega arith in
    length-append (f i) (flat_map f (range_with_len (i + 1) n)) ∙ omega (arith, rest, each i (omega arith) (omega arith), more)

-- ---- rows and pictures

pub length-row_activities : (d : Dims) (frames : List Samples) (look : Look) (row : ℕ) → length (row_activities d frames look row) ≡ d.mb_width
unfolding row_activities
length-row_activities d frames look row = length-map-range_with_len (activity_at frames look row) 0 d.mb_width

pub length-picture_activities : (d : Dims) (frames : List Samples) (look : Look) → length (picture_activities d frames look) ≡ rows_in d look.structure * d.mb_width
unfolding picture_activities
length-picture_activities d frames look =
    whole_length (row_activities d frames look) d.mb_width (rows_in d look.structure) 0 (λ j _ _. length-row_activities d frames look j)

columns_most : (d : Dims) → IsSize d → d.mb_width ≤ 120
columns_most d size = omega (arith, size.mb_width, size.width)

half_most : (d : Dims) → IsSize d → d.mb_rows / 2 ≤ 72
half_most d size = omega (arith, size.mb_rows)

-- a picture has 1 to 8,640 macroblocks, if it has a row
count_most : (d : Dims) → IsSize d → (lines : Lines) → part_of lines d.mb_rows * d.mb_width ≤ 8640
count_most d size Whole = omega (arith, mul-le-mul size.mb_rows (columns_most d size))
count_most d size Top = omega (arith, mul-le-mul (half_most d size) (columns_most d size))
count_most d size Bottom = omega (arith, mul-le-mul (half_most d size) (columns_most d size))

pub macroblocks_most : (d : Dims) → IsSize d → (structure : ℕ) → rows_in d structure * d.mb_width ≤ 8640
macroblocks_most d size structure = count_most d size (own_lines structure)

pub macroblocks_some : (d : Dims) → IsSize d → (rows : ℕ) → 1 ≤ rows → 1 ≤ rows * d.mb_width
macroblocks_some d size rows some =
    let wide : 1 ≤ d.mb_width = omega (arith, size.mb_width, size.wide) in
    omega (arith, mul-le-mul some wide)

-- row r of a picture
row_in_picture : (d : Dims) (frames : List Samples) (look : Look) (r : ℕ) → r < rows_in d look.structure
    → take d.mb_width (drop (r * d.mb_width) (picture_activities d frames look)) ≡ row_activities d frames look r
unfolding picture_activities
row_in_picture d frames look r small =
    let same : 0 + r ≡ r = omega arith in
    part_at (row_activities d frames look) d.mb_width (rows_in d look.structure) 0 r (λ j _ _. length-row_activities d frames look j) small
    ∙ ap (row_activities d frames look) same

-- picture p of a group
picture_in_all : (d : Dims) (frames : List Samples) (pictures : List PictureJob) (rows p : ℕ)
    → ((j : ℕ) → j < length pictures → rows_in d (job_in pictures j).structure ≡ rows) → p < length pictures
    → take (rows * d.mb_width) (drop (p * (rows * d.mb_width)) (activities d frames pictures)) ≡ picture_activities d frames (look_of pictures p)
unfolding activities
picture_in_all d frames pictures rows p each small =
    let same : 0 + p ≡ p = omega arith in
    part_at (λ q. picture_activities d frames (look_of pictures q)) (rows * d.mb_width) (length pictures) 0 p
    (λ j _ less. length-picture_activities d frames (look_of pictures j) ∙ ap (λ (n : ℕ). n * d.mb_width) (each j (omega (arith, less)))) small
    ∙ ap (λ (q : ℕ). picture_activities d frames (look_of pictures q)) same

pub length-group_activities : (d : Dims) (frames : List Samples) (pictures : List PictureJob) → length (group_activities d frames pictures) ≡ length pictures
unfolding group_activities
length-group_activities d frames pictures = length-map-range_with_len (λ p. sum (picture_activities d frames (look_of pictures p))) 0 (length pictures)

within_first : (a b m : ℕ) (xs : List ℕ) → b + a ≤ m → take a (drop b (take m xs)) ≡ take a (drop b xs)
within_first a b m xs fits =
    let split : b + (m - b) ≡ m = omega arith in
    ap (λ (n : ℕ). take a (drop b (take n xs))) (sym split) ∙ ap (take a) (drop-take b (m - b) xs) ∙ take-take a (m - b) (drop b xs) (omega (arith, fits))

-- row r of picture p of a group whose pictures have so many rows each
pub row_in_all : (d : Dims) (frames : List Samples) (pictures : List PictureJob) (rows p r : ℕ)
    → ((j : ℕ) → j < length pictures → rows_in d (job_in pictures j).structure ≡ rows) → p < length pictures → r < rows
    → take d.mb_width (drop ((p * rows + r) * d.mb_width) (activities d frames pictures)) ≡ row_activities d frames (look_of pictures p) r
row_in_all d frames pictures rows p r each small less =
    let w = d.mb_width in
    let all = activities d frames pictures in
    let place : (p * rows + r) * w ≡ p * (rows * w) + r * w = omega arith in
    let fits : r * w + w ≤ rows * w = line_fits r rows w w less (omega arith) in
    ap (λ (n : ℕ). take w (drop n all)) place
    ∙ ap (take w) (sym (drop-drop (r * w) (p * (rows * w)) all))
    ∙ sym (within_first w (r * w) (rows * w) (drop (p * (rows * w)) all) fits)
    ∙ ap (λ (xs : List ℕ). take w (drop (r * w) xs)) (picture_in_all d frames pictures rows p each small)
    ∙ row_in_picture d frames (look_of pictures p) r (subst (λ (n : ℕ). r < n) (sym (each p small)) less)

-- ---- ranges

least_most : (n : ℕ) (xs : List ℕ) → least n xs ≤ n
least_most n [] = omega arith
least_most n (x ∷ xs) = omega (arith, least_most (min n x) xs)

all_by : (P : ℕ → Type 0) (f : ℕ → ℕ) (n i : ℕ) → ((j : ℕ) → P (f j)) → All P (map f (range_with_len i n))
all_by P f zero i each = All-nil P
all_by P f (suc n) i each = All-cons P (f i) (map f (range_with_len (i + 1) n)) (each i) (all_by P f n (i + 1) each)

-- an activity is never 0
pub activity_some : (frames : List Samples) (look : Look) (row column : ℕ) → 256 ≤ activity_at frames look row column
unfolding activity_at activity
activity_some frames look row column = omega arith

pub row_some : (d : Dims) (frames : List Samples) (look : Look) (row : ℕ) → All (λ a. 256 ≤ a) (row_activities d frames look row)
unfolding row_activities
row_some d frames look row = all_by (λ a. 256 ≤ a) (activity_at frames look row) d.mb_width 0 (activity_some frames look row)

-- samples that are bytes
abbrev pub AreBytes : List ℕ → Type 0
AreBytes xs = (i : ℕ) → get_or xs i 0 < 256

zeros_small : (n i : ℕ) → get_or (replicate n 0) i 0 < 256
zeros_small n i = same_small n 0 i (omega arith)

texture_most : (luma : List ℕ) → length luma ≡ 256 → AreBytes luma → texture luma ≤ 65280
texture_most luma whole small =
    let total : sum luma ≤ 255 * length luma =
    subst (λ (n : ℕ). n ≤ 255 * length luma) (sad_zeros 256 luma whole) (sad_most luma (replicate 256 0) small (zeros_small 256)) in
    let mean : sum luma / 256 < 256 = omega (arith, total, whole) in
    omega (arith, sad_most luma (replicate 256 (sum luma / 256)) small (λ i. same_small 256 (sum luma / 256) i mean), whole)

made_small : (f : ℕ → ℕ) (n i k : ℕ) → ((j : ℕ) → f j < 256) → get_or (map f (range_with_len i n)) k 0 < 256
made_small f zero i k each = omega arith
made_small f (suc n) i zero each = each i
made_small f (suc n) i (suc k) each = made_small f n (i + 1) k each

length-square : (at : ℕ → ℕ → ℕ) → length (plane_by 16 16 at) ≡ 256
unfolding plane_by
length-square at = length-map-range_with_len (λ k. at (k / 16) (k % 16)) 0 256

square_small : (at : ℕ → ℕ → ℕ) → ((line column : ℕ) → at line column < 256) → AreBytes (plane_by 16 16 at)
unfolding plane_by
square_small at each k = made_small (λ j. at (j / 16) (j % 16)) 256 0 k (λ j. each (j / 16) (j % 16))

-- the samples of a macroblock by line and column
abbrev own_luma : Samples → ℕ → ℕ → ℕ → ℕ → ℕ → ℕ
own_luma source structure row column line x = sample_in source Y (own_lines structure) (16 * row + line) (16 * column + x)

length-luma_at : (source : Samples) (structure row column : ℕ) → length (luma_at source structure row column) ≡ 256
unfolding luma_at
length-luma_at source structure row column = length-square (own_luma source structure row column)

luma_small : (source : Samples) (structure row column : ℕ) → AreBytes source.luma → AreBytes (luma_at source structure row column)
unfolding luma_at
luma_small source structure row column small =
    square_small (own_luma source structure row column)
    (λ line x. small (frame_line (own_lines structure) (16 * row + line) * columns_of source.dims Y + (16 * column + x)))

-- the activity of a macroblock is within its range where the samples of its frame are bytes
pub activity_range : (frames : List Samples) (look : Look) (row column : ℕ) → AreBytes (slice_index_or frames look.frame no_samples).luma
    → IsActivity (activity_at frames look row column)
unfolding activity_at activity
activity_range frames look row column small =
    let source = slice_index_or frames look.frame no_samples in
    let luma = luma_at source look.structure row column in
    let most = texture_most luma (length-luma_at source look.structure row column) (luma_small source look.structure row column small) in
    let bound = least_most (texture luma) (map (sad luma) (map (luma_of frames look.structure row column) look.others)) in
    record { some = omega arith; most = omega (arith, most, bound) }

pub row_range : (d : Dims) (frames : List Samples) (look : Look) (row : ℕ) → AreBytes (slice_index_or frames look.frame no_samples).luma
    → All IsActivity (row_activities d frames look row)
unfolding row_activities
row_range d frames look row small = all_by IsActivity (activity_at frames look row) d.mb_width 0 (λ column. activity_range frames look row column small)
