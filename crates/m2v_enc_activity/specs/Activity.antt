-- How much there is to code of each picture of a group, by the source alone: no reconstruction, no vector and no plan is in
-- it, and nothing that stands before the group.
use Rattle.std.specs.Prelude.{ℕ, zero, suc, ◌+◌, ◌-◌, ◌/◌, ◌*◌, ◌<◌, ◌≤◌, not, ◌&&◌, nat_eq, cond, min, List, [], ◌∷◌, ◌++◌, map, take, replicate, sum, length, slice_index_or}
use Rattle.std.specs.List.{range_with_len, flat_map}
use Rattle.m2v_kernel.specs.Sums.{sad}
use Rattle.m2v_pred.specs.m2v_plane.declared.dims.Dims.{Dims}
use Rattle.m2v_pred.specs.m2v_plane.declared.planes.Plane.TheVariants.{Y}
use Rattle.m2v_pred.specs.m2v_plane.Sizes.{part_of}
use Rattle.m2v_pred.specs.m2v_plane.Samples.{Samples, plane_by, sample_in}
use Rattle.m2v_pred.specs.m2v_plane.Fields.{no_samples}
use Rattle.m2v_pred.specs.Motion.{own_lines}
use Rattle.m2v_order.specs.declared.jobs.PictureJob.{PictureJob}

-- ---- one macroblock

-- its luma in the source, of a field picture the lines of its field
unfoldable pub luma_at : Samples → ℕ → ℕ → ℕ → List ℕ
luma_at source structure row column =
    plane_by 16 16 (λ line c. sample_in source Y (own_lines structure) (16 * row + line) (16 * column + c))

-- texture: how far its samples lie from their mean, in sum
abbrev pub texture : List ℕ → ℕ
texture luma = sad luma (replicate 256 (sum luma / 256))

abbrev pub least : ℕ → List ℕ → ℕ
least n [] = n
least n (x ∷ xs) = least (min n x) xs

-- activity: 256, and the least of its texture and of its changes against the same macroblock of other pictures
unfoldable pub activity : List ℕ → List (List ℕ) → ℕ
activity luma others = 256 + least (texture luma) (map (sad luma) others)

-- ---- pictures

abbrev pub no_job : PictureJob
no_job = record { frame = 0; display = 0; kind = 0; structure = 0 }

abbrev pub job_in : List PictureJob → ℕ → PictureJob
job_in pictures p = slice_index_or pictures p no_job

-- the anchors of a structure before picture p in coding order, the last of them first: a field has those of its own parity
unfoldable pub anchors_before : List PictureJob → ℕ → ℕ → List ℕ
anchors_before pictures structure zero = []
anchors_before pictures structure (suc p) =
    let job = job_in pictures p in
    cond (not (nat_eq job.kind 3) && nat_eq job.structure structure) (p ∷ []) []
    ++ anchors_before pictures structure p

-- what a picture is looked at with: the source frames of the last anchor for a P picture, of the last two for a B picture
-- (picture_coding_type 1 is I, 2 is P, 3 is B), as far as the group has them
abbrev pub compared : List PictureJob → ℕ → List ℕ
compared pictures p =
    let job = job_in pictures p in
    map (λ q. (job_in pictures q).frame) (take (job.kind - 1) (anchors_before pictures job.structure p))

-- a picture as it is looked at: its structure, its source frame, and those that it is compared with
pub record Look : Type 0 where
  pub structure : ℕ
  pub frame : ℕ
  pub others : List ℕ

abbrev pub look_of : List PictureJob → ℕ → Look
look_of pictures p = record {
  structure = (job_in pictures p).structure;
  frame = (job_in pictures p).frame;
  others = compared pictures p;
}

-- ---- activities

abbrev pub luma_of : List Samples → ℕ → ℕ → ℕ → ℕ → List ℕ
luma_of frames structure row column k = luma_at (slice_index_or frames k no_samples) structure row column

unfoldable pub activity_at : List Samples → Look → ℕ → ℕ → ℕ
activity_at frames look row column =
    activity (luma_of frames look.structure row column look.frame)
    (map (luma_of frames look.structure row column) look.others)

-- of a macroblock row, from left to right
unfoldable pub row_activities : Dims → List Samples → Look → ℕ → List ℕ
row_activities d frames look row = map (activity_at frames look row) (range_with_len 0 d.mb_width)

-- the macroblock rows of a picture of a structure
abbrev pub rows_in : Dims → ℕ → ℕ
rows_in d structure = part_of (own_lines structure) d.mb_rows

-- of a picture, row by row from the top
unfoldable pub picture_activities : Dims → List Samples → Look → List ℕ
picture_activities d frames look = flat_map (row_activities d frames look) (range_with_len 0 (rows_in d look.structure))

-- of a group's pictures in coding order
unfoldable pub activities : Dims → List Samples → List PictureJob → List ℕ
activities d frames pictures =
    flat_map (λ p. picture_activities d frames (look_of pictures p)) (range_with_len 0 (length pictures))

-- of each picture of a group: the sum of those of its macroblocks
unfoldable pub group_activities : Dims → List Samples → List PictureJob → List ℕ
group_activities d frames pictures =
    map (λ p. sum (picture_activities d frames (look_of pictures p))) (range_with_len 0 (length pictures))

-- ---- conditions

-- a picture of a group of so many frames
pub record IsPictureOf (frames : ℕ) (job : PictureJob) : Type 0 where
  pub frame : job.frame < frames
  pub kind : 1 ≤ job.kind
  pub known : job.kind ≤ 3
  pub structure : 1 ≤ job.structure
  pub whole : job.structure ≤ 3

-- the range of an activity
pub record IsActivity (a : ℕ) : Type 0 where
  pub some : 256 ≤ a
  pub most : a ≤ 65536

-- the range of the activity of a picture, which has at most 8,640 macroblocks
pub record IsGroupActivity (a : ℕ) : Type 0 where
  pub some : 256 ≤ a
  pub most : a ≤ 566231040
