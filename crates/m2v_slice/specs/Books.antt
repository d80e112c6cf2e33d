-- The book of a group: what each of its pictures is coded of, which jobs there are, and what each stands on.
use Rattle.std.specs.Prelude.{ℕ, zero, suc, ◌+◌, ◌-◌, ◌*◌, ◌/◌, ◌%◌, Bool, true, not, ◌&&◌, nat_eq, nat_lt, cond, min, if◌then◌else◌, List, [], ◌∷◌, ◌++◌, map, length, take, replicate, slice_index_or, sum_by, Option, Some, None}
use Rattle.std.specs.List.{range_with_len, flat_map}
use Rattle.m2v_plane.specs.declared.planes.Lines.{Lines}
use Rattle.m2v_plane.specs.declared.planes.Lines.TheVariants.{Whole, Top, Bottom}
use Rattle.m2v_plane.specs.Sizes.{side, frame_line}
use Rattle.m2v_plane.specs.Samples.{Samples, sample_of, sample_in}
use Rattle.m2v_plane.specs.Fields.{no_samples, or_none}
use Rattle.m2v_set.specs.declared.settings.Settings.{Settings}
use Rattle.m2v_set.specs.Numbers.{dims_of, rows_by}
use Rattle.m2v_set.specs.Rules.{is_even}
use Rattle.m2v_order.specs.declared.jobs.PictureJob.{PictureJob}
use Rattle.m2v_enc_activity.specs.Activity.{activities, group_activities, row_activities, look_of}
use Rattle.m2v_macroblock.specs.Predictions.{View}
use Rattle.m2v_rate.specs.declared.values.Plan.{Plan}
use Rattle.m2v_rate.specs.Plans.{Entries, plan_of, slice_cap_of, first_open}
use Rattle.m2v_rate.specs.Seen.{Told, told}
use Rattle.m2v_slice.specs.Slices.{SliceTask, CodedSlice, slice_of}
use Rattle.m2v_slice.specs.Headers.{context_of, header_bits}

-- what contracts see of a book: its settings, the group's frames in display order and its pictures in coding order, the
-- reconstruction of the anchor that was coded before the group, and the ledger with which the group begins
pub record Book : Type 0 where
  pub settings : Settings
  pub frames : List Samples
  pub pictures : List PictureJob
  pub before : Option Samples
  pub ledger : Entries

-- a picture that is coded: its plan, and its slices from the top
pub record CodedPicture : Type 0 where
  pub plan : Plan
  pub slices : List CodedSlice

-- the activities of a group's macroblocks, and of its pictures, as its ledger has them: made where the plan goes by the
-- source; with the plan by weights those of macroblocks are none, and those of pictures 0
unfoldable pub macroblock_activities : Settings → List Samples → List PictureJob → List ℕ
macroblock_activities s frames pictures =
    if is_even s.planning then activities (dims_of s) frames pictures else []

unfoldable pub picture_activities : Settings → List Samples → List PictureJob → List ℕ
picture_activities s frames pictures =
    if is_even s.planning then group_activities (dims_of s) frames pictures
    else replicate (length pictures) 0

-- the macroblock rows of a picture
abbrev pub rows : Book → ℕ
rows b = rows_by b.settings.scan b.settings.height

abbrev pub no_job : PictureJob
no_job = record { frame = 0; display = 0; kind = 0; structure = 0 }

abbrev pub job_at : Book → ℕ → PictureJob
job_at b p = slice_index_or b.pictures p no_job

abbrev pub no_plan : Plan
no_plan = record { q = 0; cap = 0; target = 0 }

abbrev pub picture_at : List CodedPicture → ℕ → CodedPicture
picture_at done p = slice_index_or done p (record { plan = no_plan; slices = [] })

abbrev pub slice_at : List CodedPicture → ℕ → ℕ → CodedSlice
slice_at done p r = slice_index_or (picture_at done p).slices r (record { text = []; row = no_samples; work = 0 })

-- ---- references

-- a picture has the lines: a field those of its parity, a frame all
unfoldable pub has_lines : ℕ → Lines → Bool
has_lines structure Whole = true
has_lines structure Top = not (nat_eq structure 2)
has_lines structure Bottom = not (nat_eq structure 1)

-- the pictures before picture p that are anchors and have the lines, the last of them first
unfoldable pub anchors_before : Book → Lines → ℕ → List ℕ
anchors_before b lines zero = []
anchors_before b lines (suc p) =
    cond (not (nat_eq (job_at b p).kind 3) && has_lines (job_at b p).structure lines) (p ∷ []) []
    ++ anchors_before b lines p

unfoldable pub nth : {A : Type 0} → ℕ → List A → Option A
nth n [] = None
nth zero (x ∷ xs) = Some x
nth (suc n) (x ∷ xs) = nth n xs

-- the picture that picture p finds these lines in: the anchor decoded last (n is 0), or the one before it (n is 1); none
-- where that is the anchor before the group
abbrev pub reference_picture : Book → ℕ → ℕ → Lines → Option ℕ
reference_picture b p n lines = nth n (anchors_before b lines p)

-- which line of a picture's rows a line of the frame or of one field is
abbrev pub line_in : ℕ → Lines → ℕ → ℕ
line_in structure lines line = if nat_eq structure 3 then frame_line lines line else line

-- a sample of a picture, or of the reconstruction before the group
unfoldable pub picture_sample : Book → List CodedPicture → Option ℕ → View
picture_sample b done None plane lines line column = sample_in (or_none b.before) plane lines line column
picture_sample b done (Some p) plane lines line column =
    let l = line_in (job_at b p).structure lines line in
    sample_of (slice_at done p (l / side plane)).row plane (l % side plane) column

unfoldable pub reference : Book → List CodedPicture → ℕ → ℕ → View
reference b done p n plane lines line column =
    picture_sample b done (reference_picture b p n lines) plane lines line column

-- a P picture refers to the anchors decoded last, a B picture backward to these and forward to those before them
abbrev pub forward_number : ℕ → ℕ
forward_number kind = cond (nat_eq kind 3) 1 0

abbrev pub forward_of : Book → List CodedPicture → ℕ → View
forward_of b done p = reference b done p (forward_number (job_at b p).kind)

abbrev pub backward_of : Book → List CodedPicture → ℕ → View
backward_of b done p = reference b done p 0

-- ---- pictures

-- the bits of a picture with its headers, without the zero bytes behind it
abbrev pub size_of : Book → List CodedPicture → ℕ → ℕ
size_of b done p = header_bits (job_at b p) + sum_by (λ (x : CodedSlice). length x.text) (picture_at done p).slices

-- the work of a picture
abbrev pub work_of : List CodedPicture → ℕ → ℕ
work_of done p = sum_by (λ (x : CodedSlice). x.work) (picture_at done p).slices

-- the sizes and works of the first n pictures, and the plans of those that are given
abbrev pub told_with : Book → List CodedPicture → ℕ → List CodedPicture → Told
told_with b done n planned = record {
  sizes = map (size_of b done) (range_with_len 0 n);
  works = map (work_of done) (range_with_len 0 n);
  quantisers = map (λ (x : CodedPicture). x.plan.q) planned;
  caps = map (λ (x : CodedPicture). x.plan.cap) planned;
  targets = map (λ (x : CodedPicture). x.plan.target) planned;
}

-- the ledger with these
unfoldable pub ledger_with : Book → List CodedPicture → ℕ → List CodedPicture → Entries
ledger_with b done n planned = told b.ledger (told_with b done n planned)

-- the ledger as the plan of picture p sees it: the sizes and works up to picture p - 4, and all plans before it
abbrev pub ledger_for : Book → List CodedPicture → ℕ → Entries
ledger_for b done p = ledger_with b done (first_open p) (take p done)

-- the ledger once all is known
abbrev pub ledger_behind : Book → List CodedPicture → Entries
ledger_behind b done = ledger_with b done (length done) done

-- the activities of a slice's macroblocks, where the plan goes by the source
unfoldable pub slice_activities : Book → ℕ → ℕ → List ℕ
slice_activities b p r =
    if is_even b.settings.planning
    then row_activities (dims_of b.settings) b.frames (look_of b.pictures p) r
    else []

unfoldable pub task_of : Book → List CodedPicture → ℕ → Plan → ℕ → SliceTask
task_of b done p plan r = record {
  source = slice_index_or b.frames (job_at b p).frame no_samples;
  forward = forward_of b done p;
  backward = backward_of b done p;
  context = context_of b.settings (job_at b p);
  row = r;
  q = plan.q;
  cap = slice_cap_of b.settings plan.cap r;
  search = b.settings.search;
  activities = slice_activities b p r;
}

-- the next picture, those before it being coded
unfoldable pub next_picture : Book → List CodedPicture → CodedPicture
next_picture b done =
    let p = length done in
    let plan = plan_of (ledger_for b done p) p in
    record { plan = plan; slices = map (λ r. slice_of (task_of b done p plan r)) (range_with_len 0 (rows b)) }

-- the first n pictures
unfoldable pub coded : Book → ℕ → List CodedPicture
coded b zero = []
coded b (suc n) = coded b n ++ next_picture b (coded b n) ∷ []

-- the pictures of a book, and the ledger that knows them all
abbrev pub all_coded : Book → List CodedPicture
all_coded b = coded b (length b.pictures)

abbrev pub whole_ledger : Book → Entries
whole_ledger b = ledger_behind b (all_coded b)

-- ---- jobs

-- of each picture its plan, and then its slices from the top
abbrev pub plan_job : Book → ℕ → ℕ
plan_job b p = p * (rows b + 1)

abbrev pub slice_job : Book → ℕ → ℕ → ℕ
slice_job b p r = p * (rows b + 1) + 1 + r

abbrev pub picture_of_job : Book → ℕ → ℕ
picture_of_job b j = j / (rows b + 1)

-- 0 for the plan, r + 1 for slice r
abbrev pub part_of_job : Book → ℕ → ℕ
part_of_job b j = j % (rows b + 1)

-- the pictures that a picture's references stand in, forward ones first, of fields the one with the top lines first
unfoldable pub reference_pictures : Book → ℕ → List (Option ℕ)
reference_pictures b p =
    if nat_eq (job_at b p).kind 1 then []
    else flat_map
    (λ n. if nat_eq (job_at b p).structure 3
    then reference_picture b p n Whole ∷ []
    else reference_picture b p n Top ∷ reference_picture b p n Bottom ∷ [])
    (if nat_eq (job_at b p).kind 2 then 0 ∷ [] else 1 ∷ 0 ∷ [])

abbrev pub in_group : Option ℕ → List ℕ
in_group (Some p) = p ∷ []
in_group None = []

-- the rows before, at and after a row, as far as they exist
abbrev pub near_rows : Book → ℕ → List ℕ
near_rows b r = range_with_len (r - 1) (min (r + 2) (rows b) - (r - 1))

-- a plan needs the plan before it, and the slices of the picture four before; a slice needs its plan, and the near rows of
-- each picture of the group that it refers to
unfoldable pub needs_of : Book → ℕ → List ℕ
needs_of b j =
    let p = picture_of_job b j in
    if nat_eq (part_of_job b j) 0
    then cond (nat_eq p 0) []
    (plan_job b (p - 1) ∷ cond (nat_lt p 4) [] (map (slice_job b (p - 4)) (range_with_len 0 (rows b))))
    else plan_job b p
    ∷ flat_map (λ k. map (slice_job b k) (near_rows b (part_of_job b j - 1))) (flat_map in_group (reference_pictures b p))
