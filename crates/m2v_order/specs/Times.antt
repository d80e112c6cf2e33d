-- How long frames are shown, and the times behind the pictures of a group.
use Rattle.std.specs.Prelude.{ℕ, ◌%◌, ◌==◌, Bool, true, false, ◌&&◌, ◌||◌, if◌then◌else◌, List, [], ◌∷◌, Option, Some, None}
use Rattle.m2v_set.specs.declared.settings.Scan.{Scan}
use Rattle.m2v_set.specs.declared.settings.Scan.TheVariants.{Progressive, Frames, Fields}
use Rattle.m2v_set.specs.declared.settings.Settings.{Settings}
use Rattle.m2v_set.specs.Numbers.{interval_of, longest_interval_of}
use Rattle.m2v_order.specs.declared.jobs.PictureJob.{PictureJob}

unfoldable pub is_frames : Scan → Bool
is_frames Progressive = false
is_frames Frames = true
is_frames Fields = false

-- with pulldown every second frame is shown for three fields (repeat_first_field, clause 6.3.10)
unfoldable pub repeats : Settings → ℕ → Bool
repeats s display = s.pulldown && (display % 2 == 0)

-- its fields go on in turn (top_field_first): of four frames the first and the last begin with the top field; without
-- pulldown scan frames all do
unfoldable pub is_top_first : Settings → ℕ → Bool
is_top_first s display =
    if s.pulldown then (display % 4 == 0) || (display % 4 == 3) else is_frames s.scan

unfoldable pub repeats_last : Settings → Option ℕ → Bool
repeats_last s None = false
repeats_last s (Some display) = repeats s display

-- the time behind a picture: a B picture is shown at once, and an anchor when the next one comes, so that its own time
-- follows a B picture and that of the anchor before follows an anchor
unfoldable pub interval_behind : Settings → Option ℕ → PictureJob → ℕ
interval_behind s last job =
    if (if job.kind == 3 then repeats s job.display else repeats_last s last)
    then longest_interval_of s
    else interval_of s

-- the last anchor behind a picture; both fields of a frame are one
abbrev pub anchor_after : Option ℕ → PictureJob → Option ℕ
anchor_after last job = if job.kind == 3 then last else Some job.display

-- the times behind pictures in coding order, by the display number of the anchor that was coded before them
unfoldable pub intervals_of : Settings → Option ℕ → List PictureJob → List ℕ
intervals_of s last [] = []
intervals_of s last (job ∷ more) = interval_behind s last job ∷ intervals_of s (anchor_after last job) more
