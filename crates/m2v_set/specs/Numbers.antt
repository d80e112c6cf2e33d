-- The numbers that settings stand for.
use Rattle.std.specs.Prelude.{ℕ, ◌≡◌, ◌⊎◌, ◌+◌, ◌-◌, ◌*◌, ◌/◌, List, [], ◌∷◌, slice_index, if◌then◌else◌, unwrap_or}
use Rattle.m2v_plane.specs.declared.dims.Dims.{Dims}
use Rattle.m2v_set.specs.declared.settings.Scan.{Scan}
use Rattle.m2v_set.specs.declared.settings.Scan.TheVariants.{Progressive, Frames, Fields}
use Rattle.m2v_set.specs.declared.settings.Level.{Level}
use Rattle.m2v_set.specs.declared.settings.Level.TheVariants.{Main, High1440, High}
use Rattle.m2v_set.specs.declared.settings.Settings.{Settings}
use Rattle.m2v_set.specs.declared.limits.Limits.{Limits}

-- the time of a field in units of 1/720,000 s, by frame_rate_code (table 6-4); the first stands for the forbidden code
unfoldable pub field_units : List ℕ
field_units = 0 ∷ 15015 ∷ 15000 ∷ 14400 ∷ 12012 ∷ 12000 ∷ 7200 ∷ 6006 ∷ 6000 ∷ []

unfoldable pub field_time : ℕ → ℕ
field_time code = slice_index field_units code

-- the time of a frame in the same units
abbrev pub frame_time : ℕ → ℕ
frame_time code = 2 * field_time code

-- the time of a frame that is shown for three fields
abbrev pub film_time : ℕ → ℕ
film_time code = 3 * field_time code

-- the time from one picture to the next
unfoldable pub picture_time : Scan → ℕ → ℕ
picture_time Progressive code = frame_time code
picture_time Frames code = frame_time code
picture_time Fields code = field_time code

abbrev pub interval_of : Settings → ℕ
interval_of s = picture_time s.scan s.rate_code

-- the longest time from one picture to the next: with pulldown a picture may be shown for three fields
unfoldable pub longest_interval_of : Settings → ℕ
longest_interval_of s = if s.pulldown then film_time s.rate_code else interval_of s

-- the time behind a picture: that of a picture, or the longest, which with pulldown is that of a frame shown for three
-- fields
abbrev pub IsInterval : Settings → ℕ → Type 0
IsInterval s units = (units ≡ interval_of s) ⊎ (units ≡ longest_interval_of s)

-- what arrives in an interval, in units of 1/1800 bit: the rate is a multiple of 400 bit/s
unfoldable pub arrival_of : Settings → ℕ
arrival_of s = s.bits * interval_of s

-- what arrives at most from one picture to the next, in the same units
unfoldable pub longest_of : Settings → ℕ
longest_of s = s.bits * longest_interval_of s

-- the buffer in bits (vbv_buffer_size, clause 6.3.3)
abbrev pub buffer_bits : Settings → ℕ
buffer_bits s = 16384 * s.buffer

abbrev pub mb_width_of : Settings → ℕ
mb_width_of s = (s.width + 15) / 16

-- the macroblock rows of a picture of so many lines
unfoldable pub rows_by : Scan → ℕ → ℕ
rows_by Progressive height = (height + 15) / 16
rows_by Frames height = 2 * ((height + 31) / 32)
rows_by Fields height = (height + 31) / 32

-- the macroblock rows of a whole frame of so many lines
unfoldable pub frame_rows_by : Scan → ℕ → ℕ
frame_rows_by Progressive height = (height + 15) / 16
frame_rows_by Frames height = 2 * ((height + 31) / 32)
frame_rows_by Fields height = 2 * ((height + 31) / 32)

-- the most bits of an emergency slice over so many macroblocks
unfoldable pub slice_least : ℕ → ℕ
slice_least width = 8 * ((38 + 31 * width + 7) / 8)

-- the most bits of an emergency picture: its slices, its headers (384 bits) and an end code (32)
unfoldable pub least_of : Settings → ℕ
least_of s = 416 + rows_by s.scan s.height * slice_least (mb_width_of s)

-- the delay of the first picture in ticks of 1/90,000 s: three quarters of the buffer, where none is given
unfoldable pub delay_of : Settings → ℕ
delay_of s = unwrap_or s.delay (3 * 1800 * (buffer_bits s - 272) / (32 * s.bits))

-- the size of the frames
unfoldable pub dims_of : Settings → Dims
dims_of s = record {
  width = s.width;
  height = s.height;
  mb_width = mb_width_of s;
  mb_rows = frame_rows_by s.scan s.height;
}

-- the bounds of a level (tables 8-10 to 8-14); the height 1152 of the two higher levels is this project's own
unfoldable pub limits_of : Level → Limits
limits_of Main = record { width = 720; height = 576; codes = 5; luma = 10368000; bits = 37500; buffer = 112 }
limits_of High1440 = record { width = 1440; height = 1152; codes = 8; luma = 47001600; bits = 150000; buffer = 448 }
limits_of High = record { width = 1920; height = 1152; codes = 8; luma = 62668800; bits = 200000; buffer = 597 }

-- the size of the frames of the flat profile
abbrev pub flat_dims : ℕ → ℕ → Dims
flat_dims width height =
    record { width = width; height = height; mb_width = (width + 15) / 16; mb_rows = (height + 15) / 16 }
