-- The encoder's headers and pictures as the verifier sees them.
use Rattle.std.specs.Prelude.{ℕ, ◌≡◌, Bool, false, not, ◌||◌, nat_eq, []}
use Rattle.m2v_set.specs.declared.settings.Settings.{Settings}
use Rattle.m2v_set.specs.declared.settings.Scan.{Scan}
use Rattle.m2v_set.specs.declared.settings.Scan.TheVariants.{Progressive, Frames, Fields}
use Rattle.m2v_order.specs.declared.jobs.PictureJob.{PictureJob}
use Rattle.m2v_slice.specs.Headers.{sequence_of, sequence_extension_of, picture_of, extension_of, begins_group}
use Rattle.m2v_model.specs.declared.state.Sequence.{Sequence}
use Rattle.m2v_model.specs.Pictures.{Picture}
use Rattle.m2v_model.specs.Lawful.{Numbered, horizontal_rule, vertical_rule, intra_rule, crowd_rule, repeat_rule, progressive_rule, precision_rule}

-- the sequence header and its extension
abbrev pub own_sequence : Settings → Sequence
own_sequence s = record { info = sequence_of s; extension = sequence_extension_of s }

-- a frame picture or a second field ends its frame
abbrev pub ends : PictureJob → Bool
ends job = nat_eq job.structure 3 || nat_eq job.structure 2

-- a picture is that of a job: its headers, with a delay that doesn't say that the rate is variable, no row with too many
-- large macroblocks, and its place in its frame
pub record IsPictureOf (s : Settings) (job : PictureJob) (p : Picture) : Type 0 where
  pub delay : ℕ
  pub constant : nat_eq delay 65535 ≡ false
  pub info : p.info ≡ picture_of job delay
  pub extension : p.extension ≡ extension_of s job
  pub crowded : p.crowded_row ≡ 0
  pub begins_frame : p.begins_frame ≡ not (nat_eq job.structure 2)
  pub ends_frame : p.ends_frame ≡ ends job

-- a numbered picture is that of a job, behind the encoder's sequence header, and the first one behind a group header where
-- its job begins a group
pub record IsOwnPicture (s : Settings) (job : PictureJob) (n : Numbered) : Type 0 where
  pub sequence : n.sequence ≡ own_sequence s
  pub first : n.first_in_group ≡ begins_group job
  pub picture : IsPictureOf s job n.picture

-- frames that aren't shot as fields are coded as frame pictures
abbrev pub FitsScan : Scan → PictureJob → Type 0
FitsScan Progressive job = job.structure ≡ 3
FitsScan Frames job = job.structure ≡ 3
FitsScan Fields job = nat_eq job.structure 3 ≡ false

-- no rule on a picture by itself is broken, whether the rate is constant or not
pub record BreaksNone (constant : Bool) (n : Numbered) : Type 0 where
  pub horizontal : horizontal_rule n ≡ []
  pub vertical : vertical_rule n ≡ []
  pub intra : intra_rule n ≡ []
  pub crowd : crowd_rule n ≡ []
  pub repeat : repeat_rule constant n ≡ []
  pub progressive : progressive_rule n ≡ []
  pub precision : precision_rule n ≡ []
