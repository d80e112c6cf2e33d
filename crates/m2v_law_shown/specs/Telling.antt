-- What is told of the encoder's pictures: the headers of a group in front of its first one.
use Rattle.std.specs.Prelude.{◌-◌, Bool, cond, List, [], ◌∷◌, ◌++◌}
use Rattle.std.specs.List.{flat_map}
use Rattle.m2v_set.specs.declared.settings.Settings.{Settings}
use Rattle.m2v_order.specs.declared.jobs.PictureJob.{PictureJob}
use Rattle.m2v_slice.specs.Headers.{begins_group, group_from}
use Rattle.m2v_model.specs.Pictures.{Picture, Events, sequence_header, group_header, coded_picture}
use Rattle.m2v_law_shown.specs.Own.{own_sequence, IsPictureOf}

-- the headers of a group, where a picture begins one
abbrev pub headers : Settings → PictureJob → Bool → Events
headers s job begins = cond begins (sequence_header (own_sequence s) ∷ group_header (group_from s (job.display - job.frame)) ∷ []) []

-- what is told of a job and its picture: in front of the first one of a group its headers
abbrev pub told : Settings → PictureJob × Picture → Events
told s made =
    cond (begins_group made.0) (sequence_header (own_sequence s) ∷ group_header (group_from s (made.0.display - made.0.frame)) ∷ []) []
    ++ coded_picture made.1 ∷ []

-- and of jobs and their pictures, one behind another
abbrev pub told_all : Settings → List (PictureJob × Picture) → Events
told_all s made = flat_map (told s) made

-- a picture is that of its job
abbrev pub IsMade : Settings → PictureJob × Picture → Type 0
IsMade s made = IsPictureOf s made.0 made.1
