-- What the stream of raw frames tells.
use Rattle.std.specs.Prelude.{ℕ, ◌≡◌, List, map, All, Some}
use Rattle.m2v_set.specs.declared.settings.Settings.{Settings}
use Rattle.m2v_order.specs.declared.jobs.PictureJob.{PictureJob}
use Rattle.m2v_order.specs.Calls.{jobs_in}
use Rattle.m2v_model.specs.Pictures.{Picture}
use Rattle.m2v_model.specs.Decoding.{events}
use Rattle.m2v_model.specs.Lawful.{Numbered, all_numbered}
use Rattle.m2v_enc_stream.specs.Trees.{groups_of, tree_of}
use Rattle.m2v_law_shown.specs.Own.{own_sequence}
use Rattle.m2v_law_shown.specs.Telling.{told_all, IsMade}
use Rattle.m2v_enc_stream.specs.Sent.{SentPicture, Sent}

-- a job with a picture, and its parts
abbrev pub Made : Type 0
Made = PictureJob × Picture

abbrev pub job_in : Made → PictureJob
job_in m = m.0

abbrev pub picture_in : Made → Picture
picture_in m = m.1

-- the vbv_delay that its picture tells
abbrev pub delay_in : Made → ℕ
delay_in m = m.1.info.vbv_delay

-- the picture that is numbered, and its vbv_delay
abbrev pub number_picture : Numbered → Picture
number_picture n = n.picture

abbrev pub number_delay : Numbered → ℕ
number_delay n = n.picture.info.vbv_delay

-- the stream tells the jobs of its groups, each with a picture that is its own and has the delay of the one that is sent,
-- one behind another
pub record TellsJobs (s : Settings) (frames : List (List ℕ)) : Type 0 where
  pub made : List Made
  pub told : events (tree_of s frames) ≡ told_all s made
  pub are : All (IsMade s) made
  pub jobs : map job_in made ≡ jobs_in (groups_of s frames)
  pub delays : map delay_in made ≡ map (λ (x : SentPicture). x.delay) (Sent s frames)

-- the pictures that the stream tells, numbered
abbrev pub numbers_of : Settings → List (List ℕ) → List Numbered
numbers_of s frames = all_numbered (events (tree_of s frames))

-- the first sequence header is the encoder's; the numbered pictures are those of the jobs, stand behind such headers, and
-- have the delays of the pictures that are sent
pub record TellsNumbers (s : Settings) (frames : List (List ℕ)) : Type 0 where
  pub tells : TellsJobs s frames
  pub pictures : map number_picture (numbers_of s frames) ≡ map picture_in tells.made
  pub first : (tree_of s frames).state.first ≡ Some (own_sequence s)
  pub sequences : All (λ (n : Numbered). n.sequence ≡ own_sequence s) (numbers_of s frames)
  pub delays : map number_delay (numbers_of s frames) ≡ map (λ (x : SentPicture). x.delay) (Sent s frames)
