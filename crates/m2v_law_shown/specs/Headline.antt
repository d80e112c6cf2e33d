-- What the encoder's stream keeps.
use Rattle.std.specs.Prelude.{ℕ, ◌≡◌, List, map, length}
use Rattle.m2v_set.specs.declared.settings.Settings.{Settings}
use Rattle.m2v_order.specs.Calls.{jobs_in, picture_of}
use Rattle.m2v_order.specs.Coding.{Coding}
use Rattle.m2v_enc_stream.specs.Streams.{Coded, Recon}
use Rattle.m2v_enc_stream.specs.Trees.{groups_of}
use Rattle.m2v_model.specs.Lawful.{Lawful}
use Rattle.m2v_model.specs.Buffering.{Safe}
use Rattle.m2v_law_shown.specs.Laws.{DecodesTo}

-- With this number of workers the stream and the frames that it shows are the same.
pub record IsSameBy (s : Settings) (frames : List (List ℕ)) (workers : ℕ) : Type 0 where
  pub stream : Coded (record s { workers = workers }) frames ≡ Coded s frames
  pub shown : Recon (record s { workers = workers }) frames ≡ Recon s frames

-- The stream of raw frames decodes to its reconstructions in display order and to nothing else, with no fault in it; it breaks
-- no rule of its level; and the decoder's buffer is never under or over. Its groups are the coding order of all frames, it
-- shows as many frames as there are, and it is the same by every number of workers.
pub record Headline (s : Settings) (frames : List (List ℕ)) : Type 0 where
  pub decodes : DecodesTo (Coded s frames) (Recon s frames)
  pub lawful : Lawful (Coded s frames)
  pub safe : Safe (Coded s frames)
  pub order : map picture_of (jobs_in (groups_of s frames)) ≡ Coding s (length frames)
  pub count : length (Recon s frames) ≡ length frames
  pub workers : (workers : ℕ) → IsSameBy s frames workers
