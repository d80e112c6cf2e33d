-- The frames that a decoder has at hand before a picture of a group.
use Rattle.std.specs.Prelude.{ℕ, zero, suc, ◌≡◌, ◌*◌, Bool, not, ◌&&◌, nat_eq, length, if◌then◌else◌, Option, Some}
use Rattle.m2v_plane.specs.declared.planes.Lines.TheVariants.{Top}
use Rattle.m2v_plane.specs.Samples.{Samples}
use Rattle.m2v_set.specs.Numbers.{dims_of}
use Rattle.m2v_slice.specs.Books.{Book, rows, job_at, coded}
use Rattle.m2v_enc_stream.specs.Streams.{frame_of}
use Rattle.m2v_model.specs.Pictures.{Store}
use Rattle.m2v_model.specs.Painting.{IsPainted}
use Rattle.m2v_law_shown.specs.Rows.{samples_of}

-- a picture ends an anchor: an I or P frame picture, or the second field of one
abbrev pub ends_anchor : Book → ℕ → Bool
ends_anchor b p = not (nat_eq (job_at b p).kind 3) && not (nat_eq (job_at b p).structure 1)

-- a frame of the group as it was rebuilt
abbrev pub frame_in : Book → ℕ → Samples
frame_in b frame = frame_of b (coded b (length b.pictures)) frame

-- the last anchor behind the first n pictures of a group
unfoldable pub newer_behind : Book → ℕ → Option Samples
newer_behind b zero = b.before
newer_behind b (suc n) = if ends_anchor b n then Some (frame_in b (job_at b n).frame) else newer_behind b n

-- and the one before it, where this one was there before the group
unfoldable pub older_behind : Book → Option Samples → ℕ → Option Samples
older_behind b older zero = older
older_behind b older (suc n) = if ends_anchor b n then newer_behind b n else older_behind b older n

-- the frame that waits for its second field, of which the first one was painted
pub record FieldWaits (b : Book) (p : ℕ) (store : Store) : Type 0 where
  pub frame : Samples
  pub current : store.current ≡ Some frame
  pub painted : IsPainted Top (dims_of b.settings) (rows b * (dims_of b.settings).mb_width) (samples_of b (coded b (length b.pictures)) (job_at b p).frame) frame

-- what is at hand before a picture
pub record HoldsBefore (b : Book) (older : Option Samples) (p : ℕ) (store : Store) : Type 0 where
  pub last : store.newer ≡ newer_behind b p
  pub before : store.older ≡ older_behind b older p
  pub current : (job_at b p).structure ≡ 2 → FieldWaits b p store
