-- What a decoder knows inside the encoder's stream.
use Rattle.std.specs.Prelude.{ℕ, zero, suc, ◌-◌, ◌*◌, Bool, false, nat_eq, nat_lt, if◌then◌else◌, List, Option, Some, None}
use Rattle.m2v_set.specs.declared.settings.Settings.{Settings}
use Rattle.m2v_order.specs.declared.jobs.PictureJob.{PictureJob}
use Rattle.m2v_slice.specs.Headers.{picture_of, extension_of}
use Rattle.m2v_set.specs.Numbers.{mb_width_of}
use Rattle.m2v_slice.specs.Books.{Book, job_at}
use Rattle.m2v_model.specs.declared.state.Open.{Open}
use Rattle.m2v_model.specs.declared.state.FirstField.{FirstField}
use Rattle.m2v_model.specs.declared.state.State.{State}
use Rattle.m2v_model.specs.States.{at_first, one_anchor_more}
use Rattle.m2v_enc_stream.specs.Trees.{sequence_by}

-- once the sequence header was read: whether the group is closed, how many anchors were decoded, the first field that
-- waits, and the picture that is open
abbrev pub state_with : Settings → Bool → ℕ → Option FirstField → Option Open → State
state_with s closed anchors waiting current = record at_first {
  first = Some (sequence_by s);
  sequence = Some (sequence_by s);
  closed_gop = closed;
  anchors = anchors;
  waiting = waiting;
  picture = current;
}

-- a picture of which the first n slices were read; it has these references
unfoldable pub open_at : Settings → PictureJob → ℕ → List Bool → ℕ → Open
open_at s job delay references n = record {
  info = picture_of job delay;
  extension = extension_of s job;
  second_field = nat_eq job.structure 2;
  dropped = false;
  slices_unread = false;
  references = references;
  has_slice = nat_lt 0 n;
  row = n - 1;
  covered = n * mb_width_of s;
  large_macroblocks = 0;
  crowded_row = 0;
}

-- the first field that waits behind the first n pictures of a group
unfoldable pub waiting_behind : Book → ℕ → Option FirstField
waiting_behind b zero = None
waiting_behind b (suc n) =
    if nat_eq (job_at b n).structure 1
    then Some (record { kind = (job_at b n).kind; structure = 1 })
    else None

-- how many anchors were decoded behind the first n pictures of a group, before which there were so many; two fields are
-- one, and they are counted up to 2
unfoldable pub anchors_behind : ℕ → Book → ℕ → ℕ
anchors_behind before b zero = before
anchors_behind before b (suc n) =
    if nat_eq (job_at b n).kind 3 then anchors_behind before b n
    else if nat_eq (job_at b n).structure 1 then anchors_behind before b n
    else one_anchor_more (anchors_behind before b n)
