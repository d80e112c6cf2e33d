-- What stands in the coded stream, as a decoder reads it: headers and slices, one part behind another.
use Rattle.std.specs.Prelude.{ℕ, zero, suc, ◌+◌, ◌-◌, Bool, true, false, cond, List, [], ◌∷◌, ◌++◌, map, length}
use Rattle.std.specs.List.{range_with_len}
use Rattle.m2v_plane.specs.Samples.{Samples}
use Rattle.m2v_set.specs.declared.settings.Settings.{Settings}
use Rattle.m2v_order.specs.declared.jobs.PictureJob.{PictureJob}
use Rattle.m2v_order.specs.Groups.{Group}
use Rattle.m2v_rate.specs.Plans.{Entries, plan_of}
use Rattle.m2v_slice.specs.Slices.{SliceTask}
use Rattle.m2v_slice.specs.Headers.{sequence_of, sequence_extension_of, group_from, picture_of, extension_of, begins_group}
use Rattle.m2v_slice.specs.Books.{Book, CodedPicture, rows, job_at, coded, ledger_for, ledger_behind, task_of}
use Rattle.m2v_enc_stream.specs.Streams.{Progress, at_start, book_of, delay_at, pictures_text, group_coded}
pub use Rattle.m2v_enc_stream.specs.Streams.{groups_of}
use Rattle.m2v_model.specs.declared.state.Sequence.{Sequence}
use Rattle.m2v_model.specs.declared.state.State.{State}
use Rattle.m2v_model.specs.States.{at_first}
use Rattle.m2v_model.specs.Streams.{Part, Sofar, sequence, group, picture, slice, ending, after}
use Rattle.m2v_enc_stream.specs.Slices.{slice_read}

-- the sequence header and its extension
abbrev pub sequence_by : Settings → Sequence
sequence_by s = record { info = sequence_of s; extension = sequence_extension_of s }

-- the headers in front of a picture
unfoldable pub header_parts : Settings → PictureJob → ℕ → List Part
header_parts s job delay =
    cond (begins_group job) (sequence (sequence_by s) ∷ group (group_from s (job.display - job.frame)) ∷ []) []
    ++ picture (picture_of job delay) (extension_of s job) ∷ []

-- what slice r of picture p is coded of
abbrev pub task_at : Book → ℕ → ℕ → SliceTask
task_at b p r =
    let before = coded b p in
    task_of b before p (plan_of (ledger_for b before p) p) r

-- the first n slices of a picture, from the top
abbrev pub slice_parts : Book → ℕ → ℕ → List Part
slice_parts b p n = map (λ r. slice r (slice_read (task_at b p r))) (range_with_len 0 n)

-- a picture whose headers begin at a bit of the stream
unfoldable pub picture_parts : Book → Entries → ℕ → ℕ → List Part
picture_parts b l at p =
    header_parts b.settings (job_at b p) (delay_at l (job_at b p) p at) ++ slice_parts b p (rows b)

-- the first n pictures of a group that begins at a bit of the stream
unfoldable pub pictures_parts : Book → List CodedPicture → Entries → Bool → ℕ → ℕ → List Part
pictures_parts b done l ends at zero = []
pictures_parts b done l ends at (suc n) =
    pictures_parts b done l ends at n
    ++ picture_parts b l (at + length (pictures_text b done l ends at n)) n

-- a group, behind what is coded so far; `ends` tells that it is the last one
unfoldable pub group_parts : Settings → Progress → Group Samples → Bool → List Part
group_parts s x g ends =
    let b = book_of s x g in
    let n = length g.pictures in
    let done = coded b n in
    pictures_parts b done (ledger_behind b done) ends (length x.text) n

-- groups one behind another, the last of them the last of all
unfoldable pub groups_parts : Settings → Progress → List (Group Samples) → List Part
groups_parts s x [] = []
groups_parts s x (g ∷ []) = group_parts s x g true
groups_parts s x (g ∷ h ∷ more) =
    group_parts s x g false ++ groups_parts s (group_coded s x g false) (h ∷ more)

-- all parts of the stream of raw frames
abbrev pub stream_parts : Settings → List (List ℕ) → List Part
stream_parts s frames = groups_parts s (at_start s) (groups_of s frames) ++ ending ∷ []

-- the state behind parts
unfoldable pub state_behind : State → List Part → State
state_behind st [] = st
state_behind st (p ∷ ps) = state_behind (after st p) ps

-- the tree of the stream
abbrev pub tree_of : Settings → List (List ℕ) → Sofar
tree_of s frames =
    let parts = stream_parts s frames in
    record { state = state_behind at_first parts; parts = parts }
