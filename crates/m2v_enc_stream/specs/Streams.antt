-- The coded stream of raw frames, and the frames that a decoder makes of it. No word here speaks of workers.
use Rattle.std.specs.Prelude.{ℕ, zero, suc, ◌+◌, ◌*◌, ◌/◌, ◌%◌, Bool, true, false, ◌&&◌, nat_eq, cond, if◌then◌else◌, List, [], ◌∷◌, ◌++◌, map, length, replicate, slice_index, Option, Some, None}
use Rattle.std.specs.List.{range_with_len, flat_map}
use Rattle.m2v_bits.specs.Bits.{packed, start_code, ◌⧺◌}
use Rattle.m2v_plane.specs.declared.planes.Lines.{Lines}
use Rattle.m2v_plane.specs.declared.planes.Lines.TheVariants.{Top, Bottom}
use Rattle.m2v_plane.specs.Samples.{Samples}
use Rattle.m2v_plane.specs.Raw.{pad, crop}
use Rattle.m2v_set.specs.declared.settings.Settings.{Settings}
use Rattle.m2v_set.specs.Numbers.{dims_of}
use Rattle.m2v_vbv.specs.Account.{arriving, stuffing_of}
use Rattle.m2v_order.specs.declared.jobs.PictureJob.{PictureJob}
use Rattle.m2v_order.specs.Times.{intervals_of}
use Rattle.m2v_order.specs.Groups.{Queue, Group, is_due, group_of, after_group}
use Rattle.m2v_rate.specs.Plans.{Entries, account_at, fresh, begun}
pub use Rattle.m2v_model.specs.Painting.{frame_by}
use Rattle.m2v_slice.specs.Slices.{CodedSlice}
use Rattle.m2v_slice.specs.Headers.{header_units, bits_to_code}
use Rattle.m2v_slice.specs.Books.{Book, CodedPicture, picture_activities, coded, picture_at, job_at, picture_sample, has_lines, ledger_behind, all_coded}

-- ---- pictures

-- the zero bits behind a picture, the fewest with which the buffer takes what arrives; none behind the last of all
abbrev pub zeros_of : Entries → Bool → ℕ → ℕ
zeros_of l ends p =
    cond (ends && nat_eq (p + 1) (length l.kinds)) 0
    (stuffing_of (account_at l p) (slice_index l.sizes p) (slice_index l.intervals p))

-- the vbv_delay of a picture whose headers begin at a bit of the stream: the time from the arrival of its start code to
-- its removal, in ticks of 1/90,000 s (clause 6.3.9)
abbrev pub delay_at : Entries → PictureJob → ℕ → ℕ → ℕ
delay_at l job p at = arriving (account_at l p) (at + bits_to_code job) / (8 * l.settings.bits)

-- a picture: its headers, its slices, and the zero bits behind it
unfoldable pub picture_text : Book → List CodedPicture → Entries → Bool → ℕ → ℕ → List Bool
picture_text b done l ends at p =
    header_units b.settings (job_at b p) (delay_at l (job_at b p) p at)
    ⧺ flat_map (λ (x : CodedSlice). x.text) (picture_at done p).slices
    ⧺ replicate (zeros_of l ends p) false

-- the first n pictures of a group that begins at a bit of the stream
unfoldable pub pictures_text : Book → List CodedPicture → Entries → Bool → ℕ → ℕ → List Bool
pictures_text b done l ends at zero = []
pictures_text b done l ends at (suc n) =
    let t = pictures_text b done l ends at n in
    t ++ picture_text b done l ends (at + length t) n

-- ---- reconstructions

-- of the first n pictures, the one that has these lines of a frame
unfoldable pub picture_with : Book → ℕ → Lines → ℕ → Option ℕ
picture_with b frame lines zero = None
picture_with b frame lines (suc n) =
    if nat_eq (job_at b n).frame frame && has_lines (job_at b n).structure lines
    then Some n
    else picture_with b frame lines n

-- a frame of the group: of one frame picture, or of two field pictures line by line in turn
unfoldable pub frame_of : Book → List CodedPicture → ℕ → Samples
frame_of b done frame =
    frame_by (dims_of b.settings) (λ plane line column.
    if nat_eq (line % 2) 0
    then picture_sample b done (picture_with b frame Top (length done)) plane Top (line / 2) column
    else picture_sample b done (picture_with b frame Bottom (length done)) plane Bottom (line / 2) column)

-- the frame of the last anchor among pictures in coding order
unfoldable pub anchor_frame : Option ℕ → List PictureJob → Option ℕ
anchor_frame last [] = last
anchor_frame last (job ∷ more) = anchor_frame (if nat_eq job.kind 3 then last else Some job.frame) more

unfoldable pub frame_or : Option Samples → Book → List CodedPicture → Option ℕ → Option Samples
frame_or before b done None = before
frame_or before b done (Some frame) = Some (frame_of b done frame)

-- the reconstruction of a book's last anchor
abbrev pub anchor_behind : Book → Option Samples
anchor_behind b = frame_or b.before b (all_coded b) (anchor_frame None b.pictures)

-- ---- groups

-- what is coded so far: the text, the ledger of the last group, the reconstruction of its last anchor, the frames that are
-- shown, how many pictures there are, and how many zero bits stand behind them
pub record Progress : Type 0 where
  pub text : List Bool
  pub ledger : Entries
  pub before : Option Samples
  pub shown : List (List ℕ)
  pub pictures : ℕ
  pub zeros : ℕ

abbrev pub at_start : Settings → Progress
at_start s = record { text = []; ledger = fresh s; before = None; shown = []; pictures = 0; zeros = 0 }

abbrev pub book_of : Settings → Progress → Group Samples → Book
book_of s x g = record {
  settings = s;
  frames = g.frames;
  pictures = g.pictures;
  before = x.before;
  ledger = begun x.ledger (map (λ (j : PictureJob). j.kind) g.pictures) (intervals_of s g.before g.pictures)
      (picture_activities s g.frames g.pictures);
}

-- the zero bits behind the first n pictures of a group
unfoldable pub zeros_sum : Entries → Bool → ℕ → ℕ
zeros_sum l ends zero = 0
zeros_sum l ends (suc n) = zeros_sum l ends n + zeros_of l ends n

-- what stands behind a group of this book; `ends` tells that it is the last one
abbrev pub progress_behind : Progress → Group Samples → Bool → Book → Progress
progress_behind x g ends b =
    let n = length g.pictures in
    let done = coded b n in
    let l = ledger_behind b done in
    record {
      text = x.text ++ pictures_text b done l ends (length x.text) n;
      ledger = l;
      before = frame_or x.before b done (anchor_frame None g.pictures);
      shown = x.shown ++ map (λ k. crop (frame_of b done k)) (range_with_len 0 (length g.frames));
      pictures = x.pictures + n;
      zeros = x.zeros + zeros_sum l ends n;
    }

-- a group is coded
unfoldable pub group_coded : Settings → Progress → Group Samples → Bool → Progress
group_coded s x g ends = progress_behind x g ends (book_of s x g)

-- groups, none of which is the last of the stream
unfoldable pub groups_begun : Settings → Progress → List (Group Samples) → Progress
groups_begun s x [] = x
groups_begun s x (g ∷ more) = groups_begun s (group_coded s x g false) more

-- all groups
unfoldable pub groups_coded : Settings → Progress → List (Group Samples) → Progress
groups_coded s x [] = x
groups_coded s x (g ∷ []) = group_coded s x g true
groups_coded s x (g ∷ h ∷ more) = groups_coded s (group_coded s x g false) (h ∷ more)

-- the groups that a queue hands out, at most so many
unfoldable pub groups_from : ℕ → Queue Samples → List (Group Samples)
groups_from zero q = []
groups_from (suc n) q = if is_due q then group_of q ∷ groups_from n (after_group q) else []

-- ---- the stream

-- raw frames as they wait to be coded; `ended` tells that no frame follows
abbrev pub waiting : Settings → List (List ℕ) → Bool → Queue Samples
waiting s frames ended =
    record { settings = s; pushed = length frames; frames = map (pad (dims_of s)) frames; ended = ended }

-- the groups of raw frames
abbrev pub groups_of : Settings → List (List ℕ) → List (Group Samples)
groups_of s frames = groups_from (length frames) (waiting s frames true)

-- all of these frames coded
unfoldable pub coded_all : Settings → List (List ℕ) → Progress
coded_all s frames = groups_coded s (at_start s) (groups_from (length frames) (waiting s frames true))

-- the groups of these frames coded whose next I frame is among them
unfoldable pub coded_begun : Settings → List (List ℕ) → Progress
coded_begun s frames = groups_begun s (at_start s) (groups_from (length frames) (waiting s frames false))

-- the stream of raw frames, with a sequence end code
abbrev pub Coded : Settings → List (List ℕ) → List ℕ
Coded s frames = packed ((coded_all s frames).text ⧺ start_code 0xB7)

-- the frames that a decoder makes of it, in display order
abbrev pub Recon : Settings → List (List ℕ) → List (List ℕ)
Recon s frames = (coded_all s frames).shown

-- what is written before the end of the input is known
abbrev pub CodedBegun : Settings → List (List ℕ) → List ℕ
CodedBegun s frames = packed (coded_begun s frames).text

abbrev pub ReconBegun : Settings → List (List ℕ) → List (List ℕ)
ReconBegun s frames = (coded_begun s frames).shown
