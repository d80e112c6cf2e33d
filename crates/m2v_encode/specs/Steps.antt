-- The steps of coding a raw input: what stands after some frames, and what a step does.
use Rattle.std.specs.Prelude.{ℕ, ◌≡◌, ◌+◌, ◌*◌, ◌<◌, ◌≤◌, ◌^◌, ◌⊎◌, Bool, true, false, List, [], ◌∷◌, ◌++◌, map, length, vec_len, Option, Some, None, IfSome, All, is_some, Result, IfOk, IfErr, OnOk}
use Rattle.m2v_bits.specs.Bits.{packed, start_code}
use Rattle.m2v_port.specs.Ends.{Change, change}
use Rattle.m2v_port.specs.Port.{Moves, MovesFewer, IsAtEnd, Grows, GrowsByPrefix}
use Rattle.m2v_plane.specs.Raw.{frame_bytes, raw, pad}
use Rattle.m2v_plane.specs.Samples.{Samples}
use Rattle.m2v_set.specs.declared.settings.Settings.{Settings}
use Rattle.m2v_set.specs.Numbers.{dims_of}
use Rattle.m2v_set.specs.Rules.{is_even}
use Rattle.m2v_order.specs.declared.jobs.PictureJob.{PictureJob}
use Rattle.m2v_order.specs.Groups.{Queue, Group, is_due, group_of, after_push, after_group, followed, IsSoundQueue}
use Rattle.m2v_order.specs.Whole.{IsGroupOf, handed}
use Rattle.m2v_order.specs.Times.{intervals_of}
use Rattle.m2v_rate.specs.Plans.{account_at, begun}
use Rattle.m2v_rate.specs.Sharing.{IsPictureActivity}
use Rattle.m2v_rate.specs.Steady.{IsSteady}
use Rattle.m2v_enc_activity.specs.Activity.{IsActivity}
use Rattle.m2v_slice.specs.Books.{Book, macroblock_activities, picture_activities}
use Rattle.m2v_law_shown.specs.m2v_enc_stream.Streams.{Progress, at_start, groups_begun, groups_from, waiting, zeros_sum}
use Rattle.m2v_encode.specs.declared.answer.Summary.{Summary}
use Rattle.m2v_encode.specs.declared.answer.EncodeError.{EncodeError}
use Rattle.m2v_encode.specs.declared.answer.EncodeError.TheVariants.{Read, Write, ShortFrame, NoFrames, TooManyFrames, Memory}
use Rattle.m2v_encode.specs.declared.group.Coder.{Coder}
use Rattle.m2v_encode.specs.declared.intake.Intake.{Intake}
use Rattle.m2v_encode.specs.declared.measured.MeasuredGroup.{MeasuredGroup}
use Rattle.m2v_encode.specs.Answers.{AreWhole, most_frames}
use Rattle.m2v_encode.specs.Groups.{whole_ledger, group_text, group_shown, anchor_behind, IsPlace}

-- ---- bytes

-- why so many bytes weren't read
unfoldable pub ReadStops : ℕ → Change → EncodeError → Type 0
ReadStops size left Read = left.Failed × MovesFewer left.old size left.new
ReadStops size left Memory = MovesFewer left.old size left.new
ReadStops size left _ = ⊥

-- why some bytes weren't written
unfoldable pub PutStops : List ℕ → Change → EncodeError → Type 0
PutStops bytes held Write = held.Failed × GrowsByPrefix held.old bytes held.new
PutStops bytes held Memory = GrowsByPrefix held.old bytes held.new
PutStops bytes held _ = ⊥

-- what writing some bytes answers, and what is held then
pub record Puts {A : Type 0} (bytes : List ℕ) (held : Change) (result : Result A EncodeError) : Type 0 where
  pub grown : OnOk result (Grows held.old bytes held.new)
  pub err : IfErr result (PutStops bytes held)

-- ---- a picture

-- a picture of so many bits was sent, and so many zero bits behind it
pub record Sent (old new : Summary) (bits zeros : ℕ) : Type 0 where
  pub frames : new.frames ≡ old.frames
  pub pictures : new.pictures ≡ old.pictures + 1
  pub bytes : 8 * new.bytes ≡ 8 * old.bytes + (bits + zeros)
  pub stuffing : 8 * new.stuffing ≡ 8 * old.stuffing + zeros

-- ---- a group

-- the book of a group, as it follows what is coded
abbrev pub book_by : Coder → Group Samples → Book
book_by c g = record {
  settings = c.settings;
  frames = g.frames;
  pictures = g.pictures;
  before = c.before;
  ledger = begun c.ledger (map (λ (j : PictureJob). j.kind) g.pictures) (intervals_of c.settings g.before g.pictures)
      (picture_activities c.settings g.frames g.pictures);
}

-- a coder has room for a picture's headers, and for a frame's bytes where frames are shown; and the posts that it kept are for
-- groups of its settings
pub record HasRoom (c : Coder) : Type 0 where
  pub raw : c.shown ≡ true → vec_len c.raw ≡ frame_bytes (dims_of c.settings)
  pub headers : 384 ≤ c.headers.room + length c.headers.written
  pub kept : IfSome c.kept (λ s. s ≡ c.settings)

-- no number of it is near its end: there are at most 126 pictures for each frame, and 2^21 bytes for each picture
pub record IsFew (t : Summary) : Type 0 where
  pub pictures : t.pictures ≤ 126 * 999999
  pub bytes : t.bytes ≤ 2 ^ 21 * t.pictures
  pub stuffing : t.stuffing ≤ t.bytes

-- a group can follow: all of the group before is known, the stream stands at its place, and the last anchor is there where
-- one was coded
pub record GoesOn (c : Coder) (coded : Bool) : Type 0 where
  pub settings : c.ledger.settings ≡ c.settings
  pub steady : IsSteady c.ledger
  pub known : length c.ledger.sizes ≡ length c.ledger.kinds
  pub removals : c.ledger.account.removals + length c.ledger.kinds ≡ c.total.pictures
  pub place : IsPlace c.settings (account_at c.ledger (length c.ledger.kinds)) (8 * c.total.bytes)
  pub before : is_some c.before ≡ coded
  pub size : IfSome c.before (λ f. f.dims ≡ dims_of c.settings)

-- a group that was handed out can be coded: the activities are its own
pub record CanCode (s : Settings) (m : MeasuredGroup) : Type 0 where
  pub group : IsGroupOf s (handed m.group)
  pub sizes : All (λ (f : Samples). f.dims ≡ dims_of s) m.group.frames.items
  pub early : All (λ (j : PictureJob). j.display < 1000000) m.group.pictures.items
  pub macroblocks : m.active.macroblocks.items ≡ macroblock_activities s m.group.frames.items m.group.pictures.items
  pub pictures : m.active.pictures.items ≡ picture_activities s m.group.frames.items m.group.pictures.items
  pub range : All IsActivity m.active.macroblocks.items
  pub sums : is_even s.planning ≡ true → All IsPictureActivity m.active.pictures.items

-- a group was coded, and its bytes and frames written
pub record GroupCoded (old new : Coder) (b : Book) (ends : Bool) (held recon : Change) : Type 0 where
  pub grown : Grows held.old (packed (group_text b ends (8 * old.total.bytes))) held.new
  pub shown : Grows recon.old (raw (group_shown b)) recon.new
  pub settings : new.settings ≡ old.settings
  pub ledger : new.ledger ≡ whole_ledger b
  pub before : new.before ≡ anchor_behind b
  pub frames : new.total.frames ≡ old.total.frames
  pub pictures : new.total.pictures ≡ old.total.pictures + length b.pictures
  pub bytes : 8 * new.total.bytes ≡ 8 * old.total.bytes + length (group_text b ends (8 * old.total.bytes))
  pub stuffing : 8 * new.total.stuffing ≡ 8 * old.total.stuffing + zeros_sum (whole_ledger b) ends (length b.pictures)

-- why a group wasn't coded and written: output and recon have each grown by a prefix of what it brings
unfoldable pub GroupStops : Book → Bool → ℕ → Change → Change → EncodeError → Type 0
GroupStops b ends at held recon Read = ⊥
GroupStops b ends at held recon Write =
    (held.Failed ⊎ recon.Failed)
    × (GrowsByPrefix held.old (packed (group_text b ends at)) held.new × GrowsByPrefix recon.old (raw (group_shown b)) recon.new)
GroupStops b ends at held recon (ShortFrame extra) = ⊥
GroupStops b ends at held recon NoFrames = ⊥
GroupStops b ends at held recon TooManyFrames = ⊥
GroupStops b ends at held recon Memory =
    GrowsByPrefix held.old (packed (group_text b ends at)) held.new × GrowsByPrefix recon.old (raw (group_shown b)) recon.new

-- ---- frames

-- the next frame was read, and waits
pub record FrameRead (s : Settings) (old new : Queue Samples) (left : Change) : Type 0 where
  pub frame : List ℕ
  pub whole : length frame ≡ frame_bytes (dims_of s)
  pub moved : Moves left.old frame left.new
  pub pushed : new ≡ after_push old (pad (dims_of s) frame)

-- no frame was left
pub record NoneRead (old new : Queue Samples) (left : Change) : Type 0 where
  pub moved : Moves left.old [] left.new
  pub end : IsAtEnd left.new
  pub same : new ≡ old

-- the input ended inside the next frame
pub record FrameShort (s : Settings) (left : Change) (extra : ℕ) : Type 0 where
  pub part : List ℕ
  pub bytes : All (λ b. b < 256) part
  pub moved : Moves left.old part left.new
  pub count : length part ≡ extra
  pub some : 0 < extra
  pub less : extra < frame_bytes (dims_of s)
  pub end : IsAtEnd left.new

-- a whole frame was read, and there was no room for it
pub record FrameLost (s : Settings) (left : Change) : Type 0 where
  pub frame : List ℕ
  pub whole : length frame ≡ frame_bytes (dims_of s)
  pub moved : Moves left.old frame left.new

-- why a next frame doesn't wait
unfoldable pub FrameStops : Settings → Change → EncodeError → Type 0
FrameStops s left Read = left.Failed × MovesFewer left.old (frame_bytes (dims_of s)) left.new
FrameStops s left Write = ⊥
FrameStops s left (ShortFrame extra) = FrameShort s left extra
FrameStops s left NoFrames = ⊥
FrameStops s left TooManyFrames = ⊥
FrameStops s left Memory = MovesFewer left.old (frame_bytes (dims_of s)) left.new ⊎ FrameLost s left

-- ---- frames up to the next group

-- an intake has room for a frame's bytes and counts the frames that were pushed; no group is due
pub record CanRead (t : Intake) : Type 0 where
  pub raw : vec_len t.raw ≡ frame_bytes (dims_of t.settings)
  pub settings : t.queue.settings ≡ t.settings
  pub going : t.queue.ended ≡ false
  pub count : t.queue.pushed ≡ t.count
  pub most : t.count ≤ most_frames
  pub sound : IsSoundQueue t.queue
  pub rest : is_due t.queue ≡ false

-- a group was handed out of a queue, and can be coded
pub record GroupOut (s : Settings) (old new : Queue Samples) (m : MeasuredGroup) : Type 0 where
  pub due : is_due old ≡ true
  pub is : handed m.group ≡ group_of old
  pub after : new ≡ after_group old
  pub group : CanCode s m

-- the last frame was read: the input has ended, or it had the most frames
pub record NoneOut (old new : Queue Samples) (left : Option (List ℕ)) : Type 0 where
  pub rest : is_due old ≡ false
  pub same : new ≡ old
  pub end : old.pushed < most_frames → IsAtEnd left

-- the group that is due was handed out, or none will be before the end
unfoldable pub HandsOut : Settings → Queue Samples → Queue Samples → Option (List ℕ) → Option MeasuredGroup → Type 0
HandsOut s old new left (Some m) = GroupOut s old new m
HandsOut s old new left None = NoneOut old new left

-- more than the most frames are there
pub record WentPast (count : ℕ) (old new : Option (List ℕ)) : Type 0 where
  pub all : most_frames ≤ count
  pub byte : ℕ
  pub small : byte < 256
  pub moved : Moves old (byte ∷ []) new

-- The states of the input are i0 and i1.
module _ {S : Type 0} (left : S → Option (List ℕ)) (faults : S → ℕ) where
  -- some frames were read, and wait
  pub record ReadsOn (s : Settings) (old new : Queue Samples) (i0 i1 : S) : Type 0 where
    pub frames : List (List ℕ)
    pub whole : AreWhole s frames
    pub moved : Moves (left i0) (raw frames) (left i1)
    pub pushed : new ≡ followed old (map (pad (dims_of s)) frames) false
    pub rises : faults i0 ≤ faults i1

  -- frames were read up to the next group, which is handed out, or to the last frame
  pub record Comes (s : Settings) (old new : Queue Samples) (i0 i1 : S) (next : Option MeasuredGroup) : Type 0 where
    pub queue : Queue Samples
    pub reads : ReadsOn s old queue i0 i1
    pub most : queue.pushed ≤ most_frames
    pub sound : IsSoundQueue queue
    pub out : HandsOut s queue new (left i1) next
    pub more : is_some next ≡ true → old.pushed < queue.pushed

  -- some frames were read, and no group is due; then a frame is there no more, or has no room
  pub record ReadingStops (s : Settings) (old : Queue Samples) (i0 i2 : S) (e : EncodeError) : Type 0 where
    pub queue : Queue Samples
    pub between : S
    pub reads : ReadsOn s old queue i0 between
    pub sound : IsSoundQueue queue
    pub rest : is_due queue ≡ false
    pub fewer : queue.pushed < most_frames
    pub stops : FrameStops s (change left faults between i2) e

  -- what reading up to the next group answers
  pub record ReadsNext (old new : Intake) (i0 i1 : S) (result : Result (Option MeasuredGroup) EncodeError) : Type 0 where
    pub ok : IfOk result (Comes old.settings old.queue new.queue i0 i1)
    pub ready : OnOk result (CanRead new)
    pub err : IfErr result (ReadingStops old.settings old.queue i0 i1)
    pub settings : new.settings ≡ old.settings
    pub rises : faults i0 ≤ faults i1

  -- whole frames were read, and perhaps a part of the next
  pub record ReadAhead (s : Settings) (old : Queue Samples) (i0 i1 : S) : Type 0 where
    pub frames : List (List ℕ)
    pub part : List ℕ
    pub most : old.pushed + length frames ≤ most_frames
    pub whole : AreWhole s frames
    pub less : length part < frame_bytes (dims_of s)
    pub moved : Moves (left i0) (raw frames ++ part) (left i1)

  -- why a group wasn't coded and the next one read: the group stopped, whatever was read meanwhile; or it was coded and written,
  -- and reading stopped
  abbrev pub BesideStops : Book → Coder → Coder → Intake → S → S → Change → Change → EncodeError → Type 0
  BesideStops b c d t i0 i1 held recon e =
      (GroupStops b false (8 * c.total.bytes) held recon e × ReadAhead t.settings t.queue i0 i1)
      ⊎ (GroupCoded c d b false held recon × ReadingStops t.settings t.queue i0 i1 e)

-- ---- so far

-- these groups were handed out of a queue of frames, and they stand in front of the groups of all frames, whatever follows
pub record HandedOut (s : Settings) (frames : List (List ℕ)) (groups : List (Group Samples)) (q : Queue Samples) : Type 0 where
  pub settings : q.settings ≡ s
  pub going : q.ended ≡ false
  pub pushed : q.pushed ≡ length frames
  pub front : (more : List Samples) (ended : Bool) (n : ℕ)
      → groups_from (length groups + n) (followed (waiting s frames false) more ended) ≡ groups ++ groups_from n (followed q more ended)
  pub count : length groups + length q.frames ≤ length frames

-- a coder stands where these groups are coded
pub record Stands (x : Progress) (c : Coder) : Type 0 where
  pub ledger : c.ledger ≡ x.ledger
  pub before : c.before ≡ x.before
  pub pictures : c.total.pictures ≡ x.pictures
  pub bytes : 8 * c.total.bytes ≡ length x.text
  pub stuffing : 8 * c.total.stuffing ≡ x.zeros

-- Some frames were read; the groups that were handed out are coded, and their bytes and frames written.
pub record SoFar (s : Settings) (c : Coder) (q : Queue Samples) (left held recon : Change) : Type 0 where
  pub frames : List (List ℕ)
  pub groups : List (Group Samples)
  pub whole : AreWhole s frames
  pub moved : Moves left.old (raw frames) left.new
  pub handed : HandedOut s frames groups q
  pub settings : c.settings ≡ s
  pub stands : Stands (groups_begun s (at_start s) groups) c
  pub grown : Grows held.old (packed (groups_begun s (at_start s) groups).text) held.new
  pub shown : Grows recon.old (raw (groups_begun s (at_start s) groups).shown) recon.new
  pub unwritten : length frames ≡ 0 → held.Unchanged × recon.Unchanged

-- ---- the end

-- the bytes of the last group, and of the sequence end code
abbrev pub end_bytes : Book → ℕ → List ℕ
end_bytes b at = packed (group_text b true at ++ start_code 0xB7)

-- the last group of so many frames and the end code were written
pub record EndCoded (c : Coder) (count : ℕ) (b : Book) (held recon : Change) (t : Summary) : Type 0 where
  pub grown : Grows held.old (end_bytes b (8 * c.total.bytes)) held.new
  pub shown : Grows recon.old (raw (group_shown b)) recon.new
  pub frames : t.frames ≡ count
  pub pictures : t.pictures ≡ c.total.pictures + length b.pictures
  pub bytes : 8 * t.bytes ≡ 8 * c.total.bytes + length (group_text b true (8 * c.total.bytes)) + 32
  pub stuffing : 8 * t.stuffing ≡ 8 * c.total.stuffing + zeros_sum (whole_ledger b) true (length b.pictures)

-- output and recon have each grown by a prefix of what the end brings
pub record EndCut (c : Coder) (b : Book) (held recon : Change) : Type 0 where
  pub grown : GrowsByPrefix held.old (end_bytes b (8 * c.total.bytes)) held.new
  pub shown : GrowsByPrefix recon.old (raw (group_shown b)) recon.new

-- why the stream wasn't ended; the queue is that of all frames
unfoldable pub EndStops : Coder → Queue Samples → Change → Change → EncodeError → Type 0
EndStops c q held recon Read = ⊥
EndStops c q held recon Write = (held.Failed ⊎ recon.Failed) × ((is_due q ≡ true) × EndCut c (book_by c (group_of q)) held recon)
EndStops c q held recon (ShortFrame extra) = ⊥
EndStops c q held recon NoFrames = (is_due q ≡ false) × (held.Unchanged × recon.Unchanged)
EndStops c q held recon TooManyFrames = ⊥
EndStops c q held recon Memory =
    ((is_due q ≡ true) × EndCut c (book_by c (group_of q)) held recon) ⊎ (held.Unchanged × ((held.new ≡ held.old) × (recon.Unchanged × (recon.new ≡ recon.old))))
