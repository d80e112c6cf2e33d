-- What a cut shows: the pictures of the groups that were chosen, each with the samples that it has in the whole stream,
-- without those B pictures that refer to a frame that was cut off.
use Rattle.std.specs.Prelude.{◌≡◌, ◌≤◌, ℕ, zero, suc, Bool, true, false, ◌&&◌, not, nat_le, if◌then◌else◌, List, [], ◌∷◌, ◌++◌, Option, Some, None}
use Rattle.std.specs.List.{flat_map}
use Rattle.m2v_model.specs.declared.state.Sequence.{Sequence}
use Rattle.m2v_model.specs.Units.{joined}
use Rattle.m2v_model.specs.States.{is_b, one_anchor_more}
use Rattle.m2v_model.specs.Streams.{Sofar}
use Rattle.m2v_model.specs.Pictures.{Picture, Pictures, Event, Events, sequence_header, group_header, coded_picture, pictures_in}
use Rattle.m2v_model.specs.Decoding.{Stream, Decodes, events, low_delay_of, shown}
use Rattle.m2v_model.specs.Lawful.{all_numbered, intra_rule, Lawful}
use Rattle.m2v_law_group.specs.Groups.{has_picture, stream_units, before_group, cut_units, cut_text, is_standalone}

-- ---- the pictures of groups

abbrev pub is_header : Event → Bool
is_header (sequence_header s) = false
is_header (group_header g) = true
is_header (coded_picture p) = false

-- what is told before the header of group n; all where there is none
unfoldable pub before_header : ℕ → Events → Events
before_header n [] = []
before_header zero (e ∷ es) = if is_header e then [] else e ∷ before_header 0 es
before_header (suc n) (e ∷ es) = e ∷ before_header (if is_header e then n else suc n) es

-- what is told from the header of group n on; nothing where there is none
unfoldable pub from_header : ℕ → Events → Events
from_header n [] = []
from_header zero (e ∷ es) = if is_header e then e ∷ es else from_header 0 es
from_header (suc n) (e ∷ es) = from_header (if is_header e then n else suc n) es

-- the pictures of so many groups from number `from` on, in decoding order
abbrev pub group_pictures : ℕ → ℕ → Events → Pictures
group_pictures from count es = pictures_in (before_header count (from_header from es))

-- the last sequence header
unfoldable pub last_sequence : Option Sequence → Events → Option Sequence
last_sequence s [] = s
last_sequence s (sequence_header t ∷ es) = last_sequence (Some t) es
last_sequence s (group_header g ∷ es) = last_sequence s es
last_sequence s (coded_picture p ∷ es) = last_sequence s es

-- ---- those that are shown

-- the anchors behind a picture: the last picture of an I or P frame makes it one more, counted up to 2
abbrev pub anchors_behind : ℕ → Picture → ℕ
anchors_behind anchors p = if p.ends_frame && not (is_b p.info.kind) then one_anchor_more anchors else anchors

-- a B picture that was decoded before the second anchor
abbrev pub is_leading : ℕ → Picture → Bool
is_leading anchors p = is_b p.info.kind && not (nat_le 2 anchors)

-- pictures without the B pictures that were decoded before the second anchor, behind so many anchors
unfoldable pub without_leading : ℕ → Pictures → Pictures
without_leading anchors [] = []
without_leading anchors (p ∷ ps) =
    if is_leading anchors p then without_leading anchors ps else p ∷ without_leading (anchors_behind anchors p) ps

-- the pictures that a cut shows, where pictures were cut off before it or weren't
abbrev pub left_in : Bool → Pictures → Pictures
left_in true ps = without_leading 0 ps
left_in false ps = ps

-- the raw frames that a cut shows, by what is told of the whole stream: in the display order of the low_delay that the
-- cut's first sequence extension has
abbrev pub cut_frames : List ℕ → ℕ → ℕ → Events → List (List ℕ)
cut_frames text from count es =
    shown (low_delay_of (last_sequence None (before_header from es)))
    (left_in (has_picture (before_group from (stream_units text))) (group_pictures from count es))

-- ---- the law

-- the first picture behind each group header is I
abbrev pub BeginIntra : Events → Type 0
BeginIntra es = flat_map intra_rule (all_numbered es) ≡ []

-- bytes don't end in the prefix of a start code
abbrev pub EndClear : List ℕ → Type 0
EndClear bytes = (front : List ℕ) → bytes ≡ front ++ 0x00 ∷ 0x00 ∷ 0x01 ∷ [] → ⊥

-- of a stream without a fault, whose groups begin with I pictures, groups from one on that stands alone are cut out as a
-- stream without a fault, which shows the frames that they have in the whole
abbrev pub CutDecodes : List ℕ → ℕ → ℕ → Type 0
CutDecodes text from count =
    (tree : Sofar) → Stream text tree → 1 ≤ count → BeginIntra (events tree) → is_standalone text from ≡ true
    → EndClear (joined (cut_units from count (stream_units text)))
    → Decodes (cut_text text from count) (cut_frames text from count (events tree))

-- the same of a lawful stream
abbrev pub LawfulCutDecodes : List ℕ → ℕ → ℕ → Type 0
LawfulCutDecodes text from count =
    (l : Lawful text) → 1 ≤ count → is_standalone text from ≡ true → EndClear (joined (cut_units from count (stream_units text)))
    → Decodes (cut_text text from count) (cut_frames text from count (events l.tree))
