-- The rules that the verifier looks at beside the buffer (levels and profiles: clause 8), over what a stream tells: its
-- headers and pictures in order. Each rule answers what breaks it, with the two numbers that it compares.
use Rattle.std.specs.Prelude.{◌≡◌, ℕ, suc, ◌+◌, ◌*◌, ◌%◌, Bool, true, false, ◌&&◌, ◌||◌, not, nat_eq, if◌then◌else◌, List, [], ◌∷◌, ◌++◌, slice_index, slice_index_or, Option, Some, None}
use Rattle.std.specs.List.{flat_map}
use Rattle.m2v_order.specs.m2v_set.declared.settings.Level.{Level}
use Rattle.m2v_order.specs.m2v_set.declared.settings.Level.TheVariants.{Main, High1440, High}
use Rattle.m2v_order.specs.m2v_set.declared.limits.Limits.{Limits}
use Rattle.m2v_order.specs.m2v_set.Numbers.{frame_time, limits_of}
use Rattle.m2v_order.specs.Display.{Order}
use Rattle.m2v_model.specs.declared.state.Sequence.{Sequence}
use Rattle.m2v_model.specs.States.{width_of, height_of, is_frame}
use Rattle.m2v_model.specs.Headers.{uses_forward, uses_backward}
use Rattle.m2v_model.specs.Bounds.{told_unless, told_above, told_outside}
use Rattle.m2v_model.specs.Streams.{Sofar}
use Rattle.m2v_model.specs.Pictures.{Picture, Events, sequence_header, group_header, coded_picture}
use Rattle.m2v_model.specs.Decoding.{Stream, events, low_delay_of}

-- ---- what is broken

-- the broken rule, the picture, and what it has and needs
pub record Breach : Type 0 where
  pub rule : ℕ
  pub picture : ℕ
  pub have : ℕ
  pub need : ℕ

abbrev pub Breaches : Type 0
Breaches = List Breach

abbrev pub breach : ℕ → ℕ → ℕ → ℕ → Breach
breach rule picture have need = record { rule = rule; picture = picture; have = have; need = need }

-- a rule that holds, or the breach of it
abbrev pub judge : Bool → Breach → Breaches
judge holds b = told_unless holds b

abbrev pub at_most : ℕ → ℕ → ℕ → ℕ → Breaches
at_most rule picture have need = told_above (breach rule picture) have need

-- from one bound to another: the nearer bound is needed
abbrev pub within : ℕ → ℕ → ℕ → ℕ → ℕ → Breaches
within rule picture have low high = told_outside (breach rule picture) have low high

-- ---- levels (tables 8-2, 8-3 and 8-8 to 8-14)

-- Main, High 1440 and High level of the main profile, by profile_and_level
abbrev pub is_level : ℕ → Bool
is_level code = nat_eq code 72 || nat_eq code 70 || nat_eq code 68

-- a code of no such level breaks rule 1, and counts as Main level in the other rules
unfoldable pub level_of : ℕ → Level
level_of code = if nat_eq code 68 then High else if nat_eq code 70 then High1440 else Main

abbrev pub level_in : Sequence → Level
level_in s = level_of s.extension.profile_and_level

abbrev pub limits_in : Sequence → Limits
limits_in s = limits_of (level_in s)

-- the greatest horizontal f_code of a level; 9 is the greatest that there is
unfoldable pub most_horizontal : Level → ℕ
most_horizontal Main = 8
most_horizontal High1440 = 9
most_horizontal High = 9

-- bit_rate in units of 400 bit/s, and vbv_buffer_size in units of 16,384 bits (clause 6.3.3)
abbrev pub rate_of : Sequence → ℕ
rate_of s = s.extension.bit_rate_ext * 262144 + s.info.bit_rate

abbrev pub buffer_of : Sequence → ℕ
buffer_of s = s.extension.vbv_ext * 1024 + s.info.vbv_buffer_size

-- ---- rules on sequence headers, which count as picture 0

unfoldable pub level_rule : Sequence → Breaches
level_rule s = judge (is_level s.extension.profile_and_level) (breach 1 0 s.extension.profile_and_level 72)

unfoldable pub width_rule : Sequence → Breaches
width_rule s = at_most 2 0 (width_of s) (limits_in s).width

unfoldable pub height_rule : Sequence → Breaches
height_rule s = at_most 3 0 (height_of s) (limits_in s).height

-- the code, and then the two numbers that change it
unfoldable pub frame_rate_rule : Sequence → Breaches
frame_rate_rule s =
    within 4 0 s.info.frame_rate_code 1 (limits_in s).codes
    ++ at_most 4 0 (32 * s.extension.rate_n + s.extension.rate_d) 0

unfoldable pub luma_rule : Sequence → Breaches
luma_rule s = at_most 5 0 (720000 * width_of s * height_of s) ((limits_in s).luma * frame_time s.info.frame_rate_code)

unfoldable pub rate_rule : Sequence → Breaches
rate_rule s = within 6 0 (rate_of s) 1 (limits_in s).bits

unfoldable pub buffer_rule : Sequence → Breaches
buffer_rule s = within 7 0 (buffer_of s) 1 (limits_in s).buffer

-- rule by rule, and for each rule header by header
abbrev pub sequence_breaches : List Sequence → Breaches
sequence_breaches ss =
    flat_map level_rule ss ++ flat_map width_rule ss ++ flat_map height_rule ss ++ flat_map frame_rate_rule ss
    ++ flat_map luma_rule ss ++ flat_map rate_rule ss ++ flat_map buffer_rule ss

abbrev pub sequences_in : Events → List Sequence
sequences_in [] = []
sequences_in (sequence_header s ∷ es) = s ∷ sequences_in es
sequences_in (group_header g ∷ es) = sequences_in es
sequences_in (coded_picture p ∷ es) = sequences_in es

-- ---- pictures among the others

-- a picture, with its number, the sequence header before it, the number of group headers before it, whether it is the
-- first one behind a group header, and the number of its frame
pub record Numbered : Type 0 where
  pub number : ℕ
  pub sequence : Sequence
  pub group : ℕ
  pub first_in_group : Bool
  pub frame : ℕ
  pub picture : Picture

-- the pictures of what is told, behind so many others of so many frames
unfoldable pub numbered : Option Sequence → ℕ → Bool → ℕ → ℕ → Events → List Numbered
numbered s group first_in_group number frames [] = []
numbered s group first_in_group number frames (sequence_header t ∷ es) = numbered (Some t) group first_in_group number frames es
numbered s group first_in_group number frames (group_header g ∷ es) = numbered s (group + 1) true number frames es
numbered None group first_in_group number frames (coded_picture p ∷ es) = numbered None group first_in_group number frames es
numbered (Some s) group first_in_group number frames (coded_picture p ∷ es) =
    record { number = number; sequence = s; group = group; first_in_group = first_in_group; frame = frames; picture = p }
    ∷ numbered (Some s) group false (number + 1) (if p.ends_frame then frames + 1 else frames) es

-- ---- rules on pictures

-- an f_code of a direction, 0 forward or 1 backward, and a component, 0 horizontal or 1 vertical
abbrev pub f_code_of : Picture → ℕ → ℕ → ℕ
f_code_of p direction component = slice_index (slice_index_or p.extension.f_code direction []) component

abbrev pub has_forward_vectors : Picture → Bool
has_forward_vectors p = uses_forward p.info.kind (Some (if p.extension.concealment then 1 else 0))

-- forward before backward, where they are used
abbrev pub f_code_rule : ℕ → ℕ → (Numbered → ℕ) → Numbered → Breaches
f_code_rule rule component limit n =
    (if has_forward_vectors n.picture then at_most rule n.number (f_code_of n.picture 0 component) (limit n) else [])
    ++ (if uses_backward n.picture.info.kind then at_most rule n.number (f_code_of n.picture 1 component) (limit n) else [])

unfoldable pub horizontal_rule : Numbered → Breaches
horizontal_rule n = f_code_rule 8 0 (λ m. most_horizontal (level_in m.sequence)) n

unfoldable pub vertical_rule : Numbered → Breaches
vertical_rule n = f_code_rule 9 1 (λ m. if is_frame m.picture.extension then 5 else 4) n

unfoldable pub intra_rule : Numbered → Breaches
intra_rule n = judge (not n.first_in_group || nat_eq n.picture.info.kind 1) (breach 10 n.number n.picture.info.kind 1)

-- the frames of a group, by number, in decoding order with their types
unfoldable pub frames_of_group : ℕ → List Numbered → List (ℕ × ℕ)
frames_of_group group [] = []
frames_of_group group (n ∷ ns) =
    if nat_eq n.group group && n.picture.ends_frame
    then (n.frame, n.picture.info.kind) ∷ frames_of_group group ns
    else frames_of_group group ns

-- the place of a frame in a list
unfoldable pub display_place : ℕ → List (ℕ × ℕ) → ℕ
display_place frame [] = 0
display_place frame (f ∷ fs) = if nat_eq f.0 frame then 0 else suc (display_place frame fs)

-- the place of a picture's frame in the display order of its group. In the whole stream the frames of a group stand in
-- the same order, since B frames before the first anchor of the group stand before it in both.
unfoldable pub place_in_group : Bool → List Numbered → Numbered → ℕ
place_in_group low_delay all n = display_place n.frame (Order low_delay (frames_of_group n.group all))

-- temporal_reference is that place, modulo 1024 (clause 6.3.9); both fields of a frame are looked at
unfoldable pub reference_rule : Bool → List Numbered → Numbered → Breaches
reference_rule low_delay all n =
    let place = place_in_group low_delay all n % 1024 in
    judge (nat_eq n.picture.info.temporal_reference place) (breach 11 n.number n.picture.info.temporal_reference place)

unfoldable pub crowd_rule : Numbered → Breaches
crowd_rule n = at_most 12 n.number n.picture.crowded_row 2

-- repeated fields, in a stream at constant rate
unfoldable pub repeat_rule : Bool → Numbered → Breaches
repeat_rule constant n =
    let e = n.picture.extension in
    judge (not (constant && e.repeat_first_field && (n.sequence.extension.progressive_sequence || not e.progressive_frame || not (is_frame e)))) (breach 13 n.number 1 0)

-- in a progressive sequence frames have frame prediction, and then they are progressive
unfoldable pub progressive_rule : Numbered → Breaches
progressive_rule n =
    let e = n.picture.extension in
    judge (not n.sequence.extension.progressive_sequence || (e.frame_pred_frame_dct && e.progressive_frame)) (breach 14 n.number 0 1)

unfoldable pub precision_rule : Numbered → Breaches
precision_rule n = at_most 15 n.number n.picture.extension.dc_precision 2

unfoldable pub picture_breaches : Bool → Bool → List Numbered → Numbered → Breaches
picture_breaches low_delay constant all n =
    horizontal_rule n ++ vertical_rule n ++ intra_rule n ++ reference_rule low_delay all n ++ crowd_rule n ++ repeat_rule constant n
    ++ progressive_rule n ++ precision_rule n

-- ---- the whole

abbrev pub all_numbered : Events → List Numbered
all_numbered es = numbered None 0 false 0 0 es

-- the first vbv_delay says that the rate is variable (clause 6.3.9)
abbrev pub is_variable : List Numbered → Bool
is_variable [] = false
is_variable (n ∷ ns) = nat_eq n.picture.info.vbv_delay 65535

-- all that is broken, picture by picture and for each picture rule by rule
unfoldable pub breaches : Bool → Events → Breaches
breaches low_delay es =
    let all = all_numbered es in
    sequence_breaches (sequences_in es) ++ flat_map (picture_breaches low_delay (not (is_variable all)) all) all

-- ---- texts

-- all that is broken in a stream, by the low_delay of its first sequence extension
abbrev pub breaches_of : Sofar → Breaches
breaches_of tree = breaches (low_delay_of tree.state.first) (events tree)

-- the text is a stream without a fault, and no rule is broken
pub record Lawful (text : List ℕ) : Type 0 where
  pub tree : Sofar
  pub stream : Stream text tree
  pub lawful : breaches_of tree ≡ []

-- the text is a stream without a fault, and this is the rule that is broken first: that of the least picture, then of the
-- least number, at the first place that breaks it
pub record Broken (text : List ℕ) (b : Breach) : Type 0 where
  pub tree : Sofar
  pub stream : Stream text tree
  pub others : Breaches
  pub broken : breaches_of tree ≡ b ∷ others
