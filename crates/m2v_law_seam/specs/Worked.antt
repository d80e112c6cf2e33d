-- Streams with damage byte by byte, and what is made of them.
use Rattle.std.specs.Prelude.{◌≡◌, ℕ, ◌*◌, List, [], ◌∷◌, ◌++◌, take, drop, Option, Some, None}
use Rattle.m2v_model.specs.declared.fault.FaultKind.TheVariants.{NoSequence, Truncated, SequenceChanged, MissingMacroblocks, FieldPair}
use Rattle.m2v_model.specs.Worked.{put, b_headers, predicted, two_fields}
use Rattle.m2v_law_group.specs.Groups.{end_code}
use Rattle.m2v_law_group.specs.Worked.{two_groups, second_group}
use Rattle.m2v_law_seam.specs.Spans.{Dividing, spans, steps}
use Rattle.m2v_law_seam.specs.Mending.{Gap, gaps_in, mended}
use Rattle.m2v_law_seam.specs.Faults.{Fault}
use Rattle.m2v_law_seam.specs.Told.{Answer, all_kept, some_kept, none_kept, answer_to}

-- of the stream of two groups the first one: 56 bytes, of which a sequence header has 12, its extension 10, a group header 8,
-- a picture header 8, its extension 9, a slice 9
abbrev pub first_half : List ℕ
first_half = take 56 two_groups

-- and the second one, of as many
abbrev pub second_half : List ℕ
second_half = take 56 (drop 56 two_groups)

-- the second one as a strand begins with it
abbrev pub second_strand : List ℕ
second_strand = take 56 second_group

-- so the first one
abbrev pub first_strand : List ℕ
first_strand = put 29 0x20 first_half

-- a B picture of which nobody can tell what it refers to
abbrev pub leading_b : List ℕ
leading_b = b_headers ++ 0x00 ∷ 0x00 ∷ 0x01 ∷ 0x01 ∷ 0x42 ∷ 0x58 ∷ []

-- a quant matrix extension that loads nothing
abbrev pub no_matrices : List ℕ
no_matrices = 0x00 ∷ 0x00 ∷ 0x01 ∷ 0xB5 ∷ 0x30 ∷ []

-- a P picture
abbrev pub p_picture : List ℕ
p_picture = take 24 (drop 56 predicted)

-- its headers alone
abbrev pub p_headers : List ℕ
p_headers = take 18 (drop 56 predicted)

-- what was left out, in one line
abbrev pub gap : ℕ → ℕ → ℕ → ℕ → Option Fault → Gap
gap k from bytes pictures fault = record { frames = k; from = from; bytes = bytes; pictures = pictures; fault = fault }

-- what is made of bytes: the mended text, what was left out, and the answer
pub record Makes (divide : Dividing) (text : List ℕ) (made : Option (List ℕ)) (left : List Gap) (told : Answer) : Type 0 where
  pub mends : mended divide text ≡ made
  pub gaps : gaps_in divide text ≡ left
  pub answer : answer_to divide text ≡ told

-- the cases by hand
pub record WorkedMends : Type 0 where
  -- nothing
  pub none : Makes spans [] None [] (none_kept (NoSequence, 0))
  -- a stream without a fault stays, with its end code, or with one where it is missing; so do bytes behind others
  pub whole : Makes spans two_groups (Some two_groups) [] (all_kept 2 2 116)
  pub unended : Makes spans (take 112 two_groups) (Some two_groups) [] (all_kept 2 2 116)
  pub behind_bytes : Makes spans (0xFF ∷ 0x00 ∷ two_groups) (Some two_groups) [] (all_kept 2 2 116)
  pub behind_end : Makes spans (end_code ++ two_groups) (Some two_groups) [] (all_kept 2 2 116)
  -- the slice of the second group is missing, that of the first one, that of both
  pub second_lost :
      Makes spans (take 103 two_groups ++ end_code) (Some (first_half ++ end_code))
      (gap 1 56 47 1 (Some (MissingMacroblocks, 8 * 103)) ∷ []) (some_kept 1 2 1 2 60)
  pub first_lost :
      Makes spans (take 47 two_groups ++ drop 56 two_groups) (Some second_group)
      (gap 0 0 47 1 (Some (MissingMacroblocks, 8 * 47)) ∷ []) (some_kept 1 2 1 2 60)
  pub both_lost :
      Makes spans (take 47 two_groups ++ take 47 second_half ++ end_code) None
      (gap 0 0 94 2 (Some (MissingMacroblocks, 8 * 47)) ∷ []) (none_kept (MissingMacroblocks, 8 * 47))
  -- the second group without headers of its own takes those of the first one
  pub head_copied :
      Makes spans (take 47 two_groups ++ drop 22 second_half ++ end_code) (Some second_group)
      (gap 0 0 47 1 (Some (MissingMacroblocks, 8 * 47)) ∷ []) (some_kept 1 2 1 2 60)
  -- two streams, one behind the other: the end code between them goes, and a seam is marked
  pub joined : Makes spans (two_groups ++ two_groups) (Some (first_half ++ second_half ++ first_strand ++ second_half ++ end_code)) [] (all_kept 4 4 228)
  -- a stream behind one of another size
  pub other_size :
      Makes spans (two_groups ++ put 4 0x02 first_half ++ put 4 0x02 second_half ++ end_code) (Some two_groups)
      (gap 2 116 112 2 (Some (SequenceChanged, 8 * 116)) ∷ []) (some_kept 2 4 2 4 116)
  -- a stream that begins in the middle of a group
  pub middle :
      Makes spans (drop 30 two_groups) (Some second_group)
      (gap 0 0 26 1 (Some (NoSequence, 0)) ∷ []) (some_kept 1 1 1 2 60)
  -- a leading B picture behind a gap
  pub leading :
      Makes spans (take 47 two_groups ++ second_half ++ leading_b ++ end_code) (Some second_group)
      (gap 0 0 47 1 (Some (MissingMacroblocks, 8 * 47)) ∷ gap 0 103 24 1 None ∷ []) (some_kept 1 2 1 3 60)
  -- the same without its slice, behind a strand: its group is kept without it
  pub leading_lost :
      Makes spans (first_half ++ second_half ++ b_headers ++ end_code) (Some (first_half ++ second_strand ++ end_code))
      (gap 1 112 18 1 None ∷ []) (some_kept 2 2 2 3 116)
  -- no strand begins with a P picture
  pub begins_p :
      Makes spans (take 47 two_groups ++ take 30 second_half ++ p_picture ++ second_half ++ end_code) (Some second_group)
      (gap 0 0 101 2 (Some (MissingMacroblocks, 8 * 47)) ∷ []) (some_kept 1 3 1 3 60)
  -- nor with a head behind which matrices stand
  pub matrices_between :
      Makes spans (take 47 two_groups ++ no_matrices ++ drop 22 second_half ++ end_code) None
      (gap 0 0 86 2 (Some (MissingMacroblocks, 8 * 52)) ∷ []) (none_kept (MissingMacroblocks, 8 * 52))
  -- a B picture behind two anchors stays
  pub between :
      Makes spans (take 47 two_groups ++ second_half ++ p_picture ++ leading_b ++ end_code) (Some (second_strand ++ p_picture ++ leading_b ++ end_code))
      (gap 0 0 47 1 (Some (MissingMacroblocks, 8 * 47)) ∷ []) (some_kept 1 2 3 4 108)
  -- behind a gap temporal references are lowered, up to the next group header
  pub lowered :
      Makes spans (take 47 two_groups ++ put 35 0x8B second_half ++ put 5 0xD3 p_picture ++ put 35 0x8B first_half ++ end_code)
      (Some (second_strand ++ p_picture ++ put 35 0x8B first_half ++ end_code))
      (gap 0 0 47 1 (Some (MissingMacroblocks, 8 * 47)) ∷ []) (some_kept 2 3 3 4 140)
  -- a first field without its second one, and a frame of both
  pub fields :
      Makes spans (take 56 two_fields ++ two_fields) (Some (put 29 0x20 two_fields))
      (gap 0 0 56 1 (Some (FieldPair, 8 * 56)) ∷ []) (some_kept 1 2 2 3 86)
  -- cut off behind the prefix of a start code
  pub cut_off :
      Makes spans (take 112 two_groups ++ 0x00 ∷ 0x00 ∷ 0x01 ∷ []) (Some (first_half ++ end_code))
      (gap 1 56 59 1 (Some (Truncated, 8 * 112)) ∷ []) (some_kept 1 2 1 2 60)
  -- a P picture without its slice takes its group with it, or its step alone
  pub group_lost :
      Makes spans (first_half ++ p_headers ++ end_code) None
      (gap 0 0 74 2 (Some (MissingMacroblocks, 8 * 74)) ∷ []) (none_kept (MissingMacroblocks, 8 * 74))
  pub step_lost :
      Makes steps (first_half ++ p_headers ++ end_code) (Some (first_half ++ end_code))
      (gap 1 56 18 1 (Some (MissingMacroblocks, 8 * 74)) ∷ []) (some_kept 1 1 1 2 60)
