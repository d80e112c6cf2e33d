-- What is told of a mended text: the answer, with its status and the numbers of its line, and the list of what was left out.
use Rattle.std.specs.Prelude.{ℕ, ◌+◌, ◌-◌, ◌*◌, nat_eq, List, [], ◌∷◌, length, Option, Some, None, if◌then◌else◌}
use Rattle.m2v_model.specs.declared.fault.FaultKind.TheVariants.{NoSequence}
use Rattle.m2v_model.specs.Units.{joined}
use Rattle.m2v_law_group.specs.Groups.{end_code}
use Rattle.m2v_law_seam.specs.Spans.{units_in, picture_count, Dividing, Span, spans_in}
use Rattle.m2v_law_seam.specs.Faults.{Fault}
use Rattle.m2v_law_seam.specs.Mending.{Gap, Mending, groups_behind, mending}

-- ---- what an input has

-- how many groups there are with those among spans
unfoldable pub groups_in_spans : ℕ → List Span → ℕ
groups_in_spans n [] = n
groups_in_spans n (s ∷ ss) = groups_in_spans (groups_behind n s) ss

-- with those of each stretch
unfoldable pub all_groups : ℕ → List (List Span) → ℕ
all_groups n [] = n
all_groups n (ss ∷ more) = all_groups (groups_in_spans n ss) more

-- how many picture units spans have
unfoldable pub span_pictures : List Span → ℕ
span_pictures [] = 0
span_pictures (s ∷ ss) = picture_count (units_in s.pieces) + span_pictures ss

-- those of each stretch
unfoldable pub all_pictures : List (List Span) → ℕ
all_pictures [] = 0
all_pictures (ss ∷ more) = span_pictures ss + all_pictures more

-- how many pictures were left out
unfoldable pub left_pictures : List Gap → ℕ
left_pictures [] = 0
left_pictures (g ∷ gs) = g.pictures + left_pictures gs

-- ---- the answer

-- what is answered
pub data Answer : Type 0 where
  -- no picture was left out: how many groups, pictures and bytes were kept
  all_kept : ℕ → ℕ → ℕ → Answer
  -- some were: groups kept and of how many, pictures kept and of how many, bytes
  some_kept : ℕ → ℕ → ℕ → ℕ → ℕ → Answer
  -- there is no strand: why the first span was left out
  none_kept : Fault → Answer

-- the status of the command
abbrev pub status_of : Answer → ℕ
status_of (all_kept groups pictures bytes) = 0
status_of (some_kept groups of_groups pictures of_pictures bytes) = 18
status_of (none_kept fault) = 19

-- the fault of the first gap; without a span there is no sequence, at the text's end
abbrev pub first_fault : ℕ → List Gap → Fault
first_fault bits [] = (NoSequence, bits)
first_fault bits (g ∷ gs) = fault_or bits g.fault
  where
    fault_or : ℕ → Option Fault → Fault
    fault_or bits (Some f) = f
    fault_or bits None = (NoSequence, bits)

-- the answer where there is a strand
abbrev pub kept_answer : Mending → List (List Span) → Answer
kept_answer m ss =
    let bytes = length (joined m.done) + length end_code in
    let pictures = all_pictures ss in
    let left = left_pictures m.gaps in
    if nat_eq left 0 then all_kept m.groups pictures bytes
    else some_kept m.groups (all_groups 0 ss) (pictures - left) pictures bytes

-- the answer by the strands that there are, to a text of so many bits
abbrev pub answer_by : ℕ → Mending → List (List Span) → List (List ℕ) → Answer
answer_by bits m ss [] = none_kept (first_fault bits m.gaps)
answer_by bits m ss (s ∷ strands) = kept_answer m ss

-- the answer to a text under the limits of its pieces and of its length
abbrev pub answer_to : Dividing → List ℕ → Answer
answer_to divide text = answer_by (8 * length text) (mending divide text) (spans_in divide text) (mending divide text).done
