-- What is kept of an input, span by span, and what is left out.
use Rattle.std.specs.Prelude.{ℕ, ◌+◌, Bool, true, false, ◌&&◌, not, nat_eq, List, [], ◌∷◌, ◌++◌, take, length, Option, Some, None, if◌then◌else◌, is_none}
use Rattle.m2v_model.specs.declared.state.Sequence.{Sequence}
use Rattle.m2v_model.specs.Units.{joined}
use Rattle.m2v_law_group.specs.Groups.{end_code, has_picture}
use Rattle.m2v_law_seam.specs.Spans.{units_in, picture_count, begins_kind, has_matrices, Dividing, Span, spans_in}
use Rattle.m2v_law_seam.specs.Seams.{low_behind, text_behind, first_reference, frame_pieces, leading, opened_pieces, opened}
use Rattle.m2v_law_seam.specs.Strands.{read_of, first_in, frames_in, all_fit, is_short, is_strand}
use Rattle.m2v_law_seam.specs.Faults.{Fault, has_head, begins_entry, strand_bytes, fault_of}

-- ---- what was left out

-- bytes of the input that were left out: how many frames are shown before them in the mended stream, where they begin, how
-- many they are, how many picture units they have, and why; no fault where they are leading B pictures
pub record Gap : Type 0 where
  pub frames : ℕ
  pub from : ℕ
  pub bytes : ℕ
  pub pictures : ℕ
  pub fault : Option Fault

-- two gaps of spans that stand one behind the other are one
abbrev pub joins : Gap → Gap → Bool
joins g h = not (is_none g.fault) && (not (is_none h.fault) && nat_eq (g.from + g.bytes) h.from)

-- a gap that has the bytes and pictures of both; it keeps the place and the fault of the first one
abbrev pub both_gaps : Gap → Gap → Gap
both_gaps g h = record g { bytes = g.bytes + h.bytes; pictures = g.pictures + h.pictures }

-- gaps with one more behind them
unfoldable pub with_gap : List Gap → Gap → List Gap
with_gap [] h = h ∷ []
with_gap (g ∷ []) h = if joins g h then both_gaps g h ∷ [] else g ∷ h ∷ []
with_gap (g ∷ k ∷ gs) h = g ∷ with_gap (k ∷ gs) h

-- ---- what is kept so far

-- what is kept of the spans so far, and what was left out
pub record Mending : Type 0 where
  -- the strands that have ended
  pub done : List (List ℕ)
  -- the one that is under way; no byte at the beginning
  pub strand : Option (List ℕ)
  -- it is the opening one
  pub opening : Bool
  -- the first sequence header that was kept
  pub first : Option Sequence
  -- by how much temporal references are lowered
  pub low : ℕ
  -- how many groups were kept
  pub groups : ℕ
  -- what was left out
  pub gaps : List Gap

-- before the first span
abbrev pub nothing_yet : Mending
nothing_yet = record { done = []; strand = Some []; opening = true; first = None; low = 0; groups = 0; gaps = [] }

-- a strand that has a byte is one
abbrev pub strand_of : Option (List ℕ) → List (List ℕ)
strand_of None = []
strand_of (Some []) = []
strand_of (Some (b ∷ strand)) = (b ∷ strand) ∷ []

-- the strands, that which is under way among them
abbrev pub strands_of : Mending → List (List ℕ)
strands_of m = m.done ++ strand_of m.strand

-- how many frames strands show
unfoldable pub frames_shown : List (List ℕ) → ℕ
frames_shown [] = 0
frames_shown (strand ∷ strands) = frames_in (read_of strand) + frames_shown strands

-- a group: a span that begins with an entry and has a picture
abbrev pub is_group_span : Span → Bool
is_group_span s = begins_entry s.pieces && has_picture (units_in s.pieces)

-- how many groups there are with one more span
abbrev pub groups_behind : ℕ → Span → ℕ
groups_behind groups s = if is_group_span s then groups + 1 else groups

-- the first header that was kept stays the first
abbrev pub first_kept : Option Sequence → Option Sequence → Option Sequence
first_kept None s = s
first_kept (Some a) s = Some a

-- ---- a span behind the strand that is under way

-- by how much its temporal references are lowered there
abbrev pub low_of_span : Mending → Span → ℕ
low_of_span m s = low_behind m.low s.pieces

-- the strand with it
abbrev pub strand_with : Mending → Span → List ℕ
strand_with m s = strand_bytes m.strand ++ text_behind (strand_bytes m.strand) (low_of_span m s) s.pieces

-- a strand is under way, and is one with it
abbrev pub goes_behind : Mending → Span → Bool
goes_behind m s = not (is_none m.strand) && (is_short s && is_strand m.opening m.first (strand_with m s))

-- the span is put behind the strand
abbrev pub put_behind : Mending → Span → Mending
put_behind m s = record m {
  strand = Some (strand_with m s);
  first = first_kept m.first (first_in (read_of (strand_with m s)));
  low = low_of_span m s;
  groups = groups_behind m.groups s;
}

-- ---- a span with which another strand begins

-- it begins with an entry, and there is a sequence header for it; its first picture is I; no matrices stand in its leading
-- pieces, and without these it is a strand, also within the limits of pieces
abbrev pub begins_strand : Option Sequence → Span → Bool
begins_strand first s =
    has_head s && (begins_entry s.pieces && (begins_kind 1 s.pieces && (not (has_matrices (units_in (leading s.pieces)))
    && ((is_short s && all_fit (opened_pieces s)) && is_strand false first (opened s)))))

-- leading pieces that are left out there
abbrev pub leading_gap : ℕ → Span → Gap
leading_gap frames s = record {
  frames = frames;
  from = s.place + length (joined (take (frame_pieces s.pieces) s.pieces));
  bytes = length (joined (leading s.pieces));
  pictures = picture_count (units_in (leading s.pieces));
  fault = None;
}

-- gaps with that of the leading pieces, where there are some
abbrev pub gaps_leading : List Gap → ℕ → Span → List Gap
gaps_leading gaps frames s = if nat_eq (length (leading s.pieces)) 0 then gaps else with_gap gaps (leading_gap frames s)

-- another strand begins with the span; the one under way has ended
abbrev pub strand_begun : Mending → Span → Mending
strand_begun m s = record {
  done = strands_of m;
  strand = Some (opened s);
  opening = false;
  first = first_kept m.first (first_in (read_of (opened s)));
  low = first_reference s.pieces;
  groups = groups_behind m.groups s;
  gaps = gaps_leading m.gaps (frames_shown (strands_of m)) s;
}

-- ---- a span that is left out

-- the gap of the whole span
abbrev pub span_gap : Mending → Span → Gap
span_gap m s = record {
  frames = frames_shown (strands_of m);
  from = s.place;
  bytes = length (joined s.pieces);
  pictures = picture_count (units_in s.pieces);
  fault = Some (fault_of m.strand (low_of_span m s) m.first s);
}

-- the span is left out; the strand under way has ended
abbrev pub left_out : Mending → Span → Mending
left_out m s = record m { done = strands_of m; strand = None; opening = false; low = 0; gaps = with_gap m.gaps (span_gap m s) }

-- ---- all spans

-- a span goes behind the strand that is under way, or begins another one, or is left out
unfoldable pub with_span : Mending → Span → Mending
with_span m s = if goes_behind m s then put_behind m s else if begins_strand m.first s then strand_begun m s else left_out m s

-- span by span
unfoldable pub with_spans : Mending → List Span → Mending
with_spans m [] = m
with_spans m (s ∷ ss) = with_spans (with_span m s) ss

-- a sequence end code ends a strand that has a byte
abbrev pub ended_by : Option (List ℕ) → Mending → Mending
ended_by None m = m
ended_by (Some []) m = m
ended_by (Some (b ∷ strand)) m = record m { done = strands_of m; strand = None; opening = false; low = 0 }

-- behind a stretch the strand under way has ended
abbrev pub strand_ended : Mending → Mending
strand_ended m = ended_by m.strand m

-- stretch by stretch; behind the last one the strand ends too
unfoldable pub with_stretches : Mending → List (List Span) → Mending
with_stretches m [] = m
with_stretches m (ss ∷ more) = with_stretches (strand_ended (with_spans m ss)) more

-- what is made of a text
abbrev pub mending : Dividing → List ℕ → Mending
mending divide text = with_stretches nothing_yet (spans_in divide text)

-- the strands of a text, and what was left out
abbrev pub strands : Dividing → List ℕ → List (List ℕ)
strands divide text = (mending divide text).done

-- what was left out of a text
abbrev pub gaps_in : Dividing → List ℕ → List Gap
gaps_in divide text = (mending divide text).gaps

-- the mended text: the strands and one end code
abbrev pub ended_text : List (List ℕ) → Option (List ℕ)
ended_text [] = None
ended_text (s ∷ ss) = Some (joined (s ∷ ss) ++ end_code)

-- the mended text; none where there is no strand
abbrev pub mended : Dividing → List ℕ → Option (List ℕ)
mended divide text = ended_text (strands divide text)
