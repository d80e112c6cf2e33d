-- The fold over the pieces of a stretch: a span is whole once the piece behind it is known, or the stretch's end.
use Rattle.std.specs.Prelude.{◌≡◌, ℕ, ◌+◌, Bool, ◌&&◌, ◌||◌, not, List, [], ◌∷◌, ◌++◌, length, if◌then◌else◌}
use Rattle.m2v_model.specs.Units.{Units, joined}
use Rattle.m2v_law_seam.specs.Spans.{units_in, picture_count, is_entry, is_anchor_piece, is_second, waits_behind, span_of, placed, Span, Stretch, steps, stretch_pieces, spans_in}
use Rattle.m2v_law_seam.specs.Mending.{Mending, nothing_yet, groups_behind, with_span, strand_ended, mending}
use Rattle.m2v_law_seam.specs.Told.{all_groups, all_pictures}

-- what is made of an input, how many groups it has, and how many pictures
pub record Tally : Type 0 where
  pub made : Mending
  pub groups : ℕ
  pub pictures : ℕ

-- with one more span
abbrev pub with_one : Tally → Span → Tally
with_one t s = record {
  made = with_span t.made s;
  groups = groups_behind t.groups s;
  pictures = t.pictures + picture_count (units_in s.pieces);
}

-- with more spans
unfoldable pub with_all : Tally → List Span → Tally
with_all t [] = t
with_all t (s ∷ ss) = with_all (with_one t s) ss

-- behind a stretch
abbrev pub stretch_ended : Tally → Tally
stretch_ended t = record t { made = strand_ended t.made }

-- stretch by stretch
unfoldable pub with_each : Tally → List (List Span) → Tally
with_each t [] = t
with_each t (ss ∷ more) = with_each (stretch_ended (with_all t ss)) more

-- what is made of the spans that are whole, and the span at hand: the byte at which it begins, the units of the input before
-- it, its pieces so far, and the structure of the first field that waits behind them
pub record Gathering : Type 0 where
  pub tally : Tally
  pub place : ℕ
  pub before : Units
  pub pieces : List (List ℕ)
  pub waiting : ℕ

-- a step begins at a piece
abbrev pub begins_step : ℕ → List ℕ → Bool
begins_step waiting p = is_entry p || (is_anchor_piece p && not (is_second waiting p))

-- the span at hand, where it has a piece
abbrev pub span_at : Gathering → List Span
span_at g = placed g.place g.before (span_of g.pieces)

-- the span at hand is whole
abbrev pub finished : Gathering → Tally
finished g = with_all g.tally (span_at g)

-- a span begins with a piece
abbrev pub begun_with : Gathering → List ℕ → Gathering
begun_with g p = record {
  tally = finished g;
  place = g.place + length (joined g.pieces);
  before = g.before ++ units_in g.pieces;
  pieces = p ∷ [];
  waiting = waits_behind g.waiting p;
}

-- it has one piece more
abbrev pub joined_with : Gathering → List ℕ → Gathering
joined_with g p = record g { pieces = g.pieces ++ p ∷ []; waiting = waits_behind g.waiting p }

-- one piece more
unfoldable pub with_piece : Gathering → List ℕ → Gathering
with_piece g p = if begins_step g.waiting p then begun_with g p else joined_with g p

-- more pieces
unfoldable pub with_pieces : Gathering → List (List ℕ) → Gathering
with_pieces g [] = g
with_pieces g (p ∷ ps) = with_pieces (with_piece g p) ps

-- before the first piece of a stretch that begins at a byte, behind units of the input
abbrev pub before_stretch : Tally → ℕ → Units → Gathering
before_stretch t place before = record { tally = t; place = place; before = before; pieces = []; waiting = 0 }

-- before the first byte
abbrev pub nothing_told : Tally
nothing_told = record { made = nothing_yet; groups = 0; pictures = 0 }

-- the tally of a text
abbrev pub tally_of : List ℕ → Tally
tally_of text = with_each nothing_told (spans_in steps text)

-- behind a stretch, that begins where units of the input end
abbrev pub behind_stretch : Tally → Stretch → Tally
behind_stretch t s = stretch_ended (finished (with_pieces (before_stretch t s.place s.before) (stretch_pieces s)))

-- behind stretches
unfoldable pub behind_stretches : Tally → List Stretch → Tally
behind_stretches t [] = t
behind_stretches t (s ∷ ss) = behind_stretches (behind_stretch t s) ss

-- the tally of a text is what the whole text makes
pub record IsTally (text : List ℕ) (t : Tally) : Type 0 where
  pub made : t.made ≡ mending steps text
  pub groups : t.groups ≡ all_groups 0 (spans_in steps text)
  pub pictures : t.pictures ≡ all_pictures (spans_in steps text)
