-- The pieces with which a strand begins, as they are made of those of a span.
use Rattle.std.specs.Prelude.{◌≡◌, ℕ, ◌+◌, ◌-◌, ◌≤◌, false, All, List, ◌++◌, map, take, drop, length, Option, Some, None, vec_len, is_none, if◌then◌else◌}
use Rattle.std.specs.Global.{Vec}
use Rattle.std.specs.Option.{option_map}
use Rattle.m2v_model.specs.Units.{Units, joined}
use Rattle.m2v_model.specs.Pieces.{limit}
use Rattle.m2v_decode.specs.m2v_dec_piece.declared.answer.Piece.{Piece}
use Rattle.m2v_decode.specs.m2v_dec_piece.Sound.{IsSoundPiece}
use Rattle.m2v_decode.specs.Decoding.{whole_of}
use Rattle.m2v_law_group.specs.Groups.{has_sequence, from_sequence}
use Rattle.m2v_law_seam.specs.Spans.{units_of}
use Rattle.m2v_law_seam.specs.Seams.{lowered, marked_unit, frame_pieces, b_first, behind_b, leading, without_leading_pieces, first_opened, later_opened, pieces_opened}
use Rattle.m2v_law_seam.specs.Strands.{all_fit}
use Rattle.m2v_mend.specs.declared.member.Member.{Member}
use Rattle.m2v_mend.specs.declared.opening.Shape.{Shape}
use Rattle.m2v_mend.specs.Editing.{IsUnits}
use Rattle.m2v_mend.specs.Kept.{pieces_of, bodies}
use Rattle.m2v_mend.specs.Strand.{wholes_of, ends_of}

-- ---- how the pieces of a span are parted

-- so many stand in the first frame
pub record IsFrame (ms : List Member) (n : ℕ) : Type 0 where
  pub front : take n (bodies ms) ≡ take (frame_pieces (bodies ms)) (bodies ms)
  pub rest : drop n (bodies ms) ≡ drop (frame_pieces (bodies ms)) (bodies ms)
  pub some : 1 ≤ length ms → 1 ≤ n
  pub within : n ≤ length ms

-- so many stand before those behind the B pieces that stand from a number on
pub record IsBehindFrame (ms : List Member) (n m : ℕ) : Type 0 where
  pub first : take (m - n) (drop n (bodies ms)) ≡ b_first (drop n (bodies ms))
  pub rest : drop m (bodies ms) ≡ behind_b (drop n (bodies ms))
  pub order : n ≤ m
  pub within : m ≤ length ms

pub record IsShape (ms : List Member) (h : Shape) : Type 0 where
  pub frame : IsFrame ms h.frame
  pub behind : IsBehindFrame ms h.frame h.behind

-- ---- copies

-- the bytes of a head, where there is one
abbrev pub items_of : Option (Vec ℕ) → Option (List ℕ)
items_of head = option_map (λ v. v.items) head

pub record IsCopy (old new : Piece) : Type 0 where
  pub bytes : new.bytes.items ≡ old.bytes.items
  pub kept : vec_len new.bytes ≡ vec_len old.bytes
  pub place : new.place ≡ old.place
  pub length : new.length ≡ old.length

-- it ends where another one does
abbrev pub EndsAlike : Piece → Piece → Type 0
EndsAlike old new = new.place + length (whole_of new) ≡ old.place + length (whole_of old)

-- a piece with its temporal references lowered
pub record IsLower (low : ℕ) (old new : Piece) : Type 0 where
  pub sound : IsSoundPiece new
  pub whole : whole_of new ≡ joined (lowered low (units_of (whole_of old)))
  pub end : EndsAlike old new

-- such copies stand behind others
pub record AreAdded (low : ℕ) (ms : List Member) (old new : List Piece) : Type 0 where
  pub sound : All IsSoundPiece old → All IsSoundPiece new
  pub wholes : wholes_of new ≡ wholes_of old ++ later_opened low (bodies ms)
  pub ends : ends_of new ≡ ends_of old ++ ends_of (pieces_of ms)

-- units from their first sequence header on, where they have one
abbrev pub own_units : Units → Units
own_units us = if has_sequence us then from_sequence us else us

-- a piece from its own sequence header on, where it has one
pub record IsOwn (old new : Piece) : Type 0 where
  pub sound : IsSoundPiece new
  pub units : IsUnits new
  pub are : units_of (whole_of new) ≡ own_units (units_of (whole_of old))
  pub end : EndsAlike old new

-- with its group headers marked and its temporal references lowered
pub record IsOwnFirst (low : ℕ) (old new : Piece) : Type 0 where
  pub sound : IsSoundPiece new
  pub whole : whole_of new ≡ joined (map marked_unit (lowered low (own_units (units_of (whole_of old)))))
  pub end : EndsAlike old new

-- a piece behind a head; none where a limit is passed
abbrev pub FrontTold : List ℕ → Piece → Option Piece → Type 0
FrontTold head old None = is_none (limit 0 0 (head ++ whole_of old)) ≡ false
FrontTold head old (Some new) = IsSoundPiece new × (whole_of new ≡ head ++ whole_of old) × EndsAlike old new

-- the first piece of a strand; none where it passes a limit
abbrev pub FirstTold : ℕ → Option (List ℕ) → Piece → Option Piece → Type 0
FirstTold low head old None = is_none (limit 0 0 (first_opened low head (whole_of old))) ≡ false
FirstTold low head old (Some new) = IsSoundPiece new × (whole_of new ≡ first_opened low head (whole_of old)) × EndsAlike old new

-- where the pieces of a strand end that begins with a span: those of the span that aren't leading ones
abbrev pub ends_opened : List Member → List ℕ
ends_opened ms =
    let n = frame_pieces (bodies ms) in
    take n (ends_of (pieces_of ms)) ++ drop (n + length (leading (bodies ms))) (ends_of (pieces_of ms))

-- the pieces of a strand; none where they pass a limit
abbrev pub OpenedTold : ℕ → Option (List ℕ) → List Member → Option (Vec Piece) → Type 0
OpenedTold low head ms None = all_fit (pieces_opened low head (without_leading_pieces (bodies ms))) ≡ false
OpenedTold low head ms (Some v) =
    All IsSoundPiece v.items × (wholes_of v.items ≡ pieces_opened low head (without_leading_pieces (bodies ms))) × (ends_of v.items ≡ ends_opened ms)
