-- What becomes of a span: it is put behind a strand, or begins another one, or neither.
use Rattle.std.specs.Prelude.{◌≡◌, ℕ, Bool, true, false, List, [], ◌∷◌, ◌++◌, length, Option, Some, None, Result, Ok, Err, not, nat_eq, take}
use Rattle.std.specs.Option.{option_map}
use Rattle.m2v_model.specs.declared.state.Sequence.{Sequence}
use Rattle.m2v_model.specs.Units.{joined}
use Rattle.m2v_decode.specs.m2v_dec_piece.declared.answer.Piece.{Piece}
use Rattle.m2v_decode.specs.m2v_dec_piece.declared.answer.Fault.{Fault}
use Rattle.m2v_law_seam.specs.Spans.{units_of, units_in, picture_count, Span}
use Rattle.m2v_law_seam.specs.Seams.{text_behind, first_reference, frame_pieces, leading, opened, has_own_head}
use Rattle.m2v_law_seam.specs.Strands.{is_strand}
use Rattle.m2v_law_seam.specs.Faults.{fault_behind, fault_alone}
use Rattle.m2v_law_seam.specs.Mending.{begins_strand}
use Rattle.m2v_law_seam.specs.Reading.{BeginsOnePiece}
use Rattle.m2v_mend.specs.declared.behind.NotPut.{NotPut}
use Rattle.m2v_mend.specs.declared.begin.Begun.{Begun}
use Rattle.m2v_mend.specs.declared.begin.Leading.{Leading}
use Rattle.m2v_mend.specs.Strand.{StrandState, wholes_of, IsAt}

-- ---- behind a strand

-- the first of pieces begins a piece
abbrev pub FirstBegins : List (List ℕ) → Type 0
FirstBegins [] = ⊥
FirstBegins (p ∷ ps) = BeginsOnePiece (units_of p)

-- pieces can be put behind a strand: behind one without a byte those that begin with a sequence header, else those that begin a
-- piece
abbrev pub CanBePut : List ℕ → List (List ℕ) → Type 0
CanBePut [] ps = has_own_head ps ≡ true
CanBePut (b ∷ bytes) ps = FirstBegins ps

-- what was kept, and a strand that goes on with it: without a byte nothing was, else it is a strand by the first header
abbrev pub IsUnderWay : Bool → Option Sequence → List ℕ → Type 0
IsUnderWay opening first [] = (first ≡ None) × (opening ≡ true)
IsUnderWay opening first (b ∷ bytes) = is_strand opening first (b ∷ bytes) ≡ true

-- a span was put behind a strand, and its pieces behind others; or it doesn't go there, and this is its fault
abbrev pub PutTold : Bool → Option Sequence → List ℕ → ℕ → Span → List Piece → List Piece → Option Fault → StrandState → Type 0
PutTold opening first bytes low s old new None z =
    (is_strand opening first (bytes ++ text_behind bytes low s.pieces) ≡ true)
    × IsAt z (bytes ++ text_behind bytes low s.pieces) × (z.opening ≡ opening)
    × (joined (wholes_of new) ≡ joined (wholes_of old) ++ text_behind bytes low s.pieces)
PutTold opening first bytes low s old new (Some f) z =
    (is_strand opening first (bytes ++ text_behind bytes low s.pieces) ≡ false)
    × (fault_behind s (bytes ++ text_behind bytes low s.pieces) ≡ (f.kind, f.place))
    × (new ≡ old)

-- the fault of a span that wasn't put
abbrev pub why_not : Option NotPut → Option Fault
why_not o = option_map (λ n. n.fault) o

-- ---- a strand that begins

-- the leading pieces of a span: how many bytes stand before them, how many they have, and how many pictures
pub record IsLeading (s : Span) (l : Leading) : Type 0 where
  pub some : l.some ≡ not (nat_eq (length (leading s.pieces)) 0)
  pub before : l.before ≡ length (joined (take (frame_pieces s.pieces) s.pieces))
  pub bytes : l.bytes ≡ length (joined (leading s.pieces))
  pub pictures : l.pictures ≡ picture_count (units_in (leading s.pieces))

-- a strand begins with a span, and its pieces were put behind others; or none does, and this is the span's fault where no strand
-- is under way
abbrev pub BeginTold : Option Sequence → Span → List Piece → List Piece → Result Begun Fault → Type 0
BeginTold first s old new (Ok b) =
    (begins_strand first s ≡ true) × IsAt b.strand (opened s) × (b.strand.opening ≡ false)
    × (joined (wholes_of new) ≡ joined (wholes_of old) ++ opened s) × (b.low ≡ first_reference s.pieces) × IsLeading s b.leading
BeginTold first s old new (Err f) = (begins_strand first s ≡ false) × (fault_alone first s ≡ (f.kind, f.place)) × (new ≡ old)
