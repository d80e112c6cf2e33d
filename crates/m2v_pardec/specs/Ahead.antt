-- Decoding under way, with pieces that were taken ahead of what was decoded.
use Rattle.std.specs.Prelude.{◌≡◌, ℕ, ◌+◌, ◌<◌, ◌≤◌, false, true, List, [], ◌∷◌, ◌++◌, length, map, Option, Some, None}
use Rattle.m2v_port.specs.Port.{Moves}
use Rattle.m2v_plane.specs.Samples.{Samples}
use Rattle.m2v_model.specs.Pieces.{limit}
use Rattle.m2v_dec_piece.specs.declared.answer.Piece.{Piece}
use Rattle.m2v_dec_piece.specs.declared.answer.DecodeError.{DecodeError}
use Rattle.m2v_dec_piece.specs.Sound.{IsSoundPiece}
use Rattle.m2v_dec_piece.specs.Cutting.{Cutting, start_of, left_of, IsReading}
use Rattle.m2v_dec_piece.specs.Stepping.{Why, Handed, Stopped, Keeps}
use Rattle.m2v_decode.specs.Decoding.{Decoding, whole_of}
use Rattle.m2v_decode.specs.Answers.{Fails}
use Rattle.m2v_decode.specs.Progress.{Reached, Written}
use Rattle.m2v_pardec.specs.declared.taking.Stop.{Stop}
use Rattle.m2v_pardec.specs.declared.taking.Stop.TheVariants.{More, End, Error}

-- pieces that were taken, one behind another, the first from a byte on and the next one from a byte on: each is whole, and
-- passes no limit
abbrev pub AreTaken : ℕ → List Piece → ℕ → Type 0
AreTaken start [] next = next ≡ start
AreTaken start (p ∷ ps) next = (p.place ≡ start) × (p.length ≡ length (whole_of p)) × (limit p.place 0 (whole_of p) ≡ None) × AreTaken (p.place + p.length) ps next

-- they lie in the input in this order, between two places
abbrev pub AreInOrder : ℕ → List Piece → ℕ → Type 0
AreInOrder low [] high = low ≤ high
AreInOrder low (p ∷ ps) high = (low ≤ p.place) × IsSoundPiece p × AreInOrder (p.place + p.length) ps high

-- what comes behind them: what a cutter has not handed out; nothing, where it has ended; or a piece that it doesn't hand out
pub data Later : Type 0 where
  behind : Cutting → Later
  ended : Cutting → Later
  stopped : DecodeError → Later

-- where the first of them begins and which there are, where so many bytes were taken and these are left
abbrev pub Knows : Later → ℕ → List ℕ → ℕ → List (List ℕ) → Type 0
Knows (behind c) taken rest next others = (next ≡ start_of c rest) × (others ≡ left_of c rest) × (c.place + length c.unread ≤ taken)
Knows (ended c) taken rest next others = (next ≡ c.place) × (others ≡ [])
Knows (stopped e) taken rest next others = Why next others e

-- the first pieces of a text were decoded, those that were taken come next, and then others
pub record Waits (later : Later) (taken : ℕ) (text rest : List ℕ) (ps : List Piece) (frames : List Samples) (d : Decoding) : Type 0 where
  pub start : ℕ
  pub next : ℕ
  pub others : List (List ℕ)
  pub reached : Reached taken text start (map whole_of ps ++ others) frames d
  pub pieces : AreTaken start ps next
  pub within : 0 < length ps → next ≤ taken
  pub known : Knows later taken rest next others

-- bytes were read, pieces taken of them, and frames written of the pieces before these
pub record IsAhead (later : Later) (left left_then held held_then : Option (List ℕ)) (ps : List Piece) (d : Decoding) : Type 0 where
  pub bytes : List ℕ
  pub moved : Moves left bytes left_then
  pub written : Written held held_then d
  pub open written use *
  pub told : (rest : List ℕ) → left_then ≡ Some rest → Waits later (length bytes) (bytes ++ rest) rest ps frames d

-- ---- taking pieces

-- a cutter handed out pieces, one after another
pub data HandsOut (c : Cutting) (left : Option (List ℕ)) : List Piece → Cutting → Option (List ℕ) → Type 0 where
  none : HandsOut c left [] c left
  more : {ps : List Piece} {p : Piece} {c1 c2 : Cutting} {left1 left2 : Option (List ℕ)} → HandsOut c left ps c1 left1 → Handed c1 left1 c2 left2 (Some p) → c2.begun ≡ true → Keeps c1 left1 c2 left2 → HandsOut c left (ps ++ p ∷ []) c2 left2

-- some pieces were handed out
abbrev pub WereTaken : Cutting → Option (List ℕ) → Cutting → Option (List ℕ) → Type 0
WereTaken c left c' left' = (ps : List Piece) × HandsOut c left ps c' left'

-- why no more pieces were taken: others may follow, or none is left, or the next one isn't handed out
abbrev pub Takes : Cutting → Option (List ℕ) → List Piece → Stop → Cutting → Option (List ℕ) → Type 0
Takes c left ps More c' left' = HandsOut c left ps c' left' × (c'.failed ≡ false)
Takes c left ps End c' left' = (c1 : Cutting) × (left1 : Option (List ℕ)) × HandsOut c left ps c1 left1 × Handed c1 left1 c' left' None × (c'.ended ≡ true)
Takes c left ps (Error e) c' left' = (c1 : Cutting) × (left1 : Option (List ℕ)) × HandsOut c left ps c1 left1 × Stopped c1 left1 left' e × IsReading e

-- what comes behind all that was taken
abbrev pub later_of : Stop → Cutting → Later
later_of More c = behind c
later_of End c = ended c
later_of (Error e) c = stopped e

-- ---- where decoding stops

-- the answer to an error, where output failed or it didn't
abbrev pub FailsBy : Type 0 → Option (List ℕ) → Option (List ℕ) → Option (List ℕ) → Option (List ℕ) → DecodeError → Type 0
FailsBy failed left left_then held held_then e =
    Fails (record { old = left; new = left_then; Failed = ⊥; Unchanged = ⊥ }) (record { old = held; new = held_then; Failed = failed; Unchanged = ⊥ }) e
