-- The report on its way: what was told from a place on is the lines that were put, and then what is told from here on.
use Rattle.std.specs.Prelude.{◌≡◌, ◌⊎◌, ℕ, ◌+◌, ◌-◌, ◌<◌, ◌≤◌, Bool, true, false, List, ◌++◌, length, Some, Result, Ok, Err}
use Rattle.m2v_port.specs.Ends.{Change}
use Rattle.m2v_port.specs.Port.{Moves, Grows, GrowsByPrefix}
use Rattle.m2v_model.specs.declared.notes.Notes.{Notes}
use Rattle.m2v_model.specs.Pieces.{too_long, too_large}
use Rattle.m2v_model.specs.PieceNotes.{noted}
use Rattle.m2v_model.specs.ByPieces.{Between, at_start, piece_read, end_read}
use Rattle.m2v_dec_piece.specs.declared.answer.Fault.{Fault}
use Rattle.m2v_dec_piece.specs.declared.answer.Piece.{Piece}
use Rattle.m2v_dec_piece.specs.declared.answer.DecodeError.{DecodeError}
use Rattle.m2v_dec_piece.specs.declared.answer.DecodeError.TheVariants as errors
use Rattle.m2v_dec_piece.specs.Cutting.{Cutting, left_of, start_of, follows_of}
use Rattle.m2v_strict.specs.m2v_check.m2v_decode.Decoding.{Decoding, between, whole_of}
use Rattle.m2v_strict.specs.m2v_check.m2v_decode.Reading.{Reading, Follows, LeadsOn}
use Rattle.m2v_strict.specs.m2v_check.m2v_decode.Answers.{OfText}
use Rattle.m2v_audit.specs.declared.outcome.Ending.{Ending}
use Rattle.m2v_audit.specs.declared.outcome.Outcome.{Outcome}
use Rattle.m2v_audit.specs.Auditing.{Auditing, cleared, after_piece, ended}
use Rattle.m2v_audit.specs.Lines.{skipped_text}
use Rattle.m2v_audit.specs.declared.words.LimitKind.TheVariants as limits
use Rattle.m2v_audit.specs.declared.outcome.Ending.TheVariants as endings
use Rattle.m2v_audit.specs.Audited.{Audited, Telling, then_comes, totalled, end_told, by_fault, by_limit, pieces_told, texts_told, audited}
use Rattle.m2v_audit.specs.declared.asked.Asked.{Asked}

-- ---- from one place to another

-- what is told from a place on, by what goes along (X) and by what is left of the input there
abbrev pub Onward : Type 0 → Type 0
Onward X = X → List ℕ → Audited

-- bytes were read and lines put: what was told from the one place on is these lines, and then what is told from the other on
pub record LeadsTo {X : Type 0} (left held : Change) (old new : Onward X) : Type 0 where
  pub bytes : List ℕ
  pub moved : Moves left.old bytes left.new
  pub lines : List ℕ
  pub grown : Grows held.old lines held.new
  pub told : (rest : List ℕ) → left.new ≡ Some rest → (x : X) → old x (bytes ++ rest) ≡ then_comes lines (new x rest)

-- bytes were read, and a prefix of what was told from a place on was put
pub record IsCut {X : Type 0} (left held : Change) (old : Onward X) : Type 0 where
  pub bytes : List ℕ
  pub moved : Moves left.old bytes left.new
  pub told : (rest : List ℕ) → left.new ≡ Some rest → (x : X) → GrowsByPrefix held.old (old x (bytes ++ rest)).report held.new

-- ---- one piece

-- a piece was read and audited, and what it tells was put
pub record PieceTold (r : Reading) (a : Auditing) (p : Piece) (held : Change) (r' : Reading) (a' : Auditing) : Type 0 where
  pub notes : Notes
  pub leads : (d : Decoding) → Follows r d → LeadsOn d p.place (whole_of p) notes r'
  pub grown : Grows held.old (after_piece a p.place (whole_of p) (noted notes)).report.text held.new
  pub auditing : a' ≡ cleared (after_piece a p.place (whole_of p) (noted notes))

-- it was read as a decoder reads it, and a prefix of what it tells was put
pub record PieceCut (d : Decoding) (a : Auditing) (p : Piece) (held : Change) : Type 0 where
  pub notes : Notes
  pub behind : Reading
  pub leads : LeadsOn d p.place (whole_of p) notes behind
  pub grown : GrowsByPrefix held.old (after_piece a p.place (whole_of p) (noted notes)).report.text held.new

-- why not
abbrev pub PieceFails : Decoding → Auditing → Piece → Change → Auditing → DecodeError → Type 0
PieceFails d a p held a' errors.Read = ⊥
PieceFails d a p held a' errors.Write = held.Failed × PieceCut d a p held
PieceFails d a p held a' (errors.Stream f) = (piece_read (between d) (p.place + length (whole_of p)) (whole_of p) ≡ Err (f.kind, f.place)) × (a' ≡ a) × (held.new ≡ held.old)
PieceFails d a p held a' errors.TooLong = ⊥
PieceFails d a p held a' errors.PictureTooLarge = ⊥
PieceFails d a p held a' errors.Memory = (held.new ≡ held.old) ⊎ PieceCut d a p held

-- ---- the pieces of a text

-- what is told from here on, between two pieces
abbrev pub pieces_from : Bool → Auditing → Between → Cutting → Onward Telling
pieces_from optional a b c = λ x rest. pieces_told x optional a b (start_of c rest) (left_of c rest)

-- what is told from the end of the text on, behind its last piece
abbrev pub end_from : Bool → Auditing → Between → ℕ → Onward Telling
end_from optional a b at = λ x rest. end_told x optional a at (end_read b at)

-- all pieces of a text were read; `optional`: it has none, and needs none
pub record AreTold (left held : Change) (later : Bool) (a : Auditing) (c : Cutting) (optional : Bool) (a' : Auditing) (r' : Reading) (c' : Cutting) : Type 0 where
  pub decoder : Decoding
  pub follows : Follows r' decoder
  pub leads : LeadsTo left held (pieces_from later a at_start c) (end_from optional a' (between decoder) c'.place)
  pub text : (rest : List ℕ) → left.new ≡ Some rest → follows_of c (leads.bytes ++ rest) ≡ c'.unread ++ rest
  pub place : c'.place + length c'.unread ≡ (c.place + length c.unread) + length leads.bytes
  pub some : (c.place < c'.place) ⊎ ((optional ≡ later) × (between decoder ≡ at_start) × (c.place ≤ c'.place))
  pub still : r'.ended ≡ false
  pub sound : r'.failed ≡ false

-- A text has a fault, behind which the text begins that is unread then: what is left of its pieces, and what follows it.
pub record HasFault (left held : Change) (old : Onward Telling) (later : Bool) (c : Cutting) (a' : Auditing) (c' : Cutting) (f : Fault) : Type 0 where
  pub pieces : List ℕ → List ℕ
  pub leads : LeadsTo left held old (λ x rest. by_fault x a' (f.kind, f.place) c'.place (pieces rest))
  pub text : (rest : List ℕ) → left.new ≡ Some rest → pieces rest ++ follows_of c (leads.bytes ++ rest) ≡ c'.unread ++ rest
  pub place : c'.place + length c'.unread ≡ (c.place + length c.unread) + length leads.bytes
  pub some : (c.place < c'.place) ⊎ ((later ≡ false) × (c.place ≤ c'.place))
  pub going : c'.failed ≡ false

-- why not: what comes then, where it is a fault or a limit
abbrev pub TextStops : Change → Change → Onward Telling → Bool → Cutting → Auditing → Cutting → DecodeError → Type 0
TextStops left held old later c a' c' errors.Read = left.Failed × IsCut left held old
TextStops left held old later c a' c' errors.Write = held.Failed × IsCut left held old
TextStops left held old later c a' c' (errors.Stream f) = HasFault left held old later c a' c' f
TextStops left held old later c a' c' errors.TooLong = LeadsTo left held old (λ x rest. by_limit x a' too_long)
TextStops left held old later c a' c' errors.PictureTooLarge = LeadsTo left held old (λ x rest. by_limit x a' too_large)
TextStops left held old later c a' c' errors.Memory = IsCut left held old

-- what is told behind the end of a text
abbrev pub behind_text : Bool → Auditing → ℕ → Onward Telling
behind_text true a at = λ x rest. then_comes (skipped_text x.totals.sequences x.start (at - x.start)) (totalled x.totals x.so_far)
behind_text false a at = λ x rest. then_comes (ended a).report.text (x.next (ended a) at)

-- a text was read to its end; `optional`: it has no sequence, and needs none
pub record IsTextRead (left held : Change) (later : Bool) (a : Auditing) (c : Cutting) (optional : Bool) (a' : Auditing) (c' : Cutting) : Type 0 where
  pub leads : LeadsTo left held (pieces_from later a at_start c) (behind_text optional a' c'.place)
  pub text : (rest : List ℕ) → left.new ≡ Some rest → follows_of c (leads.bytes ++ rest) ≡ c'.unread ++ rest
  pub place : c'.place + length c'.unread ≡ (c.place + length c.unread) + length leads.bytes
  pub some : optional ≡ false → c.place < c'.place

-- how a sequence stops by an error, where it does
unfoldable pub as_ending : DecodeError → Result Ending DecodeError
as_ending errors.Read = Err errors.Read
as_ending errors.Write = Err errors.Write
as_ending (errors.Stream f) = Ok (endings.Fault f)
as_ending errors.TooLong = Ok (endings.Limit limits.TooLong)
as_ending errors.PictureTooLarge = Ok (endings.Limit limits.TooLarge)
as_ending errors.Memory = Err errors.Memory

-- whether it stops by a fault
abbrev pub is_fault : Ending → Bool
is_fault endings.Whole = false
is_fault (endings.Fault f) = true
is_fault (endings.Limit l) = false

-- ---- texts

-- What is told from here on, where a text begins, behind others from which this comes; n is a number for what is left to be
-- read.
abbrev pub texts_from : ℕ → Asked → Bool → Outcome → Cutting → Onward (Unit {0})
texts_from n asked later o c = λ x rest. texts_told (n + length rest) asked later o.ending o.totals c.place (c.unread ++ rest)

-- a number is enough for a text of a length
abbrev pub IsEnough : Bool → ℕ → ℕ → Type 0
IsEnough true n length = length < n
IsEnough false n length = length + 1 < n

-- the last line is left
abbrev pub total_from : Outcome → Onward (Unit {0})
total_from o = λ x rest. totalled o.totals o.ending

-- Another text follows, of which this is asked, and which begins where the cutter goes on. That is further on, but perhaps behind
-- the first text.
pub record GoesOn (left held : Change) (old : Onward (Unit {0})) (asked : Asked) (later : Bool) (o : Outcome) (c c' : Cutting) : Type 0 where
  pub number : ℕ
  pub enough : length c'.unread < number
  pub leads : LeadsTo left held old (texts_from number asked true o c')
  pub onward : (c.place < c'.place) ⊎ ((later ≡ false) × (c.place ≤ c'.place))
  pub going : c'.failed ≡ false

-- a text was told: the next one follows, or the audit ends
abbrev pub TextTold : Change → Change → Onward (Unit {0}) → Asked → Bool → Outcome → Cutting → Cutting → Bool → Type 0
TextTold left held old asked later o c c' true = GoesOn left held old asked later o c c'
TextTold left held old asked later o c c' false = LeadsTo left held old (total_from o)

-- the errors that are left: those of input, output and memory
abbrev pub Stops : {X : Type 0} → Change → Change → Onward X → DecodeError → Type 0
Stops left held old errors.Read = left.Failed × IsCut left held old
Stops left held old errors.Write = held.Failed × IsCut left held old
Stops left held old (errors.Stream f) = ⊥
Stops left held old errors.TooLong = ⊥
Stops left held old errors.PictureTooLarge = ⊥
Stops left held old errors.Memory = IsCut left held old

-- ---- the whole

-- what is told of an input
abbrev pub all_told : Asked → Onward (Unit {0})
all_told asked = λ x text. audited asked text

-- The text was audited as a whole: output has grown by its report, and this comes of it.
pub record IsAudited (asked : Asked) (text : List ℕ) (held : Change) (o : Outcome) : Type 0 where
  pub grown : Grows held.old (audited asked text).report held.new
  pub outcome : o ≡ (audited asked text).outcome

-- a prefix of its report was written
pub record IsBegun (asked : Asked) (text : List ℕ) (held : Change) : Type 0 where
  pub grown : GrowsByPrefix held.old (audited asked text).report held.new

-- When each error comes, and what stands then. A fault and a limit are no error: they are told.
abbrev pub Fails : Asked → Change → Change → DecodeError → Type 0
Fails asked left held errors.Read = left.Failed × OfText left (λ text. IsBegun asked text held)
Fails asked left held errors.Write = held.Failed × OfText left (λ text. IsBegun asked text held)
Fails asked left held (errors.Stream f) = ⊥
Fails asked left held errors.TooLong = ⊥
Fails asked left held errors.PictureTooLarge = ⊥
Fails asked left held errors.Memory = OfText left (λ text. IsBegun asked text held)
