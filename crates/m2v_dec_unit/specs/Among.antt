-- What the readers of header units answer.
use Rattle.std.specs.Prelude.{◌≡◌, ℕ, ◌-◌, ◌*◌, Bool, true, false, ◌&&◌, nat_le, is_some, List, Result, Ok, Err}
use Rattle.m2v_head.specs.Fits.{SequenceFits, GroupFits, PictureFits, MatrixFits}
use Rattle.m2v_model.specs.m2v_macroblock.Conditions.{IsMatrix}
use Rattle.m2v_model.specs.declared.fault.FaultKind.{FaultKind}
use Rattle.m2v_model.specs.declared.state.State.{State}
use Rattle.m2v_model.specs.States.{is_same_sequence, none_waits, is_second_field_due}
use Rattle.m2v_model.specs.Units.{Units}
use Rattle.m2v_model.specs.Pictures.{Events, Store}
use Rattle.m2v_model.specs.ByPieces.{text_ended}
use Rattle.m2v_model.specs.Streams as streams
use Rattle.m2v_model.specs.declared.stop.Stop.{Stop}
use Rattle.m2v_dec_unit.specs.declared.header.Header.{Header}
use Rattle.m2v_dec_unit.specs.declared.header.Header.TheVariants.{Sequence, Group, Picture, Matrices, Skipped, Ending}
use Rattle.m2v_dec_unit.specs.Reads.{IsReadSequence, IsReadPicture}

-- the value that stands among units, or the fault and its place
abbrev pub TellsIn : {V : Type 0} → Result V Stop → Units → Result (V × Units) (FaultKind × ℕ) → Type 0
TellsIn (Ok v) rest read = read ≡ Ok (v, rest)
TellsIn (Err e) rest read = read ≡ Err (e.kind, e.left)

-- the same, with the value seen as another
abbrev pub TellsAs : {V W : Type 0} → (V → W) → Result V Stop → Units → Result (W × Units) (FaultKind × ℕ) → Type 0
TellsAs view (Ok v) rest read = read ≡ Ok (view v, rest)
TellsAs view (Err e) rest read = read ≡ Err (e.kind, e.left)

-- a unit with this value may be a slice: those before the first sequence header are skipped
abbrev pub is_slice : State → ℕ → Bool
is_slice st value = is_some st.sequence && (nat_le 1 value && nat_le value 0xAF)

-- a header as the part of the stream that it is, in a unit
abbrev pub part_of : List ℕ → Header → streams.Part
part_of u (Sequence s) = streams.sequence s
part_of u (Group g) = streams.group g
part_of u (Picture info extension) = streams.picture info extension
part_of u (Matrices m) = streams.matrices m
part_of u Skipped = streams.skipped_unit u
part_of u Ending = streams.ending

-- units may follow
abbrev pub goes_on : Header → Bool
goes_on (Sequence s) = true
goes_on (Group g) = true
goes_on (Picture info extension) = true
goes_on (Matrices m) = true
goes_on Skipped = true
goes_on Ending = false

-- what the grammar says of a unit with this header
abbrev pub told : List ℕ → Header → Bool × streams.Part
told u h = (goes_on h, part_of u h)

-- what is known of a header that was read
abbrev pub HeaderFits : Header → Type 0
HeaderFits (Sequence s) = SequenceFits s.info × IsReadSequence s.info s.extension
HeaderFits (Group g) = GroupFits g
HeaderFits (Picture info extension) = PictureFits info × IsReadPicture info extension
HeaderFits (Matrices m) = MatrixFits m
HeaderFits Skipped = Unit {0}
HeaderFits Ending = Unit {0}

-- what the state says of a header that is read behind it: a sequence header is that of frames of the same size, a group
-- header stands where no second field is due, and a picture is the second field where one is due
abbrev pub HeaderFollows : State → Header → Type 0
HeaderFollows st (Sequence s) = is_same_sequence st.first s ≡ true
HeaderFollows st (Group g) = none_waits st.waiting ≡ true
HeaderFollows st (Picture info extension) = (is_some st.sequence ≡ true) × (is_second_field_due st.waiting info extension ≡ true)
HeaderFollows st (Matrices m) = Unit {0}
HeaderFollows st Skipped = Unit {0}
HeaderFollows st Ending = Unit {0}

-- the matrices in force have no 0 (clause 6.3.11)
abbrev pub AreMatrices : State → Type 0
AreMatrices st = IsMatrix st.intra × IsMatrix st.non_intra

-- what the end of a text, at a byte, makes of what was read up to there: it stays, or it is the fault
abbrev pub EndsText : Result (Unit {0}) Stop → State → Type 0
EndsText (Ok done) st = (end : ℕ) (es : Events) (store : Store) → text_ended end (Ok (es, record { state = st; store = store })) ≡ Ok (es, record { state = st; store = store })
EndsText (Err e) st = (end : ℕ) (es : Events) (store : Store) → text_ended end (Ok (es, record { state = st; store = store })) ≡ Err (e.kind, 8 * end - e.left)
