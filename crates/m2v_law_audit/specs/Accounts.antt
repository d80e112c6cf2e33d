-- The account of a stream's buffer as a report tells it: every removal, with what the buffer tells of it (Annex C).
use Rattle.std.specs.Prelude.{◌≡◌, ℕ, ◌+◌, ◌*◌, ◌-◌, ◌↔◌, true, false, List, [], ◌∷◌, map, sum, length, Option, Some, None}
use Rattle.std.specs.List.{flat_map, AllByRecursion}
use Rattle.m2v_vbv.specs.declared.fault.AccountFault.{AccountFault}
use Rattle.m2v_vbv.specs.declared.fault.AccountFault.TheVariants.{Under, Over}
use Rattle.m2v_vbv.specs.Buffer.{Buffer, size_of}
use Rattle.m2v_vbv.specs.Deliveries.{Delivers, HasInTime}
use Rattle.m2v_model.specs.declared.state.Sequence.{Sequence}
use Rattle.m2v_model.specs.PieceNotes.{note_of}
use Rattle.m2v_model.specs.Pieces.{pieces}
use Rattle.m2v_model.specs.Streams.{Sofar}
use Rattle.m2v_model.specs.Decoding.{events}
use Rattle.m2v_model.specs.Lawful.{Numbered, all_numbered}
use Rattle.m2v_model.specs.Buffering.{bits_of_piece, code_bits, account_in, unsafe_in}
use Rattle.m2v_audit.specs.m2v_check.declared.coded.CodedPicture.{CodedPicture}
use Rattle.m2v_audit.specs.declared.account.Due.{Due}
use Rattle.m2v_audit.specs.declared.records.Finding.{Finding}
use Rattle.m2v_audit.specs.declared.records.FailureRecord.{FailureRecord}
use Rattle.m2v_audit.specs.declared.report.Rate.{Rate}
use Rattle.m2v_audit.specs.declared.words.FailureKind.TheVariants as kinds
use Rattle.m2v_audit.specs.Account.{Told, pictures, all_told}
use Rattle.m2v_audit.specs.HeaderRecords.{rate_with}
use Rattle.m2v_audit.specs.Opening.{first_buffer}
use Rattle.m2v_audit.specs.Times.{Times, IsOnce, opened, time_of, after}
use Rattle.m2v_audit.specs.declared.asked.Asked.{Asked}
use Rattle.m2v_law_audit.specs.Sequences.{SequenceReport, sequence_report, first_byte}
use Rattle.m2v_law_audit.specs.Parts.{Tells, more_by}
use Rattle.m2v_law_audit.specs.Found.{failures_of}

-- ---- the pictures of a stream, as its buffer sees them

-- a picture with the note on it, whose piece begins at a byte of the input
abbrev pub coded_at : ℕ → List ℕ → Numbered → CodedPicture
coded_at at p n = record {
  number = n.number;
  sequence = n.sequence;
  first_in_group = n.first_in_group;
  note = note_of (8 * at + code_bits p) n.picture;
}

-- of a piece that begins at a byte of the input, with so many bits
abbrev pub due_at : Times → ℕ → ℕ → List ℕ → Numbered → Due
due_at t at bits p n =
    let c = coded_at at p n in
    record {
      number = n.number;
      bit = 8 * at + code_bits p - 32;
      bits = bits;
      code_bits = code_bits p;
      units = time_of t c.sequence c.note;
      delay = n.picture.info.vbv_delay;
    }

-- Piece i has picture i, but a last piece may have none; the last picture has all that stands behind it.
unfoldable pub dues_from : Times → ℕ → List (List ℕ) → List Numbered → List Due
dues_from t at ps [] = []
dues_from t at [] (n ∷ ns) = []
dues_from t at (p ∷ ps) (n ∷ []) = due_at t at (sum (map bits_of_piece (p ∷ ps))) p n ∷ []
dues_from t at (p ∷ ps) (n ∷ m ∷ ns) =
    let c = coded_at at p n in
    due_at t at (bits_of_piece p) p n ∷ dues_from (after t c.sequence c.note) (at + length p) ps (m ∷ ns)

-- the pictures of a stream whose first piece begins at a byte, by its first sequence header
abbrev pub dues_by : Option Sequence → ℕ → List (List ℕ) → List Numbered → List Due
dues_by None at ps ns = []
dues_by (Some s) at ps ns = dues_from (opened s.extension.low_delay s.info.frame_rate_code) at ps ns

-- how the buffer is filled, and how it begins
pub record Beginning : Type 0 where
  pub rate : Rate
  pub buffer : Buffer

abbrev pub with_buffer : Rate → Option Buffer → Option Beginning
with_buffer rate None = None
with_buffer rate (Some b) = Some (record { rate = rate; buffer = b })

-- by the first sequence header, the first piece and the first picture, where there is an account
abbrev pub beginning_by : Option Sequence → ℕ → List (List ℕ) → List Numbered → Option Beginning
beginning_by None at ps ns = None
beginning_by (Some s) at [] ns = None
beginning_by (Some s) at (p ∷ ps) [] = None
beginning_by (Some s) at (p ∷ ps) (n ∷ ns) =
    let note = note_of (8 * at + code_bits p) n.picture in
    with_buffer (rate_with s (Some note)) (first_buffer s note (code_bits p))

abbrev pub numbered_in : Sofar → List Numbered
numbered_in tree = all_numbered (events tree)

-- those of a stream in its text, which begins at a byte of the input
abbrev pub dues_in : ℕ → List ℕ → Sofar → List Due
dues_in start text tree = dues_by tree.state.first (first_byte start text) (pieces text) (numbered_in tree)

abbrev pub beginning_in : ℕ → List ℕ → Sofar → Option Beginning
beginning_in start text tree = beginning_by tree.state.first (first_byte start text) (pieces text) (numbered_in tree)

-- ---- what is told of them

-- every removal, once all pictures are whole, with what the buffer tells of it
abbrev pub removals_by : Option Beginning → List Due → List Told
removals_by None ds = []
removals_by (Some x) ds = all_told x.buffer ds

-- those that fail, in turn
abbrev pub failures_by : ℕ → Option Beginning → List Due → List FailureRecord
failures_by number None ds = []
failures_by number (Some x) ds = flat_map (failures_of number x.rate) (all_told x.buffer ds)

abbrev pub failures_of_stream : ℕ → ℕ → List ℕ → Sofar → List FailureRecord
failures_of_stream number start text tree = failures_by number (beginning_in start text tree) (dues_in start text tree)

-- a report tells these failures, in this order and no others; and it counts them
pub record TellsFailures (r : SequenceReport) (fs : List FailureRecord) : Type 0 where
  pub findings : List Finding
  pub tells : Tells r.lines findings fs
  pub counted : r.kept.report.tally.failures ≡ more_by 0 (length fs)

-- those of a stream, whichever sequence of the input it is
abbrev pub TellsAllFailures : List ℕ → Sofar → Type 0
TellsAllFailures text tree =
    (asked : Asked) (number start : ℕ) → TellsFailures (sequence_report asked number start text) (failures_of_stream number start text tree)

-- ---- at constant rate: the account of the verifier, up to the first failure

-- a failure that is told is one of the verifier's account
abbrev pub Agrees : FailureRecord → AccountFault → Type 0
Agrees r (Under picture have need) = (r.picture ≡ picture) × (r.have ≡ have) × (r.need ≡ need) × (r.kind ≡ kinds.Over → ⊥)
Agrees r (Over picture have size) = (r.picture ≡ picture) × (r.have ≡ have) × (r.need ≡ size) × (r.kind ≡ kinds.Over)

-- either has none, or the first of both agree
abbrev pub FirstAgree : List FailureRecord → List AccountFault → Type 0
FirstAgree [] [] = Unit {0}
FirstAgree [] (f ∷ fs) = ⊥
FirstAgree (r ∷ rs) [] = ⊥
FirstAgree (r ∷ rs) (f ∷ fs) = Agrees r f

-- no picture is a frame that a progressive sequence repeats (rule 13 at constant rate)
abbrev pub IsOnceAmong : Numbered → Type 0
IsOnceAmong n = IsOnce (coded_at 0 [] n)

abbrev pub FailsAsChecked : List ℕ → Sofar → Type 0
FailsAsChecked text tree =
    (number start : ℕ) (x : Beginning) → beginning_in start text tree ≡ Some x → x.rate.constant ≡ true
    → AllByRecursion IsOnceAmong (numbered_in tree)
    → FirstAgree (failures_of_stream number start text tree) (unsafe_in (account_in text tree))

-- ---- at variable rate: the kindest delivery (C.3.2)

-- no failure is told exactly where some delivery within the rate and the buffer has each picture in time
abbrev pub FailsWhereNoneDelivers : List ℕ → Sofar → Type 0
FailsWhereNoneDelivers text tree =
    (number start : ℕ) (x : Beginning) → beginning_in start text tree ≡ Some x → x.rate.constant ≡ false →
    let ps = pictures (dues_in start text tree) in
    (failures_of_stream number start text tree ≡ [])
    ↔ ((os : List ℕ) × (Delivers x.buffer.inflow (size_of x.buffer.inflow) ps 0 os × HasInTime ps os))
