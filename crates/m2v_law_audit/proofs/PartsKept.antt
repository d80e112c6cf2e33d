-- What stays of a sequence behind a piece; and that nothing waits to be told where none began.
use Rattle.std.proofs.Common.{◌≡◌, ℕ, ◌+◌, ◌*◌, List, [], ◌∷◌, length, Option, Some, None, inl, inr, refl, sym, ap, ◌∙◌}
use Rattle.std.specs.Prelude.{slice_get}
use Rattle.std.specs.Option.{option_map}
use Rattle.std.proofs.lemmas.Bool.{cases_Bool}
use Rattle.m2v_model.specs.m2v_macroblock.m2v_head.declared.sequence.SequenceInfo.{SequenceInfo}
use Rattle.m2v_model.specs.m2v_macroblock.m2v_head.declared.sequence.SequenceExtension.{SequenceExtension}
use Rattle.m2v_model.specs.m2v_macroblock.m2v_head.declared.group.GroupInfo.{GroupInfo}
use Rattle.m2v_model.specs.declared.state.Sequence.{Sequence}
use Rattle.m2v_model.specs.declared.notes.PictureNote.{PictureNote}
use Rattle.m2v_model.specs.Pieces.{zeros_last}
use Rattle.m2v_model.specs.PieceNotes.{PieceNotes}
use Rattle.m2v_audit.specs.m2v_check.declared.coded.CodedPicture.{CodedPicture}
use Rattle.m2v_audit.specs.m2v_check.Running.{ends_frame}
use Rattle.m2v_audit.specs.declared.auditing.Auditing.{Auditing}
use Rattle.m2v_audit.specs.declared.auditing.PieceEnd.{PieceEnd}
use Rattle.m2v_audit.specs.declared.headers.PieceHeader.{PieceHeader}
use Rattle.m2v_audit.specs.declared.headers.PieceHeader.TheVariants as headers
use Rattle.m2v_audit.specs.m2v_strict.declared.display.Display.{Display}
use Rattle.m2v_audit.specs.declared.others.Other.{Other}
use Rattle.m2v_audit.specs.declared.report.Rate.{Rate}
use Rattle.m2v_audit.specs.Account.{Account, with_more as account_more}
use Rattle.m2v_audit.specs.Auditing.{sequence_of, longer, begun, begun_by, with_sequence, with_group, with_header, sequences_of, with_headers, coded, counted, with_told, with_place, with_note, settled_by, with_others, fronted, pictured, with_display, with_ending, after_piece, cleared}
use Rattle.m2v_audit.specs.HeaderRecords.{rate_with}
use Rattle.m2v_audit.specs.Front.{front_of}
use Rattle.m2v_audit.specs.Others.{others_of}
use Rattle.m2v_audit.specs.Report.{Report}
use Rattle.m2v_audit.specs.Times.{Times}
use Rattle.m2v_law_audit.specs.Found.{settled_in, left_in, piece_removals}

-- ---- what headers don't touch

module _ {V : Type 0} (view : Auditing → V) (sequence : (a : Auditing) (bit : ℕ) (s : Sequence) → view (with_sequence a bit s) ≡ view a)
    (group : (a : Auditing) (bit : ℕ) (g : GroupInfo) → view (with_group a bit g) ≡ view a) where
  header_keeps : (a : Auditing) (h : PieceHeader) (s : Option (SequenceInfo × SequenceExtension)) → view (with_header a h s) ≡ view a
  unfolding with_header
  header_keeps a (headers.Sequence bit) None = refl
  header_keeps a (headers.Sequence bit) (Some s) = sequence a bit (sequence_of s)
  header_keeps a (headers.Group bit g) s = group a bit g

  -- what none of them touches
  pub headers_keep : (a : Auditing) (ss : List (SequenceInfo × SequenceExtension)) (k : ℕ) (hs : List PieceHeader) → view (with_headers a ss k hs) ≡ view a
  unfolding with_headers
  headers_keep a ss k [] = refl
  headers_keep a ss k (h ∷ hs) = headers_keep (with_header a h (slice_get ss k)) ss (k + sequences_of h) hs ∙ header_keeps a h (slice_get ss k)

-- the first sequence header and how the buffer is filled, how many pictures came, what is kept of their times, and the account
abbrev pub Untouched : Type 0
Untouched = Option Sequence × Rate × ℕ × Times × Option Account

abbrev pub untouched_in : Auditing → Untouched
untouched_in a = (a.first, a.rate, a.pictures, a.times, a.account)

pub all_headers : (a : Auditing) (ss : List (SequenceInfo × SequenceExtension)) (k : ℕ) (hs : List PieceHeader) → untouched_in (with_headers a ss k hs) ≡ untouched_in a
all_headers = headers_keep untouched_in (λ a bit s. refl) (λ a bit g. refl)

-- where the frame of a picture stands in its group changes none of it either, nor the last sequence header
pub placing : (a : Auditing) (p : CodedPicture) → (untouched_in (with_place a p) ≡ untouched_in a) × ((with_place a p).sequence ≡ a.sequence)
placing a p = elim (cases_Bool (ends_frame p.note)) [ inl on ↦ rw on (refl, refl) | inr off ↦ rw off (refl, refl) ]

-- ---- what stands behind a picture

-- of what hangs neither on the report and the account nor on the display and on how the last piece ends, a piece leaves what its
-- headers and its picture do
module _ {V : Type 0} (view : Auditing → V)
    (stays : (a : Auditing) (r : Report) (d : Option (Option Display)) (last : Option PieceEnd) (x : Option Account)
    → view (record a { report = r; display = d; last = last; account = x }) ≡ view a) where
  settled_keeps : (a : Auditing) (place pictures : ℕ) (piece : List ℕ) (os : List Other) (x : Option Account)
      → view (settled_by (with_ending place piece (with_others pictures os a)) x) ≡ view a
  settled_keeps a place pictures piece os None = let b = with_ending place piece (with_others pictures os a) in stays a b.report a.display b.last b.account
  settled_keeps a place pictures piece os (Some x) =
      let b = settled_by (with_ending place piece (with_others pictures os a)) (Some x) in
      stays a b.report a.display b.last b.account

  pub piece_leaves : (a : Auditing) (place : ℕ) (piece : List ℕ) (notes : PieceNotes)
      → view (after_piece a place piece notes)
      ≡ view (pictured (fronted (longer (length piece) a) place piece notes) place (length piece) (zeros_last piece) notes.picture)
  unfolding after_piece
  piece_leaves a place piece notes =
      let front : Auditing = fronted (longer (length piece) a) place piece notes in
      let behind : Auditing = pictured front place (length piece) (zeros_last piece) notes.picture in
      settled_keeps behind place front.pictures piece (others_of place piece) behind.account

  display_keeps : (a : Auditing) (place : ℕ) (os : List Other) → view (with_display place os a) ≡ view a
  display_keeps a place os = let b = with_display place os a in stays a b.report b.display a.last a.account

  -- where what its picture leaves hangs on no more
  pub headers_leave : ((a b : Auditing) (o : Option Sequence) (n : Option PictureNote) (place bytes ending : ℕ)
      → view a ≡ view b → view (with_note a o n place bytes ending) ≡ view (with_note b o n place bytes ending))
      → (a : Auditing) (place : ℕ) (piece : List ℕ) (notes : PieceNotes) →
      let headed = with_headers (begun a.first (longer (length piece) a) place notes) notes.sequences 0 (front_of place piece) in
      view (after_piece a place piece notes) ≡ view (pictured headed place (length piece) (zeros_last piece) notes.picture)
  headers_leave same a place piece notes =
      let headed = with_headers (begun a.first (longer (length piece) a) place notes) notes.sequences 0 (front_of place piece) in
      let front = with_display place (others_of place piece) headed in
      piece_leaves a place piece notes
      ∙ same front headed headed.sequence notes.picture place (length piece) (zeros_last piece) (display_keeps headed place (others_of place piece))

-- ---- the first sequence header, and how the buffer is filled

abbrev pub beginning_of : Auditing → Option Sequence × Rate
beginning_of a = (a.first, a.rate)

noting : (a : Auditing) (s : Option Sequence) (n : Option PictureNote) (place bytes ending : ℕ) → beginning_of (with_note a s n place bytes ending) ≡ beginning_of a
noting a s None place bytes ending = refl
noting a None (Some n) place bytes ending = refl
noting a (Some s) (Some n) place bytes ending =
    let p : CodedPicture = coded a s n in
    ap (λ (x : Untouched). (x.0, x.1)) (placing (with_told (counted a p) p bytes ending) p).0

-- they are those that it had when it began
pub kept_after : (a : Auditing) (place : ℕ) (piece : List ℕ) (notes : PieceNotes)
    → beginning_of (after_piece a place piece notes) ≡ beginning_of (begun a.first (longer (length piece) a) place notes)
kept_after a place piece notes =
    let b : Auditing = longer (length piece) a in
    let c : Auditing = fronted b place piece notes in
    piece_leaves beginning_of (λ a r d last x. refl) a place piece notes
    ∙ noting c c.sequence notes.picture place (length piece) (zeros_last piece)
    ∙ ap (λ (x : Untouched). (x.0, x.1)) (all_headers (begun a.first b place notes) notes.sequences 0 (front_of place piece))

pub stays_after : (a : Auditing) (place : ℕ) (piece : List ℕ) (notes : PieceNotes) (s : Sequence) → a.first ≡ Some s
    → beginning_of (after_piece a place piece notes) ≡ beginning_of a
stays_after a place piece notes s e =
    kept_after a place piece notes ∙ ap (λ (f : Option Sequence). beginning_of (begun f (longer (length piece) a) place notes)) e

-- the sequence begins with the first sequence header of a piece
pub begun_with : (a : Auditing) (place : ℕ) (piece : List ℕ) (notes : PieceNotes) (s : SequenceInfo × SequenceExtension) (ss : List (SequenceInfo × SequenceExtension)) → a.first ≡ None → notes.sequences ≡ s ∷ ss
    → beginning_of (after_piece a place piece notes) ≡ (Some (sequence_of s), rate_with (sequence_of s) notes.picture)
begun_with a place piece notes s ss none e =
    let b : Auditing = longer (length piece) a in
    kept_after a place piece notes
    ∙ ap (λ (f : Option Sequence). beginning_of (begun f b place notes)) none
    ∙ ap (λ (l : List (SequenceInfo × SequenceExtension)). beginning_of (begun_by b place (slice_get l 0) notes.picture)) e

-- ---- where no sequence began

-- nothing waits to be told
pub record IsBare (a : Auditing) : Type 0 where
  pub sequence : a.sequence ≡ None
  pub anchor : a.places.anchor ≡ None
  pub begun : a.places.begun ≡ None
  pub account : a.account ≡ None

bare_header : (a : Auditing) (h : PieceHeader) → IsBare a → IsBare (with_header a h None)
unfolding with_header
bare_header a (headers.Sequence bit) is = is
bare_header a (headers.Group bit g) is = record { sequence = is.sequence; anchor = refl; begun = refl; account = is.account }

bare_headers : (a : Auditing) (k : ℕ) (hs : List PieceHeader) → IsBare a → IsBare (with_headers a [] k hs)
unfolding with_headers
bare_headers a k [] is = is
bare_headers a k (h ∷ hs) is = bare_headers (with_header a h None) (k + sequences_of h) hs (bare_header a h is)

bare_noted : (a : Auditing) (s : Option Sequence) (n : Option PictureNote) (place bytes ending : ℕ) → s ≡ None → IsBare a → IsBare (with_note a s n place bytes ending)
bare_noted a s None place bytes ending e is = record {
  sequence = is.sequence;
  anchor = is.anchor;
  begun = is.begun;
  account = ap (option_map (λ (x : Account). account_more x (8 * bytes))) is.account;
}
bare_noted a None (Some n) place bytes ending e is = is
bare_noted a (Some s) (Some n) place bytes ending e is = absurd cc

bare_settled : (a : Auditing) (x : Option Account) → x ≡ None → IsBare a → IsBare (settled_by a x)
bare_settled a None e is = is
bare_settled a (Some x) e is = absurd cc

bare_front : (first : Option Sequence) (a : Auditing) (place : ℕ) (notes : PieceNotes) (hs : List PieceHeader) → a.first ≡ first → (a.first ≡ None → IsBare a) → (begun first a place notes).first ≡ None
    → IsBare (with_headers (begun first a place notes) notes.sequences 0 hs)
bare_front (Some s) a place notes hs e bare none = let f : Some s ≡ None = sym e ∙ none in absurd cc
bare_front None a place notes hs e bare none = by notes.sequences none
  where
    by : (ss : List (SequenceInfo × SequenceExtension)) → (begun_by a place (slice_get ss 0) notes.picture).first ≡ None
        → IsBare (with_headers (begun_by a place (slice_get ss 0) notes.picture) ss 0 hs)
    by [] f = bare_headers a 0 hs (bare e)
    by (s ∷ ss) f = absurd cc

module _ (a : Auditing) (place : ℕ) (piece : List ℕ) (notes : PieceNotes) where
  -- a piece in which no sequence begins either
  bare_pictured : (a.first ≡ None → IsBare a) → (after_piece a place piece notes).first ≡ None
      → IsBare (pictured (fronted (longer (length piece) a) place piece notes) place (length piece) (zeros_last piece) notes.picture)
  bare_pictured bare none =
      let b : Auditing = longer (length piece) a in
      let c : Auditing = fronted b place piece notes in
      let first : (begun a.first b place notes).first ≡ None = ap (λ (x : Option Sequence × Rate). x.0) (sym (kept_after a place piece notes)) ∙ none in
      let still : b.first ≡ None → IsBare b = λ e. let is = bare e in record { sequence = is.sequence; anchor = is.anchor; begun = is.begun; account = is.account } in
      let headed = bare_front a.first b place notes (front_of place piece) refl still first in
      let is_c : IsBare c = record { sequence = headed.sequence; anchor = headed.anchor; begun = headed.begun; account = headed.account } in
      bare_noted c c.sequence notes.picture place (length piece) (zeros_last piece) is_c.sequence is_c

  bare_after : (a.first ≡ None → IsBare a) → (after_piece a place piece notes).first ≡ None → IsBare (after_piece a place piece notes)
  unfolding after_piece
  bare_after bare none =
      let c : Auditing = fronted (longer (length piece) a) place piece notes in
      let d : Auditing = pictured c place (length piece) (zeros_last piece) notes.picture in
      let e : Auditing = with_others c.pictures (others_of place piece) d in
      let is : IsBare d = bare_pictured bare none in
      let ends : IsBare (with_ending place piece e) = record { sequence = is.sequence; anchor = is.anchor; begun = is.begun; account = is.account } in
      bare_settled (with_ending place piece e) d.account is.account ends

  -- and where its lines were taken away
  pub bare_behind : (a.first ≡ None → IsBare a) → (after_piece a place piece notes).first ≡ None → IsBare (cleared (after_piece a place piece notes))
  bare_behind bare none =
      let is = bare_after bare none in
      record { sequence = is.sequence; anchor = is.anchor; begun = is.begun; account = is.account }

  pub none_removed : (a.first ≡ None → IsBare a) → (after_piece a place piece notes).first ≡ None → piece_removals a place piece notes ≡ []
  none_removed bare none = ap settled_in (bare_pictured bare none).account

pub none_left : (a : Auditing) → IsBare a → left_in a.account ≡ []
none_left a is = ap left_in is.account
