-- What is counted of a stream as it is read piece by piece: its pictures, the frames that they show, and its bytes.
use Rattle.std.proofs.Common.{◌≡◌, ℕ, ◌+◌, ◌-◌, ◌*◌, ◌^◌, ◌≤◌, Bool, true, false, List, [], ◌∷◌, ◌++◌, length, map, Option, Some, None, inl, inr, refl, sym, ap, subst, ◌∙◌, arith}
use Rattle.std.specs.Prelude.{sum, slice_get, if◌then◌else◌}
use Rattle.std.proofs.lemmas.List.{length-append}
use Rattle.std.proofs.lemmas.List.Sums.{sum_by-cons}
use Rattle.m2v_model.specs.m2v_macroblock.m2v_head.declared.sequence.SequenceInfo.{SequenceInfo}
use Rattle.m2v_model.specs.m2v_macroblock.m2v_head.declared.sequence.SequenceExtension.{SequenceExtension}
use Rattle.m2v_model.specs.declared.state.Sequence.{Sequence}
use Rattle.m2v_model.specs.declared.notes.PictureNote.{PictureNote}
use Rattle.m2v_model.specs.Streams.{Sofar}
use Rattle.m2v_model.specs.Pictures.{Pictures, Events, pictures_in}
use Rattle.m2v_model.specs.Pieces.{pieces, zeros_last}
use Rattle.m2v_model.specs.PieceNotes.{PieceNotes, note_of, first_note, notes_of}
use Rattle.m2v_model.specs.Decoding.{Stream, events}
use Rattle.m2v_model.specs.Buffering.{code_bits}
use Rattle.m2v_model.specs.ByPieces.{Between, Course, at_start}
use Rattle.m2v_model.proofs.EventLaws.{pictures_in-append}
use Rattle.m2v_audit.specs.m2v_check.declared.coded.CodedPicture.{CodedPicture}
use Rattle.m2v_audit.specs.m2v_check.Running.{ends_frame}
use Rattle.m2v_audit.specs.declared.auditing.Auditing.{Auditing}
use Rattle.m2v_audit.specs.declared.headers.PieceHeader.{PieceHeader}
use Rattle.m2v_audit.specs.declared.headers.PieceHeader.TheVariants as headers
use Rattle.m2v_audit.specs.Auditing.{nothing, longer, begun, begun_by, with_headers, is_shown, coded, counted, with_told, with_note, fronted, ended, ended_by}
use Rattle.m2v_audit.specs.Front.{front_of}
use Rattle.m2v_audit.specs.Report.{one_more}
use Rattle.m2v_audit.proofs.m2v_check.Telling.{last_in, AreHeaded}
use Rattle.m2v_audit.proofs.m2v_check.Onward.{none_or_one}
use Rattle.m2v_audit.specs.declared.asked.Asked.{Asked}
use Rattle.m2v_law_audit.specs.Sequences.{by_piece, reported, first_byte, sequence_report}
use Rattle.m2v_law_audit.proofs.PartsKept.{headers_keep, piece_leaves}
use Rattle.m2v_law_audit.proofs.AccountReading.{Turn, Turns, turn_read, in_pieces, begun_at, behind_piece}
use Rattle.m2v_law_audit.proofs.EventsFront.{Fronts, last_sequence}
use Rattle.m2v_law_audit.proofs.RemovalEvents.{rest_one}
use Rattle.m2v_law_audit.proofs.RemovalPieces.{noted_picture}

-- ---- what is counted

-- pictures, frames shown and bytes
abbrev pub Numbers : Type 0
Numbers = ℕ × ℕ × ℕ

abbrev pub numbers_in : Auditing → Numbers
numbers_in a = (a.pictures, a.frames, a.bytes)

-- and the last sequence header
abbrev Counted : Type 0
Counted = Numbers × Option Sequence

abbrev counted_in : Auditing → Counted
counted_in a = (numbers_in a, a.sequence)

-- frames shown, behind a picture
abbrev pub shown_with : ℕ → PictureNote → ℕ
shown_with frames n = if is_shown n then one_more frames else frames

-- what was counted by 64 bits still is, with one more
pub few_counted : (more : Bool) (n : ℕ) → n ≤ 2 ^ 64 - 1 → (if more then one_more n else n) ≤ 2 ^ 64 - 1
few_counted true n le = omega (arith, le)
few_counted false n le = le

-- ---- a piece

begun_counts : (first : Option Sequence) (a : Auditing) (place : ℕ) (notes : PieceNotes) → counted_in (begun first a place notes) ≡ counted_in a
begun_counts (Some s) a place notes = refl
begun_counts None a place notes = by (slice_get notes.sequences 0)
  where
    by : (s : Option (SequenceInfo × SequenceExtension)) → counted_in (begun_by a place s notes.picture) ≡ counted_in a
    by None = refl
    by (Some s) = refl

headers_count : (a : Auditing) (ss : List (SequenceInfo × SequenceExtension)) (k : ℕ) (hs : List PieceHeader) → numbers_in (with_headers a ss k hs) ≡ numbers_in a
headers_count = headers_keep numbers_in (λ a bit s. refl) (λ a bit g. refl)

-- the headers of a piece leave the last sequence header that it tells
fronted_counts : (a : Auditing) (place : ℕ) (piece : List ℕ) (es : Events) → Fronts (front_of place piece) es
    → counted_in (fronted (longer (length piece) a) place piece (notes_of place piece es)) ≡ ((a.pictures, a.frames, a.bytes + length piece), last_in a.sequence es)
fronted_counts a place piece es fronts =
    let c : Auditing = begun_at a place piece es in
    let notes = notes_of place piece es in
    let begins : counted_in c ≡ ((a.pictures, a.frames, a.bytes + length piece), a.sequence) = begun_counts a.first (longer (length piece) a) place notes in
    let numbers : numbers_in (with_headers c notes.sequences 0 (front_of place piece)) ≡ (a.pictures, a.frames, a.bytes + length piece) =
    headers_count c notes.sequences 0 (front_of place piece) ∙ ap (λ (x : Counted). x.0) begins in
    let last : (with_headers c notes.sequences 0 (front_of place piece)).sequence ≡ last_in a.sequence es =
    last_sequence c place piece es fronts ∙ ap (λ (x : Counted). last_in x.1 es) begins in
    λ i. (numbers i, last i)

either : (b : Bool) (a c : Auditing) (x : Counted) → counted_in a ≡ x → counted_in c ≡ x → counted_in (if b then a else c) ≡ x
either true a c x e f = e
either false a c x e f = f

-- a picture behind a sequence header is counted
abbrev with_picture : Counted → Option PictureNote → Counted
with_picture x None = x
with_picture x (Some n) = (((x.0).0 + 1, shown_with (x.0).1 n, (x.0).2), x.1)

noted_counts : (a : Auditing) (s : Option Sequence) (n : Option PictureNote) (place bytes ending : ℕ) → (s ≡ None → n ≡ None) → counted_in (with_note a s n place bytes ending) ≡ with_picture (counted_in a) n
noted_counts a s None place bytes ending headed = refl
noted_counts a None (Some n) place bytes ending headed = let none : Some n ≡ None = headed refl in absurd cc
noted_counts a (Some s) (Some n) place bytes ending headed =
    let p : CodedPicture = coded a s n in
    let told : Auditing = with_told (counted a p) p bytes ending in
    either (ends_frame n) _ _ (counted_in told) refl refl

piece_counts : (a : Auditing) (place : ℕ) (piece : List ℕ) (es : Events) → Fronts (front_of place piece) es → (last_in a.sequence es ≡ None → pictures_in es ≡ [])
    → counted_in (behind_piece a place piece es) ≡ with_picture ((a.pictures, a.frames, a.bytes + length piece), last_in a.sequence es) (first_note (8 * place + code_bits piece) (pictures_in es))
piece_counts a place piece es fronts headed =
    let notes = notes_of place piece es in
    let d : Auditing = fronted (longer (length piece) a) place piece notes in
    let front = fronted_counts a place piece es fronts in
    let picture = noted_picture place piece es in
    let none : d.sequence ≡ None → notes.picture ≡ None =
    λ is. picture ∙ ap (first_note (8 * place + code_bits piece)) (headed (sym (ap (λ (x : Counted). x.1) front) ∙ is)) in
    piece_leaves counted_in (λ a r d last x. refl) a place piece notes ∙ noted_counts d d.sequence notes.picture place (length piece) (zeros_last piece) none ∙ (λ i. with_picture (front i) (picture i))

-- ---- pieces

-- frames shown, behind pictures
abbrev pub shown_by : ℕ → Pictures → ℕ
shown_by frames [] = frames
shown_by frames (p ∷ ps) = shown_by (shown_with frames (note_of 0 p)) ps

shown_on : (frames : ℕ) (ps qs : Pictures) → shown_by frames (ps ++ qs) ≡ shown_by (shown_by frames ps) qs
shown_on frames [] qs = refl
shown_on frames (p ∷ ps) qs = shown_on (shown_with frames (note_of 0 p)) ps qs

-- behind pieces that tell these events
abbrev counted_by : Numbers → List (List ℕ) → Events → Numbers
counted_by x ps es = (x.0 + length (pictures_in es), shown_by x.1 (pictures_in es), x.2 + sum (map length ps))

-- a piece, and then what follows it
counted_on : (x y : Numbers) (p : List ℕ) (ps : List (List ℕ)) (own rest es : Events) → es ≡ own ++ rest → y ≡ (x.0 + length (pictures_in own), shown_by x.1 (pictures_in own), x.2 + length p) → counted_by y ps rest ≡ counted_by x (p ∷ ps) es
counted_on x y p ps own rest es are is =
    let all : pictures_in es ≡ pictures_in own ++ pictures_in rest = ap pictures_in are ∙ pictures_in-append own rest in
    let pictures : (x.0 + length (pictures_in own)) + length (pictures_in rest) ≡ x.0 + length (pictures_in es) =
    omega (arith, ap length all, length-append (pictures_in own) (pictures_in rest)) in
    let frames : shown_by (shown_by x.1 (pictures_in own)) (pictures_in rest) ≡ shown_by x.1 (pictures_in es) =
    sym (shown_on x.1 (pictures_in own) (pictures_in rest)) ∙ sym (ap (shown_by x.1) all) in
    let bytes : (x.2 + length p) + sum (map length ps) ≡ x.2 + sum (map length (p ∷ ps)) = omega (arith, sum_by-cons (λ (n : ℕ). n) (length p) (map length ps)) in
    ap (λ (z : Numbers). counted_by z ps rest) is ∙ (λ i. (pictures i, frames i, bytes i))

-- what one piece counts, with a picture or without one
own_counts : (a : Auditing) (at : ℕ) (p : List ℕ) (own : Events) (qs : Pictures) → pictures_in own ≡ qs → length qs ≤ 1
    → counted_in (behind_piece a at p own) ≡ with_picture ((a.pictures, a.frames, a.bytes + length p), last_in a.sequence own) (first_note (8 * at + code_bits p) (pictures_in own))
    → counted_in (behind_piece a at p own) ≡ ((a.pictures + length (pictures_in own), shown_by a.frames (pictures_in own), a.bytes + length p), last_in a.sequence own)
own_counts a at p own [] e few is =
    let last = last_in a.sequence own in
    let none : a.pictures ≡ a.pictures + 0 = omega arith in
    is ∙ ap (λ (qs : Pictures). with_picture ((a.pictures, a.frames, a.bytes + length p), last) (first_note (8 * at + code_bits p) qs)) e
    ∙ (λ i. ((none i, a.frames, a.bytes + length p), last))
    ∙ ap (λ (qs : Pictures). ((a.pictures + length qs, shown_by a.frames qs, a.bytes + length p), last)) (sym e)
own_counts a at p own (q ∷ []) e few is =
    let last = last_in a.sequence own in
    is ∙ ap (λ (qs : Pictures). with_picture ((a.pictures, a.frames, a.bytes + length p), last) (first_note (8 * at + code_bits p) qs)) e
    ∙ ap (λ (qs : Pictures). ((a.pictures + length qs, shown_by a.frames qs, a.bytes + length p), last)) (sym e)
own_counts a at p own (q ∷ r ∷ qs) e few is = absurd (omega (arith, few))

-- each picture stands behind a sequence header
headed_by : (o : Option Sequence) (b : Between) (p : List ℕ) (ps : List (List ℕ)) (es : Events) (u : Turn b p ps es) → b.state.sequence ≡ o → last_in o u.own ≡ None → pictures_in u.own ≡ []
headed_by o b p ps es u so none =
    elim (none_or_one u.own u.last) [
      | inl e ↦ e
      | inr one ↦
          let r = rest_one o 0 false 0 0 u.own [] one.0 u.last (subst (λ (z : Option Sequence). AreHeaded z u.own) so u.headed) one.1 in
          let d : None ≡ Some (r.first).sequence = sym none ∙ r.headed in absurd cc
    ]

ended_counts : (first : Option Sequence) (a : Auditing) → numbers_in (ended_by first a) ≡ numbers_in a
ended_counts None a = refl
ended_counts (Some s) a = refl

counts_from : (ps : List (List ℕ)) (b : Between) (es : Events) (a : Auditing) (at : ℕ) → Turns b ps es → b.state.sequence ≡ a.sequence → numbers_in (reported a b at ps).kept ≡ counted_by (numbers_in a) ps es
unfolding reported ended
counts_from [] b es a at turns so =
    let pictures : a.pictures ≡ a.pictures + 0 = omega arith in
    let bytes : a.bytes ≡ a.bytes + 0 = omega arith in
    ended_counts a.first a ∙ (λ i. (pictures i, a.frames, bytes i)) ∙ ap (counted_by (numbers_in a) []) (sym turns)
counts_from (p ∷ ps) b es a at turns so =
    let u = turns.0 in
    let end = at + length p in
    let next : Auditing = behind_piece a at p u.own in
    let few : length (pictures_in u.own) ≤ 1 = elim (none_or_one u.own u.last) [
      | inl none ↦ omega (arith, ap length none)
      | inr one ↦ omega (arith, ap length one.1)
    ] in
    let counts = own_counts a at p u.own (pictures_in u.own) refl few (piece_counts a at p u.own (u.fronts at) (headed_by a.sequence b p ps es u so)) in
    let stays : u.next.state.sequence ≡ next.sequence = u.sequence ∙ ap (λ (z : Option Sequence). last_in z u.own) so ∙ sym (ap (λ (x : Counted). x.1) counts) in
    ap (λ (c : Course). numbers_in (by_piece a at p c (λ a' b'. reported a' b' end ps)).kept) (turn_read b p ps es u end)
    ∙ counts_from ps u.next u.rest next end turns.1 stays
    ∙ counted_on (numbers_in a) (numbers_in next) p ps u.own u.rest es u.are (ap (λ (x : Counted). x.0) counts)

-- of a stream: its pictures, the frames that they show, and the bytes of its pieces
pub counts_of : (text : List ℕ) (tree : Sofar) → Stream text tree → (asked : Asked) (number start : ℕ)
    → numbers_in (sequence_report asked number start text).kept ≡ (length (pictures_in (events tree)), shown_by 0 (pictures_in (events tree)), sum (map length (pieces text)))
counts_of text tree stream asked number start =
    let pictures : 0 + length (pictures_in (events tree)) ≡ length (pictures_in (events tree)) = omega arith in
    let bytes : 0 + sum (map length (pieces text)) ≡ sum (map length (pieces text)) = omega arith in
    counts_from (pieces text) at_start (events tree) (nothing number asked start) (first_byte start text) (in_pieces text tree stream).turns refl
    ∙ (λ i. (pictures i, shown_by 0 (pictures_in (events tree)), bytes i))
