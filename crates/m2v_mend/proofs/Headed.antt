-- A sequence header that is read alone.
use Rattle.std.proofs.Common.{◌≡◌, ℕ, ◌+◌, ◌-◌, ◌*◌, ◌/◌, ◌<◌, ◌≤◌, Bool, true, false, List, [], ◌∷◌, ◌++◌, length, take, get_or, Option, Some, None, Ok, Err, inl, inr, refl, sym, ap, subst, ◌∙◌, arith}
use Rattle.std.specs.Prelude.{nat_eq, not, ◌||◌, cond, if◌then◌else◌, is_some, All}
use Rattle.std.proofs.lemmas.Bool.{cases_Bool, eq-eqb, ne_eqb, eqb-true}
use Rattle.std.proofs.lemmas.List.{take_at}
use Rattle.std.proofs.Math.Bool.{not-not}
use Rattle.m2v_model.specs.declared.fault.FaultKind.{FaultKind}
use Rattle.m2v_model.specs.declared.fault.FaultKind.TheVariants.{FieldPair}
use Rattle.m2v_model.specs.declared.state.FirstField.{FirstField}
use Rattle.m2v_model.specs.declared.state.Sequence.{Sequence}
use Rattle.m2v_model.specs.declared.state.State.{State}
use Rattle.m2v_model.specs.declared.notes.Notes.{Notes}
use Rattle.m2v_model.specs.Units.{Units, joined, unit_bits}
use Rattle.m2v_model.specs.Streams.{value_of}
use Rattle.m2v_model.specs.States.{none_waits}
use Rattle.m2v_model.specs.Pieces.{before_sequence, begins_piece}
use Rattle.m2v_model.specs.Pictures.{Events}
use Rattle.m2v_model.specs.ByPieces.{Between, Course, at_start, units_read, text_read}
use Rattle.m2v_model.proofs.CutLaws.{joined_bits, joined-append}
use Rattle.m2v_model.proofs.PieceLaws.{placed, finished, piece_is, text_is}
use Rattle.m2v_decode.specs.m2v_dec_piece.declared.answer.Piece.{Piece}
use Rattle.m2v_decode.specs.m2v_dec_piece.declared.answer.Fault.{Fault}
use Rattle.m2v_decode.specs.m2v_dec_piece.declared.answer.DecodeError.{DecodeError}
use Rattle.m2v_decode.specs.m2v_dec_piece.declared.answer.DecodeError.TheVariants as errors
use Rattle.m2v_decode.specs.Decoding.{Decoding, Refuses, between, whole_of}
use Rattle.m2v_decode.specs.Decoding as decoding
use Rattle.m2v_decode.specs.Reading.{Reading, Follows, LeadsOn, nothing_read}
use Rattle.m2v_decode.proofs.Following.{follows_none}
use Rattle.m2v_law_group.specs.Groups.{has_sequence, from_sequence, is_sequence}
use Rattle.m2v_law_seam.specs.Spans.{units_of, units_in, is_extension, extensions_first, Span, behind_extensions}
use Rattle.m2v_law_seam.specs.Seams.{bytes_or_none}
use Rattle.m2v_law_seam.specs.Reading.{BeginsOnePiece}
use Rattle.m2v_law_seam.specs.Faults.{only_header, header_by, header_units, header_place}
use Rattle.m2v_law_seam.proofs.Placing.{placed_ok}
use Rattle.m2v_law_seam.proofs.Tame.{extensions_parts}
use Rattle.m2v_mend.specs.declared.header.Header.{Header}
use Rattle.m2v_mend.specs.declared.member.Member.{Member}
use Rattle.m2v_mend.specs.declared.parts.SpanParts.{SpanParts}
use Rattle.m2v_mend.specs.Editing.{IsUnits, IsFromHeader}
use Rattle.m2v_mend.specs.Kept.{pieces_of, bodies}
use Rattle.m2v_mend.specs.Members.{AreLater, AreSpanPieces, IsMember, IsSpan, IsOfStretch}
use Rattle.m2v_mend.specs.Strand.{AreInTurn}
use Rattle.m2v_mend.specs.Opening.{IsCopy}
use Rattle.m2v_mend.specs.Header.{IsFront, HeaderTold, IsHeaded}
use Rattle.m2v_mend.proofs.CopyEdits.{copy_whole}
use Rattle.m2v_mend.proofs.FrontLaws.{from_front, from_there}
use Rattle.m2v_mend.proofs.HeadLaws.{no_extensions, extensions_step}

-- ---- how long it is

-- ---- what is read

waits_by : (o : Option FirstField) → is_some o ≡ not (none_waits o)
waits_by None = refl
waits_by (Some f) = refl

read_by : (es : Events) (b : Between) (end : ℕ) (w : Bool) → none_waits b.state.waiting ≡ w → header_by (finished end (Ok (es, b))) ≡ (if w then b.state.first else None)
read_by es b end true e = ap (λ (c : Bool). header_by (cond c (Ok (es, b)) (Err (FieldPair, 8 * end)))) e
read_by es b end false e = ap (λ (c : Bool). header_by (cond c (Ok (es, b)) (Err (FieldPair, 8 * end)))) e

header_text : (text : List ℕ) (r : Course) → units_read at_start (units_of text) ≡ r → header_by (text_read text) ≡ header_by (finished (length text) r)
header_text text r e = ap header_by (text_is text ∙ ap (finished (length text)) e)

faulty : (end n : ℕ) (r : Course) (f : FaultKind × ℕ) → placed end r ≡ Err f → header_by (finished n r) ≡ None
faulty end n (Ok y) f e = absurd cc
faulty end n (Err g) f e = refl

pub header_fault : (p : Piece) (old : Reading) (e : DecodeError) (f : Fault) → old ≡ nothing_read → e ≡ errors.Stream f → ((d : Decoding) → Follows old d → Refuses d p.place (whole_of p) e) → None ≡ header_by (text_read (whole_of p))
header_fault p old e f is same told =
    let w = whole_of p in
    let r : Refuses decoding.at_start p.place w (errors.Stream f) = subst (Refuses decoding.at_start p.place w) same (told decoding.at_start (subst (λ (x : Reading). Follows x decoding.at_start) (sym is) follows_none)) in
    let placed_so = sym (piece_is at_start (p.place + length w) w) ∙ r in
    sym (header_text w (units_read at_start (units_of w)) refl ∙ faulty (p.place + length w) (length w) (units_read at_start (units_of w)) (f.kind, f.place) placed_so)

-- what a piece that was read tells of its header
record HeaderRead (w : List ℕ) (r : Reading) : Type 0 where
  events : Events
  behind : Between
  read : units_read at_start (units_of w) ≡ Ok (events, behind)
  state : behind.state ≡ r.state

header_read : (p : Piece) (old : Reading) (notes : Notes) (r : Reading) → old ≡ nothing_read → ((d : Decoding) → Follows old d → LeadsOn d p.place (whole_of p) notes r) → HeaderRead (whole_of p) r
header_read p old notes r is told =
    let w = whole_of p in
    let l = told decoding.at_start (subst (λ (x : Reading). Follows x decoding.at_start) (sym is) follows_none) in
    record {
      events = (l.advanced).events;
      behind = between l.behind;
      read = placed_ok (p.place + length w) (units_read at_start (units_of w)) ((l.advanced).events, between l.behind) (sym (piece_is at_start (p.place + length w) w) ∙ (l.advanced).read);
      state = (l.follows).state;
    }

told_by : (p : Piece) (r : Reading) (b : Bool) → HeaderRead (whole_of p) r → is_some r.state.waiting ≡ b → header_by (text_read (whole_of p)) ≡ (if b then None else r.state.first)
told_by p r b h e =
    let w = whole_of p in
    let waits : none_waits (h.behind).state.waiting ≡ not b = ap (λ (st : State). none_waits st.waiting) h.state ∙ sym (not-not (none_waits r.state.waiting)) ∙ ap not (sym (waits_by r.state.waiting) ∙ e) in
    header_text w (Ok (h.events, h.behind)) h.read ∙ pick b (none_waits (h.behind).state.waiting) refl waits
  where
    pick : (b c : Bool) → none_waits (h.behind).state.waiting ≡ c → c ≡ not b → header_by (finished (length (whole_of p)) (Ok (h.events, h.behind))) ≡ (if b then None else r.state.first)
    pick true true ec e = absurd cc
    pick true false ec e = read_by h.events h.behind (length (whole_of p)) false ec
    pick false true ec e = read_by h.events h.behind (length (whole_of p)) true ec ∙ ap (λ (st : State). st.first) h.state
    pick false false ec e = absurd cc

pub header_waits : (p : Piece) (old : Reading) (notes : Notes) (r : Reading) (b : Bool) → old ≡ nothing_read → ((d : Decoding) → Follows old d → LeadsOn d p.place (whole_of p) notes r) → b ≡ is_some r.state.waiting → b ≡ true → None ≡ header_by (text_read (whole_of p))
header_waits p old notes r b is told e on = sym (told_by p r true (header_read p old notes r is told) (sym e ∙ on))

pub header_told : (p : Piece) (old : Reading) (notes : Notes) (r : Reading) (b : Bool) (o : Option Sequence) → old ≡ nothing_read → ((d : Decoding) → Follows old d → LeadsOn d p.place (whole_of p) notes r) → b ≡ is_some r.state.waiting → b ≡ false → o ≡ r.state.first → o ≡ header_by (text_read (whole_of p))
header_told p old notes r b o start told e off is = is ∙ sym (told_by p r false (header_read p old notes r start told) (sym e ∙ off))

-- ---- how many bytes it has

pub length_none : (all us : Units) (total : ℕ) → total + unit_bits (extensions_first us) ≡ unit_bits (only_header all) + unit_bits us → us ≡ [] → total / 8 ≡ length (joined (only_header all))
length_none all us total e none =
    let x = ap (λ (l : Units). unit_bits (extensions_first l)) none ∙ ap unit_bits no_extensions.0 in
    omega (arith, e, x, ap unit_bits none, joined_bits (only_header all))

pub length_here : (all us rest : Units) (u : List ℕ) (total left v : ℕ) → total + unit_bits (extensions_first us) ≡ unit_bits (only_header all) + unit_bits us → us ≡ u ∷ rest → v ≡ value_of u → (v ≡ 0xB5 → ⊥) → left ≡ unit_bits us → (total - left) / 8 ≡ length (joined (only_header all))
length_here all us rest u total left v e is value other l =
    let off : is_extension u ≡ false = ne_eqb (value_of u) 0xB5 (λ z. other (value ∙ z)) in
    let x = ap (λ (t : Units). unit_bits (extensions_first t)) is ∙ ap unit_bits (extensions_step u rest false off) in
    omega (arith, e, x, l, joined_bits (only_header all))

pub length_more : (all us rest : Units) (u : List ℕ) (total v : ℕ) → total + unit_bits (extensions_first us) ≡ unit_bits (only_header all) + unit_bits us → unit_bits us ≤ total → us ≡ u ∷ rest → v ≡ value_of u → v ≡ 0xB5
    → (unit_bits rest ≤ total) × (total + unit_bits (extensions_first rest) ≡ unit_bits (only_header all) + unit_bits rest)
length_more all us rest u total v e less is value on =
    let same : is_extension u ≡ true = eq-eqb (value_of u) 0xB5 (sym value ∙ on) in
    let x = ap (λ (t : Units). unit_bits (extensions_first t)) is ∙ ap unit_bits (extensions_step u rest true same) in
    let y = ap unit_bits is in
    (omega (arith, less, y), omega (arith, e, x, y))

-- ---- what is read of the header alone

only_parts : (us : Units) → (rest : Units) × (us ≡ only_header us ++ rest)
only_parts [] = ([], refl)
only_parts (u ∷ us) = (behind_extensions us, ap (λ (l : Units). u ∷ l) (extensions_parts us))

pub header_is : (p q : Piece) (n : ℕ) (o : Option Sequence) → n ≡ length (joined (only_header (units_of (whole_of p)))) → IsFront p n q → o ≡ header_by (text_read (whole_of q)) → HeaderTold p o
header_is p q n o is f e = λ units.
    let us = units_of (whole_of p) in
    let x = only_parts us in
    let whole : whole_of p ≡ joined (only_header us) ++ joined x.0 = units ∙ ap joined x.1 ∙ joined-append (only_header us) x.0 in
    let own : whole_of q ≡ joined (only_header us) = f.whole ∙ ap (take n) whole ∙ take_at (joined (only_header us)) (joined x.0) n (sym is) in
    e ∙ ap (λ (t : List ℕ). header_by (text_read t)) own

-- ---- a header of its own

-- the first unit isn't an extension
abbrev OtherFirst : Units → Type 0
OtherFirst [] = Unit {0}
OtherFirst (u ∷ us) = is_extension u ≡ false

extensions_front : (us vs : Units) → OtherFirst vs → extensions_first (us ++ vs) ≡ extensions_first us
extensions_front [] [] h = refl
extensions_front [] (v ∷ vs) h = extensions_step v vs false h ∙ sym no_extensions.0
extensions_front (u ∷ us) vs h = elim (cases_Bool (is_extension u)) [
  | inl on ↦ extensions_step u (us ++ vs) true on ∙ ap (λ (l : Units). u ∷ l) (extensions_front us vs h) ∙ sym (extensions_step u us true on)
  | inr off ↦ extensions_step u (us ++ vs) false off ∙ sym (extensions_step u us false off)
]

only_front : (us vs : Units) → 1 ≤ length us → OtherFirst vs → only_header (us ++ vs) ≡ only_header us
only_front [] vs some h = absurd (omega (arith, some))
only_front (u ∷ us) vs some h = ap (λ (l : Units). u ∷ l) (extensions_front us vs h)

begins_other : (us vs : Units) → BeginsOnePiece us → OtherFirst (us ++ vs)
unfolding begins_piece
begins_other [] vs h = absurd h
begins_other (u ∷ us) vs h = elim (cases_Bool (is_extension u)) [
  | inl on ↦ absurd (none (value_of u) (eqb-true (value_of u) 0xB5 on) h)
  | inr off ↦ off
]
  where
    none : (n : ℕ) → n ≡ 0xB5 → (nat_eq n 0x00 || nat_eq n 0xB3 || nat_eq n 0xB7 || nat_eq n 0xB8) ≡ true → ⊥
    none n e h = let wrong : false ≡ true = ap (λ (k : ℕ). nat_eq k 0x00 || nat_eq k 0xB3 || nat_eq k 0xB7 || nat_eq k 0xB8) (sym e) ∙ h in absurd cc

later_other : (ps : List (List ℕ)) → AreLater ps → OtherFirst (units_in ps)
unfolding units_in
later_other [] a = tt
later_other (p ∷ ps) a = begins_other (units_of p) (units_in ps) (a.0).begins

before_append : (us vs : Units) → has_sequence us ≡ true → before_sequence (us ++ vs) ≡ before_sequence us
unfolding has_sequence before_sequence
before_append [] vs h = absurd cc
before_append (u ∷ us) vs h = elim (cases_Bool (is_sequence u)) [ inl on ↦ rw on refl | inr off ↦ rw off (ap (λ (l : List ℕ). u ++ l) (before_append us vs (rw off at h))) ]

-- of pieces of which the first one has a sequence header
own_units_are : (place : ℕ) (head : Option (List ℕ)) (p : List ℕ) (ps : List (List ℕ)) → has_sequence (units_of p) ≡ true → AreLater ps → only_header (header_units (record { place = place; head = head; pieces = p ∷ ps })) ≡ only_header (from_sequence (units_of p))
unfolding units_in
own_units_are place head p ps on later =
    let us = units_of p in
    let vs = units_in ps in
    ap (λ (b : Bool). only_header (if b then from_sequence (us ++ vs) else units_of (bytes_or_none head))) on
    ∙ ap only_header (from_front us vs on) ∙ only_front (from_sequence us) vs (from_there us on) (later_other ps later)

own_place_is : (place : ℕ) (head : Option (List ℕ)) (p : List ℕ) (ps : List (List ℕ)) → has_sequence (units_of p) ≡ true → header_place (record { place = place; head = head; pieces = p ∷ ps }) ≡ 8 * (place + length (before_sequence (units_of p)))
unfolding units_in
own_place_is place head p ps on =
    ap (λ (b : Bool). if b then 8 * (place + length (before_sequence (units_of p ++ units_in ps))) else 8 * place) on
    ∙ ap (λ (l : List ℕ). 8 * (place + length l)) (before_append (units_of p) (units_in ps) on)

own_by : (place : ℕ) (head : Option (List ℕ)) (pieces : List (List ℕ)) (p : List ℕ) (ps : List (List ℕ)) (h : Header) → pieces ≡ p ∷ ps → AreSpanPieces pieces → has_sequence (units_of p) ≡ true → IsUnits h.piece → units_of (whole_of h.piece) ≡ from_sequence (units_of p) → h.place ≡ place + length (before_sequence (units_of p))
    → IsHeaded (record { place = place; head = head; pieces = pieces }) h
own_by place head pieces p ps h are span on units own at =
    let s = subst AreSpanPieces are span in
    subst (λ (l : List (List ℕ)). IsHeaded (record { place = place; head = head; pieces = l }) h) (sym are) (record {
      units = units;
      only = ap only_header own ∙ sym (own_units_are place head p ps on s.1);
      place = ap (λ (n : ℕ). 8 * n) at ∙ sym (own_place_is place head p ps on);
    })

pub headed_own : (s : Span) (x : SpanParts) (m : Member) (q r : Piece) → IsSpan s x → x.long ≡ false → IsOfStretch s → All IsMember x.members.items → 0 < length x.members.items → m ≡ get_or x.members.items 0 m → m.info.sequence ≡ true → IsCopy m.piece q → IsFromHeader q r
    → IsHeaded s (record { piece = r; place = r.place })
headed_own s x m q r is short st all some e on c f = by_members x.members.items refl all some e
  where
    own : (rest : List Member) → x.members.items ≡ m ∷ rest → IsMember m → IsHeaded s (record { piece = r; place = r.place })
    own rest same member =
        let p = whole_of m.piece in
        let has : has_sequence (units_of p) ≡ true = sym (member.info).sequence ∙ on in
        let copied = copy_whole m.piece q c in
        let turn = subst (λ (l : List Member). AreInTurn s.place (pieces_of l)) same (is.turn short) in
        own_by s.place s.head s.pieces p (bodies rest) (record { piece = r; place = r.place }) (sym (is.pieces short) ∙ ap bodies same) st.pieces has (f.bytes ∙ ap joined (sym f.units)) (f.units ∙ ap (λ (t : List ℕ). from_sequence (units_of t)) copied)
        (f.place ∙ ap (λ (t : List ℕ). q.place + length (before_sequence (units_of t))) copied ∙ ap (λ (n : ℕ). n + length (before_sequence (units_of p))) (c.place ∙ turn.0))

    by_members : (ms : List Member) → x.members.items ≡ ms → All IsMember ms → 0 < length ms → m ≡ get_or ms 0 m → IsHeaded s (record { piece = r; place = r.place })
    by_members [] same all some e = absurd (omega (arith, some))
    by_members (y ∷ rest) same all some e = own rest (same ∙ ap (λ (z : Member). z ∷ rest) (sym e)) (subst IsMember (sym e) (all 0 y (omega arith)))
