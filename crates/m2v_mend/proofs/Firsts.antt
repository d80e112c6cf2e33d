-- What the pieces of a span tell, piece by piece: the first picture, the first quant matrix extension, and how much there is.
use Rattle.std.proofs.Common.{◌≡◌, ℕ, suc, ◌+◌, ◌-◌, ◌*◌, ◌/◌, ◌%◌, ◌<◌, ◌≤◌, Bool, true, false, List, [], ◌∷◌, ◌++◌, length, take, drop, get_or, Some, None, inl, inr, refl, sym, ap, subst, ◌∙◌, append_assoc, append-nil, arith}
use Rattle.std.specs.Prelude.{nat_eq, nat_le, nat_lt, not, ◌&&◌, ◌||◌, cond, if◌then◌else◌, All}
use Rattle.std.proofs.lemmas.Bool.{cases_Bool, cases_lt, leb-true, le-leb, lt-ltb, le-ltb, eq-eqb, ne_eqb}
use Rattle.std.proofs.lemmas.List.{length-append, length-drop, take-append-drop, get_or_past, get_or-append-add}
use Rattle.std.proofs.Math.ListN.{get_or-append}
use Rattle.std.proofs.Math.Bool.{and-false}
use Rattle.m2v_bits.specs.Bits.{number}
use Rattle.m2v_bits.proofs.Cursor.{length-bits}
use Rattle.m2v_model.specs.declared.fault.FaultKind.{FaultKind}
use Rattle.m2v_model.specs.declared.fault.FaultKind.TheVariants.{NoSequence, MissingReference, Unsupported}
use Rattle.m2v_model.specs.Units.{Units, joined, body}
use Rattle.m2v_model.specs.Looking.{number_from}
use Rattle.m2v_model.proofs.CutLaws.{joined-append}
use Rattle.m2v_decode.specs.m2v_dec_piece.declared.answer.Piece.{Piece}
use Rattle.m2v_decode.specs.m2v_dec_piece.declared.answer.Fault.{Fault}
use Rattle.m2v_decode.specs.Decoding.{whole_of}
use Rattle.m2v_decode.proofs.EndLaws.{whole_length}
use Rattle.m2v_law_group.specs.Groups.{is_picture, has_picture, is_number, next_unit, coded_pictures}
use Rattle.m2v_law_group.proofs.Lists.{and_parts, or_parts}
use Rattle.m2v_law_seam.specs.Spans.{units_of, units_in, picture_count, is_kind, first_is, begins_kind, is_matrices, has_matrices, Span}
use Rattle.m2v_law_seam.specs.Seams.{frame_pieces, leading, reference_of, reference_at, first_reference}
use Rattle.m2v_law_seam.specs.Faults.{before_picture, before_matrices, has_head, begins_entry, picture_place}
use Rattle.m2v_law_seam.proofs.Told.{units_append, count_append, none_units, units_first, units_one}
use Rattle.m2v_law_seam.proofs.Groups.{picture_is, no_picture}
use Rattle.m2v_law_seam.proofs.Fields.{plain_first, shown_first}
use Rattle.m2v_mend.specs.declared.begin.Leading.{Leading}
use Rattle.m2v_mend.specs.declared.member.Member.{Member}
use Rattle.m2v_mend.specs.declared.opening.Shape.{Shape}
use Rattle.m2v_mend.specs.declared.parts.SpanParts.{SpanParts}
use Rattle.m2v_mend.specs.Kept.{pieces_of, bodies}
use Rattle.m2v_mend.specs.Members.{IsMember, IsSpan}
use Rattle.m2v_mend.specs.Strand.{AreInTurn}
use Rattle.m2v_mend.specs.Opening.{IsShape}
use Rattle.m2v_mend.specs.Putting.{IsLeading}
use Rattle.m2v_mend.specs.Telling.{IsInfo}
use Rattle.m2v_mend.specs.Alone.{HasFirstPicture, HasFirstMatrices, reference_from, is_able, UnableTold, LeadingTold}
use Rattle.m2v_mend.specs.Making.{fault_told}
use Rattle.m2v_mend.proofs.EditLaws.{past_get, within_get}
use Rattle.m2v_mend.proofs.Parting.{bodies_append, next_taken, next_parts}
use Rattle.m2v_mend.proofs.Openings.{leading_bodies, leading_count, frame_bodies}
use Rattle.m2v_mend.proofs.InfoLaws.{picture_here}
use Rattle.m2v_mend.proofs.HeadLaws.{matrices_append}

-- a piece among others
member_among : (front : List Member) (m : Member) (later : List Member) → All IsMember (front ++ m ∷ later) → IsMember m
member_among [] m later all = all 0 m (omega arith)
member_among (x ∷ front) m later all = member_among front m later (λ k d lt. all (suc k) d (omega (arith, lt)))

-- ---- one piece more

next_bodies : (ms : List Member) (i : ℕ) (m : Member) → i < length ms → m ≡ get_or ms i m → bodies (take (i + 1) ms) ≡ bodies (take i ms) ++ whole_of m.piece ∷ []
next_bodies ms i m lt is = ap bodies (next_taken ms i m lt is) ∙ bodies_append (take i ms) (m ∷ [])

next_units : (ms : List Member) (i : ℕ) (m : Member) → i < length ms → m ≡ get_or ms i m → units_in (bodies (take (i + 1) ms)) ≡ units_in (bodies (take i ms)) ++ units_of (whole_of m.piece)
next_units ms i m lt is =
    ap units_in (next_bodies ms i m lt is) ∙ units_append (bodies (take i ms)) (whole_of m.piece ∷ []) ∙ ap (λ (l : Units). units_in (bodies (take i ms)) ++ l) (units_one (whole_of m.piece))

-- ---- how many pictures

count_none : picture_count [] ≡ 0
unfolding picture_count
count_none = refl

pub no_pictures : picture_count (units_in []) ≡ 0
no_pictures = ap picture_count none_units ∙ count_none

pub pictures_next : (ms : List Member) (i : ℕ) (m : Member) (n k : ℕ) → i < length ms → m ≡ get_or ms i m → IsMember m → n ≡ picture_count (units_in (bodies (take i ms))) → k ≡ n + m.info.pictures → k ≡ picture_count (units_in (bodies (take (i + 1) ms)))
pictures_next ms i m n k lt is own before e =
    let us = units_of (whole_of m.piece) in
    let sum = ap picture_count (next_units ms i m lt is) ∙ count_append (units_in (bodies (take i ms))) us in
    omega (arith, before, e, sum, (own.info).pictures)

pub pictures_past : (ms : List Member) (i : ℕ) (m : Member) → i < length ms → m ≡ get_or ms i m → IsMember m → m.info.pictures ≤ 0 → picture_count (units_in (bodies (take i ms))) ≡ 0 → picture_count (units_in (bodies (take (i + 1) ms))) ≡ 0
pictures_past ms i m lt is own none before =
    let us = units_of (whole_of m.piece) in
    let sum = ap picture_count (next_units ms i m lt is) ∙ count_append (units_in (bodies (take i ms))) us in
    omega (arith, before, sum, (own.info).pictures, none)

pub picture_first : (ms : List Member) (i : ℕ) (m : Member) → i < length ms → m ≡ get_or ms i m → 0 < m.info.pictures → picture_count (units_in (bodies (take i ms))) ≡ 0 → HasFirstPicture ms m
picture_first ms i m lt is some none = record { front = take i ms; later = drop (i + 1) ms; are = next_parts ms i m lt is; none = none; some = omega (arith, some) }

-- ---- quant matrix extensions

matrices_none : has_matrices [] ≡ false
unfolding has_matrices
matrices_none = refl

pub no_matrices : has_matrices (units_in []) ≡ false
no_matrices = ap has_matrices none_units ∙ matrices_none

pub matrices_past : (ms : List Member) (i : ℕ) (m : Member) → i < length ms → m ≡ get_or ms i m → IsMember m → m.info.matrices ≡ false → has_matrices (units_in (bodies (take i ms))) ≡ false → has_matrices (units_in (bodies (take (i + 1) ms))) ≡ false
matrices_past ms i m lt is own off before =
    let us = units_of (whole_of m.piece) in
    ap has_matrices (next_units ms i m lt is) ∙ matrices_append (units_in (bodies (take i ms))) us ∙ ap (λ (b : Bool). b || has_matrices us) before ∙ sym (own.info).matrices ∙ off

pub matrices_first : (ms : List Member) (i : ℕ) (m : Member) → i < length ms → m ≡ get_or ms i m → m.info.matrices ≡ true → has_matrices (units_in (bodies (take i ms))) ≡ false → HasFirstMatrices ms m
matrices_first ms i m lt is some none = record { front = take i ms; later = drop (i + 1) ms; are = next_parts ms i m lt is; none = none; some = some }

-- ---- how many bytes

pub bytes_next : (ms : List Member) (i : ℕ) (m : Member) (n k : ℕ) → i < length ms → m ≡ get_or ms i m → IsMember m → n ≡ length (joined (bodies (take i ms))) → k ≡ n + (m.piece).length → k ≡ length (joined (bodies (take (i + 1) ms)))
bytes_next ms i m n k lt is own before e =
    let w = whole_of m.piece in
    let sum = ap (λ (l : List (List ℕ)). length (joined l)) (next_bodies ms i m lt is) ∙ ap length (joined-append (bodies (take i ms)) (w ∷ [])) in
    omega (arith, before, e, sum, length-append (joined (bodies (take i ms))) (w ++ []), length-append w [], whole_length m.piece own.sound)

-- ---- where they stand

pub turn_place : (at : ℕ) (front : List Member) (m : Member) (later : List Member) → AreInTurn at (pieces_of (front ++ m ∷ later)) → (m.piece).place ≡ at + length (joined (bodies front))
turn_place at [] m later h = omega (arith, h.0)
turn_place at (x ∷ front) m later h =
    let w = whole_of x.piece in
    let i = turn_place (at + length w) front m later h.1 in
    omega (arith, i, length-append w (joined (bodies front)))

-- bytes of pieces are those of their units
pub bytes_units : (front : List Member) (m : Member) (later : List Member) → All IsMember (front ++ m ∷ later) → joined (units_in (bodies front)) ≡ joined (bodies front)
bytes_units [] m later all = ap joined none_units
bytes_units (x ∷ front) m later all =
    let own = all 0 x (omega arith) in
    let w = whole_of x.piece in
    ap joined (units_first w (bodies front)) ∙ joined-append (units_of w) (units_in (bodies front))
    ∙ ap (λ (l : List ℕ). l ++ joined (units_in (bodies front))) (sym own.units)
    ∙ ap (λ (l : List ℕ). w ++ l) (bytes_units front m later (λ k d lt. all (suc k) d (omega (arith, lt))))

units_at : (ms front later : List Member) (m : Member) → ms ≡ front ++ m ∷ later → units_in (bodies ms) ≡ units_in (bodies front) ++ (units_of (whole_of m.piece) ++ units_in (bodies later))
units_at ms front later m is =
    ap (λ (l : List Member). units_in (bodies l)) is ∙ ap units_in (bodies_append front (m ∷ later)) ∙ units_append (bodies front) (bodies (m ∷ later))
    ∙ ap (λ (l : Units). units_in (bodies front) ++ l) (units_first (whole_of m.piece) (bodies later))

-- ---- the first picture among units

count_step : (u : List ℕ) (us : Units) (b : Bool) → is_picture u ≡ b → picture_count (u ∷ us) ≡ (if b then 1 else 0) + picture_count us
unfolding picture_count
count_step u us b e = rw e refl

off_first : (u : List ℕ) (us : Units) (b : Bool) → is_picture u ≡ b → picture_count (u ∷ us) ≡ 0 → (is_picture u ≡ false) × (picture_count us ≡ 0)
off_first u us true e none = absurd (omega (arith, none, count_step u us true e))
off_first u us false e none = (e, omega (arith, none, count_step u us false e))

coded_none : coded_pictures [] ≡ []
unfolding coded_pictures
coded_none = refl

pub coded_behind : (us vs : Units) → picture_count us ≡ 0 → coded_pictures (us ++ vs) ≡ coded_pictures vs
coded_behind [] vs none = refl
coded_behind (u ∷ us) vs none =
    let o = off_first u us (is_picture u) refl none in
    (plain_first u (us ++ vs) o.0).0 ∙ coded_behind us vs o.1

pub coded_empty : (us : Units) → picture_count us ≡ 0 → coded_pictures us ≡ []
coded_empty us none = ap coded_pictures (sym (append-nil us)) ∙ coded_behind us [] none ∙ coded_none

before_off : (u : List ℕ) (us : Units) → is_picture u ≡ false → before_picture 0 (u ∷ us) ≡ u ∷ before_picture 0 us
unfolding before_picture
before_off u us e = rw e refl

before_behind : (us vs : Units) → picture_count us ≡ 0 → before_picture 0 (us ++ vs) ≡ us ++ before_picture 0 vs
before_behind [] vs none = refl
before_behind (u ∷ us) vs none =
    let o = off_first u us (is_picture u) refl none in
    before_off u (us ++ vs) o.0 ∙ ap (λ (l : Units). u ∷ l) (before_behind us vs o.1)

-- units with a picture
record PictureIn (us : Units) : Type 0 where
  unit : List ℕ
  rest : Units
  are : us ≡ before_picture 0 us ++ unit ∷ rest
  is : is_picture unit ≡ true
  none : picture_count (before_picture 0 us) ≡ 0

picture_step : (u : List ℕ) (us : Units) (b : Bool) → is_picture u ≡ b → 1 ≤ picture_count (u ∷ us) → (1 ≤ picture_count us → PictureIn us) → PictureIn (u ∷ us)
picture_step u us true e some ih = record {
  unit = u;
  rest = us;
  are = ap (λ (l : Units). l ++ u ∷ us) (sym (picture_here u us e));
  is = e;
  none = ap picture_count (picture_here u us e) ∙ count_none;
}
picture_step u us false e some ih =
    let i = ih (omega (arith, some, count_step u us false e)) in
    let b = before_off u us e in
    record {
      unit = i.unit;
      rest = i.rest;
      are = ap (λ (l : Units). u ∷ l) i.are ∙ ap (λ (l : Units). l ++ i.unit ∷ i.rest) (sym b);
      is = i.is;
      none = ap picture_count b ∙ count_step u (before_picture 0 us) false e ∙ omega (arith, i.none);
    }

picture_in : (us : Units) → 1 ≤ picture_count us → PictureIn us
picture_in [] some = absurd (omega (arith, some, count_none))
picture_in (u ∷ us) some = picture_step u us (is_picture u) refl some (picture_in us)

before_front : (us vs : Units) → 1 ≤ picture_count us → before_picture 0 (us ++ vs) ≡ before_picture 0 us
before_front us vs some =
    let x = picture_in us some in
    let b = before_picture 0 us in
    ap (λ (l : Units). before_picture 0 (l ++ vs)) x.are ∙ ap (before_picture 0) (append_assoc b (x.unit ∷ x.rest) vs) ∙ before_behind b ((x.unit ∷ x.rest) ++ vs) x.none
    ∙ ap (λ (l : Units). b ++ l) (picture_here x.unit (x.rest ++ vs) x.is) ∙ append-nil b

-- the first of them, with what follows
coded_front : (us vs : Units) → (x : PictureIn us) → coded_pictures (us ++ vs) ≡ (x.unit, next_unit (x.rest ++ vs)) ∷ coded_pictures (x.rest ++ vs)
coded_front us vs x =
    let b = before_picture 0 us in
    ap (λ (l : Units). coded_pictures (l ++ vs)) x.are ∙ ap coded_pictures (append_assoc b (x.unit ∷ x.rest) vs) ∙ coded_behind b ((x.unit ∷ x.rest) ++ vs) x.none ∙ shown_first x.unit (x.rest ++ vs) x.is

-- ---- the temporal reference of an I picture

kind_long : (u : List ℕ) → is_kind 1 u ≡ true → 6 ≤ length u
unfolding number_from
kind_long u e = by_test (nat_le 13 (length (body u))) (number (take 3 (drop 10 (body u)))) refl e
  where
    by_test : (b : Bool) (n : ℕ) → nat_le 13 (length (body u)) ≡ b → is_number 1 (cond b (Some n) None) ≡ true → 6 ≤ length u
    by_test true n t h = let le = leb-true 13 (length (body u)) t in omega (arith, le, length-bits (drop 4 u), length-drop 4 u)
    by_test false n t h = absurd cc

-- a byte that is kept, or 0, is that of the whole piece
kept_byte : (p : Piece) (i : ℕ) → get_or p.bytes.items i 0 ≡ get_or (whole_of p) i 0
kept_byte p i = elim (cases_lt i (length p.bytes.items)) [
  | inl lt ↦ sym (within_get p.bytes.items _ i lt)
  | inr le ↦ get_or_past p.bytes.items i 0 le ∙ sym (past_get p.bytes.items _ i le)
]

unit_byte : (a u r : List ℕ) (k : ℕ) → k < length u → get_or (a ++ (u ++ r)) (length a + k) 0 ≡ get_or u k 0
unit_byte a u r k lt = get_or-append-add a (u ++ r) k 0 ∙ get_or-append u r 0 k lt

reference_front : (p : Piece) (place : ℕ) (x : PictureIn (units_of (whole_of p))) → whole_of p ≡ joined (units_of (whole_of p)) → place ≡ length (joined (before_picture 0 (units_of (whole_of p)))) → 6 ≤ length x.unit → reference_from p.bytes.items place ≡ reference_of x.unit % 1024
reference_front p place x whole is long =
    let us = units_of (whole_of p) in
    let a = joined (before_picture 0 us) in
    let w : whole_of p ≡ a ++ (x.unit ++ joined x.rest) = whole ∙ ap joined x.are ∙ joined-append (before_picture 0 us) (x.unit ∷ x.rest) in
    let byte : (k : ℕ) → k < length x.unit → get_or p.bytes.items (place + k) 0 ≡ get_or x.unit k 0 = λ k lt.
    kept_byte p (place + k) ∙ ap (λ (l : List ℕ). get_or l (place + k) 0) w ∙ ap (λ (n : ℕ). get_or (a ++ (x.unit ++ joined x.rest)) (n + k) 0) is ∙ unit_byte a x.unit (joined x.rest) k lt in
    ap (λ (n : ℕ). (4 * n + get_or p.bytes.items (place + 5) 0 / 64) % 1024) (byte 4 (omega (arith, long))) ∙ ap (λ (n : ℕ). (4 * get_or x.unit 4 0 + n / 64) % 1024) (byte 5 (omega (arith, long)))

reference_first : (u : List ℕ) (v : List ℕ) (ps : List (List ℕ × List ℕ)) → 6 ≤ length u → reference_at ((u, v) ∷ ps) ≡ reference_of u % 1024
reference_first u v ps long = ap (λ (b : Bool). if b then reference_of u % 1024 else 0) (le-leb 6 (length u) long)

pub no_kind : (ms : List Member) → picture_count (units_in (bodies ms)) ≡ 0 → begins_kind 1 (bodies ms) ≡ false
no_kind ms none = ap (first_is (λ p. is_kind 1 p.0)) (coded_empty (units_in (bodies ms)) none)

-- the pictures of all pieces begin with those of the first one that has some
coded_at : (ms : List Member) (m : Member) → (h : HasFirstPicture ms m) → coded_pictures (units_in (bodies ms)) ≡ coded_pictures (units_of (whole_of m.piece) ++ units_in (bodies h.later))
coded_at ms m h = ap coded_pictures (units_at ms h.front h.later m h.are) ∙ coded_behind (units_in (bodies h.front)) (units_of (whole_of m.piece) ++ units_in (bodies h.later)) h.none

pub kind_at : (ms : List Member) (m : Member) → (h : HasFirstPicture ms m) → begins_kind 1 (bodies ms) ≡ begins_kind 1 (whole_of m.piece ∷ bodies h.later)
kind_at ms m h = ap (first_is (λ p. is_kind 1 p.0)) (coded_at ms m h ∙ ap coded_pictures (sym (units_first (whole_of m.piece) (bodies h.later))))

pub reference_is : (ms : List Member) (m : Member) (r : ℕ) → All IsMember ms → HasFirstPicture ms m → r ≡ reference_from (m.piece).bytes.items m.info.picture_place → begins_kind 1 (bodies ms) ≡ true → r ≡ first_reference (bodies ms)
reference_is ms m r all h e kind =
    let own = member_among h.front m h.later (subst (All IsMember) h.are all) in
    let us = units_of (whole_of m.piece) in
    let vs = units_in (bodies h.later) in
    let x = picture_in us (omega (arith, h.some, (own.info).pictures)) in
    let coded = coded_at ms m h ∙ coded_front us vs x in
    let first : is_kind 1 x.unit ≡ true = sym (ap (first_is (λ p. is_kind 1 p.0)) coded) ∙ kind in
    let long = kind_long x.unit first in
    e ∙ reference_front m.piece m.info.picture_place x own.units (own.info).picture_place long ∙ sym (reference_first x.unit (next_unit (x.rest ++ vs)) (coded_pictures (x.rest ++ vs)) long) ∙ sym (ap reference_at coded)

pub reference_none : (ms : List Member) → picture_count (units_in (bodies ms)) ≡ 0 → 0 ≡ first_reference (bodies ms)
reference_none ms none = sym (ap reference_at (coded_empty (units_in (bodies ms)) none))

-- ---- a span with which no strand can begin, whatever its pieces are

picture_some : (us : Units) → 1 ≤ picture_count us → has_picture us ≡ true
picture_some us some = picture_is us ∙ lt-ltb 0 (picture_count us) some

module _ (s : Span) (x : SpanParts) (is : IsSpan s x) (short : x.long ≡ false) (headed : has_head s ≡ true) where
  bodies_are : bodies x.members.items ≡ s.pieces
  bodies_are = is.pieces short

  missing : (f : Fault) (n : ℕ) → f.kind ≡ MissingReference → f.place ≡ n → n ≡ picture_place s → fault_told f ≡ (if not (has_head s) then (NoSequence, 8 * s.place) else (MissingReference, picture_place s))
  missing f n kind place e =
      ap (λ (k : FaultKind). (k, f.place)) kind ∙ ap (λ (i : ℕ). (MissingReference, i)) (place ∙ e) ∙ ap (λ (b : Bool). if not b then (NoSequence, 8 * s.place) else (MissingReference, picture_place s)) (sym headed)

  able_by : (e k : Bool) → begins_entry s.pieces ≡ e → begins_kind 1 s.pieces ≡ k → is_able s ≡ (e && k)
  able_by e k ee ek = ap (λ (b : Bool). b && (begins_entry s.pieces && begins_kind 1 s.pieces)) headed ∙ ap (λ (b : Bool). b && begins_kind 1 s.pieces) ee ∙ ap (λ (b : Bool). e && b) ek

  pub unable_none : (f : Fault) → picture_count (units_in (bodies x.members.items)) ≡ 0 → (f.kind ≡ MissingReference) × (f.place ≡ 8 * x.place) → UnableTold s (Some f)
  unable_none f none e =
      let own : picture_count (units_in s.pieces) ≡ 0 = ap (λ (l : List (List ℕ)). picture_count (units_in l)) (sym bodies_are) ∙ none in
      let kind : begins_kind 1 s.pieces ≡ false = ap (begins_kind 1) (sym bodies_are) ∙ no_kind x.members.items none in
      let place : picture_place s ≡ 8 * s.place = ap (λ (b : Bool). if b then 8 * (s.place + length (joined (before_picture 0 (units_in s.pieces)))) else 8 * s.place) (no_picture (units_in s.pieces) own) in
      (able_by (begins_entry s.pieces) false refl kind ∙ and-false (begins_entry s.pieces), missing f (8 * x.place) e.0 e.1 (ap (λ (n : ℕ). 8 * n) is.place ∙ sym place))

  kind_is : (m : Member) (b : Bool) → All IsMember x.members.items → (h : HasFirstPicture x.members.items m) → ((p : List ℕ) (ps : List (List ℕ)) → IsInfo (units_of p) m.info → 1 ≤ m.info.pictures → b ≡ begins_kind 1 (p ∷ ps)) → b ≡ begins_kind 1 s.pieces
  kind_is m b all h told =
      told (whole_of m.piece) (bodies h.later) (member_among h.front m h.later (subst (All IsMember) h.are all)).info h.some ∙ sym (kind_at x.members.items m h) ∙ ap (begins_kind 1) bodies_are

  pub able_told : (m : Member) (b : Bool) → All IsMember x.members.items → HasFirstPicture x.members.items m → ((p : List ℕ) (ps : List (List ℕ)) → IsInfo (units_of p) m.info → 1 ≤ m.info.pictures → b ≡ begins_kind 1 (p ∷ ps)) → (x.entry && b) ≡ true → UnableTold s None
  able_told m b all h told both =
      let k = kind_is m b all h told in
      let p = and_parts x.entry b both in
      (headed, sym is.entry ∙ p.0, sym k ∙ p.1)

  place_is : (m : Member) → All IsMember x.members.items → HasFirstPicture x.members.items m → 8 * ((m.piece).place + m.info.picture_place) ≡ picture_place s
  place_is m all h =
      let ms = x.members.items in
      let own = member_among h.front m h.later (subst (All IsMember) h.are all) in
      let us = units_of (whole_of m.piece) in
      let vs = units_in (bodies h.later) in
      let front = units_in (bodies h.front) in
      let whole : units_in s.pieces ≡ front ++ (us ++ vs) = ap units_in (sym bodies_are) ∙ units_at ms h.front h.later m h.are in
      let some : 1 ≤ picture_count us = omega (arith, h.some, (own.info).pictures) in
      let count = ap picture_count whole ∙ count_append front (us ++ vs) in
      let there = picture_some (units_in s.pieces) (omega (arith, some, count, count_append us vs)) in
      let before : before_picture 0 (units_in s.pieces) ≡ front ++ before_picture 0 us = ap (before_picture 0) whole ∙ before_behind front (us ++ vs) h.none ∙ ap (λ (l : Units). front ++ l) (before_front us vs some) in
      let turn = turn_place s.place h.front m h.later (subst (λ (l : List Member). AreInTurn s.place (pieces_of l)) h.are (is.turn short)) in
      let bytes = ap length (bytes_units h.front m h.later (subst (All IsMember) h.are all)) in
      let size = ap (λ (l : Units). length (joined l)) before ∙ ap length (joined-append front (before_picture 0 us)) in
      let at : (m.piece).place + m.info.picture_place ≡ s.place + length (joined (before_picture 0 (units_in s.pieces))) =
      omega (arith, turn, bytes, size, length-append (joined front) (joined (before_picture 0 us)), (own.info).picture_place) in
      ap (λ (n : ℕ). 8 * n) at ∙ ap (λ (b : Bool). if b then 8 * (s.place + length (joined (before_picture 0 (units_in s.pieces)))) else 8 * s.place) (sym there)

  pub unable_told : (m : Member) (b : Bool) (f : Fault) → All IsMember x.members.items → HasFirstPicture x.members.items m → ((p : List ℕ) (ps : List (List ℕ)) → IsInfo (units_of p) m.info → 1 ≤ m.info.pictures → b ≡ begins_kind 1 (p ∷ ps)) → (x.entry && b) ≡ false
      → (f.kind ≡ MissingReference) × (f.place ≡ 8 * ((m.piece).place + m.info.picture_place)) → UnableTold s (Some f)
  unable_told m b f all h told off e =
      let k = kind_is m b all h told in
      (able_by x.entry b (sym is.entry) (sym k) ∙ off, missing f _ e.0 e.1 (place_is m all h))

-- ---- its leading pieces

matrices_off : (us vs : Units) → has_matrices us ≡ false → before_matrices (us ++ vs) ≡ us ++ before_matrices vs
unfolding has_matrices before_matrices
matrices_off [] vs e = refl
matrices_off (u ∷ us) vs e =
    let o = or_parts (is_matrices u) (has_matrices us) e in
    rw (o.0) (ap (λ (l : Units). u ∷ l) (matrices_off us vs o.1))

matrices_on : (us vs : Units) → has_matrices us ≡ true → before_matrices (us ++ vs) ≡ before_matrices us
unfolding has_matrices before_matrices
matrices_on [] vs e = absurd cc
matrices_on (u ∷ us) vs e = elim (cases_Bool (is_matrices u)) [
  | inl on ↦ rw on refl
  | inr off ↦ rw off (ap (λ (l : Units). u ∷ l) (matrices_on us vs (rw off at e)))
]

module _ (s : Span) (x : SpanParts) (is : IsSpan s x) (short : x.long ≡ false) (h : Shape) (shape : IsShape x.members.items h) where
  abbrev lead : List Member
  lead = take (h.behind - h.frame) (drop h.frame x.members.items)

  lead_is : bodies lead ≡ leading s.pieces
  lead_is = leading_bodies x.members.items h shape ∙ ap leading (is.pieces short)

  pub matrices_clear : has_matrices (units_in (bodies lead)) ≡ false → LeadingTold s None
  matrices_clear none = ap (λ (l : List (List ℕ)). has_matrices (units_in l)) (sym lead_is) ∙ none

  lead_parts : (ms : List Member) → ms ≡ take h.frame ms ++ (take (h.behind - h.frame) (drop h.frame ms) ++ drop (h.behind - h.frame) (drop h.frame ms))
  lead_parts ms = sym (take-append-drop h.frame ms) ∙ ap (λ (l : List Member). take h.frame ms ++ l) (sym (take-append-drop (h.behind - h.frame) (drop h.frame ms)))

  turn_at : (at : ℕ) (xs ys : List Member) → AreInTurn at (pieces_of (xs ++ ys)) → AreInTurn (at + length (joined (bodies xs))) (pieces_of ys)
  turn_at at [] ys t = let e : at ≡ at + 0 = omega arith in subst (λ (n : ℕ). AreInTurn n (pieces_of ys)) e t
  turn_at at (y ∷ xs) ys t =
      let w = whole_of y.piece in
      let e : at + length w + length (joined (bodies xs)) ≡ at + length (w ++ joined (bodies xs)) = omega (arith, length-append w (joined (bodies xs))) in
      subst (λ (n : ℕ). AreInTurn n (pieces_of ys)) e (turn_at (at + length w) xs ys t.1)

  pub matrices_told : (m : Member) (f : Fault) → All IsMember lead → HasFirstMatrices lead m → (f.kind ≡ Unsupported) × (f.place ≡ 8 * ((m.piece).place + m.info.matrices_place)) → LeadingTold s (Some f)
  matrices_told m f all i e =
      let ms = x.members.items in
      let own = member_among i.front m i.later (subst (All IsMember) i.are all) in
      let us = units_of (whole_of m.piece) in
      let vs = units_in (bodies i.later) in
      let front = units_in (bodies i.front) in
      let whole : units_in (leading s.pieces) ≡ front ++ (us ++ vs) = ap units_in (sym lead_is) ∙ units_at lead i.front i.later m i.are in
      let some : has_matrices us ≡ true = sym (own.info).matrices ∙ i.some in
      let has : has_matrices (units_in (leading s.pieces)) ≡ true =
      ap has_matrices whole ∙ matrices_append front (us ++ vs) ∙ ap (λ (b : Bool). b || has_matrices (us ++ vs)) i.none ∙ matrices_append us vs ∙ ap (λ (b : Bool). b || has_matrices vs) some in
      let before : before_matrices (units_in (leading s.pieces)) ≡ front ++ before_matrices us = ap before_matrices whole ∙ matrices_off front (us ++ vs) i.none ∙ ap (λ (l : Units). front ++ l) (matrices_on us vs some) in
      let behind = drop (h.behind - h.frame) (drop h.frame ms) in
      let turn = turn_at s.place (take h.frame ms) (lead ++ behind) (subst (λ (l : List Member). AreInTurn s.place (pieces_of l)) (lead_parts ms) (is.turn short)) in
      let inner : lead ++ behind ≡ i.front ++ m ∷ (i.later ++ behind) = ap (λ (l : List Member). l ++ behind) i.are ∙ append_assoc i.front (m ∷ i.later) behind in
      let at = turn_place (s.place + length (joined (bodies (take h.frame ms)))) i.front m (i.later ++ behind) (subst (λ (l : List Member). AreInTurn (s.place + length (joined (bodies (take h.frame ms)))) (pieces_of l)) inner turn) in
      let bytes = ap length (bytes_units i.front m i.later (subst (All IsMember) i.are all)) in
      let size = ap (λ (l : Units). length (joined l)) before ∙ ap length (joined-append front (before_matrices us)) in
      let first = ap (λ (l : List (List ℕ)). length (joined l)) (frame_bodies ms h shape ∙ ap (λ (l : List (List ℕ)). take (frame_pieces l) l) (is.pieces short)) in
      let sum : (m.piece).place + m.info.matrices_place ≡ s.place + length (joined (take (frame_pieces s.pieces) s.pieces)) + length (joined (before_matrices (units_in (leading s.pieces)))) =
      omega (arith, at, bytes, size, first, length-append (joined front) (joined (before_matrices us)), (own.info).matrices_place) in
      (has, ap (λ (k : FaultKind). (k, f.place)) e.0 ∙ ap (λ (n : ℕ). (Unsupported, n)) (e.1 ∙ ap (λ (n : ℕ). 8 * n) sum))

  some_by : nat_lt h.frame h.behind ≡ not (nat_eq (length (leading s.pieces)) 0)
  some_by =
      let n : length (leading s.pieces) ≡ h.behind - h.frame = ap (λ (l : List (List ℕ)). length (leading l)) (sym (is.pieces short)) ∙ leading_count x.members.items h shape in
      elim (cases_lt h.frame h.behind) [
        | inl lt ↦ lt-ltb h.frame h.behind lt ∙ ap not (sym (ne_eqb (length (leading s.pieces)) 0 (λ z. absurd (omega (arith, z, n, lt)))))
        | inr le ↦ le-ltb h.frame h.behind le ∙ ap not (sym (eq-eqb (length (leading s.pieces)) 0 (omega (arith, n, le))))
      ]

  pub leading_is : (l : Leading) (front : List Member) → l.some ≡ nat_lt h.frame h.behind → l.before ≡ length (joined (bodies front)) → front ≡ take h.frame x.members.items → l.bytes ≡ length (joined (bodies lead)) → l.pictures ≡ picture_count (units_in (bodies lead)) → IsLeading s l
  leading_is l front some before same bytes pictures = record {
    some = some ∙ some_by;
    before = before ∙ ap (λ (y : List Member). length (joined (bodies y))) same ∙ ap (λ (y : List (List ℕ)). length (joined y)) (frame_bodies x.members.items h shape ∙ ap (λ (y : List (List ℕ)). take (frame_pieces y) y) (is.pieces short));
    bytes = bytes ∙ ap (λ (y : List (List ℕ)). length (joined y)) lead_is;
    pictures = pictures ∙ ap (λ (y : List (List ℕ)). picture_count (units_in y)) lead_is;
  }
