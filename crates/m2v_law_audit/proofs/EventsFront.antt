-- The headers before the picture of a piece are what it tells before its picture: each in turn, and of the same kind.
use Rattle.std.proofs.Common.{◌≡◌, ℕ, zero, suc, ◌+◌, ◌*◌, ◌<◌, Bool, true, false, List, [], ◌∷◌, ◌++◌, length, map, Option, Some, None, Result, Ok, Err, refl, sym, ap, subst, ◌∙◌, append_assoc, arith}
use Rattle.std.specs.Prelude.{nat_eq, slice_get}
use Rattle.std.proofs.lemmas.Bool.{eqb-true}
use Rattle.std.proofs.lemmas.List.{append-nil, length-append}
use Rattle.m2v_bits.specs.Syntax.{bind}
use Rattle.m2v_bits.proofs.SyntaxLaws.{good}
use Rattle.m2v_model.specs.m2v_macroblock.m2v_head.declared.sequence.SequenceInfo.{SequenceInfo}
use Rattle.m2v_model.specs.m2v_macroblock.m2v_head.declared.sequence.SequenceExtension.{SequenceExtension}
use Rattle.m2v_model.specs.m2v_macroblock.m2v_head.declared.group.GroupInfo.{GroupInfo}
use Rattle.m2v_model.specs.declared.fault.FaultKind.{FaultKind}
use Rattle.m2v_model.specs.declared.state.Sequence.{Sequence}
use Rattle.m2v_model.specs.declared.state.Open.{Open}
use Rattle.m2v_model.specs.Units.{Units, cut, body}
use Rattle.m2v_model.specs.Slices.{large_in}
use Rattle.m2v_model.specs.States.{with_slice, with_unread_slice}
use Rattle.m2v_model.specs.Pieces.{begins_piece, is_end}
use Rattle.m2v_model.specs.Streams.{Part, sequence, group, picture, matrices, slice, unread_slice, skipped_unit, ending, over, after, value_of}
use Rattle.m2v_model.specs.Pictures.{Store, Events, sequence_header, group_header, coded_picture, closed, told_by}
use Rattle.m2v_model.specs.Lawful.{sequences_in}
use Rattle.m2v_model.specs.PieceNotes.{header_pair, notes_of}
use Rattle.m2v_model.specs.ByPieces.{Between, Course, behind, unit_read, after_part, units_read}
use Rattle.m2v_audit.proofs.m2v_check.m2v_model.HeaderLaws.{whole_header_lawful, group_lawful}
use Rattle.m2v_audit.proofs.m2v_check.m2v_model.SplitLaws.{KnownAt, known_at}
use Rattle.m2v_audit.proofs.m2v_check.m2v_model.FlowLaws.{part_read, read_once, unit_less}
use Rattle.m2v_audit.proofs.m2v_check.m2v_decode.m2v_dec_rows.UnitGifts.{IsLast, first_value, unit_says}
use Rattle.m2v_audit.proofs.m2v_check.Telling.{last_in, of_last}
use Rattle.m2v_audit.proofs.m2v_check.Ordered.{HeadersFirst}
use Rattle.m2v_audit.specs.declared.auditing.Auditing.{Auditing}
use Rattle.m2v_audit.specs.Auditing.{with_sequence, with_group, with_header, sequences_of, with_headers}
use Rattle.m2v_audit.specs.declared.headers.PieceHeader.{PieceHeader}
use Rattle.m2v_audit.specs.declared.headers.PieceHeader.TheVariants as headers
use Rattle.m2v_audit.specs.Front.{group_at, header_at, headers_from, front_of}
use Rattle.m2v_law_audit.proofs.EventsUnits.{IsPlain, ReadsGroup, HasExtension, IsPartOf, IsAtEnd, unit_is, known_on}

-- ---- headers and events

-- These are the headers among events of which none stands behind a picture.
abbrev pub Fronts : List PieceHeader → Events → Type 0
Fronts [] [] = Unit {0}
Fronts [] (sequence_header s ∷ es) = ⊥
Fronts [] (group_header g ∷ es) = ⊥
Fronts [] (coded_picture p ∷ es) = es ≡ []
Fronts (headers.Sequence bit ∷ hs) [] = ⊥
Fronts (headers.Sequence bit ∷ hs) (sequence_header s ∷ es) = Fronts hs es
Fronts (headers.Sequence bit ∷ hs) (group_header g ∷ es) = ⊥
Fronts (headers.Sequence bit ∷ hs) (coded_picture p ∷ es) = ⊥
Fronts (headers.Group bit g ∷ hs) [] = ⊥
Fronts (headers.Group bit g ∷ hs) (sequence_header s ∷ es) = ⊥
Fronts (headers.Group bit g ∷ hs) (group_header h ∷ es) = (g ≡ h) × Fronts hs es
Fronts (headers.Group bit g ∷ hs) (coded_picture p ∷ es) = ⊥

-- a sequence header as it is noted
abbrev pub Pair : Type 0
Pair = SequenceInfo × SequenceExtension

-- no unit stands behind an end code
abbrev pub EndsLast : Units → Type 0
EndsLast [] = Unit {0}
EndsLast (u ∷ us) = (is_end (value_of u) ≡ true → us ≡ []) × EndsLast us

-- ---- part by part

abbrev Claim : Type 1
Claim = Between → Units → Events → Between → Type 0

-- it holds where a part is the last one
abbrev AtLast : Claim → Type 0
AtLast Q = (b : Between) (us : Units) (p : Part) → IsAtEnd us → IsLast p → Q b us (told_by b.state b.store p) (after_part b p)

-- it holds in front of what it holds of
abbrev InFront : Claim → Type 0
InFront Q = (b : Between) (us mid : Units) (p : Part) (es : Events) (next : Between) → IsPartOf us p mid → Q (after_part b p) mid es next → Q b us (told_by b.state b.store p ++ es) next

abbrev Holds : Claim → Between → Units → Course → Type 0
Holds Q b us (Ok x) = Q b us x.0 x.1
Holds Q b us (Err f) = Unit {0}

module _ (Q : Claim) (last : AtLast Q) (front : InFront Q) where
  in_front : (b : Between) (us mid : Units) (p : Part) (c : Course) → IsPartOf us p mid → Holds Q (after_part b p) mid c → Holds Q b us (behind (told_by b.state b.store p) c)
  in_front b us mid p (Ok x) fits h = front b us mid p x.0 x.1 fits h
  in_front b us mid p (Err f) fits h = tt

  once : (b : Between) (us : Units) (r : Result ((Bool × Part) × Units) (FaultKind × ℕ)) → unit_read b.state us ≡ r → KnownAt b.state us
      → ((p : Part) (mid : Units) → r ≡ good ((true, p), mid) → KnownAt (after_part b p).state mid → Holds Q (after_part b p) mid (units_read (after_part b p) mid)) → Holds Q b us (bind r (part_read b))
  unfolding bind
  once b us (Err f) e k ih = tt
  once b us (Ok ((false, p), mid)) e k ih =
      let s = unit_is b.state us (false, p) mid k e in
      subst (λ (es : Events). Q b us es (after_part b p)) (sym (append-nil (told_by b.state b.store p))) (last b us p s ((unit_says b.state us (false, p) mid e).last refl))
  once b us (Ok ((true, p), mid)) e k ih =
      let s = unit_is b.state us (true, p) mid k e in
      in_front b us mid p (units_read (after_part b p) mid) s (ih p mid refl (known_at (after b.state p) mid (known_on b.state us p mid k s)))

  all_n : (n : ℕ) (b : Between) (us : Units) → length us < n → KnownAt b.state us → Holds Q b us (units_read b us)
  all_n zero b us lt k = absurd (omega arith)
  all_n (suc n) b us lt k =
      subst (Holds Q b us) (sym (read_once b us))
      (once b us (unit_read b.state us) refl k (λ p mid e known. all_n n (after_part b p) mid (let less = unit_less b.state us mid true p e refl in omega arith) known))

  -- what holds of the last part, and in front of what it holds of, holds of all units that are read behind a sequence header
  pub by_parts : (b : Between) (us : Units) (es : Events) (next : Between) → KnownAt b.state us → units_read b us ≡ Ok (es, next) → Q b us es next
  by_parts b us es next k e = subst (Holds Q b us) e (all_n (suc (length us)) b us (omega arith) k)

-- ---- the headers of units, one by one

from_picture : (bit : ℕ) (u : List ℕ) (us : Units) → value_of u ≡ 0x00 → headers_from bit (u ∷ us) ≡ []
unfolding headers_from
from_picture bit u us e = rw e refl

from_sequence : (bit : ℕ) (u : List ℕ) (us : Units) → value_of u ≡ 0xB3 → headers_from bit (u ∷ us) ≡ headers.Sequence bit ∷ headers_from (bit + 8 * length u) us
unfolding headers_from header_at
from_sequence bit u us e = rw e refl

from_plain : (bit : ℕ) (u : List ℕ) (us : Units) → IsPlain (value_of u) → headers_from bit (u ∷ us) ≡ headers_from (bit + 8 * length u) us
unfolding headers_from header_at
from_plain bit u us h = rw (h.0, h.1, h.2) refl

end_plain : (v : ℕ) → is_end v ≡ true → IsPlain v
unfolding is_end
end_plain v on = let e = eqb-true v 0xB7 on in (ap (λ (n : ℕ). nat_eq n 0x00) e, ap (λ (n : ℕ). nat_eq n 0xB3) e, ap (λ (n : ℕ). nat_eq n 0xB8) e)

extension_plain : (v : ℕ) → v ≡ 0xB5 → IsPlain v
extension_plain v e = (ap (λ (n : ℕ). nat_eq n 0x00) e, ap (λ (n : ℕ). nat_eq n 0xB3) e, ap (λ (n : ℕ). nat_eq n 0xB8) e)

group_is : (bit : ℕ) (u : List ℕ) (g : GroupInfo) → ReadsGroup u g → group_at bit u ≡ headers.Group bit g ∷ []
unfolding group_at
group_is bit u g h =
    let e = (whole_header_lawful group_lawful).only g (body u) h.0 h.1 in
    rw e refl

from_group : (bit : ℕ) (u : List ℕ) (us : Units) (g : GroupInfo) → value_of u ≡ 0xB8 → ReadsGroup u g → headers_from bit (u ∷ us) ≡ headers.Group bit g ∷ headers_from (bit + 8 * length u) us
unfolding headers_from header_at
from_group bit u us g e h = rw (e, group_is bit u g h) refl

from_last : (bit : ℕ) (us : Units) → IsAtEnd us → EndsLast us → headers_from bit us ≡ []
unfolding headers_from
from_last bit [] a l = refl
from_last bit (u ∷ us) a l =
    let plain = end_plain (value_of u) a in
    from_plain bit u us plain ∙ ap (headers_from (bit + 8 * length u)) (l.0 a)

-- ---- what is told

-- what is told of units of a piece: behind a picture at most that picture, else the headers first
abbrev Fronted : Claim
Fronted b us es next =
    (HeadersFirst true us → Fronts [] es)
    × (HeadersFirst false us → EndsLast us → b.state.picture ≡ None → (bit : ℕ) → Fronts (headers_from bit us) es)

pub closed_none : (o : Option Open) (store : Store) → o ≡ None → closed o store ≡ []
closed_none o store e = ap (λ (p : Option Open). closed p store) e

closed_fronts : (o : Option Open) (store : Store) → Fronts [] (closed o store)
closed_fronts None store = tt
closed_fronts (Some p) store = refl

closed_last : (b : Between) (us : Units) (next : Between) → IsAtEnd us → Fronted b us (closed b.state.picture b.store) next
closed_last b us next a = (
  λ h. closed_fronts b.state.picture b.store,
  λ h l shut bit. subst (λ (hs : List PieceHeader). Fronts hs (closed b.state.picture b.store)) (sym (from_last bit us a l)) (closed_fronts b.state.picture b.store),
)

last_fronted : AtLast Fronted
last_fronted b us p a =
    of_last (λ (q : Part). Fronted b us (told_by b.state b.store q) (after_part b q))
    (closed_last b us (after_part b ending) a) (closed_last b us (after_part b over) a) p

-- ---- in front of others

-- behind a unit that is no picture
first_behind : (u : List ℕ) (us : Units) → nat_eq (value_of u) 0x00 ≡ false → HeadersFirst false (u ∷ us) → HeadersFirst false us
first_behind u us off h = subst (λ (b : Bool). HeadersFirst b us) off h

-- where a picture stood before, no unit begins a piece
none_begins : (u : List ℕ) (us : Units) (v : ℕ) → value_of u ≡ v → begins_piece v ≡ true → HeadersFirst true (u ∷ us) → ⊥
none_begins u us v e on h = let d : false ≡ true = sym h.0 ∙ ap begins_piece e ∙ on in absurd cc

-- behind an extension
record Onward (us mid : Units) : Type 0 where
  first : HeadersFirst false mid
  ends : EndsLast mid
  from : (bit : ℕ) → (to : ℕ) × (headers_from bit us ≡ headers_from to mid)

behind_extension : (us mid : Units) → HasExtension us mid → HeadersFirst false us → EndsLast us → Onward us mid
behind_extension us mid x h l =
    let v = x.0 in
    let plain = extension_plain (value_of v) x.1 in
    let first = subst (HeadersFirst false) x.2 h in
    let ends = subst EndsLast x.2 l in
    record {
      first = first_behind v mid plain.0 first;
      ends = ends.1;
      from = λ bit. (bit + 8 * length v, ap (headers_from bit) x.2 ∙ from_plain bit v mid plain);
    }

plain_fronted : (b c : Between) (u : List ℕ) (us mid : Units) (es : Events) (next : Between) → IsPlain (value_of u) × (us ≡ mid) → (b.state.picture ≡ None → c.state.picture ≡ None) → Fronted c mid es next → Fronted b (u ∷ us) es next
plain_fronted b c u us mid es next fits keeps ih = (
  λ h. ih.0 (subst (HeadersFirst true) fits.1 h.1),
  λ h l shut bit.
      let to : ℕ = bit + 8 * length u in
      subst (λ (hs : List PieceHeader). Fronts hs es) (sym (from_plain bit u us fits.0 ∙ ap (headers_from to) fits.1))
      (ih.1 (subst (HeadersFirst false) fits.1 (first_behind u us fits.0.0 h)) (subst EndsLast fits.1 l.1) (keeps shut) to),
)

sequence_fronted : (b : Between) (u : List ℕ) (us mid : Units) (s : Sequence) (es : Events) (next : Between) → (value_of u ≡ 0xB3) × HasExtension us mid
    → Fronted (after_part b (sequence s)) mid es next → Fronted b (u ∷ us) ((closed b.state.picture b.store ++ sequence_header s ∷ []) ++ es) next
unfolding after begins_piece
sequence_fronted b u us mid s es next fits ih = (
  λ h. absurd (none_begins u us 0xB3 fits.0 refl h),
  λ h l shut bit.
      let on = behind_extension us mid fits.1 (first_behind u us (ap (λ (n : ℕ). nat_eq n 0x00) fits.0) h) l.1 in
      let to = on.from (bit + 8 * length u) in
      let hs : headers_from bit (u ∷ us) ≡ headers.Sequence bit ∷ headers_from to.0 mid = from_sequence bit u us fits.0 ∙ ap (λ (x : List PieceHeader). headers.Sequence bit ∷ x) to.1 in
      subst (λ (x : List PieceHeader). Fronts x ((closed b.state.picture b.store ++ sequence_header s ∷ []) ++ es)) (sym hs)
      (subst (λ (x : Events). Fronts (headers.Sequence bit ∷ headers_from to.0 mid) ((x ++ sequence_header s ∷ []) ++ es)) (sym (closed_none b.state.picture b.store shut))
      (ih.1 on.first on.ends refl to.0)),
)

group_fronted : (b : Between) (u : List ℕ) (us mid : Units) (g : GroupInfo) (es : Events) (next : Between) → (value_of u ≡ 0xB8) × ReadsGroup u g × (us ≡ mid)
    → Fronted (after_part b (group g)) mid es next → Fronted b (u ∷ us) ((closed b.state.picture b.store ++ group_header g ∷ []) ++ es) next
unfolding after begins_piece
group_fronted b u us mid g es next fits ih = (
  λ h. absurd (none_begins u us 0xB8 fits.0 refl h),
  λ h l shut bit.
      let to : ℕ = bit + 8 * length u in
      let first = first_behind u us (ap (λ (n : ℕ). nat_eq n 0x00) fits.0) h in
      let hs : headers_from bit (u ∷ us) ≡ headers.Group bit g ∷ headers_from to mid = from_group bit u us g fits.0 fits.1 ∙ ap (λ (x : Units). headers.Group bit g ∷ headers_from to x) fits.2 in
      subst (λ (x : List PieceHeader). Fronts x ((closed b.state.picture b.store ++ group_header g ∷ []) ++ es)) (sym hs)
      (subst (λ (x : Events). Fronts (headers.Group bit g ∷ headers_from to mid) ((x ++ group_header g ∷ []) ++ es)) (sym (closed_none b.state.picture b.store shut))
      (refl, ih.1 (subst (HeadersFirst false) fits.2 first) (subst EndsLast fits.2 l.1) refl to)),
)

picture_fronted : (b c : Between) (u : List ℕ) (us mid : Units) (es : Events) (next : Between) → (value_of u ≡ 0x00) × HasExtension us mid → Fronted c mid es next → Fronted b (u ∷ us) (closed b.state.picture b.store ++ es) next
unfolding begins_piece
picture_fronted b c u us mid es next fits ih = (
  λ h. absurd (none_begins u us 0x00 fits.0 refl h),
  λ h l shut bit.
      let seen : HeadersFirst true us = subst (λ (x : Bool). HeadersFirst x us) (ap (λ (n : ℕ). nat_eq n 0x00) fits.0) h in
      let first = subst (HeadersFirst true) fits.1.2 seen in
      subst (λ (x : List PieceHeader). Fronts x (closed b.state.picture b.store ++ es)) (sym (from_picture bit u us fits.0))
      (subst (λ (x : Events). Fronts [] (x ++ es)) (sym (closed_none b.state.picture b.store shut)) (ih.0 first.1)),
)

sliced_none : (o : Option Open) (row covered large : ℕ) → o ≡ None → with_slice o row covered large ≡ None
sliced_none o row covered large e = ap (λ (p : Option Open). with_slice p row covered large) e

unread_none : (o : Option Open) (row : ℕ) → o ≡ None → with_unread_slice o row ≡ None
unread_none o row e = ap (λ (p : Option Open). with_unread_slice p row) e

front_fronted : InFront Fronted
unfolding after
front_fronted b [] mid p es next fits ih = absurd fits
front_fronted b (u ∷ us) mid (sequence s) es next fits ih = sequence_fronted b u us mid s es next fits ih
front_fronted b (u ∷ us) mid (group g) es next fits ih = group_fronted b u us mid g es next fits ih
front_fronted b (u ∷ us) mid (picture info extension) es next fits ih = picture_fronted b (after_part b (picture info extension)) u us mid es next fits ih
front_fronted b (u ∷ us) mid (matrices m) es next fits ih = plain_fronted b (after_part b (matrices m)) u us mid es next fits (λ e. e) ih
front_fronted b (u ∷ us) mid (slice row x) es next fits ih = plain_fronted b (after_part b (slice row x)) u us mid es next fits (λ e. sliced_none b.state.picture row x.covered (large_in x) e) ih
front_fronted b (u ∷ us) mid (unread_slice row w) es next fits ih = plain_fronted b (after_part b (unread_slice row w)) u us mid es next fits (λ e. unread_none b.state.picture row e) ih
front_fronted b (u ∷ us) mid (skipped_unit w) es next fits ih = plain_fronted b (after_part b (skipped_unit w)) u us mid es next fits (λ e. e) ih
front_fronted b (u ∷ us) mid ending es next fits ih = absurd fits
front_fronted b (u ∷ us) mid over es next fits ih = absurd fits

-- The headers of a piece that is read are those among its events.
pub front_is : (b : Between) (p : List ℕ) (es : Events) (next : Between) (place : ℕ) → units_read b (cut 0 p).1 ≡ Ok (es, next) → KnownAt b.state (cut 0 p).1 → HeadersFirst false (cut 0 p).1 → EndsLast (cut 0 p).1
    → b.state.picture ≡ None → Fronts (front_of place p) es
front_is b p es next place e k h l shut = (by_parts Fronted last_fronted front_fronted b (cut 0 p).1 es next k e).1 h l shut (8 * place)

-- a sequence header stands first among events
abbrev pub BeginsBySequence : Events → Type 0
BeginsBySequence es = (s : Sequence) × (later : Events) × (es ≡ sequence_header s ∷ later)

first_event : (bit : ℕ) (hs : List PieceHeader) (es : Events) → Fronts (headers.Sequence bit ∷ hs) es → BeginsBySequence es
first_event bit hs [] f = absurd f
first_event bit hs (sequence_header s ∷ es) f = (s, es, refl)
first_event bit hs (group_header g ∷ es) f = absurd f
first_event bit hs (coded_picture p ∷ es) f = absurd f

first_unit : (bit : ℕ) (us : Units) (es : Events) → first_value us ≡ Some 0xB3 → Fronts (headers_from bit us) es → BeginsBySequence es
first_unit bit [] es e f = absurd cc
first_unit bit (u ∷ us) es e f =
    let same : value_of u ≡ 0xB3 = cc in
    first_event bit (headers_from (bit + 8 * length u) us) es (subst (λ (hs : List PieceHeader). Fronts hs es) (from_sequence bit u us same) f)

-- A piece whose first unit is a sequence header tells that first.
pub begins_by_sequence : (place : ℕ) (p : List ℕ) (es : Events) → first_value (cut 0 p).1 ≡ Some 0xB3 → Fronts (front_of place p) es → BeginsBySequence es
begins_by_sequence place p es e f = first_unit (8 * place) (cut 0 p).1 es e f

-- ---- the last sequence header

-- what was noted of sequence headers, of which so many were passed, goes on with these
pub record GoesOn (ss : List Pair) (k : ℕ) (later : List Pair) : Type 0 where
  pub before : List Pair
  pub are : ss ≡ before ++ later
  pub passed : k ≡ length before

pub all_go_on : (ss : List Pair) → GoesOn ss 0 ss
all_go_on ss = record { before = []; are = refl; passed = refl }

get_seam : (before : List Pair) (s : Pair) (later : List Pair) → slice_get (before ++ s ∷ later) (length before) ≡ Some s
get_seam [] s later = refl
get_seam (x ∷ before) s later = get_seam before s later

pub first_of_rest : (ss : List Pair) (k : ℕ) (s : Pair) (later : List Pair) → GoesOn ss k (s ∷ later) → slice_get ss k ≡ Some s
first_of_rest ss k s later g = (λ i. slice_get (g.are i) (g.passed i)) ∙ get_seam g.before s later

pub go_on_behind : (ss : List Pair) (k : ℕ) (s : Pair) (later : List Pair) → GoesOn ss k (s ∷ later) → GoesOn ss (k + 1) later
go_on_behind ss k s later g = record {
  before = g.before ++ s ∷ [];
  are = g.are ∙ sym (append_assoc g.before (s ∷ []) later);
  passed = omega (arith, g.passed, length-append g.before (s ∷ []));
}

last_of : (hs : List PieceHeader) (es : Events) (a : Auditing) (ss : List Pair) (k : ℕ) → Fronts hs es → GoesOn ss k (map header_pair (sequences_in es)) → (with_headers a ss k hs).sequence ≡ last_in a.sequence es
unfolding with_headers with_header sequences_of
last_of [] [] a ss k f g = refl
last_of [] (sequence_header s ∷ es) a ss k f g = absurd f
last_of [] (group_header x ∷ es) a ss k f g = absurd f
last_of [] (coded_picture p ∷ es) a ss k f g = sym (ap (last_in a.sequence) f)
last_of (headers.Sequence bit ∷ hs) [] a ss k f g = absurd f
last_of (headers.Sequence bit ∷ hs) (sequence_header s ∷ es) a ss k f g =
    let later = map header_pair (sequences_in es) in
    ap (λ (o : Option Pair). (with_headers (with_header a (headers.Sequence bit) o) ss (k + 1) hs).sequence) (first_of_rest ss k (header_pair s) later g)
    ∙ last_of hs es (with_sequence a bit s) ss (k + 1) f (go_on_behind ss k (header_pair s) later g)
last_of (headers.Sequence bit ∷ hs) (group_header x ∷ es) a ss k f g = absurd f
last_of (headers.Sequence bit ∷ hs) (coded_picture p ∷ es) a ss k f g = absurd f
last_of (headers.Group bit x ∷ hs) [] a ss k f g = absurd f
last_of (headers.Group bit x ∷ hs) (sequence_header s ∷ es) a ss k f g = absurd f
last_of (headers.Group bit x ∷ hs) (group_header y ∷ es) a ss k f g = last_of hs es (with_group a bit x) ss (k + 0) f.1 (subst (λ (n : ℕ). GoesOn ss n (map header_pair (sequences_in es))) (omega arith) g)
last_of (headers.Group bit x ∷ hs) (coded_picture p ∷ es) a ss k f g = absurd f

-- Behind the headers of a piece the last sequence header is that of its events, or the one before.
pub last_sequence : (a : Auditing) (place : ℕ) (p : List ℕ) (es : Events) → Fronts (front_of place p) es → (with_headers a (notes_of place p es).sequences 0 (front_of place p)).sequence ≡ last_in a.sequence es
unfolding notes_of
last_sequence a place p es f = last_of (front_of place p) es a (map header_pair (sequences_in es)) 0 f (all_go_on (map header_pair (sequences_in es)))
