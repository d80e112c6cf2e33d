-- What becomes of the pieces with which a strand would begin.
use Rattle.std.proofs.Common.{◌≡◌, ℕ, zero, suc, ◌+◌, ◌-◌, ◌*◌, ◌<◌, ◌≤◌, Bool, true, false, List, [], ◌∷◌, ◌++◌, length, take, drop, get_or, Option, Some, None, Result, Ok, Err, refl, sym, ap, subst, ◌∙◌, arith}
use Rattle.std.specs.Prelude.{max, not, ◌&&◌, if◌then◌else◌, is_none}
use Rattle.std.specs.Global.{Vec}
use Rattle.std.proofs.Math.Bool.{and-false}
use Rattle.m2v_model.specs.declared.fault.FaultKind.TheVariants.{Truncated, Unsupported, MissingReference}
use Rattle.m2v_model.specs.declared.state.Sequence.{Sequence}
use Rattle.m2v_model.specs.Units.{Units, joined, cut}
use Rattle.m2v_model.specs.Pieces.{limit}
use Rattle.m2v_model.specs.ByPieces.{Between, Course, at_start}
use Rattle.m2v_model.proofs.CutLaws.{joined-append}
use Rattle.m2v_decode.specs.m2v_dec_piece.declared.answer.Piece.{Piece}
use Rattle.m2v_decode.specs.m2v_dec_piece.declared.answer.Fault.{Fault}
use Rattle.m2v_decode.specs.Decoding.{between, whole_of}
use Rattle.m2v_law_seam.specs.Spans.{units_of, Span, end_of_span}
use Rattle.m2v_law_seam.specs.Seams.{frame_pieces, leading, first_reference, without_leading_pieces, pieces_opened, opened_pieces}
use Rattle.m2v_law_seam.specs.Strands.{all_fit, is_strand, is_read, last_open}
use Rattle.m2v_law_seam.specs.Faults.{ends_kept, ends_from, read_at, opened_by, fault_opened, has_head}
use Rattle.m2v_law_seam.specs.Reading.{CanGoBehind, HasRead}
use Rattle.m2v_law_seam.proofs.Placing.{no_units}
use Rattle.m2v_mend.specs.declared.member.Member.{Member}
use Rattle.m2v_mend.specs.declared.parts.SpanParts.{SpanParts}
use Rattle.m2v_mend.specs.declared.refusal.Refusal.{Refusal}
use Rattle.m2v_mend.specs.declared.refusal.Refusal.TheVariants as refusals
use Rattle.m2v_mend.specs.Kept.{pieces_of, bodies}
use Rattle.m2v_mend.specs.Members.{IsSpan, IsOfStretch}
use Rattle.m2v_mend.specs.Strand.{StrandState, wholes_of, ends_of, IsAt, Told, course_of, Refused}
use Rattle.m2v_mend.specs.Opening.{ends_opened, items_of, OpenedTold}
use Rattle.m2v_mend.specs.Alone.{course_at_start, IsRefusal, ReadTold, FaultOf, StrandTold}
use Rattle.m2v_mend.specs.Making.{fault_told}
use Rattle.m2v_mend.proofs.Parting.{wholes_append, ends_at, next_taken, ends_in_turn}
use Rattle.m2v_mend.proofs.Standalone.{can_open}
use Rattle.m2v_mend.proofs.SpanLaws.{fit_append, fit_one}

-- ---- pieces one by one

pub fit_none : all_fit [] ≡ true
unfolding all_fit
fit_none = refl

next_wholes : (ps : List Piece) (i : ℕ) (p : Piece) → i < length ps → p ≡ get_or ps i p → wholes_of (take (i + 1) ps) ≡ wholes_of (take i ps) ++ whole_of p ∷ []
next_wholes ps i p lt is = ap wholes_of (next_taken ps i p lt is) ∙ wholes_append (take i ps) (p ∷ [])

pub fit_more : (ps : List Piece) (i : ℕ) (p : Piece) → i < length ps → p ≡ get_or ps i p → all_fit (wholes_of (take i ps)) ≡ true → is_none (limit 0 0 (whole_of p)) ≡ true → all_fit (wholes_of (take (i + 1) ps)) ≡ true
fit_more ps i p lt is before own =
    ap all_fit (next_wholes ps i p lt is) ∙ fit_append (wholes_of (take i ps)) (whole_of p ∷ []) ∙ ap (λ (b : Bool). b && all_fit (whole_of p ∷ [])) before ∙ fit_one (whole_of p) ∙ own

unfit : (x : Piece) (xs : List Piece) → is_none (limit 0 0 (whole_of x)) ≡ false → all_fit (wholes_of (x ∷ xs)) ≡ false
unfit x xs e = fit_append (whole_of x ∷ []) (wholes_of xs) ∙ ap (λ (b : Bool). b && all_fit (wholes_of xs)) (fit_one (whole_of x) ∙ e)

pub fit_stops : (ps : List Piece) (i : ℕ) (p : Piece) → i < length ps → p ≡ get_or ps i p → is_none (limit 0 0 (whole_of p)) ≡ false → false ≡ all_fit (wholes_of ps)
fit_stops [] i p lt is own = absurd (omega (arith, lt))
fit_stops (q ∷ ps) zero p lt is own = sym (unfit q ps (ap (λ (x : Piece). is_none (limit 0 0 (whole_of x))) (sym is) ∙ own))
fit_stops (q ∷ ps) (suc i) p lt is own =
    sym (
    fit_append (whole_of q ∷ []) (wholes_of ps) ∙ ap (λ (b : Bool). all_fit (whole_of q ∷ []) && b) (sym (fit_stops ps i p (omega (arith, lt)) is own)) ∙ and-false (all_fit (whole_of q ∷ []))
    )

-- ---- what is read from nothing on

from_nothing : (s : StrandState) → (at : IsAt s []) → between at.decoder ≡ at_start
from_nothing s at =
    let h = subst (λ (us : Units). HasRead us at.events (between at.decoder)) no_units (at.come).has in
    h.1

pub read_strand : (s z : StrandState) (first : Option Sequence) (ps : List Piece) → s.opening ≡ false → (at : IsAt s []) → Told at.decoder s first [] ps None z → z.opening ≡ s.opening → ReadTold first ps (Ok z)
read_strand s z first ps other at told same =
    (ap (λ (b : Bool). is_strand b first (joined (wholes_of ps))) (sym other) ∙ told.0, told.1, same ∙ other)

is_course : (s : StrandState) (ps : List Piece) → (at : IsAt s []) → course_at_start ps ≡ course_of at.decoder ps
is_course s ps at = ap (λ (b : Between). read_at b 0 (ends_of ps) (wholes_of ps)) (sym (from_nothing s at))

refused_by : (s : StrandState) (first : Option Sequence) (ps : List Piece) (x : Refusal) → (at : IsAt s []) → Refused at.decoder s first [] ps x → IsRefusal ps x
refused_by s first ps refusals.Open at h = h.0
refused_by s first ps (refusals.Fault f) at h = (h.0, is_course s ps at ∙ h.1)
refused_by s first ps (refusals.Rule place) at h = (h.0, ap is_read (is_course s ps at ∙ ((h.2).1).read))
refused_by s first ps refusals.Other at h = (h.0, ap is_read (is_course s ps at ∙ ((h.1).2).read))

pub read_refused : (s z : StrandState) (first : Option Sequence) (ps : List Piece) (x : Refusal) → s.opening ≡ false → (at : IsAt s []) → Told at.decoder s first [] ps (Some x) z → ReadTold first ps (Err x)
read_refused s z first ps x other at told = (ap (λ (b : Bool). is_strand b first (joined (wholes_of ps))) (sym other) ∙ told.0, refused_by s first ps x at told.1)

-- ---- of a span

module _ (s : Span) (x : SpanParts) (is : IsSpan s x) (short : x.long ≡ false) where
  pub span_bodies : bodies x.members.items ≡ s.pieces
  span_bodies = is.pieces short

  pub pieces_same : (low : ℕ) → low ≡ first_reference s.pieces → pieces_opened low (items_of x.head) (without_leading_pieces (bodies x.members.items)) ≡ opened_pieces s
  pieces_same low e =
      ap (λ (n : ℕ). pieces_opened n (items_of x.head) (without_leading_pieces (bodies x.members.items))) e
      ∙ ap (λ (h : Option (List ℕ)). pieces_opened (first_reference s.pieces) h (without_leading_pieces (bodies x.members.items))) is.head
      ∙ ap (λ (l : List (List ℕ)). pieces_opened (first_reference s.pieces) s.head (without_leading_pieces l)) span_bodies

  pub ends_same : ends_opened x.members.items ≡ ends_kept s
  ends_same =
      let e : ends_at x.members.items ≡ ends_from s.place s.pieces = ends_in_turn (pieces_of x.members.items) s.place (is.turn short) ∙ ap (ends_from s.place) span_bodies in
      ap (λ (l : List ℕ). take (frame_pieces (bodies x.members.items)) l ++ drop (frame_pieces (bodies x.members.items) + length (leading (bodies x.members.items))) l) e
      ∙ ap (λ (ps : List (List ℕ)). take (frame_pieces ps) (ends_from s.place s.pieces) ++ drop (frame_pieces ps + length (leading ps)) (ends_from s.place s.pieces)) span_bodies

  -- the strand reads
  pub strand_told : (first : Option Sequence) (old new ps : List Piece) (z : StrandState) → all_fit (opened_pieces s) ≡ true → wholes_of ps ≡ opened_pieces s → ReadTold first ps (Ok z) → new ≡ old ++ ps → StrandTold first s old new (Ok z)
  strand_told first old new ps z fit whole r e = (
    fit,
    ap (λ (l : List (List ℕ)). is_strand false first (joined l)) (sym whole) ∙ r.0,
    subst (λ (l : List (List ℕ)). IsAt z (joined l)) whole r.1,
    r.2,
    ap (λ (l : List Piece). joined (wholes_of l)) e ∙ ap joined (wholes_append old ps) ∙ joined-append (wholes_of old) (wholes_of ps) ∙ ap (λ (l : List (List ℕ)). joined (wholes_of old) ++ joined l) whole,
  )

  first_at : (p : Piece) (ps : List Piece) → read_at at_start s.place (ends_of (p ∷ ps)) (wholes_of (p ∷ ps)) ≡ course_at_start (p ∷ ps)
  unfolding read_at
  first_at p ps = refl

  -- its course is that of the pieces as they were read
  course_same : (ps : List Piece) → 1 ≤ length (wholes_of ps) → wholes_of ps ≡ opened_pieces s → ends_of ps ≡ ends_kept s → read_at at_start s.place (ends_kept s) (opened_pieces s) ≡ course_at_start ps
  course_same ps some whole ends =
      ap (λ (l : List (List ℕ)). read_at at_start s.place (ends_kept s) l) (sym whole) ∙ ap (λ (l : List ℕ). read_at at_start s.place l (wholes_of ps)) (sym ends) ∙ some_at ps some
    where
      some_at : (ps : List Piece) → 1 ≤ length (wholes_of ps) → read_at at_start s.place (ends_of ps) (wholes_of ps) ≡ course_at_start ps
      some_at [] le = absurd (omega (arith, le))
      some_at (p ∷ ps) le = first_at p ps

  open_by : (b : Bool) (r : Course) → last_open (cut 0 (joined (opened_pieces s))).1 ≡ b → read_at at_start s.place (ends_kept s) (opened_pieces s) ≡ r → fault_opened s ≡ (if b then (Truncated, 8 * end_of_span s - 24) else opened_by s r)
  open_by b r eb er = ap (λ (c : Bool). if c then (Truncated, 8 * end_of_span s - 24) else opened_by s (read_at at_start s.place (ends_kept s) (opened_pieces s))) eb ∙ ap (λ (c : Course). if b then (Truncated, 8 * end_of_span s - 24) else opened_by s c) er

  good_by : (r : Course) → is_read r ≡ true → opened_by s r ≡ (MissingReference, 8 * s.place)
  good_by (Ok y) e = refl
  good_by (Err f) e = absurd cc

  fault_is : (ps : List Piece) (r : Refusal) (f : Fault) → 1 ≤ length (wholes_of ps) → wholes_of ps ≡ opened_pieces s → ends_of ps ≡ ends_kept s → IsRefusal ps r → FaultOf x.place x.bytes r f → fault_told f ≡ fault_opened s
  fault_is ps refusals.Open f some whole ends r e =
      let end : 8 * (x.place + x.bytes) - 24 ≡ 8 * end_of_span s - 24 = ap (λ (n : ℕ). 8 * n - 24) (ap (λ (n : ℕ). n + x.bytes) is.place ∙ ap (λ (n : ℕ). s.place + n) is.bytes) in
      e ∙ ap (λ (n : ℕ). (Truncated, n)) end ∙ sym (open_by true _ (ap (λ (l : List (List ℕ)). last_open (units_of (joined l))) (sym whole) ∙ r) refl)
  fault_is ps (refusals.Fault y) f some whole ends r e =
      let place : (y.kind, max (8 * x.place) y.place) ≡ (y.kind, max (8 * s.place) y.place) = ap (λ (n : ℕ). (y.kind, max (8 * n) y.place)) is.place in
      e ∙ place ∙ sym (open_by false (Err (y.kind, y.place)) (ap (λ (l : List (List ℕ)). last_open (units_of (joined l))) (sym whole) ∙ r.0) (course_same ps some whole ends ∙ r.1))
  fault_is ps (refusals.Rule at) f some whole ends r e =
      e ∙ ap (λ (n : ℕ). (MissingReference, 8 * n)) is.place ∙ sym (good_by (course_at_start ps) r.1)
      ∙ sym (open_by false (course_at_start ps) (ap (λ (l : List (List ℕ)). last_open (units_of (joined l))) (sym whole) ∙ r.0) (course_same ps some whole ends))
  fault_is ps refusals.Other f some whole ends r e =
      e ∙ ap (λ (n : ℕ). (MissingReference, 8 * n)) is.place ∙ sym (good_by (course_at_start ps) r.1)
      ∙ sym (open_by false (course_at_start ps) (ap (λ (l : List (List ℕ)). last_open (units_of (joined l))) (sym whole) ∙ r.0) (course_same ps some whole ends))

  pub refused_told : (first : Option Sequence) (old ps : List Piece) (r : Refusal) (f : Fault) → 1 ≤ length (wholes_of ps) → all_fit (opened_pieces s) ≡ true → wholes_of ps ≡ opened_pieces s → ends_of ps ≡ ends_kept s → ReadTold first ps (Err r) → FaultOf x.place x.bytes r f
      → StrandTold first s old old (Err f)
  refused_told first old ps r f some fit whole ends h e = (
    ap (λ (b : Bool). all_fit (opened_pieces s) && b) (ap (λ (l : List (List ℕ)). is_strand false first (joined l)) (sym whole) ∙ h.0) ∙ and-false (all_fit (opened_pieces s)),
    fault_is ps r f some whole ends h.1 e ∙ ap (λ (b : Bool). if not b then (Unsupported, 8 * s.place) else fault_opened s) (sym fit),
    refl,
  )

-- ---- as the program shows it

-- the pieces that were opened are those of the span, each ending where it does
pub opened_are : (s : Span) (x : SpanParts) (low : ℕ) (ms : List Member) (o : Option (Vec Piece)) (v : Vec Piece) (ps : List Piece) → IsSpan s x → x.long ≡ false → low ≡ first_reference s.pieces → ms ≡ x.members.items → OpenedTold low (items_of x.head) ms o → o ≡ Some v → ps ≡ v.items
    → (wholes_of ps ≡ opened_pieces s) × (ends_of ps ≡ ends_kept s)
opened_are s x low ms o v ps is short e same told some items =
    let t : OpenedTold low (items_of x.head) x.members.items (Some v) = subst (λ (l : List Member). OpenedTold low (items_of x.head) l (Some v)) same (subst (OpenedTold low (items_of x.head) ms) some told) in
    (ap wholes_of items ∙ t.1 ∙ pieces_same s x is short low e, ap ends_of items ∙ t.2 ∙ ends_same s x is short)

-- they can be read from nothing on
pub opened_can : (s : Span) (ps : List Piece) → IsOfStretch s → has_head s ≡ true → wholes_of ps ≡ opened_pieces s → CanGoBehind [] (wholes_of ps)
opened_can s ps st headed e = subst (CanGoBehind []) (sym e) (can_open s st headed)

pub strand_so : (s : Span) (x : SpanParts) (first : Option Sequence) (low : ℕ) (ms : List Member) (o : Option (Vec Piece)) (v : Vec Piece) (fit read old new : List Piece) (r : Result StrandState Refusal) (z : StrandState) (b : Bool) → IsSpan s x → x.long ≡ false → IsOfStretch s → has_head s ≡ true → low ≡ first_reference s.pieces
    → ms ≡ x.members.items → OpenedTold low (items_of x.head) ms o → o ≡ Some v → fit ≡ v.items → b ≡ all_fit (wholes_of fit) → b ≡ true → read ≡ v.items → (CanGoBehind [] (wholes_of read) → ReadTold first read r) → r ≡ Ok z → new ≡ old ++ v.items → StrandTold first s old new (Ok z)
strand_so s x first low ms o v fit read old new r z b is short st headed e same told some f bf on g go ok app =
    let a = opened_are s x low ms o v fit is short e same told some f in
    let c = opened_are s x low ms o v read is short e same told some g in
    let t : ReadTold first read (Ok z) = subst (ReadTold first read) ok (go (opened_can s read st headed c.0)) in
    strand_told s x is short first old new read z (sym (ap all_fit a.0) ∙ sym bf ∙ on) c.0 t (app ∙ ap (λ (l : List Piece). old ++ l) (sym g))

pub refused_so : (s : Span) (x : SpanParts) (first : Option Sequence) (low : ℕ) (ms : List Member) (o : Option (Vec Piece)) (v : Vec Piece) (fit read old : List Piece) (r : Result StrandState Refusal) (y : Refusal) (f : Fault) (b : Bool) → IsSpan s x → x.long ≡ false → IsOfStretch s → has_head s ≡ true → low ≡ first_reference s.pieces
    → ms ≡ x.members.items → OpenedTold low (items_of x.head) ms o → o ≡ Some v → fit ≡ v.items → b ≡ all_fit (wholes_of fit) → b ≡ true → read ≡ v.items → (CanGoBehind [] (wholes_of read) → ReadTold first read r) → r ≡ Err y → FaultOf x.place x.bytes y f → StrandTold first s old old (Err f)
refused_so s x first low ms o v fit read old r y f b is short st headed e same told some i bf on g go err fault =
    let a = opened_are s x low ms o v fit is short e same told some i in
    let c = opened_are s x low ms o v read is short e same told some g in
    let can = opened_can s read st headed c.0 in
    let t : ReadTold first read (Err y) = subst (ReadTold first read) err (go can) in
    refused_told s x is short first old read y f can.some (sym (ap all_fit a.0) ∙ sym bf ∙ on) c.0 c.1 t fault
