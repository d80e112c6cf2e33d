-- A span is put behind a strand, or its fault is told.
use Rattle.std.proofs.Common.{◌≡◌, inl, inr, ℕ, zero, suc, ◌+◌, ◌-◌, ◌*◌, ◌<◌, Bool, true, false, cond, List, [], ◌∷◌, ◌++◌, length, Option, Some, None, Result, Ok, Err, refl, sym, ap, subst, ◌∙◌, arith}
use Rattle.std.specs.Prelude.{All, max, not, ◌&&◌, ◌||◌, nat_eq}
use Rattle.std.proofs.lemmas.Bool.{both_ways, cases_Bool, eqb-true}
use Rattle.std.proofs.lemmas.List.{length-append}
use Rattle.m2v_bits.specs.Syntax.{bind}
use Rattle.m2v_bits.proofs.SyntaxLaws.{good}
use Rattle.m2v_model.specs.declared.fault.FaultKind.{FaultKind}
use Rattle.m2v_model.specs.declared.fault.FaultKind.TheVariants.{FieldPair, Truncated}
use Rattle.m2v_model.specs.declared.state.Sequence.{Sequence}
use Rattle.m2v_model.specs.Units.{Units, joined}
use Rattle.m2v_model.specs.Streams.{Part}
use Rattle.m2v_model.specs.States.{none_waits}
use Rattle.m2v_model.specs.Pictures.{Events, told_by}
use Rattle.m2v_model.specs.ByPieces.{Between, Course, behind, continued, units_read, unit_read, piece_read, text_ended, after_part}
use Rattle.m2v_model.proofs.FlowLaws.{part_read, read_once, unit_less}
use Rattle.m2v_model.proofs.PieceLaws.{placed, piece_is}
use Rattle.m2v_law_group.proofs.Tens.{first_stays}
use Rattle.m2v_law_group.proofs.Lists.{and_parts}
use Rattle.m2v_law_seam.specs.Spans.{units_of, Span, end_of_span}
use Rattle.m2v_law_seam.specs.Seams.{text_behind}
use Rattle.m2v_law_seam.specs.Strands.{first_in, agrees, is_strand}
use Rattle.m2v_law_seam.specs.Strands as strands
use Rattle.m2v_law_seam.specs.Faults.{read_at, fault_behind}
use Rattle.m2v_decode.specs.m2v_dec_piece.declared.answer.Piece.{Piece}
use Rattle.m2v_decode.specs.m2v_dec_piece.declared.answer.Fault.{Fault}
use Rattle.m2v_decode.specs.Decoding.{between}
use Rattle.m2v_decode.specs.m2v_dec_piece.Sound.{IsSoundPiece}
use Rattle.m2v_mend.specs.declared.refusal.Refusal.{Refusal}
use Rattle.m2v_mend.specs.declared.refusal.Refusal.TheVariants as refusals
use Rattle.m2v_mend.specs.declared.member.Member.{Member}
use Rattle.m2v_mend.specs.declared.parts.SpanParts.{SpanParts}
use Rattle.m2v_mend.specs.Strand.{StrandState, wholes_of, bytes_in, IsAt, Told, IsCourse, course_of, ends_of}
use Rattle.m2v_mend.specs.Kept.{pieces_of}
use Rattle.m2v_mend.specs.Members.{IsMember, IsSpan, IsOfStretch}
use Rattle.m2v_mend.specs.Putting.{CanBePut, IsUnderWay, PutTold}
use Rattle.m2v_mend.specs.Copying.{AreCopies, fault_by}
use Rattle.m2v_law_seam.specs.Reading.{CanGoBehind}
use Rattle.m2v_mend.proofs.Showing.{read_is}
use Rattle.m2v_mend.proofs.Closing.{all_bytes}
use Rattle.m2v_mend.proofs.CopyLaws.{members_sound}
use Rattle.m2v_mend.proofs.Copied.{has_byte, GoBehind, copied_behind}
use Rattle.m2v_mend.proofs.Written.{wholes_append}

-- ---- the first header stays as more is read

abbrev FirstStays : Sequence → Course → Type 0
FirstStays f (Ok x) = (x.1).state.first ≡ Some f
FirstStays f (Err e) = Unit {0}

behind_stays : (f : Sequence) (es : Events) (r : Course) → FirstStays f r → FirstStays f (behind es r)
behind_stays f es (Ok x) h = h
behind_stays f es (Err e) h = tt

once_stays : (f : Sequence) (b : Between) (r : Result ((Bool × Part) × Units) (FaultKind × ℕ)) → b.state.first ≡ Some f
    → ((p : Part) (mid : Units) → r ≡ good ((true, p), mid) → FirstStays f (units_read (after_part b p) mid)) → FirstStays f (bind r (part_read b))
unfolding bind
once_stays f b (Err e) h ih = tt
once_stays f b (Ok ((false, p), mid)) h ih = first_stays b.state p f h
once_stays f b (Ok ((true, p), mid)) h ih = behind_stays f (told_by b.state b.store p) (units_read (after_part b p) mid) (ih p mid refl)

stays_n : (n : ℕ) (f : Sequence) (b : Between) (us : Units) → length us < n → b.state.first ≡ Some f → FirstStays f (units_read b us)
stays_n zero f b us lt h = absurd (omega (arith, lt))
stays_n (suc n) f b us lt h =
    subst (FirstStays f) (sym (read_once b us))
    (once_stays f b (unit_read b.state us) h (λ p mid e.
    stays_n n f (after_part b p) mid (let less = unit_less b.state us mid true p e refl in omega (arith, less, lt)) (first_stays b.state p f h)))

placed_stays : (f : Sequence) (end : ℕ) (r : Course) → FirstStays f r → FirstStays f (placed end r)
placed_stays f end (Ok x) h = h
placed_stays f end (Err e) h = tt

piece_stays : (f : Sequence) (b : Between) (end : ℕ) (p : List ℕ) → b.state.first ≡ Some f → FirstStays f (piece_read b end p)
piece_stays f b end p h =
    let us = units_of p in
    subst (FirstStays f) (sym (piece_is b end p)) (placed_stays f end (units_read b us) (stays_n (suc (length us)) f b us (omega arith) h))

waits_stays : (f : Sequence) (end : ℕ) (x : Events × Between) (w : Bool) → FirstStays f (Ok x) → FirstStays f (cond w (Ok x) (Err (FieldPair, 8 * end)))
waits_stays f end x true h = h
waits_stays f end x false h = tt

ended_stays : (f : Sequence) (end : ℕ) (r : Course) → FirstStays f r → FirstStays f (text_ended end r)
ended_stays f end (Ok x) h = waits_stays f end x (none_waits (x.1).state.waiting) h
ended_stays f end (Err e) h = tt

next_stays : (f : Sequence) (r : Course) (next : Between → Course) → FirstStays f r → ((b : Between) → b.state.first ≡ Some f → FirstStays f (next b)) → FirstStays f (continued r next)
unfolding continued
next_stays f (Ok x) next h ih = behind_stays f x.0 (next x.1) (ih x.1 h)
next_stays f (Err e) next h ih = tt

all_stays : (f : Sequence) (b : Between) (end : ℕ) (ends : List ℕ) (ps : List (List ℕ)) → b.state.first ≡ Some f → FirstStays f (read_at b end ends ps)
unfolding read_at
all_stays f b end [] ps h = ended_stays f end (piece_read b end []) (piece_stays f b end [] h)
all_stays f b end (e ∷ ends) [] h = ended_stays f end (piece_read b end []) (piece_stays f b end [] h)
all_stays f b end (e ∷ ends) (p ∷ ps) h = next_stays f (piece_read b e p) (λ next. read_at next e ends ps) (piece_stays f b e p h) (λ next g. all_stays f next e ends ps g)

-- ---- so a header that agreed still agrees

kept_agrees : (first own later : Option Sequence) → agrees first own ≡ true → ((f : Sequence) → own ≡ Some f → later ≡ Some f) → agrees first later ≡ true
kept_agrees None own later h k = refl
kept_agrees (Some a) None later h k = absurd cc
kept_agrees (Some a) (Some b) later h k = ap (agrees (Some a)) (k b refl) ∙ h

course_agrees : (bytes : List ℕ) (s : StrandState) (opening : Bool) (first : Option Sequence) (qs : List Piece) (at : IsAt s bytes) → IsUnderWay opening first bytes
    → (anchors : ℕ) (stands : Bool) → IsCourse (course_of at.decoder qs) anchors first stands false → ⊥
course_agrees [] s opening first qs at under anchors stands c =
    let on : agrees first (c.behind).state.first ≡ true = ap (λ (o : Option Sequence). agrees o (c.behind).state.first) under.0 in
    both_ways (agrees first (c.behind).state.first) c.joint_is on
course_agrees (b ∷ bytes) s opening first qs at under anchors stands c =
    let d = at.decoder in
    let parts = and_parts (strands.reads (b ∷ bytes)) (agrees first (first_in (strands.read_of (b ∷ bytes))) && (opening || strands.keeps_rule (strands.pictures_of (strands.read_of (b ∷ bytes))))) under in
    let mine = and_parts (agrees first (first_in (strands.read_of (b ∷ bytes)))) (opening || strands.keeps_rule (strands.pictures_of (strands.read_of (b ∷ bytes)))) parts.1 in
    let own : agrees first d.state.first ≡ true = sym (ap (λ (r : Course). agrees first (first_in r)) (read_is s (b ∷ bytes) at (omega arith))) ∙ mine.0 in
    let on : agrees first (c.behind).state.first ≡ true =
    kept_agrees first d.state.first (c.behind).state.first own (λ f e. subst (FirstStays f) c.read (all_stays f (between d) 0 (ends_of qs) (wholes_of qs) e)) in
    both_ways (agrees first (c.behind).state.first) c.joint_is on

-- ---- what is told

-- what is told of pieces behind all bytes for which a strand stands
abbrev pub ToldBehind : StrandState → Option Sequence → List Piece → Option Refusal → StrandState → Type 0
ToldBehind s first qs o z = (bytes : List ℕ) → (at : IsAt s bytes) → CanGoBehind bytes (wholes_of qs) → Told at.decoder s first bytes qs o z

pub kept_told : (s z : StrandState) (first : Option Sequence) (bytes : List ℕ) (low : ℕ) (sp : Span) (old new qs : List Piece) (at : IsAt s bytes) → GoBehind bytes low sp qs → Told at.decoder s first bytes qs None z → z.opening ≡ s.opening → new ≡ old ++ qs
    → PutTold s.opening first bytes low sp old new None z
kept_told s z first bytes low sp old new qs at g t opening is =
    let same : bytes ++ joined (wholes_of qs) ≡ bytes ++ text_behind bytes low sp.pieces = ap (λ (l : List ℕ). bytes ++ l) g.text in (
      subst (λ (l : List ℕ). is_strand s.opening first l ≡ true) same t.0,
      subst (IsAt z) same t.1,
      opening,
      ap (λ (l : List Piece). joined (wholes_of l)) is ∙ wholes_append old qs ∙ ap (λ (l : List ℕ). joined (wholes_of old) ++ l) g.text,
    )

-- its fault, as it is told of the copies
fault_told : (s z : StrandState) (first : Option Sequence) (bytes : List ℕ) (low : ℕ) (sp : Span) (qs : List Piece) (end total : ℕ) (at : IsAt s bytes) → GoBehind bytes low sp qs → IsUnderWay s.opening first bytes → end ≡ end_of_span sp → total ≡ length (bytes ++ joined (wholes_of qs))
    → (x : Refusal) → Told at.decoder s first bytes qs (Some x) z → fault_behind sp (bytes ++ joined (wholes_of qs)) ≡ ((fault_by x end total).kind, (fault_by x end total).place)
fault_told s z first bytes low sp qs end total at g under ee et refusals.Open t =
    t.1.1 sp g.at g.turn g.ends ∙ ap (λ (n : ℕ). (Truncated, 8 * n - 24)) (sym ee)
fault_told s z first bytes low sp qs end total at g under ee et (refusals.Fault f) t =
    t.1.2 sp g.at g.turn g.ends ∙ ap (λ (n : ℕ). (f.kind, max f.place (8 * n - 8 * length (bytes ++ joined (wholes_of qs))))) (sym ee) ∙ ap (λ (n : ℕ). (f.kind, max f.place (8 * end - 8 * n))) (sym et)
fault_told s z first bytes low sp qs end total at g under ee et (refusals.Rule place) t = t.1.3 sp g.at g.turn g.ends
fault_told s z first bytes low sp qs end total at g under ee et refusals.Other t =
    absurd (course_agrees bytes s s.opening first qs at under s.standing.anchors t.1.1.0 t.1.1.2)

pub left_told : (s z : StrandState) (first : Option Sequence) (bytes : List ℕ) (low : ℕ) (sp : Span) (old new qs : List Piece) (end total : ℕ) (f : Fault) (x : Refusal) (at : IsAt s bytes) → GoBehind bytes low sp qs → IsUnderWay s.opening first bytes
    → end ≡ end_of_span sp → total ≡ length (bytes ++ joined (wholes_of qs)) → Told at.decoder s first bytes qs (Some x) z → f ≡ fault_by x end total → new ≡ old → PutTold s.opening first bytes low sp old new (Some f) z
left_told s z first bytes low sp old new qs end total f x at g under ee et t is same =
    let text : bytes ++ joined (wholes_of qs) ≡ bytes ++ text_behind bytes low sp.pieces = ap (λ (l : List ℕ). bytes ++ l) g.text in (
      subst (λ (l : List ℕ). is_strand s.opening first l ≡ false) text t.0,
      ap (fault_behind sp) (sym text) ∙ fault_told s z first bytes low sp qs end total at g under ee et x t ∙ ap (λ (y : Fault). (y.kind, y.place)) (sym is),
      same,
    )

-- ---- the span at hand

pub begun_is : (bytes : List ℕ) (n : ℕ) → n ≡ length bytes → not (nat_eq n 0) ≡ has_byte bytes
begun_is [] n e = ap (λ (k : ℕ). not (nat_eq k 0)) e
begun_is (b ∷ bytes) n e = elim (cases_Bool (nat_eq n 0)) [
  | inl on ↦ absurd (omega (arith, e, eqb-true n 0 on))
  | inr off ↦ ap not off
]

pub byte_there : (bytes : List ℕ) (n : ℕ) → n ≡ length bytes → 0 < n → true ≡ has_byte bytes
byte_there [] n e some = absurd (omega (arith, e, some))
byte_there (b ∷ bytes) n e some = refl

pub span_behind : (parts : SpanParts) (bytes : List ℕ) (low : ℕ) (begun : Bool) (sp : Span) (ms : List Member) (qs ds : List Piece) → All IsMember parts.members.items → ms ≡ parts.members.items → ds ≡ qs → AreCopies begun low (pieces_of ms) qs → All IsSoundPiece qs
    → begun ≡ has_byte bytes → IsSpan sp parts → parts.long ≡ false → IsOfStretch sp → CanBePut bytes sp.pieces → GoBehind bytes low sp ds
span_behind parts bytes low begun sp ms qs ds all em ed copies sound eb span short stretch can =
    let ps = pieces_of parts.members.items in
    subst (GoBehind bytes low sp) (sym ed)
    (copied_behind bytes low sp begun ps qs eb (span.pieces short) stretch.pieces can (subst (λ (l : List Member). AreCopies begun low (pieces_of l) qs) em copies) (span.turn short) (members_sound parts.members.items all) sound)

pub end_is : (parts : SpanParts) (sp : Span) (end : ℕ) → end ≡ parts.place + parts.bytes → IsSpan sp parts → end ≡ end_of_span sp
end_is parts sp end e span = omega (arith, e, span.place, span.bytes)

pub total_is : (bytes : List ℕ) (qs : List Piece) (total own more : ℕ) → total ≡ own + more → own ≡ length bytes → more ≡ bytes_in qs → All IsSoundPiece qs → total ≡ length (bytes ++ joined (wholes_of qs))
total_is bytes qs total own more e eo em sound = omega (arith, e, eo, em, all_bytes qs sound, length-append bytes (joined (wholes_of qs)))
