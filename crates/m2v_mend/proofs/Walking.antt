-- Pieces that are read behind a strand: what was read of its units, and how its pictures stand.
use Rattle.std.proofs.Common.{◌≡◌, ℕ, ◌+◌, ◌*◌, ◌≤◌, Bool, true, false, List, [], ◌∷◌, ◌++◌, length, Option, Some, None, Result, Ok, Err, refl, sym, ap, subst, ◌∙◌, append_assoc, append-nil, arith}
use Rattle.std.proofs.Math.Bool.{and-true, not-not}
use Rattle.std.specs.Prelude.{not, is_none, ◌&&◌, ◌||◌, if◌then◌else◌}
use Rattle.m2v_bits.proofs.SyntaxLaws.{good_is}
use Rattle.m2v_model.specs.declared.fault.FaultKind.{FaultKind}
use Rattle.m2v_model.specs.declared.state.Open.{Open}
use Rattle.m2v_model.specs.declared.state.State.{State}
use Rattle.m2v_model.specs.Units.{Units}
use Rattle.m2v_model.specs.States.{is_frame, is_b, one_anchor_more}
use Rattle.m2v_model.specs.Streams.{Part, Sofar, sequence, group, picture, ending, over, after, value_of, units_from}
use Rattle.m2v_model.specs.Pictures.{Store, Picture, Pictures, Events, sequence_header, group_header, picture_of, pictures_in, closed, told_by, store_after, events_from}
use Rattle.m2v_model.specs.Pieces.{begins_piece, picture_units}
use Rattle.m2v_model.specs.PieceNotes.{PieceNotes, note_of, first_note, notes_of}
use Rattle.m2v_model.specs.ByPieces.{Between, read_of, course_of, units_read}
use Rattle.m2v_model.specs.Buffering.{code_bits}
use Rattle.m2v_model.proofs.EventLaws.{pictures_in-append}
use Rattle.m2v_model.proofs.ShiftLaws.{NoEnds}
use Rattle.m2v_model.proofs.CountLaws.{Told, open_count, pictures_told}
use Rattle.m2v_law_group.specs.Groups.{is_sequence, is_picture}
use Rattle.m2v_law_group.specs.Chosen.{anchors_behind}
use Rattle.m2v_law_seam.specs.Spans.{units_of, picture_count}
use Rattle.m2v_law_seam.specs.Strands.{may_stand, all_stand}
use Rattle.m2v_law_seam.specs.Reading.{BeginsOnePiece, BeginsSequence, IsPieceOfUnits, HasRead, anchors_after}
use Rattle.m2v_law_seam.proofs.ByUnits.{has_read, anchors_append, stand_append}
use Rattle.m2v_law_seam.proofs.Placing.{piece_units_read, at_rest}
use Rattle.m2v_decode.specs.m2v_dec_piece.declared.answer.Piece.{Piece}
use Rattle.m2v_decode.specs.Decoding.{Decoding, ShowsFrames, between, whole_of}
use Rattle.m2v_decode.proofs.Showing.{shows_on}
use Rattle.m2v_mend.specs.declared.standing.Standing.{Standing}
use Rattle.m2v_mend.specs.Strand.{note_anchors, broken_with, standing_with, StrandState, Steps, HasCome}

-- ---- pictures as they are noted

-- each picture ends its frame where it is a frame or a second field
abbrev pub EndsSo : Picture → Type 0
EndsSo p = p.ends_frame ≡ (is_frame p.extension || not p.begins_frame)

abbrev pub AllEndSo : Pictures → Type 0
AllEndSo [] = Unit {0}
AllEndSo (p ∷ ps) = EndsSo p × AllEndSo ps

all_append : (ps qs : Pictures) → AllEndSo ps → AllEndSo qs → AllEndSo (ps ++ qs)
all_append [] qs a b = b
all_append (p ∷ ps) qs a b = (a.0, all_append ps qs a.1 b)

closed_end : (o : Option Open) (store : Store) (es : Events) → AllEndSo (pictures_in es) → AllEndSo (pictures_in (closed o store ++ es))
unfolding picture_of
closed_end None store es h = h
closed_end (Some p) store es h = (ap (λ (b : Bool). is_frame p.extension || b) (sym (not-not p.second_field)), h)

told_end : (st : State) (store : Store) (p : Part) (es : Events) → AllEndSo (pictures_in es) → AllEndSo (pictures_in (told_by st store p ++ es))
told_end st store (sequence s) es h = subst (λ (l : Events). AllEndSo (pictures_in l)) (sym (append_assoc (closed st.picture store) (sequence_header s ∷ []) es)) (closed_end st.picture store (sequence_header s ∷ es) h)
told_end st store (group g) es h = subst (λ (l : Events). AllEndSo (pictures_in l)) (sym (append_assoc (closed st.picture store) (group_header g ∷ []) es)) (closed_end st.picture store (group_header g ∷ es) h)
told_end st store (picture info extension) es h = closed_end st.picture store es h
told_end st store ending es h = closed_end st.picture store es h
told_end st store over es h = closed_end st.picture store es h
told_end st store _ es h = h

events_end : (st : State) (store : Store) (ps : List Part) → AllEndSo (pictures_in (events_from st store ps))
unfolding events_from
events_end st store [] = tt
events_end st store (p ∷ ps) = told_end st store p (events_from (after st p) (store_after st store p) ps) (events_end (after st p) (store_after st store p) ps)

course_end : (b next : Between) (es : Events) (r : Result (Sofar × Units) (FaultKind × ℕ)) → course_of b r ≡ Ok (es, next) → AllEndSo (pictures_in es)
course_end b next es (Ok x) e =
    let pair : read_of b x.0 ≡ (es, next) = good_is {K = FaultKind} _ _ e in
    let same : events_from b.state b.store (x.0).parts ≡ es = ap (λ (y : Events × Between). y.0) pair in
    subst (λ (l : Events). AllEndSo (pictures_in l)) same (events_end b.state b.store (x.0).parts)
course_end b next es (Err f) e = absurd cc

pub all_end : (b next : Between) (us : Units) (es : Events) → units_read b us ≡ Ok (es, next) → AllEndSo (pictures_in es)
unfolding units_read
all_end b next us es e = course_end b next es ((units_from b.state).read us) e

-- ---- one picture at most

pub units_counted : (us : Units) → NoEnds us → picture_units us ≡ picture_count us
unfolding picture_units picture_count
units_counted [] n = refl
units_counted (u ∷ us) n = let off = n.0 in rw off (ap (λ (k : ℕ). (if is_picture u then 1 else 0) + k) (units_counted us n.1))

pub count_told : (us : Units) (es fs : Events) (b next : Between) (v : List ℕ) (vs : Units) → HasRead us es b → NoEnds (v ∷ vs) → (us ≡ [] → is_sequence v ≡ true) → units_read b (v ∷ vs) ≡ Ok (fs, next) → length (pictures_in fs) ≡ picture_count (v ∷ vs)
count_told us es fs b next v vs h none first e =
    let r = at_rest us es b h in
    let t = subst (Told b (v ∷ vs)) e (pictures_told b (v ∷ vs) (r.known v vs first)) in
    let shut : open_count b.state.picture ≡ 0 = ap open_count r.shut in
    let counted = units_counted (v ∷ vs) none in
    omega (arith, t.0, shut, counted)

pub one_told : (us : Units) (es fs : Events) (b next : Between) (v : List ℕ) (vs : Units) → HasRead us es b → NoEnds (v ∷ vs) → (us ≡ [] → is_sequence v ≡ true) → picture_count (v ∷ vs) ≤ 1 → units_read b (v ∷ vs) ≡ Ok (fs, next) → length (pictures_in fs) ≤ 1
one_told us es fs b next v vs h none first few e = let n = count_told us es fs b next v vs h none first e in omega (arith, n, few)

-- ---- how its picture stands

pub same_anchors : (anchors k : ℕ) (p : Picture) → EndsSo p → note_anchors anchors (note_of k p) ≡ anchors_behind anchors p
same_anchors anchors k p e = ap (λ (b : Bool). if b && not (is_b p.info.kind) then one_anchor_more anchors else anchors) (sym e)

broken_on : (o : Option ℕ) (stands before : Bool) (place : ℕ) → is_none o ≡ before → is_none (broken_with o stands place) ≡ (before && stands)
broken_on None true true place e = refl
broken_on None false true place e = refl
broken_on None stands false place e = absurd cc
broken_on (Some n) stands true place e = absurd cc
broken_on (Some n) stands false place e = refl

-- so the pictures stand of which these come last
pub record StandSo (s : Standing) (ps : Pictures) : Type 0 where
  pub anchors : s.anchors ≡ anchors_after 0 ps
  pub stands : is_none s.broken ≡ all_stand 0 ps

stand_one : (s : Standing) (ps : Pictures) (k : ℕ) (p : Picture) → StandSo s ps → EndsSo p → StandSo (standing_with s (Some (note_of k p))) (ps ++ p ∷ [])
unfolding all_stand
stand_one s ps k p h e =
    let one : all_stand (anchors_after 0 ps) (p ∷ []) ≡ may_stand (anchors_after 0 ps) p = and-true (may_stand (anchors_after 0 ps) p) in
    record {
      anchors = same_anchors s.anchors k p e ∙ ap (λ (n : ℕ). anchors_behind n p) h.anchors ∙ sym (anchors_append 0 ps (p ∷ []));
      stands = broken_on s.broken (may_stand s.anchors p) (all_stand 0 ps) _ h.stands
          ∙ ap (λ (n : ℕ). all_stand 0 ps && may_stand n p) h.anchors ∙ ap (λ (b : Bool). all_stand 0 ps && b) (sym one) ∙ sym (stand_append 0 ps (p ∷ []));
    }

stand_by : (s : Standing) (ps qs : Pictures) (k : ℕ) → length qs ≤ 1 → AllEndSo qs → StandSo s ps → StandSo (standing_with s (first_note k qs)) (ps ++ qs)
stand_by s ps [] k le e h = subst (StandSo s) (sym (append-nil ps)) h
stand_by s ps (q ∷ []) k le e h = stand_one s ps k q h e.0
stand_by s ps (q ∷ x ∷ qs) k le e h = absurd (omega (arith, le))

-- ---- a piece more

step_units : (us : Units) (es : Events) (d : Decoding) (s z : StrandState) (p : Piece) (v : List ℕ) (vs : Units) → HasCome us es d s → (x : Steps d s p z) → units_of (whole_of p) ≡ v ∷ vs → NoEnds us → NoEnds (v ∷ vs) → begins_piece (value_of v) ≡ true
    → (us ≡ [] → is_sequence v ≡ true) → picture_count (v ∷ vs) ≤ 1 → HasCome (us ++ v ∷ vs) (es ++ (x.advanced).events) x.behind z
unfolding notes_of
step_units us es d s z p v vs r x is none own begins first few =
    let a = x.advanced in
    let end = p.place + length (whole_of p) in
    let read : units_read (between d) (v ∷ vs) ≡ Ok (a.events, between x.behind) =
    ap (units_read (between d)) (sym is) ∙ piece_units_read (between d) (between x.behind) end (whole_of p) a.events a.read in
    let ps = pictures_in es in
    let qs = pictures_in a.events in
    let all : pictures_in (es ++ a.events) ≡ ps ++ qs = pictures_in-append es a.events in
    let one = one_told us es a.events (between d) (between x.behind) v vs r.has own first few read in
    let k = 8 * p.place + code_bits (whole_of p) in
    let note : z.standing ≡ standing_with s.standing (first_note k qs) = x.standing ∙ ap (λ (n : PieceNotes). standing_with s.standing n.picture) a.notes_are in
    let stand = stand_by s.standing ps qs k one (all_end (between d) (between x.behind) (v ∷ vs) a.events read) (record { anchors = r.anchors; stands = r.stands }) in
    record {
      has = has_read us es a.events (between d) (between x.behind) v vs r.has none begins first read;
      anchors = ap (λ (t : Standing). t.anchors) note ∙ stand.anchors ∙ ap (anchors_after 0) (sym all);
      stands = ap (λ (t : Standing). is_none t.broken) note ∙ stand.stands ∙ ap (all_stand 0) (sym all);
      shows = λ low agree.
          subst (λ (l : Pictures). ShowsFrames low None [] l (x.behind).anchor (x.behind).ready) (sym all)
          (shows_on low None d.anchor (x.behind).anchor [] d.ready (x.behind).ready ps qs (r.shows low (a.first low agree)) (a.shows low agree));
      shown = a.shown ∙ r.shown;
    }

step_by : (us : Units) (es : Events) (d : Decoding) (s z : StrandState) (p : Piece) (ws : Units) → HasCome us es d s → (x : Steps d s p z) → units_of (whole_of p) ≡ ws → NoEnds us → NoEnds ws → BeginsOnePiece ws → (us ≡ [] → BeginsSequence ws) → picture_count ws ≤ 1
    → HasCome (us ++ ws) (es ++ (x.advanced).events) x.behind z
step_by us es d s z p [] r x is none own begins first few = absurd begins
step_by us es d s z p (v ∷ vs) r x is none own begins first few = step_units us es d s z p v vs r x is none own begins first few

-- one piece more
pub step_reads : (us : Units) (es : Events) (d : Decoding) (s z : StrandState) (p : Piece) → HasCome us es d s → (x : Steps d s p z) → IsPieceOfUnits (whole_of p) → NoEnds us → NoEnds (units_of (whole_of p)) → (us ≡ [] → BeginsSequence (units_of (whole_of p)))
    → HasCome (us ++ units_of (whole_of p)) (es ++ (x.advanced).events) x.behind z
step_reads us es d s z p r x i none own first = step_by us es d s z p (units_of (whole_of p)) r x refl none own i.begins first i.one
