-- What is answered of pieces behind a strand: whether they make a strand with it, and why not.
use Rattle.std.proofs.Common.{◌≡◌, inr, ℕ, ◌+◌, ◌-◌, ◌*◌, ◌≤◌, Bool, true, false, cond, List, [], ◌∷◌, ◌++◌, length, Option, Some, None, Ok, Err, refl, sym, ap, subst, ◌∙◌, append-nil, arith}
use Rattle.std.specs.Prelude.{not, is_none, is_some, ◌&&◌, ◌||◌, if◌then◌else◌}
use Rattle.std.proofs.lemmas.List.{length-append}
use Rattle.std.proofs.Math.Bool.{and-false, or-true}
use Rattle.m2v_model.specs.declared.fault.FaultKind.TheVariants.{FieldPair, Truncated, MissingReference}
use Rattle.m2v_model.specs.declared.state.Sequence.{Sequence}
use Rattle.m2v_model.specs.declared.state.FirstField.{FirstField}
use Rattle.m2v_model.specs.declared.state.State.{State}
use Rattle.m2v_model.specs.Units.{Units, joined}
use Rattle.m2v_model.specs.States.{none_waits}
use Rattle.m2v_model.specs.Pictures.{Events, pictures_in}
use Rattle.m2v_model.specs.ByPieces.{Between, at_start, behind, units_read, end_read}
use Rattle.m2v_model.proofs.EventLaws.{pictures_in-append}
use Rattle.m2v_model.proofs.PieceLaws.{no_ends-append}
use Rattle.m2v_law_seam.specs.Spans.{units_of, units_in, Span, end_of_span}
use Rattle.m2v_law_seam.specs.Strands.{all_stand, last_open, agrees, is_strand}
use Rattle.m2v_law_seam.specs.Faults.{standing, read_at, fault_by, fault_behind}
use Rattle.m2v_law_seam.specs.Reading.{ended_read, CanGrow, is_strand_read, CanGoBehind, HasRead}
use Rattle.m2v_law_seam.specs.Strands as strands
use Rattle.m2v_law_seam.proofs.ByUnits.{stand_append, read_alone}
use Rattle.m2v_decode.specs.m2v_dec_piece.declared.answer.Piece.{Piece}
use Rattle.m2v_decode.specs.m2v_dec_piece.declared.answer.Fault.{Fault}
use Rattle.m2v_decode.specs.Decoding.{Decoding, between}
use Rattle.m2v_decode.specs.Reading.{Follows}
use Rattle.m2v_mend.specs.declared.refusal.Refusal.TheVariants as refusals
use Rattle.m2v_mend.specs.Strand.{StrandState, Walked, Halts, wholes_of, bytes_in, AreInTurn, picture_place, broken_with, broken_rule, refusal_by, refusal_of, HasCome, IsAt, course_of, Told}
use Rattle.m2v_law_seam.proofs.Placing.{at_rest, end_is, known_read, some_units}
use Rattle.m2v_mend.proofs.Ruling.{rule_of}
use Rattle.m2v_mend.proofs.Breaking.{rule_placed, pieces_placed}
use Rattle.m2v_mend.proofs.Walked.{last_end, walk_reads, Asked, asked, strand_by, halted}

-- ---- all pieces were read

pub record AllRead (bytes : List ℕ) (es : Events) (d : Decoding) (s : StrandState) (ps : List Piece) (end : ℕ) (e : Decoding) (z : StrandState) : Type 0 where
  pub events : Events
  pub come : HasCome (units_of (bytes ++ joined (wholes_of ps))) (es ++ events) e z
  pub course : course_of d ps ≡ behind events (cond (none_waits e.state.waiting) (Ok ([], between e)) (Err (FieldPair, 8 * end)))
  pub has : HasRead (units_of bytes ++ units_in (wholes_of ps)) (es ++ events) (between e)
  pub read : units_read at_start (units_of (bytes ++ joined (wholes_of ps))) ≡ Ok (es ++ events, between e)
  pub strand : (first : Option Sequence) → is_strand s.opening first (bytes ++ joined (wholes_of ps)) ≡ (none_waits e.state.waiting && (agrees first e.state.first && (s.opening || all_stand 0 (pictures_in (es ++ events)))))
  pub total : z.bytes ≡ s.bytes + bytes_in ps
  pub opening : z.opening ≡ s.opening
  pub rule : z.standing.broken ≡ rule_of s.standing (pictures_in events) ps

units_there : (us ws : Units) (es : Events) (b : Between) (v : List ℕ) (vs : Units) → ws ≡ v ∷ vs → HasRead (us ++ ws) es b → (units_read at_start (us ++ ws) ≡ Ok (es, b)) × ((end : ℕ) → end_read b end ≡ cond (none_waits b.state.waiting) (Ok ([], b)) (Err (FieldPair, 8 * end)))
units_there us [] es b v vs e h = absurd cc
units_there [] (w ∷ ws) es b v vs e h = (h.1, λ end. end_is b end (known_read w ws es b h) (at_rest (w ∷ ws) es b h).shut)
units_there (u ∷ us) (w ∷ ws) es b v vs e h = (h.1, λ end. end_is b end (known_read u (us ++ w ∷ ws) es b h) (at_rest (u ∷ (us ++ w ∷ ws)) es b h).shut)

all_read : (bytes : List ℕ) (es : Events) (d : Decoding) (s : StrandState) (ps : List Piece) (end : ℕ) (z : StrandState) → HasCome (units_of bytes) es d s → Asked bytes ps → 1 ≤ length (wholes_of ps) → last_open (units_in (wholes_of ps)) ≡ false → end ≡ last_end 0 ps → (w : Walked d s ps z)
    → AllRead bytes es d s ps end w.behind z
unfolding read_at
all_read bytes es d s ps end z come a some closed at w =
    let us = units_of bytes in
    let ws = units_in (wholes_of ps) in
    let e = w.behind in
    let r = walk_reads w.walks us es come a.are a.goes a.own a.first in
    let v = some_units (wholes_of ps) a.are some in
    let t = units_there us ws (es ++ r.events) (between e) v.0 v.1 v.2 (r.come).has in
    let whole : course_of d ps ≡ behind r.events (end_read (between e) (last_end 0 ps)) =
    subst (λ (l : List Piece). course_of d l ≡ behind r.events (end_read (between e) (last_end 0 ps))) (append-nil ps) (r.course 0 []) in
    record {
      events = r.events;
      come = subst (λ (l : Units). HasCome l (es ++ r.events) e z) (sym a.units) r.come;
      course = whole ∙ ap (behind r.events) (ap (end_read (between e)) (sym at) ∙ t.1 end);
      strand = λ first.
          strand_by s.opening first bytes ps (Ok (es ++ r.events, between e)) a t.0
          ∙ ap (λ (b : Bool). not b && is_strand_read s.opening first (Ok (es ++ r.events, between e))) closed;
      has = (r.come).has;
      read = ap (units_read at_start) a.units ∙ t.0;
      total = r.bytes;
      opening = r.opening;
      rule = r.rule;
    }

-- ---- what is told then

module _ (bytes : List ℕ) (es : Events) (d : Decoding) (s : StrandState) (first : Option Sequence) (ps : List Piece) (end : ℕ) (e : Decoding) (z : StrandState)
    (r : AllRead bytes es d s ps end e z) (follows : Follows z.reading e) (come : HasCome (units_of bytes) es d s) (rule : (s.opening || is_none s.standing.broken) ≡ true)
    (a : Asked bytes ps) (closed : last_open (units_of (bytes ++ joined (wholes_of ps))) ≡ false) (lengths : s.bytes + bytes_in ps ≡ length (bytes ++ joined (wholes_of ps))) (can : CanGrow bytes) (go : CanGoBehind bytes (wholes_of ps)) where
  abbrev all : List ℕ
  all = bytes ++ joined (wholes_of ps)

  abbrev stands : Bool
  stands = all_stand 0 (pictures_in (es ++ r.events))

  strand_by_values : (w j t : Bool) → none_waits e.state.waiting ≡ w → agrees first e.state.first ≡ j → stands ≡ t → is_strand s.opening first all ≡ (w && (j && (s.opening || t)))
  strand_by_values w j t ew ej et =
      r.strand first ∙ ap (λ (x : Bool). x && (agrees first e.state.first && (s.opening || stands))) ew ∙ ap (λ (x : Bool). w && (x && (s.opening || stands))) ej
      ∙ ap (λ (x : Bool). w && (j && (s.opening || x))) et

  course_paired : none_waits e.state.waiting ≡ true → course_of d ps ≡ Ok (r.events, between e)
  course_paired paired =
      r.course ∙ ap (λ (w : Bool). behind r.events (cond w (Ok ([], between e)) (Err (FieldPair, 8 * end)))) paired
      ∙ ap (λ (l : Events). Ok (l, between e)) (append-nil r.events)

  -- how the pieces' own pictures stand
  parts_stand : stands ≡ (all_stand 0 (pictures_in es) && all_stand s.standing.anchors (pictures_in r.events))
  parts_stand =
      ap (all_stand 0) (pictures_in-append es r.events) ∙ stand_append 0 (pictures_in es) (pictures_in r.events)
      ∙ ap (λ (n : ℕ). all_stand 0 (pictures_in es) && all_stand n (pictures_in r.events)) (sym come.anchors)

  before_stand : s.opening ≡ false → all_stand 0 (pictures_in es) ≡ true
  before_stand other = sym come.stands ∙ (rw other at rule)

  own_stand : (t : Bool) → s.opening ≡ false → stands ≡ t → all_stand s.standing.anchors (pictures_in r.events) ≡ t
  own_stand t other et = ap (λ (b : Bool). b && all_stand s.standing.anchors (pictures_in r.events)) (sym (before_stand other)) ∙ sym parts_stand ∙ et

  none_broken : (o : Option ℕ) → is_none o ≡ true → o ≡ None
  none_broken None h = refl
  none_broken (Some n) h = absurd cc

  -- where the first picture stands that may not
  place_told : (place : ℕ) → s.opening ≡ false → stands ≡ false → z.standing.broken ≡ Some place → place ≡ picture_place (standing s.standing.anchors (pictures_in r.events)) ps
  place_told place other off is =
      let none : s.standing.broken ≡ None = none_broken s.standing.broken (rw other at rule) in
      let own = own_stand false other off in
      let there = picture_place (standing s.standing.anchors (pictures_in r.events)) ps in
      let both : Some place ≡ Some there = sym is ∙ r.rule ∙ ap (λ (b : Option ℕ). broken_with b (all_stand s.standing.anchors (pictures_in r.events)) there) none ∙ ap (λ (b : Bool). broken_with None b there) own in
      cc

  span_told : (place : ℕ) → none_waits e.state.waiting ≡ true → s.opening ≡ false → stands ≡ false → z.standing.broken ≡ Some place
      → (span : Span) (at : ℕ) → AreInTurn at ps → end_of_span span ≡ at + length (joined (wholes_of ps)) → fault_behind span all ≡ (MissingReference, place)
  span_told place paired other off is span at turn ends =
      let read : strands.read_of all ≡ Ok (es ++ r.events, between e) =
      read_alone all a.begins a.no_end closed ∙ ap (ended_read (8 * length all)) r.read
      ∙ ap (λ (w : Bool). cond w (Ok (es ++ r.events, between e)) (Err (FieldPair, 8 * length all))) paired in
      let goes = no_ends-append (units_of bytes) (units_in (wholes_of ps)) a.goes a.own in
      rule_placed span bytes ps es r.events (between d) (between e) at s.standing.anchors can a.are come.has a.goes r.has goes a.units closed read (before_stand other) come.anchors (own_stand false other off) turn ends
      ∙ ap (λ (i : ℕ). (MissingReference, i)) (sym (place_told place other off is))

  -- a first field waits
  waits_told : none_waits e.state.waiting ≡ false → Told d s first bytes ps (Some (refusals.Fault (record { kind = FieldPair; place = 8 * end }))) z
  waits_told waits =
      let course = r.course ∙ ap (λ (w : Bool). behind r.events (cond w (Ok ([], between e)) (Err (FieldPair, 8 * end)))) waits in (
        strand_by_values false (agrees first e.state.first) stands waits refl refl,
        (closed, course, pieces_placed bytes ps es (between d) FieldPair (8 * end) come.has can go closed course),
      )

  -- a picture may not stand
  rule_told : (place : ℕ) (j : Bool) → none_waits e.state.waiting ≡ true → s.opening ≡ false → stands ≡ false → agrees first e.state.first ≡ j → z.standing.broken ≡ Some place → Told d s first bytes ps (Some (refusals.Rule place)) z
  rule_told place j paired other off joint is = (
    strand_by_values true j false paired joint off ∙ ap (λ (b : Bool). j && (b || false)) other ∙ and-false j,
    (
      closed,
      other,
      (
        j,
        record { events = r.events; behind = between e; read = course_paired paired; stands_is = own_stand false other off; joint_is = joint },
        place_told place other off is,
      ),
      λ span at turn ends. span_told place paired other off is span at turn ends,
    ),
  )

  -- the first header doesn't agree
  other_stands : (o : Bool) → s.opening ≡ o → (s.opening || stands) ≡ true → (s.opening || all_stand s.standing.anchors (pictures_in r.events)) ≡ true
  other_stands true e h = ap (λ (b : Bool). b || all_stand s.standing.anchors (pictures_in r.events)) e
  other_stands false e h =
      let on : stands ≡ true = rw e at h in
      ap (λ (b : Bool). s.opening || b) (own_stand true e on) ∙ or-true s.opening

  other_told : none_waits e.state.waiting ≡ true → (s.opening || stands) ≡ true → agrees first e.state.first ≡ false → Told d s first bytes ps (Some refusals.Other) z
  other_told paired kept joint = (
    strand_by_values true false stands paired joint refl,
    (
      closed,
      (
        all_stand s.standing.anchors (pictures_in r.events),
        other_stands s.opening refl kept,
        record { events = r.events; behind = between e; read = course_paired paired; stands_is = refl; joint_is = joint },
      ),
    ),
  )

  -- it is a strand
  strand_told : none_waits e.state.waiting ≡ true → (s.opening || stands) ≡ true → agrees first e.state.first ≡ true → Told d s first bytes ps None z
  strand_told paired kept joint = (
    strand_by_values true true stands paired joint refl ∙ kept,
    record {
      decoder = e;
      follows = follows;
      events = es ++ r.events;
      come = r.come;
      can = inr (a.begins, a.no_end, closed);
      paired = paired;
      rule = ap (λ (b : Bool). b || is_none z.standing.broken) r.opening ∙ ap (λ (b : Bool). s.opening || b) (r.come).stands ∙ kept;
      length_is = r.total ∙ lengths;
    },
  )

  rule_kept : (o : Bool) (b : Option ℕ) → s.opening ≡ o → z.standing.broken ≡ b → broken_rule o b ≡ None → (s.opening || stands) ≡ true
  rule_kept true b eo eb none = ap (λ (x : Bool). x || stands) eo
  rule_kept false None eo eb none = ap (λ (x : Bool). s.opening || x) (sym (r.come).stands ∙ ap is_none eb) ∙ or-true s.opening
  rule_kept false (Some place) eo eb none = absurd cc

  kept_told : (j : Bool) → none_waits e.state.waiting ≡ true → (s.opening || stands) ≡ true → agrees first e.state.first ≡ j → Told d s first bytes ps (refusal_by false None j end) z
  kept_told true paired kept joint = strand_told paired kept joint
  kept_told false paired kept joint = other_told paired kept joint

  by_rule : (o : Bool) (b : Option ℕ) (j : Bool) → none_waits e.state.waiting ≡ true → s.opening ≡ o → z.standing.broken ≡ b → agrees first e.state.first ≡ j → Told d s first bytes ps (refusal_by false (broken_rule o b) j end) z
  by_rule true b j paired eo eb joint = kept_told j paired (rule_kept true b eo eb refl) joint
  by_rule false None j paired eo eb joint = kept_told j paired (rule_kept false None eo eb refl) joint
  by_rule false (Some place) j paired eo eb joint = rule_told place j paired eo (sym (r.come).stands ∙ ap is_none eb) joint eb

  by_waiting : (w : Option FirstField) (o : Bool) (b : Option ℕ) (j : Bool) → e.state.waiting ≡ w → s.opening ≡ o → z.standing.broken ≡ b → agrees first e.state.first ≡ j → Told d s first bytes ps (refusal_by (is_some w) (broken_rule o b) j end) z
  by_waiting (Some f) o b j ew eo eb joint = waits_told (ap none_waits ew)
  by_waiting None o b j ew eo eb joint = by_rule o b j (ap none_waits ew) eo eb joint

  pub told_so : Told d s first bytes ps (refusal_of z first end) z
  told_so =
      let state = follows.state in
      by_waiting z.reading.state.waiting z.opening z.standing.broken (agrees first z.reading.state.first) (ap (λ (x : State). x.waiting) state) (sym r.opening) refl (ap (λ (x : State). agrees first x.first) state)

-- ---- of a strand

pub told_walked : (s z : StrandState) (first : Option Sequence) (bytes : List ℕ) (ps : List Piece) (end : ℕ) → (at : IsAt s bytes) → CanGoBehind bytes (wholes_of ps) → last_open (units_in (wholes_of ps)) ≡ false → end ≡ last_end 0 ps → bytes_in ps ≡ length (joined (wholes_of ps)) → Walked at.decoder s ps z
    → Told at.decoder s first bytes ps (refusal_of z first end) z
told_walked s z first bytes ps end at c closed is lengths w =
    let a = asked bytes ps at.can c in
    let r = all_read bytes at.events at.decoder s ps end z at.come a c.some closed is w in
    let n = length-append bytes (joined (wholes_of ps)) in
    told_so bytes at.events at.decoder s first ps end w.behind z r w.follows at.come at.rule a (a.last ∙ closed) (omega (arith, at.length_is, lengths, n)) at.can c

pub told_halted : (s z : StrandState) (first : Option Sequence) (bytes : List ℕ) (ps : List Piece) (f : Fault) → (at : IsAt s bytes) → CanGoBehind bytes (wholes_of ps) → last_open (units_in (wholes_of ps)) ≡ false → Halts at.decoder s ps f
    → Told at.decoder s first bytes ps (Some (refusals.Fault f)) z
told_halted s z first bytes ps f at c closed h =
    let a = asked bytes ps at.can c in
    let x = halted bytes at.events at.decoder s ps f at.come a h in (
      strand_by s.opening first bytes ps (Err (f.kind, x.left)) a x.read ∙ ap (λ (b : Bool). not b && false) closed,
      (a.last ∙ closed, x.course, pieces_placed bytes ps at.events (between at.decoder) f.kind f.place (at.come).has at.can c (a.last ∙ closed) x.course),
    )

pub told_open : (s z : StrandState) (first : Option Sequence) (bytes : List ℕ) (ps : List Piece) → (at : IsAt s bytes) → CanGoBehind bytes (wholes_of ps) → last_open (units_in (wholes_of ps)) ≡ true → Told at.decoder s first bytes ps (Some refusals.Open) z
told_open s z first bytes ps at c opens =
    let a = asked bytes ps at.can c in (
      strand_by s.opening first bytes ps (units_read at_start (units_of bytes ++ units_in (wholes_of ps))) a refl ∙ ap (λ (b : Bool). not b && is_strand_read s.opening first (units_read at_start (units_of bytes ++ units_in (wholes_of ps)))) opens,
      (a.last ∙ opens, λ span at turn ends. ap (λ (b : Bool). if b then (Truncated, 8 * end_of_span span - 24) else fault_by span (bytes ++ joined (wholes_of ps)) (strands.read_of (bytes ++ joined (wholes_of ps)))) (a.last ∙ opens)),
    )
