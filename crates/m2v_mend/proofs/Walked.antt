-- Pieces that are read behind a strand, all of them or up to a fault: what is read then, and whether it is a strand.
use Rattle.std.proofs.Common.{◌≡◌, ℕ, ◌+◌, ◌≤◌, Bool, true, false, List, [], ◌∷◌, ◌++◌, length, Option, Err, refl, sym, ap, subst, ◌∙◌, append_assoc, append-nil, arith}
use Rattle.std.specs.Prelude.{not, ◌&&◌}
use Rattle.std.proofs.lemmas.List.{length-append}
use Rattle.m2v_model.specs.declared.state.Sequence.{Sequence}
use Rattle.m2v_model.specs.Units.{Units, joined, unit_bits, AreUnits}
use Rattle.m2v_model.specs.Pictures.{Pictures, Events, pictures_in}
use Rattle.m2v_model.specs.ByPieces.{Between, Course, at_start, behind, continued, units_read, piece_read}
use Rattle.m2v_model.proofs.EventLaws.{pictures_in-append}
use Rattle.m2v_model.proofs.ShiftLaws.{NoEnds}
use Rattle.m2v_model.proofs.SplitLaws.{behind_none, behind_twice}
use Rattle.m2v_model.proofs.PieceLaws.{no_ends-append}
use Rattle.m2v_law_group.specs.Groups.{is_sequence}
use Rattle.m2v_law_group.proofs.Lists.{no_ends_parts}
use Rattle.m2v_law_seam.specs.Spans.{units_of, units_in}
use Rattle.m2v_law_seam.specs.Strands.{last_open, has_end, begins_sequence, is_strand}
use Rattle.m2v_law_seam.specs.Faults.{read_at}
use Rattle.m2v_law_seam.specs.Reading.{is_strand_read, BeginsOnePiece, BeginsSequence, ArePieces, CanGrow, CanGoBehind}
use Rattle.m2v_law_seam.proofs.Strand.{none_ends}
use Rattle.m2v_law_seam.proofs.ByUnits.{strand_is, grown}
use Rattle.m2v_law_seam.proofs.Told.{units_append}
use Rattle.m2v_law_seam.proofs.Placing.{piece_fault, front_sequence, never_none, whole_bytes, some_units, grow_none, none_grown, begins_later, fault_units, first_is}
use Rattle.m2v_decode.specs.m2v_dec_piece.declared.answer.Piece.{Piece}
use Rattle.m2v_decode.specs.m2v_dec_piece.declared.answer.Fault.{Fault}
use Rattle.m2v_decode.specs.Decoding.{Decoding, between, whole_of}
use Rattle.m2v_mend.specs.Strand.{StrandState, Steps, Walks, stop, step, Halts, wholes_of, ends_of, bytes_in, HasCome}
use Rattle.m2v_mend.proofs.Walking.{step_reads}
use Rattle.m2v_mend.proofs.Ruling.{rule_of, rule_none, step_rule}
use Rattle.m2v_mend.proofs.Standalone.{sequence_front, pieces_parts}
use Rattle.m2v_mend.proofs.Parting.{wholes_append}

-- ---- units of pieces

pub units_between : (ps qs : List Piece) → units_in (wholes_of (ps ++ qs)) ≡ units_in (wholes_of ps) ++ units_in (wholes_of qs)
units_between ps qs = ap units_in (wholes_append ps qs) ∙ units_append (wholes_of ps) (wholes_of qs)

-- ---- where pieces end

abbrev pub last_end : ℕ → List Piece → ℕ
last_end n [] = n
last_end n (p ∷ ps) = last_end (p.place + length (whole_of p)) ps

-- ---- pieces that were read

pub record WalkRead (us : Units) (es : Events) (d : Decoding) (s : StrandState) (ps : List Piece) (e : Decoding) (z : StrandState) : Type 0 where
  pub events : Events
  pub come : HasCome (us ++ units_in (wholes_of ps)) (es ++ events) e z
  pub course : (n : ℕ) (later : List Piece) → read_at (between d) n (ends_of (ps ++ later)) (wholes_of (ps ++ later)) ≡ behind events (read_at (between e) (last_end n ps) (ends_of later) (wholes_of later))
  pub bytes : z.bytes ≡ s.bytes + bytes_in ps
  pub opening : z.opening ≡ s.opening
  pub rule : z.standing.broken ≡ rule_of s.standing (pictures_in events) ps

walk_none : (us : Units) (es : Events) (d : Decoding) (s : StrandState) → HasCome us es d s → WalkRead us es d s [] d s
unfolding units_in
walk_none us es d s r = record {
  events = [];
  come = subst (λ (l : Units). HasCome l (es ++ []) d s) (sym (append-nil us)) (subst (λ (l : Events). HasCome us l d s) (sym (append-nil es)) r);
  course = λ n later. sym (behind_none (read_at (between d) n (ends_of later) (wholes_of later)));
  bytes = omega arith;
  opening = refl;
  rule = rule_none s.standing;
}

course_step : (d : Decoding) (s z : StrandState) (p : Piece) (ps : List Piece) (n : ℕ) → (x : Steps d s p z) → read_at (between d) n (ends_of (p ∷ ps)) (wholes_of (p ∷ ps)) ≡ behind (x.advanced).events (read_at (between x.behind) (p.place + length (whole_of p)) (ends_of ps) (wholes_of ps))
unfolding read_at continued
course_step d s z p ps n x =
    let end = p.place + length (whole_of p) in
    ap (λ (c : Course). continued c (λ next. read_at next end (ends_of ps) (wholes_of ps))) (x.advanced).read

walk_more : (us : Units) (es : Events) (d e : Decoding) (s z y : StrandState) (p : Piece) (ps : List Piece) → (x : Steps d s p z) → ((qs : Pictures) (rs : List Piece) → rule_of z.standing qs rs ≡ rule_of s.standing (pictures_in (x.advanced).events ++ qs) (p ∷ rs))
    → WalkRead (us ++ units_of (whole_of p)) (es ++ (x.advanced).events) x.behind z ps e y → WalkRead us es d s (p ∷ ps) e y
unfolding units_in
walk_more us es d e s z y p ps x rule w =
    let own = (x.advanced).events in
    let vs = units_of (whole_of p) in
    record {
      events = own ++ w.events;
      come = subst (λ (l : Units). HasCome l (es ++ (own ++ w.events)) e y) (append_assoc us vs (units_in (wholes_of ps)))
          (subst (λ (l : Events). HasCome ((us ++ vs) ++ units_in (wholes_of ps)) l e y) (append_assoc es own w.events) w.come);
      course = λ n later.
          course_step d s z p (ps ++ later) n x
          ∙ ap (behind own) (w.course (p.place + length (whole_of p)) later)
          ∙ sym (behind_twice own w.events (read_at (between e) (last_end (p.place + length (whole_of p)) ps) (ends_of later) (wholes_of later)));
      bytes = omega (arith, w.bytes, x.bytes);
      opening = w.opening ∙ x.opening;
      rule = w.rule ∙ rule (pictures_in w.events) ps ∙ ap (λ (l : Pictures). rule_of s.standing l (p ∷ ps)) (sym (pictures_in-append own w.events));
    }

pub walk_reads : {d e : Decoding} {s z : StrandState} {ps : List Piece} → Walks d s ps e z → (us : Units) (es : Events) → HasCome us es d s → ArePieces (wholes_of ps) → NoEnds us → NoEnds (units_in (wholes_of ps)) → (us ≡ [] → 1 ≤ length ps → BeginsSequence (units_in (wholes_of ps)))
    → WalkRead us es d s ps e z
unfolding units_in
walk_reads {d} {s = s} stop us es r are none own first = walk_none us es d s r
walk_reads {d} {e} {s} {z} (step {z = m} {p = p} {ps = ps} x w) us es r are none own first =
    let vs = units_of (whole_of p) in
    let parts = no_ends_parts vs (units_in (wholes_of ps)) own in
    let one = step_reads us es d s m p r x are.0 none parts.0 (λ empty. front_sequence vs (units_in (wholes_of ps)) (are.0).begins (first empty (omega arith))) in
    walk_more us es d e s m z p ps x
    (step_rule us es d s m p r x are.0 parts.0 (λ empty. front_sequence vs (units_in (wholes_of ps)) (are.0).begins (first empty (omega arith))))
    (walk_reads w (us ++ vs) (es ++ (x.advanced).events) one are.1 (no_ends-append us vs none parts.0) parts.1 (λ empty some. absurd (never_none us vs (are.0).begins empty)))

-- ---- where a strand is asked for

-- what is known of bytes that were read, and of pieces that can stand behind them
pub record Asked (bytes : List ℕ) (ps : List Piece) : Type 0 where
  pub goes : NoEnds (units_of bytes)
  pub own : NoEnds (units_in (wholes_of ps))
  pub are : ArePieces (wholes_of ps)
  pub units : units_of (bytes ++ joined (wholes_of ps)) ≡ units_of bytes ++ units_in (wholes_of ps)
  pub first : units_of bytes ≡ [] → 1 ≤ length ps → BeginsSequence (units_in (wholes_of ps))
  pub begins : begins_sequence (bytes ++ joined (wholes_of ps)) ≡ true
  pub no_end : has_end (units_of (bytes ++ joined (wholes_of ps))) ≡ false
  pub last : last_open (units_of (bytes ++ joined (wholes_of ps))) ≡ last_open (units_in (wholes_of ps))

asked_by : (bytes : List ℕ) (ps : List Piece) (v : List ℕ) (vs : Units) → CanGrow bytes → CanGoBehind bytes (wholes_of ps) → units_in (wholes_of ps) ≡ v ∷ vs → Asked bytes ps
asked_by bytes ps v vs can c e =
    let ws = units_in (wholes_of ps) in
    let first : bytes ≡ [] → is_sequence v ≡ true = λ empty. first_is v vs ws e (c.first empty) in
    let g = grown bytes v vs can (subst AreUnits e c.are) (ap has_end (sym e) ∙ c.no_end) first in
    let same : bytes ++ joined (wholes_of ps) ≡ bytes ++ joined (v ∷ vs) = ap (λ (l : List ℕ). bytes ++ l) (whole_bytes (wholes_of ps) c.pieces ∙ ap joined e) in
    record {
      goes = none_ends (units_of bytes) (grow_none bytes can);
      own = none_ends ws c.no_end;
      are = c.pieces;
      units = ap units_of same ∙ g.units ∙ ap (λ (l : Units). units_of bytes ++ l) (sym e);
      first = λ none some. c.first (none_grown bytes can none);
      begins = ap begins_sequence same ∙ g.begins;
      no_end = ap (λ (l : List ℕ). has_end (units_of l)) same ∙ g.no_end;
      last = ap (λ (l : List ℕ). last_open (units_of l)) same ∙ g.last ∙ ap last_open (sym e);
    }

pub asked : (bytes : List ℕ) (ps : List Piece) → CanGrow bytes → CanGoBehind bytes (wholes_of ps) → Asked bytes ps
asked bytes ps can c = let s = some_units (wholes_of ps) c.pieces c.some in asked_by bytes ps s.0 s.1 can c s.2

-- whether it is one, by what is read of all units
pub strand_by : (opening : Bool) (first : Option Sequence) (bytes : List ℕ) (ps : List Piece) (r : Course) → Asked bytes ps → units_read at_start (units_of bytes ++ units_in (wholes_of ps)) ≡ r
    → is_strand opening first (bytes ++ joined (wholes_of ps)) ≡ (not (last_open (units_in (wholes_of ps))) && is_strand_read opening first r)
strand_by opening first bytes ps r a e =
    let all = bytes ++ joined (wholes_of ps) in
    strand_is opening first all a.begins a.no_end
    ∙ ap (λ (b : Bool). not b && is_strand_read opening first (units_read at_start (units_of all))) a.last
    ∙ ap (λ (c : Course). not (last_open (units_in (wholes_of ps))) && is_strand_read opening first c) (ap (units_read at_start) a.units ∙ e)

-- ---- a fault

-- what is read of all pieces where one of them has a fault
pub record HasHalted (bytes : List ℕ) (d : Decoding) (ps : List Piece) (f : Fault) : Type 0 where
  pub left : ℕ
  pub read : units_read at_start (units_of bytes ++ units_in (wholes_of ps)) ≡ Err (f.kind, left)
  pub course : read_at (between d) 0 (ends_of ps) (wholes_of ps) ≡ Err (f.kind, f.place)

course_halts : (b : Between) (n : ℕ) (p : Piece) (later : List Piece) (f : Fault) → piece_read b (p.place + length (whole_of p)) (whole_of p) ≡ Err (f.kind, f.place) → read_at b n (ends_of (p ∷ later)) (wholes_of (p ∷ later)) ≡ Err (f.kind, f.place)
unfolding read_at continued
course_halts b n p later f e = ap (λ (c : Course). continued c (λ next. read_at next (p.place + length (whole_of p)) (ends_of later) (wholes_of later))) e

halted_by : (bytes : List ℕ) (es : Events) (d : Decoding) (s : StrandState) (front : List Piece) (p : Piece) (later : List Piece) (at : Decoding) (z : StrandState) (f : Fault) → HasCome (units_of bytes) es d s → Asked bytes (front ++ p ∷ later)
    → Walks d s front at z → piece_read (between at) (p.place + length (whole_of p)) (whole_of p) ≡ Err (f.kind, f.place) → HasHalted bytes d (front ++ p ∷ later) f
unfolding units_in
halted_by bytes es d s front p later at z f come a w refused =
    let us = units_of bytes in
    let ws = units_of (whole_of p) in
    let vs = units_in (wholes_of later) in
    let pieces = pieces_parts (wholes_of front) (wholes_of (p ∷ later)) (subst ArePieces (wholes_append front (p ∷ later)) a.are) in
    let split = units_between front (p ∷ later) in
    let own = no_ends_parts (units_in (wholes_of front)) (ws ++ vs) (subst NoEnds split a.own) in
    let mine = no_ends_parts ws vs own.1 in
    let r = walk_reads w us es come pieces.0 a.goes own.0 (λ none some. front_first front (ws ++ vs) some pieces.0 (subst BeginsSequence split (a.first none (omega (arith, some, length-append front (p ∷ later)))))) in
    let h = piece_fault (between at) (p.place + length (whole_of p)) (whole_of p) f.kind f.place refused in
    let before = us ++ units_in (wholes_of front) in
    let goes = no_ends-append us (units_in (wholes_of front)) a.goes own.0 in
    let begins = ((pieces.1).0).begins in
    let read = fault_units before (es ++ r.events) (between at) ws vs (f.kind, h.left) (r.come).has goes mine.0 begins (begins_later (wholes_of later) (pieces.1).1) (λ none. here us front ws vs none begins split a.first) h.read in
    let all : us ++ units_in (wholes_of (front ++ p ∷ later)) ≡ (before ++ ws) ++ vs =
    ap (λ (l : Units). us ++ l) split ∙ sym (append_assoc us (units_in (wholes_of front)) (ws ++ vs)) ∙ sym (append_assoc before ws vs) in
    record {
      left = h.left + unit_bits vs;
      read = ap (units_read at_start) all ∙ read;
      course = r.course 0 (p ∷ later) ∙ ap (behind r.events) (course_halts (between at) (last_end 0 front) p later f refused);
    }
  where
    front_first : (ps : List Piece) (ws : Units) → 1 ≤ length ps → ArePieces (wholes_of ps) → BeginsSequence (units_in (wholes_of ps) ++ ws) → BeginsSequence (units_in (wholes_of ps))
    front_first [] ws le a h = absurd (omega (arith, le))
    front_first (q ∷ qs) ws le a h =
        let first = front_sequence (units_of (whole_of q)) (units_in (wholes_of qs) ++ ws) (a.0).begins (subst BeginsSequence (append_assoc (units_of (whole_of q)) (units_in (wholes_of qs)) ws) h) in
        sequence_front (units_of (whole_of q)) (units_in (wholes_of qs)) first

    none_first : (us vs : Units) → us ++ vs ≡ [] → (us ≡ []) × (vs ≡ [])
    none_first [] vs e = (refl, e)
    none_first (u ∷ us) vs e = absurd cc

    here : (us : Units) (front : List Piece) (ws vs : Units) → us ++ units_in (wholes_of front) ≡ [] → BeginsOnePiece ws → units_in (wholes_of (front ++ p ∷ later)) ≡ units_in (wholes_of front) ++ (ws ++ vs) → (us ≡ [] → 1 ≤ length (front ++ p ∷ later) → BeginsSequence (units_in (wholes_of (front ++ p ∷ later)))) → BeginsSequence ws
    here us front ws vs none begins split first =
        let x = none_first us (units_in (wholes_of front)) none in
        let all = first x.0 (omega (arith, length-append front (p ∷ later))) in
        front_sequence ws vs begins (subst (λ (l : Units). BeginsSequence (l ++ (ws ++ vs))) x.1 (subst BeginsSequence split all))

pub halted : (bytes : List ℕ) (es : Events) (d : Decoding) (s : StrandState) (ps : List Piece) (f : Fault) → HasCome (units_of bytes) es d s → Asked bytes ps → Halts d s ps f → HasHalted bytes d ps f
halted bytes es d s ps f come a h =
    subst (λ (l : List Piece). HasHalted bytes d l f) (sym h.are) (halted_by bytes es d s h.front h.piece h.later h.at h.state f come (subst (Asked bytes) h.are a) h.walks h.refused)
