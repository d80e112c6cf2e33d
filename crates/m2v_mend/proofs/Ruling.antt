-- Where the first picture stands that may not stand in a strand, as the pieces are read.
use Rattle.std.proofs.Common.{◌≡◌, ℕ, suc, ◌+◌, ◌-◌, ◌*◌, ◌≤◌, Bool, true, false, List, [], ◌∷◌, ◌++◌, length, Option, Some, None, Ok, refl, sym, ap, subst, ◌∙◌, arith}
use Rattle.std.specs.Prelude.{nat_lt, ◌&&◌, if◌then◌else◌}
use Rattle.std.proofs.lemmas.Bool.{le-ltb}
use Rattle.std.proofs.lemmas.List.{length-append}
use Rattle.m2v_model.specs.Units.{Units, joined}
use Rattle.m2v_model.specs.Pictures.{Picture, Pictures, Events, pictures_in}
use Rattle.m2v_model.specs.PieceNotes.{PieceNotes, note_of, first_note, notes_of}
use Rattle.m2v_model.specs.Buffering.{code_bits}
use Rattle.m2v_model.specs.Buffering as buffering
use Rattle.m2v_model.specs.ByPieces.{units_read}
use Rattle.m2v_model.proofs.ShiftLaws.{NoEnds}
use Rattle.m2v_law_group.specs.Groups.{is_picture}
use Rattle.m2v_law_group.specs.Chosen.{anchors_behind}
use Rattle.m2v_law_seam.specs.Spans.{units_of, picture_count}
use Rattle.m2v_law_seam.specs.Strands.{may_stand, all_stand}
use Rattle.m2v_law_seam.specs.Faults.{before_picture, standing}
use Rattle.m2v_law_seam.specs.Reading.{BeginsOnePiece, BeginsSequence, IsPieceOfUnits}
use Rattle.m2v_law_seam.proofs.Placing.{piece_units_read}
use Rattle.m2v_decode.specs.m2v_dec_piece.declared.answer.Piece.{Piece}
use Rattle.m2v_decode.specs.Decoding.{Decoding, between, whole_of}
use Rattle.m2v_mend.specs.declared.standing.Standing.{Standing}
use Rattle.m2v_mend.specs.Strand.{broken_with, standing_with, picture_place, StrandState, Steps, HasCome}
use Rattle.m2v_mend.proofs.Walking.{EndsSo, AllEndSo, all_end, same_anchors, count_told}

-- the bytes before the first picture unit
before_first : (us : Units) → buffering.before_picture us ≡ length (joined (before_picture 0 us))
unfolding buffering.before_picture before_picture
before_first [] = refl
before_first (u ∷ us) = by_picture (is_picture u) (before_first us)
  where
    by_picture : (b : Bool) → buffering.before_picture us ≡ length (joined (before_picture 0 us)) → (if b then 0 else length u + buffering.before_picture us) ≡ length (joined (if b then [] else u ∷ before_picture 0 us))
    by_picture true ih = refl
    by_picture false ih = let all = length-append u (joined (before_picture 0 us)) in omega (arith, ih, all)

-- ---- by pictures, and the pieces that have them

abbrev pub rule_of : Standing → Pictures → List Piece → Option ℕ
rule_of s qs ps = broken_with s.broken (all_stand s.anchors qs) (picture_place (standing s.anchors qs) ps)

abbrev placed_by : ℕ → ℕ → Piece → List Piece → ℕ
placed_by count n p ps = if nat_lt n count then 8 * (p.place + length (joined (before_picture n (units_of (whole_of p))))) else picture_place (n - count) ps

place_is : (count n : ℕ) (p : Piece) (ps : List Piece) → picture_count (units_of (whole_of p)) ≡ count → picture_place n (p ∷ ps) ≡ placed_by count n p ps
unfolding picture_place
place_is count n p ps e = ap (λ (c : ℕ). placed_by c n p ps) e

place_later : (count n : ℕ) (p : Piece) (ps : List Piece) → picture_count (units_of (whole_of p)) ≡ count → count ≤ n → picture_place n (p ∷ ps) ≡ picture_place (n - count) ps
place_later count n p ps e le =
    place_is count n p ps e ∙ ap (λ (b : Bool). if b then 8 * (p.place + length (joined (before_picture n (units_of (whole_of p))))) else picture_place (n - count) ps) (le-ltb n count le)

kept_on : (b : Option ℕ) (place : ℕ) → broken_with b true place ≡ b
kept_on None place = refl
kept_on (Some n) place = refl

lost_on : (b : Option ℕ) (place : ℕ) (t : Bool) (other : ℕ) → broken_with (broken_with b false place) t other ≡ broken_with b false place
lost_on None place t other = refl
lost_on (Some n) place t other = refl

one_rule : (s : Standing) (k : ℕ) (q : Picture) (qs : Pictures) (p : Piece) (ps : List Piece) (t : Bool) → may_stand s.anchors q ≡ t → EndsSo q → picture_count (units_of (whole_of p)) ≡ 1 → k ≡ 8 * p.place + code_bits (whole_of p)
    → rule_of (standing_with s (Some (note_of k q))) qs ps ≡ broken_with s.broken (t && all_stand (anchors_behind s.anchors q) qs) (picture_place (if t then suc (standing (anchors_behind s.anchors q) qs) else 0) (p ∷ ps))
one_rule s k q qs p ps true may e one at =
    let n = standing (anchors_behind s.anchors q) qs in
    let place : picture_place n ps ≡ picture_place (suc n) (p ∷ ps) =
    let less : n ≡ suc n - 1 = omega arith in ap (λ (i : ℕ). picture_place i ps) less ∙ sym (place_later 1 (suc n) p ps one (omega arith)) in
    let own : broken_with s.broken (may_stand s.anchors q) (k - 32) ≡ s.broken = ap (λ (b : Bool). broken_with s.broken b (k - 32)) may ∙ kept_on s.broken (k - 32) in
    ap (λ (i : ℕ). broken_with (broken_with s.broken (may_stand s.anchors q) (k - 32)) (all_stand i qs) (picture_place (standing i qs) ps)) (same_anchors s.anchors k q e)
    ∙ ap (λ (b : Option ℕ). broken_with b (all_stand (anchors_behind s.anchors q) qs) (picture_place n ps)) own
    ∙ ap (λ (i : ℕ). broken_with s.broken (all_stand (anchors_behind s.anchors q) qs) i) place
one_rule s k q qs p ps false may e one at =
    let us = units_of (whole_of p) in
    let first = before_first us in
    let there : k - 32 ≡ 8 * (p.place + length (joined (before_picture 0 us))) = omega (arith, at, first) in
    let place : picture_place 0 (p ∷ ps) ≡ 8 * (p.place + length (joined (before_picture 0 us))) = place_is 1 0 p ps one in
    let own : broken_with s.broken (may_stand s.anchors q) (k - 32) ≡ broken_with s.broken false (k - 32) = ap (λ (b : Bool). broken_with s.broken b (k - 32)) may in
    ap (λ (b : Option ℕ). broken_with b (all_stand (standing_with s (Some (note_of k q))).anchors qs) (picture_place (standing (standing_with s (Some (note_of k q))).anchors qs) ps)) own
    ∙ lost_on s.broken (k - 32) _ _
    ∙ ap (broken_with s.broken false) (there ∙ sym place)

by_pictures : (s : Standing) (k : ℕ) (qp qs : Pictures) (p : Piece) (ps : List Piece) → length qp ≡ picture_count (units_of (whole_of p)) → picture_count (units_of (whole_of p)) ≤ 1 → AllEndSo qp → k ≡ 8 * p.place + code_bits (whole_of p)
    → rule_of (standing_with s (first_note k qp)) qs ps ≡ rule_of s (qp ++ qs) (p ∷ ps)
unfolding all_stand standing
by_pictures s k [] qs p ps count few e at =
    let less : standing s.anchors qs ≡ standing s.anchors qs - 0 = omega arith in
    ap (λ (i : ℕ). broken_with s.broken (all_stand s.anchors qs) i) (ap (λ (i : ℕ). picture_place i ps) less ∙ sym (place_later 0 (standing s.anchors qs) p ps (sym count) (omega arith)))
by_pictures s k (q ∷ []) qs p ps count few e at = one_rule s k q qs p ps (may_stand s.anchors q) refl e.0 (sym count) at
by_pictures s k (q ∷ x ∷ qp) qs p ps count few e at = absurd (omega (arith, count, few))

-- ---- a piece more

step_rule_units : (us : Units) (es : Events) (d : Decoding) (s z : StrandState) (p : Piece) (ws : Units) → HasCome us es d s → (x : Steps d s p z) → units_of (whole_of p) ≡ ws → NoEnds ws → BeginsOnePiece ws → (us ≡ [] → BeginsSequence ws) → picture_count ws ≤ 1 → (qs : Pictures) (ps : List Piece)
    → rule_of z.standing qs ps ≡ rule_of s.standing (pictures_in (x.advanced).events ++ qs) (p ∷ ps)
unfolding notes_of
step_rule_units us es d s z p [] r x is own begins first few qs ps = absurd begins
step_rule_units us es d s z p (v ∷ vs) r x is own begins first few qs ps =
    let a = x.advanced in
    let end = p.place + length (whole_of p) in
    let read : units_read (between d) (v ∷ vs) ≡ Ok (a.events, between x.behind) =
    ap (units_read (between d)) (sym is) ∙ piece_units_read (between d) (between x.behind) end (whole_of p) a.events a.read in
    let qp = pictures_in a.events in
    let k = 8 * p.place + code_bits (whole_of p) in
    let note : z.standing ≡ standing_with s.standing (first_note k qp) = x.standing ∙ ap (λ (n : PieceNotes). standing_with s.standing n.picture) a.notes_are in
    let count : length qp ≡ picture_count (units_of (whole_of p)) = count_told us es a.events (between d) (between x.behind) v vs r.has own first read ∙ ap picture_count (sym is) in
    ap (λ (t : Standing). rule_of t qs ps) note
    ∙ by_pictures s.standing k qp qs p ps count (subst (λ (l : Units). picture_count l ≤ 1) (sym is) few) (all_end (between d) (between x.behind) (v ∷ vs) a.events read) refl

pub step_rule : (us : Units) (es : Events) (d : Decoding) (s z : StrandState) (p : Piece) → HasCome us es d s → (x : Steps d s p z) → IsPieceOfUnits (whole_of p) → NoEnds (units_of (whole_of p)) → (us ≡ [] → BeginsSequence (units_of (whole_of p))) → (qs : Pictures) (ps : List Piece)
    → rule_of z.standing qs ps ≡ rule_of s.standing (pictures_in (x.advanced).events ++ qs) (p ∷ ps)
step_rule us es d s z p r x i own first qs ps = step_rule_units us es d s z p (units_of (whole_of p)) r x refl own i.begins first i.one qs ps

-- nothing more
pub rule_none : (s : Standing) → s.broken ≡ rule_of s [] []
unfolding all_stand standing
rule_none s = sym (kept_on s.broken _)
