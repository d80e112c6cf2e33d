-- The fault of a span whose pictures break the rule of a strand: where the first one stands that may not, in the input.
use Rattle.std.proofs.Common.{◌≡◌, inl, inr, ℕ, zero, suc, ◌+◌, ◌-◌, ◌*◌, ◌<◌, Bool, true, false, List, [], ◌∷◌, ◌++◌, length, Ok, Err, refl, sym, ap, subst, ◌∙◌, arith}
use Rattle.std.specs.Prelude.{max, ◌&&◌, if◌then◌else◌}
use Rattle.std.proofs.lemmas.Bool.{cases_lt, lt-ltb, le-ltb}
use Rattle.std.proofs.lemmas.List.{length-append}
use Rattle.m2v_model.specs.declared.fault.FaultKind.{FaultKind}
use Rattle.m2v_model.specs.declared.fault.FaultKind.TheVariants.{MissingReference}
use Rattle.m2v_model.specs.Units.{Units, cut, joined}
use Rattle.m2v_model.specs.Pictures.{Pictures, Events, pictures_in}
use Rattle.m2v_model.specs.ByPieces.{Between, at_start}
use Rattle.m2v_model.proofs.CutLaws.{cut_units, joined-append}
use Rattle.m2v_model.proofs.EventLaws.{pictures_in-append}
use Rattle.m2v_model.proofs.ShiftLaws.{NoEnds}
use Rattle.m2v_model.proofs.CountLaws.{Told, pictures_told}
use Rattle.m2v_law_group.specs.Groups.{is_picture}
use Rattle.m2v_law_group.specs.Chosen.{anchors_behind}
use Rattle.m2v_law_seam.specs.Spans.{units_of, units_in, picture_count, Span, end_of_span}
use Rattle.m2v_law_seam.specs.Strands.{may_stand, all_stand, last_open}
use Rattle.m2v_law_seam.specs.Strands as strands
use Rattle.m2v_law_seam.specs.Faults.{before_picture, standing, read_at, fault_behind}
use Rattle.m2v_law_seam.specs.Reading.{ArePieces, CanGrow, CanGoBehind, HasRead, anchors_after}
use Rattle.m2v_law_seam.proofs.Told.{count_append}
use Rattle.m2v_law_seam.proofs.Strand.{strand_units}
use Rattle.m2v_law_seam.proofs.ByUnits.{standing_all}
use Rattle.m2v_law_seam.proofs.Placing.{no_units, behind_by, fault_placed}
use Rattle.m2v_decode.specs.m2v_dec_piece.declared.answer.Piece.{Piece}
use Rattle.m2v_decode.specs.Decoding.{whole_of}
use Rattle.m2v_mend.specs.Strand.{wholes_of, ends_of, picture_place, AreInTurn, IsFaultOf}
use Rattle.m2v_mend.proofs.Walking.{units_counted}
use Rattle.m2v_mend.proofs.Parting.{ends_in_turn}

-- ---- before a picture among units

-- it stands behind the first ones
pub before_later : (us vs : Units) (n k : ℕ) → n ≡ picture_count us + k → before_picture n (us ++ vs) ≡ us ++ before_picture k vs
unfolding before_picture picture_count
before_later [] vs n k e = let same : n ≡ k = omega (arith, e) in ap (λ (i : ℕ). before_picture i vs) same
before_later (u ∷ us) vs zero k e = by_first (is_picture u) e (λ h. before_later us vs zero k h)
  where
    by_first : (b : Bool) → 0 ≡ (if b then 1 else 0) + picture_count us + k → (0 ≡ picture_count us + k → before_picture 0 (us ++ vs) ≡ us ++ before_picture k vs)
        → (if b then [] else u ∷ before_picture 0 (us ++ vs)) ≡ u ∷ (us ++ before_picture k vs)
    by_first true e ih = absurd (omega (arith, e))
    by_first false e ih = ap (λ (l : Units). u ∷ l) (ih (omega (arith, e)))
before_later (u ∷ us) vs (suc n) k e = by_first (is_picture u) e (λ i h. before_later us vs i k h)
  where
    by_first : (b : Bool) → suc n ≡ (if b then 1 else 0) + picture_count us + k → ((i : ℕ) → i ≡ picture_count us + k → before_picture i (us ++ vs) ≡ us ++ before_picture k vs)
        → u ∷ before_picture (if b then n else suc n) (us ++ vs) ≡ u ∷ (us ++ before_picture k vs)
    by_first true e ih = ap (λ (l : Units). u ∷ l) (ih n (omega (arith, e)))
    by_first false e ih = ap (λ (l : Units). u ∷ l) (ih (suc n) (omega (arith, e)))

-- it stands among the first ones
pub before_here : (us vs : Units) (n : ℕ) → n < picture_count us → before_picture n (us ++ vs) ≡ before_picture n us
unfolding before_picture picture_count
before_here [] vs n lt = absurd (omega (arith, lt))
before_here (u ∷ us) vs zero lt = by_first (is_picture u) lt (λ h. before_here us vs zero h)
  where
    by_first : (b : Bool) → 0 < (if b then 1 else 0) + picture_count us → (0 < picture_count us → before_picture 0 (us ++ vs) ≡ before_picture 0 us)
        → (if b then [] else u ∷ before_picture 0 (us ++ vs)) ≡ (if b then [] else u ∷ before_picture 0 us)
    by_first true lt ih = refl
    by_first false lt ih = ap (λ (l : Units). u ∷ l) (ih (omega (arith, lt)))
before_here (u ∷ us) vs (suc n) lt = by_first (is_picture u) lt (λ i h. before_here us vs i h)
  where
    by_first : (b : Bool) → suc n < (if b then 1 else 0) + picture_count us → ((i : ℕ) → i < picture_count us → before_picture i (us ++ vs) ≡ before_picture i us)
        → u ∷ before_picture (if b then n else suc n) (us ++ vs) ≡ u ∷ before_picture (if b then n else suc n) us
    by_first true lt ih = ap (λ (l : Units). u ∷ l) (ih n (omega (arith, lt)))
    by_first false lt ih = ap (λ (l : Units). u ∷ l) (ih (suc n) (omega (arith, lt)))

-- ---- in pieces that follow each other in the input

pub place_in_turn : (ps : List Piece) (at n : ℕ) → AreInTurn at ps → ArePieces (wholes_of ps) → n < picture_count (units_in (wholes_of ps)) → picture_place n ps ≡ 8 * (at + length (joined (before_picture n (units_in (wholes_of ps)))))
unfolding picture_place units_in picture_count
place_in_turn [] at n turn are lt = absurd (omega (arith, lt))
place_in_turn (p ∷ ps) at n turn are lt =
    let us = units_of (whole_of p) in
    let vs = units_in (wholes_of ps) in
    let all = count_append us vs in
    elim (cases_lt n (picture_count us)) [
      | inl less ↦
          let same = ap (λ (l : Units). length (joined l)) (before_here us vs n less) in
          let place = turn.0 in
          rw (lt-ltb n (picture_count us) less) (omega (arith, same, place))
      | inr more ↦
          let k = n - picture_count us in
          let later = place_in_turn ps (at + length (whole_of p)) k turn.1 are.1 (omega (arith, lt, all, more)) in
          let parts : length (joined (before_picture n (us ++ vs))) ≡ length (joined us) + length (joined (before_picture k vs)) =
          ap (λ (l : Units). length (joined l)) (before_later us vs n k (omega (arith, more))) ∙ ap length (joined-append us (before_picture k vs)) ∙ length-append (joined us) (joined (before_picture k vs)) in
          let own = ap length (are.0).whole in
          rw (le-ltb n (picture_count us) more) (later ∙ omega (arith, parts, own))
    ]

-- ---- the span's fault

-- the bytes of a strand are those of its units
grow_whole : (bytes : List ℕ) → CanGrow bytes → joined (units_of bytes) ≡ bytes
grow_whole bytes (inl e) = subst (λ (l : List ℕ). joined (units_of l) ≡ l) (sym e) (ap joined no_units)
grow_whole bytes (inr h) =
    let x = strand_units bytes h.0 h.1 h.2 in
    let own : units_of bytes ≡ x.h ∷ x.pm = ap units_of x.whole ∙ cut_units (x.h ∷ x.pm) x.are in
    ap joined own ∙ sym x.whole

all_counted : (us : Units) (es : Events) (b : Between) → HasRead us es b → NoEnds us → length (pictures_in es) ≡ picture_count us
unfolding picture_count
all_counted [] es b h none = ap (λ (l : Events). length (pictures_in l)) h.0
all_counted (u ∷ us) es b h none = let t = subst (Told at_start (u ∷ us)) h.1 (pictures_told at_start (u ∷ us) h.0) in t.0 ∙ omega (arith, units_counted (u ∷ us) none)

pub standing_less : (n : ℕ) (qs : Pictures) → all_stand n qs ≡ false → standing n qs < length qs
unfolding all_stand standing
standing_less n [] h = absurd cc
standing_less n (q ∷ qs) h = by_first (may_stand n q) h (λ g. standing_less (anchors_behind n q) qs g)
  where
    by_first : (b : Bool) → (b && all_stand (anchors_behind n q) qs) ≡ false → (all_stand (anchors_behind n q) qs ≡ false → standing (anchors_behind n q) qs < length qs) → (if b then suc (standing (anchors_behind n q) qs) else 0) < suc (length qs)
    by_first true g ih = omega (arith, ih g)
    by_first false g ih = omega arith

pub rule_placed : (sp : Span) (bytes : List ℕ) (ps : List Piece) (es fs : Events) (b e : Between) (at anchors : ℕ) → CanGrow bytes → ArePieces (wholes_of ps) → HasRead (units_of bytes) es b → NoEnds (units_of bytes) → HasRead (units_of bytes ++ units_in (wholes_of ps)) (es ++ fs) e
    → NoEnds (units_of bytes ++ units_in (wholes_of ps)) → units_of (bytes ++ joined (wholes_of ps)) ≡ units_of bytes ++ units_in (wholes_of ps) → last_open (units_of (bytes ++ joined (wholes_of ps))) ≡ false
    → strands.read_of (bytes ++ joined (wholes_of ps)) ≡ Ok (es ++ fs, e) → all_stand 0 (pictures_in es) ≡ true → anchors ≡ anchors_after 0 (pictures_in es) → all_stand anchors (pictures_in fs) ≡ false
    → AreInTurn at ps → end_of_span sp ≡ at + length (joined (wholes_of ps))
    → fault_behind sp (bytes ++ joined (wholes_of ps)) ≡ (MissingReference, picture_place (standing anchors (pictures_in fs)) ps)
rule_placed sp bytes ps es fs b e at anchors can are h none all goes units closed read stand is off turn ends =
    let us = units_of bytes in
    let ws = units_in (wholes_of ps) in
    let text = bytes ++ joined (wholes_of ps) in
    let n = standing 0 (pictures_in (es ++ fs)) in
    let k = standing anchors (pictures_in fs) in
    let own = all_counted us es b h none in
    let whole = all_counted (us ++ ws) (es ++ fs) e all goes in
    let parts = ap length (pictures_in-append es fs) ∙ length-append (pictures_in es) (pictures_in fs) in
    let counts = count_append us ws in
    let less = standing_less anchors (pictures_in fs) off in
    let number : n ≡ length (pictures_in es) + k =
    ap (standing 0) (pictures_in-append es fs) ∙ standing_all 0 (pictures_in es) (pictures_in fs) stand ∙ ap (λ (i : ℕ). length (pictures_in es) + standing i (pictures_in fs)) (sym is) in
    let place = place_in_turn ps at k turn are (omega (arith, own, whole, parts, counts, less)) in
    let before : length (joined (before_picture n (cut 0 text).1)) ≡ length (joined us) + length (joined (before_picture k ws)) =
    ap (λ (l : Units). length (joined (before_picture n l))) units
    ∙ ap (λ (l : Units). length (joined l)) (before_later us ws n k (omega (arith, number, own)))
    ∙ ap length (joined-append us (before_picture k ws)) ∙ length-append (joined us) (joined (before_picture k ws)) in
    let mine = ap length (grow_whole bytes can) in
    let total = length-append bytes (joined (wholes_of ps)) in
    let there : 8 * end_of_span sp + 8 * length (joined (before_picture n (cut 0 text).1)) - 8 * length text ≡ picture_place k ps = omega (arith, before, mine, total, ends, place) in
    behind_by sp text (last_open (cut 0 text).1) (Ok (es ++ fs, e)) refl closed read ∙ ap (λ (i : ℕ). (MissingReference, i)) there

-- ---- a fault of a piece

pub pieces_placed : (bytes : List ℕ) (ps : List Piece) (es : Events) (b : Between) (kind : FaultKind) (place : ℕ) → HasRead (units_of bytes) es b → CanGrow bytes → CanGoBehind bytes (wholes_of ps) → last_open (units_of (bytes ++ joined (wholes_of ps))) ≡ false
    → read_at b 0 (ends_of ps) (wholes_of ps) ≡ Err (kind, place) → IsFaultOf (bytes ++ joined (wholes_of ps)) ps (λ span. (kind, max place (8 * end_of_span span - 8 * length (bytes ++ joined (wholes_of ps)))))
pieces_placed bytes ps es b kind place h can c closed e = λ span at turn ends.
    fault_placed span bytes (wholes_of ps) es b 0 at kind place h can c closed ends (ap (λ (l : List ℕ). read_at b 0 l (wholes_of ps)) (sym (ends_in_turn ps at turn)) ∙ e)
