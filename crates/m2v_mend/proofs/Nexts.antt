-- The pieces of a stretch: each is units with one picture at most, and each but the first begins a piece.
use Rattle.std.proofs.Common.{◌≡◌, ℕ, ◌≤◌, Bool, true, false, List, [], ◌∷◌, length, map, refl, sym, ap, subst, ◌∙◌, arith}
use Rattle.m2v_model.specs.declared.phase.Phase.TheVariants.{Headers}
use Rattle.m2v_model.specs.Units.{Units, cut, joined, AreUnits}
use Rattle.m2v_model.specs.Pieces.{grouped}
use Rattle.m2v_model.proofs.CutLaws.{cut_cuts, cut_units, are_before}
use Rattle.m2v_model.proofs.ShiftLaws.{NoEnds}
use Rattle.m2v_law_group.specs.Groups.{is_picture, to_end}
use Rattle.m2v_law_group.proofs.Lists.{ended_units}
use Rattle.m2v_law_seam.specs.Spans.{units_in, picture_count}
use Rattle.m2v_law_seam.specs.Reading.{BeginsOnePiece, IsPieceOfUnits}
use Rattle.m2v_law_seam.proofs.Pieced.{BeginsOne, AllBegin, AllUnits, Quiet, AllQuiet, pieced, units_joined, plain_unit}
use Rattle.m2v_mend.specs.Feeding.{from_end}
use Rattle.m2v_mend.specs.Members.{IsOneOfUnits}
use Rattle.m2v_mend.specs.Stretching.{AreNext}
use Rattle.m2v_mend.proofs.Stretched.{units_parted}

-- ---- one picture at most

count_true : (us : Units) → Quiet true us → picture_count us ≡ 0
unfolding picture_count
count_true [] q = refl
count_true (u ∷ us) q = rw ((plain_unit u (q.0 refl)).0) (omega (arith, count_true us q.1))

count_by : (b : Bool) (u : List ℕ) (us : Units) → is_picture u ≡ b → Quiet b us → (Quiet false us → picture_count us ≤ 1) → picture_count (u ∷ us) ≤ 1
unfolding picture_count
count_by true u us e q ih = rw e (omega (arith, count_true us q))
count_by false u us e q ih = rw e (omega (arith, ih q))

count_quiet : (us : Units) → Quiet false us → picture_count us ≤ 1
unfolding picture_count
count_quiet [] q = omega arith
count_quiet (u ∷ us) q = count_by (is_picture u) u us refl q.1 (count_quiet us)

-- ---- pieces

one_of : (x : Units) → AreUnits x → 1 ≤ length x → Quiet false x → IsOneOfUnits (joined x)
one_of x are some q =
    let same = cut_units x are in
    record {
      whole = ap joined same;
      some = subst (λ (l : Units). 1 ≤ length l) (sym same) some;
      one = subst (λ (l : Units). picture_count l ≤ 1) (sym same) (count_quiet x q);
    }

piece_of_units : (v : List ℕ) (vs : Units) → AreUnits (v ∷ vs) → BeginsOne (v ∷ vs) → Quiet false (v ∷ vs) → IsPieceOfUnits (joined (v ∷ vs))
piece_of_units v vs are b q =
    let same = cut_units (v ∷ vs) are in
    record {
      whole = ap joined same;
      begins = subst BeginsOnePiece (sym same) b.0;
      one = subst (λ (l : Units). picture_count l ≤ 1) (sym same) (count_quiet (v ∷ vs) q);
    }

later_next : (n : ℕ) (q : List Units) → AllUnits q → AllBegin q → AllQuiet q → AreNext n (map joined q)
later_next n [] are b quiet = tt
later_next n ([] ∷ q) are b quiet = absurd b.0
later_next n ((v ∷ vs) ∷ q) are b quiet = (one_of (v ∷ vs) are.0 (omega arith) quiet.0, λ le. piece_of_units v vs are.0 b.0 quiet.0, later_next 1 q are.1 b.1 quiet.1)

-- ---- a stretch

abbrev IsStretch : Units → Type 0
IsStretch us = AreNext 0 (grouped Headers [] us) × (units_in (grouped Headers [] us) ≡ us)

stretch_next : (us : Units) → AreUnits us → NoEnds us → IsStretch us
unfolding grouped units_in
stretch_next [] are n = (tt, refl)
stretch_next (u ∷ us) are n =
    let i = pieced u us are n in
    let some : 1 ≤ length i.x = i.cells.0 in
    let next : AreNext 0 (map joined (i.x ∷ i.q)) = (one_of i.x i.are.0 some i.quiet.0, λ le. absurd (omega (arith, le)), later_next 1 i.q i.are.1 i.later i.quiet.1) in
    (subst (AreNext 0) (sym i.pieces) next, ap units_in i.pieces ∙ units_joined (i.x ∷ i.q) i.are ∙ sym i.whole)

-- the pieces of the first stretch of a text, and their units
pub text_next : (text : List ℕ) → AreNext 0 (grouped Headers [] (to_end (cut 0 text).1)) × (units_in (grouped Headers [] (to_end (cut 0 text).1)) ≡ to_end (cut 0 text).1)
text_next text =
    let us = (cut 0 text).1 in
    stretch_next (to_end us) (are_before (to_end us) (from_end us) (subst AreUnits (units_parted us) (cut_cuts text).are_units)) (ended_units us).3
