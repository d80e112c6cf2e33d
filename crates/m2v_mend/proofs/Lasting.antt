-- The last unit of a piece, and of pieces: whether it ends in the prefix of a start code.
use Rattle.std.proofs.Common.{◌≡◌, ℕ, zero, suc, ◌*◌, ◌≤◌, ◌<◌, Bool, true, false, List, [], ◌∷◌, ◌++◌, length, ◌-◌, refl, sym, ap, ◌∙◌, append-nil, arith}
use Rattle.std.specs.Prelude.{nat_eq, nat_le, ◌&&◌, slice_index}
use Rattle.std.proofs.lemmas.Bool.{le-leb, leb-true}
use Rattle.std.proofs.lemmas.List.{length-append}
use Rattle.std.proofs.Math.Bool.{and-false, or-false}
use Rattle.m2v_model.specs.Units.{Units, cut, joined, AreUnits}
use Rattle.m2v_model.proofs.CutLaws.{cut_cuts}
use Rattle.m2v_law_seam.specs.Spans.{units_of, units_in}
use Rattle.m2v_law_seam.specs.Strands.{ends_open, last_open}
use Rattle.m2v_law_seam.specs.Reading.{BeginsOnePiece, ArePieces}
use Rattle.m2v_law_seam.proofs.Tails.{open_front, open_unit, open_zeros}
use Rattle.m2v_law_seam.proofs.ByUnits.{open_behind}
use Rattle.m2v_law_group.specs.m2v_dec_unit.Texts.{text_of}
use Rattle.m2v_decode.specs.m2v_dec_piece.declared.answer.Piece.{Piece}
use Rattle.m2v_decode.specs.Decoding.{whole_of}
use Rattle.m2v_mend.specs.Tail.{last_bits}
use Rattle.m2v_mend.specs.Strand.{wholes_of}

bytes_bits : (n : ℕ) → nat_le 7 n ≡ nat_le 56 (8 * n)
bytes_bits n = by_test (nat_le 7 n) (nat_le 56 (8 * n)) refl refl
  where
    by_test : (a b : Bool) → nat_le 7 n ≡ a → nat_le 56 (8 * n) ≡ b → a ≡ b
    by_test true true x y = refl
    by_test false false x y = refl
    by_test true false x y = let more = leb-true 7 n x in let wrong : false ≡ true = sym y ∙ le-leb 56 (8 * n) (omega (arith, more)) in absurd cc
    by_test false true x y = let more = leb-true 56 (8 * n) y in let wrong : false ≡ true = sym x ∙ le-leb 7 n (omega (arith, more)) in absurd cc

last_units : (u : List ℕ) (us : Units) (bits : ℕ) → AreUnits (u ∷ us) → last_open (u ∷ us) ≡ (nat_le 56 (last_bits bits (u ∷ us)) && ends_open (joined (u ∷ us)))
unfolding last_open
last_units u [] bits are =
    open_unit u ∙ ap (λ (b : Bool). b && ends_open u) (bytes_bits (length u)) ∙ ap (λ (l : List ℕ). nat_le 56 (8 * length u) && ends_open l) (sym (append-nil u))
last_units u (v ∷ vs) bits are =
    let long : 3 ≤ length (joined (v ∷ vs)) = omega (arith, (are.3).0, length-append v (joined vs)) in
    last_units v vs (8 * length u) are.3 ∙ ap (λ (b : Bool). nat_le 56 (last_bits (8 * length u) (v ∷ vs)) && b) (sym (open_front u (joined (v ∷ vs)) long))

last_by : (w front : List ℕ) (us : Units) → w ≡ front ++ joined us → AreUnits us → last_open us ≡ (nat_le 56 (last_bits 0 us) && ends_open w)
unfolding last_open
last_by w front [] whole are = refl
last_by w front (u ∷ us) whole are =
    let long : 3 ≤ length (joined (u ∷ us)) = omega (arith, are.0, length-append u (joined us)) in
    last_units u us 0 are ∙ ap (λ (b : Bool). nat_le 56 (last_bits 0 (u ∷ us)) && b) (sym (ap ends_open whole ∙ open_front front (joined (u ∷ us)) long))

-- by the bits of the last unit and by the last bytes
pub last_is : (w : List ℕ) → last_open (units_of w) ≡ (nat_le 56 (last_bits 0 (units_of w)) && ends_open w)
last_is w = let c = cut_cuts w in last_by w (cut 0 w).0 (cut 0 w).1 c.whole c.are_units

-- zero bytes at its end
pub zeros_last : (bytes : List ℕ) (n : ℕ) → 0 < n → last_open (units_of (text_of bytes n)) ≡ false
zeros_last bytes zero some = absurd (omega (arith, some))
zeros_last bytes (suc n) some =
    last_is (text_of bytes (suc n)) ∙ ap (λ (b : Bool). nat_le 56 (last_bits 0 (units_of (text_of bytes (suc n)))) && b) (open_zeros bytes n) ∙ and-false _

-- ---- of the last of pieces

open_by : (us vs : Units) → BeginsOnePiece vs → last_open (us ++ vs) ≡ last_open vs
open_by us [] b = absurd b
open_by us (v ∷ vs) b = open_behind us v vs

begins_front : (us vs : Units) → BeginsOnePiece us → BeginsOnePiece (us ++ vs)
begins_front [] vs b = absurd b
begins_front (u ∷ us) vs b = b

later_begins : (ps : List Piece) (p : Piece) → ArePieces (wholes_of (ps ++ p ∷ [])) → BeginsOnePiece (units_in (wholes_of (ps ++ p ∷ [])))
unfolding units_in
later_begins [] p a = begins_front (units_of (whole_of p)) [] (a.0).begins
later_begins (q ∷ ps) p a = begins_front (units_of (whole_of q)) (units_in (wholes_of (ps ++ p ∷ []))) (a.0).begins

pub open_pieces : (ps : List Piece) (p : Piece) → ArePieces (wholes_of (ps ++ p ∷ [])) → last_open (units_in (wholes_of (ps ++ p ∷ []))) ≡ last_open (units_of (whole_of p))
unfolding units_in
open_pieces [] p a = ap last_open (append-nil (units_of (whole_of p)))
open_pieces (q ∷ ps) p a = open_by (units_of (whole_of q)) (units_in (wholes_of (ps ++ p ∷ []))) (later_begins ps p a.1) ∙ open_pieces ps p a.1

-- ---- the last three bytes

pub short_tail : (w : List ℕ) → length w < 3 → ends_open w ≡ false
unfolding ends_open
short_tail [] lt = refl
short_tail (a ∷ []) lt = refl
short_tail (a ∷ b ∷ []) lt = refl
short_tail (a ∷ b ∷ c ∷ w) lt = absurd (omega (arith, lt))

pub tail_by : (w : List ℕ) → 3 ≤ length w
    → ends_open w ≡ (nat_eq (slice_index w (length w - 3)) 0 && (nat_eq (slice_index w (length w - 2)) 0 && nat_eq (slice_index w (length w - 1)) 1))
unfolding ends_open
tail_by (a ∷ b ∷ c ∷ []) le = or-false (nat_eq a 0 && (nat_eq b 0 && nat_eq c 1))
tail_by (a ∷ b ∷ c ∷ d ∷ w) le =
    let l = b ∷ c ∷ d ∷ w in
    let x : length (a ∷ l) - 3 ≡ suc (length l - 3) = omega arith in
    let y : length (a ∷ l) - 2 ≡ suc (length l - 2) = omega arith in
    let z : length (a ∷ l) - 1 ≡ suc (length l - 1) = omega arith in
    tail_by (b ∷ c ∷ d ∷ w) (omega arith)
    ∙ (λ i. nat_eq (slice_index (a ∷ l) (sym x i)) 0 && (nat_eq (slice_index (a ∷ l) (sym y i)) 0 && nat_eq (slice_index (a ∷ l) (sym z i)) 1))
tail_by _ le = absurd (omega (arith, le))
