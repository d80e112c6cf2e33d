-- The program's tables are those of the standard.
use Rattle.std.proofs.Common.{inl, inr, ◌≡◌, ℕ, ◌-◌, ◌*◌, ◌^◌, ◌<◌, ◌≤◌, Bool, true, false, List, All, length, get_or, refl, ap, ◌∙◌, arith}
use Rattle.std.specs.Prelude.{nat_lt, nat_le, ◌&&◌, slice_index}
use Rattle.std.specs.List.{list_all}
use Rattle.std.proofs.lemmas.List.Elements.{All-from_get_or}
use Rattle.std.proofs.lemmas.Bool.{ltb-true, leb-true, and_parts, cases_Bool, both_ways}
use Rattle.std.proofs.lemmas.List.Folds.{list_all_at}
use Rattle.m2v_quant.specs.Scans.{zigzag, alternate, nonlinear_scales, scan_order, scale_at}
use Rattle.m2v_quant.specs.Matrices.{intra_matrix}
use Rattle.m2v_quant.specs.declared.matrices.TheConstants.{INTRA}
use Rattle.m2v_quant.specs.declared.scans.TheConstants.{ZIGZAG, ALTERNATE, SCALES}

pub same_zigzag : ZIGZAG ≡ zigzag
unfolding zigzag
same_zigzag = refl

pub same_alternate : ALTERNATE ≡ alternate
unfolding alternate
same_alternate = refl

same_scales : SCALES ≡ nonlinear_scales
unfolding nonlinear_scales
same_scales = refl

-- what a test finds of each entry holds of one
pub entry_passes : (p : ℕ → Bool) (xs : List ℕ) (i : ℕ) → list_all p xs ≡ true → i < length xs → p (get_or xs i 0) ≡ true
entry_passes p xs i all lt = elim (cases_Bool (p (get_or xs i 0))) [ inl is ↦ is | inr not ↦ absurd (both_ways _ (list_all_at p xs i 0 lt not) all) ]

abbrev pub place_test : ℕ → Bool
place_test x = nat_lt x 64

pub zigzag_place : (b : Bool) (i r : ℕ) → b ≡ false → i < 64 → r ≡ slice_index ZIGZAG i → r ≡ slice_index (scan_order b) i
unfolding scan_order
zigzag_place b i r e lt is = rw e (is ∙ ap (λ (xs : List ℕ). slice_index xs i) same_zigzag)

pub zigzag_below : (i r : ℕ) → i < 64 → r ≡ slice_index ZIGZAG i → r < 64
zigzag_below i r lt is = rw is (ltb-true _ _ (entry_passes place_test ZIGZAG i refl lt))

pub alternate_place : (b : Bool) (i r : ℕ) → b ≡ true → i < 64 → r ≡ slice_index ALTERNATE i → r ≡ slice_index (scan_order b) i
unfolding scan_order
alternate_place b i r e lt is = rw e (is ∙ ap (λ (xs : List ℕ). slice_index xs i) same_alternate)

pub alternate_below : (i r : ℕ) → i < 64 → r ≡ slice_index ALTERNATE i → r < 64
alternate_below i r lt is = rw is (ltb-true _ _ (entry_passes place_test ALTERNATE i refl lt))

pub scale_nonlinear : (b : Bool) (code r : ℕ) → b ≡ true → r ≡ slice_index SCALES (code - 1) → r ≡ scale_at b code
unfolding scale_at
scale_nonlinear b code r e is = rw e (is ∙ ap (λ (xs : List ℕ). slice_index xs (code - 1)) same_scales)

pub scale_linear : (b : Bool) (code : ℕ) → b ≡ false → 2 * code ≡ scale_at b code
unfolding scale_at
scale_linear b code e = rw e refl

abbrev scale : ℕ → Bool
scale x = nat_le 1 x && nat_le x 112

pub scale_range : (code r : ℕ) → 1 ≤ code → code ≤ 31 → r ≡ slice_index SCALES (code - 1) → (1 ≤ r) × (r ≤ 112)
scale_range code r low high is =
    let passes = and_parts (nat_le 1 (get_or SCALES (code - 1) 0)) (nat_le (get_or SCALES (code - 1) 0) 112) (entry_passes scale SCALES (code - 1) refl (omega arith)) in
    rw is (leb-true _ _ passes.0, leb-true _ _ passes.1)

pub same_intra : INTRA ≡ intra_matrix
unfolding intra_matrix
same_intra = refl

abbrev weight : ℕ → Bool
weight x = nat_le 1 x && nat_lt x 256

abbrev pub IsWeight : ℕ → Type 0
IsWeight x = (1 ≤ x) × (x < 2 ^ 8)

pub weight_is : (x : ℕ) → weight x ≡ true → IsWeight x
weight_is x e = let p = and_parts (nat_le 1 x) (nat_lt x 256) e in (leb-true _ _ p.0, ltb-true _ _ p.1)

pub intra_weights : All IsWeight INTRA
intra_weights = All-from_get_or IsWeight INTRA 0 (λ i l. weight_is (get_or INTRA i 0) (entry_passes weight INTRA i refl l))
