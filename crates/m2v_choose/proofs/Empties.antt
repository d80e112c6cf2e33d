-- Where no coefficient reaches twice the quantiser code, no block of a predicted macroblock has a level.
use Rattle.std.proofs.Common.{◌≡◌, ℕ, ◌+◌, ◌*◌, ◌/◌, ◌<◌, Bool, true, false, List, [], ◌∷◌, map, replicate, refl, ap, sym, inl, inr, ◌∙◌, arith, ℤ, pos, negsuc}
use Rattle.std.specs.Prelude.{min, nat_lt, slice_index, slice_index_or, unsigned_abs}
use Rattle.std.specs.List.{range_with_len}
use Rattle.std.proofs.Math.Nat.{div-eq_of_lt}
use Rattle.std.proofs.lemmas.Bool.{ltb-true}
use Rattle.std.proofs.lemmas.List.FromFn.{fill_by_all, length-map-range_with_len, get_or-map-range_with_len}
use Rattle.m2v_quant.specs.declared.kind.BlockKind.{BlockKind}
use Rattle.m2v_quant.specs.Matrices.{default_matrix}
use Rattle.m2v_quant.specs.Scans.{zigzag, alternate, scan_order, scale_at}
use Rattle.m2v_quant.specs.Quantiser.{with_sign, ac_level, level_at, levels_of}
use Rattle.m2v_idct.specs.Block.{nth}
use Rattle.m2v_vlc.proofs.ValueLaws.{below, agree}
use Rattle.m2v_macro.specs.declared.values.PictureContext.{PictureContext}
use Rattle.m2v_recon.specs.Macro.{kind_of, kind_at}
use Rattle.m2v_macroblock.specs.Macroblocks.{kind_for}
use Rattle.m2v_choose.specs.Decisions.{pattern_of}
use Rattle.m2v_choose.specs.Own.{IsOwn}
use Rattle.m2v_choose.specs.Trials.{quantised_by, HaveSame}
use Rattle.m2v_choose.proofs.Chosen.{either}

-- the places of a scan lie in the block, where the matrix has 16
scan_inside : (b : Bool) (i : ℕ) → i < 64 → nat_lt (slice_index (scan_order b) i) 64 ≡ true
unfolding scan_order zigzag alternate below
scan_inside false i lt = agree (λ j. nat_lt (slice_index (scan_order false) j) 64) (λ j. true) 64 i refl lt
scan_inside true i lt = agree (λ j. nat_lt (slice_index (scan_order true) j) 64) (λ j. true) 64 i refl lt

flat_there : (b : Bool) (i : ℕ) → i < 64 → slice_index (replicate 64 16) (slice_index (scan_order b) i) ≡ 16
unfolding scan_order zigzag alternate below
flat_there false i lt = agree (λ j. slice_index (replicate 64 16) (slice_index (scan_order false) j)) (λ j. 16) 64 i refl lt
flat_there true i lt = agree (λ j. slice_index (replicate 64 16) (slice_index (scan_order true) j)) (λ j. 16) 64 i refl lt

signed_none : (f : ℤ) → with_sign f 0 ≡ pos 0
unfolding with_sign
signed_none (pos n) = refl
signed_none (negsuc n) = refl

level_none : (step : ℕ) (f : ℤ) → 16 * unsigned_abs f < step → ac_level false step f ≡ pos 0
unfolding ac_level
level_none step f low =
    let less : 16 * unsigned_abs f + 0 < step = omega (arith, low) in
    let none : (16 * unsigned_abs f + 0) / step ≡ 0 = div-eq_of_lt less in
    ap (λ (n : ℕ). with_sign f (min n 2047)) none ∙ signed_none f

no_levels_here : List ℤ
no_levels_here = map (λ (k : ℕ). pos 0) (range_with_len 0 64)

nothing : pattern_of (map (λ (b : ℕ). no_levels_here) (range_with_len 0 6)) ≡ 0
unfolding pattern_of no_levels_here
nothing = refl

module _ (c : PictureContext) (q : ℕ) (own : IsOwn c) where
  level_of_kind : (luma : Bool) (f : List ℤ) (i : ℕ) → i < 64 → ((k : ℕ) → k < 64 → unsigned_abs (nth f k) < 2 * q) → level_at f (kind_for c false luma q) i ≡ pos 0
  unfolding level_at kind_for default_matrix scale_at
  level_of_kind luma f i lt low =
      let at = slice_index (scan_order c.extension.alternate_scan) i in
      let small : at < 64 = ltb-true at 64 (scan_inside c.extension.alternate_scan i lt) in
      let z = nth f at in
      let entry : slice_index c.non_intra at ≡ 16 = ap (λ (m : List ℕ). slice_index m at) own.non_intra ∙ flat_there c.extension.alternate_scan i lt in
      let scale : scale_at c.extension.q_scale_type q ≡ 2 * q = ap (λ (b : Bool). scale_at b q) own.scale in
      let step : slice_index c.non_intra at * scale_at c.extension.q_scale_type q ≡ 16 * (2 * q) = λ j. entry j * scale j in
      let less : 16 * unsigned_abs z < 16 * (2 * q) = omega (arith, low at small) in
      ap (λ (n : ℕ). ac_level false n z) step ∙ level_none (16 * (2 * q)) z less

  block_none : (luma : Bool) (f : List ℤ) → ((k : ℕ) → k < 64 → unsigned_abs (nth f k) < 2 * q) → levels_of f (kind_for c false luma q) ≡ no_levels_here
  unfolding levels_of no_levels_here
  block_none luma f low =
      let g = level_at f (kind_for c false luma q) in
      fill_by_all (λ (k : ℕ). pos 0) (map g (range_with_len 0 64)) 64 (pos 0) (length-map-range_with_len g 0 64)
      (λ k lt. get_or-map-range_with_len g 0 64 k k (pos 0) lt (omega arith) ∙ level_of_kind luma f k lt low)

  -- so it has none
  pub none_there : (kinds : List BlockKind) → kinds ≡ kind_for c false true q ∷ kind_for c false false q ∷ [] → (f : List ℤ) (b : ℕ)
      → ((k : ℕ) → k < 64 → unsigned_abs (nth f k) < 2 * q) → levels_of f (kind_of (kind_at kinds 0) (kind_at kinds 1) b) ≡ replicate 64 (pos 0)
  unfolding no_levels_here
  none_there kinds known f b low =
      ap (λ (ks : List BlockKind). levels_of f (kind_of (kind_at ks 0) (kind_at ks 1) b)) known
      ∙ either (λ (kind : BlockKind). levels_of f kind ≡ no_levels_here) (nat_lt b 4) (kind_for c false true q) (kind_for c false false q) (block_none true f low) (block_none false f low)

  pub none_reached : (ts : List (List ℤ)) → ((b k : ℕ) → b < 6 → k < 64 → unsigned_abs (nth (slice_index_or ts b []) k) < 2 * q)
      → pattern_of (quantised_by ts (kind_for c false true q) (kind_for c false false q)) ≡ 0
  unfolding quantised_by
  none_reached ts low =
      let luma = kind_for c false true q in
      let chroma = kind_for c false false q in
      let g = λ (b : ℕ). levels_of (slice_index_or ts b []) (kind_of luma chroma b) in
      let each = λ (b : ℕ) (lt : b < 6).
      either (λ (kind : BlockKind). levels_of (slice_index_or ts b []) kind ≡ no_levels_here) (nat_lt b 4) luma chroma
      (block_none true (slice_index_or ts b []) (λ k small. low b k lt small)) (block_none false (slice_index_or ts b []) (λ k small. low b k lt small)) in
      let all : map g (range_with_len 0 6) ≡ map (λ (b : ℕ). no_levels_here) (range_with_len 0 6) =
      fill_by_all (λ (b : ℕ). no_levels_here) (map g (range_with_len 0 6)) 6 [] (length-map-range_with_len g 0 6)
      (λ b lt. get_or-map-range_with_len g 0 6 b b [] lt (omega arith) ∙ each b lt) in
      ap pattern_of all ∙ nothing

  -- and coefficients that are the same, or lie that near to 0, have the same levels
  pub levels_same : (kinds : List BlockKind) → kinds ≡ kind_for c false true q ∷ kind_for c false false q ∷ [] → (fs gs : List (List ℤ)) → HaveSame (2 * q) fs gs
      → quantised_by fs (kind_at kinds 0) (kind_at kinds 1) ≡ quantised_by gs (kind_at kinds 0) (kind_at kinds 1)
  unfolding quantised_by
  levels_same kinds known fs gs h =
      let g = λ (xs : List (List ℤ)) (b : ℕ). levels_of (slice_index_or xs b []) (kind_of (kind_at kinds 0) (kind_at kinds 1) b) in
      let each : (b : ℕ) → b < 6 → g fs b ≡ g gs b = λ b lt. elim (h.at b lt) [
        | inl e ↦ ap (λ (f : List ℤ). levels_of f (kind_of (kind_at kinds 0) (kind_at kinds 1) b)) e
        | inr both ↦ none_there kinds known (slice_index_or fs b []) b both.0 ∙ sym (none_there kinds known (slice_index_or gs b []) b both.1)
      ] in
      fill_by_all (g gs) (map (g fs) (range_with_len 0 6)) 6 [] (length-map-range_with_len (g fs) 0 6)
      (λ b lt. get_or-map-range_with_len (g fs) 0 6 b b [] lt (omega arith) ∙ each b lt)
