-- The levels of a macroblock that is chosen: six blocks of 64, all 0 where a block isn't coded.
use Rattle.std.proofs.Common.{◌≡◌, ℕ, zero, suc, ◌+◌, ◌-◌, ◌<◌, Bool, true, false, cond, All, List, [], ◌∷◌, ◌++◌, filter, map, length, replicate, refl, ap, sym, ◌∙◌, subst, arith, ℤ, pos, negsuc}
use Rattle.std.specs.Prelude.{nat_eq, nat_lt, slice_index_or, unsigned_abs}
use Rattle.std.specs.List.{range_with_len, flat_map, list_all}
use Rattle.std.proofs.lemmas.Int.{ints}
use Rattle.std.proofs.lemmas.Bool.{and_parts, eqb-true, eqb-false}
use Rattle.std.proofs.lemmas.List.{length-map}
use Rattle.std.proofs.lemmas.List.Elements.{All-nil, All-cons, All-append, All-map, All-filter}
use Rattle.m2v_quant.specs.declared.kind.BlockKind.{BlockKind}
use Rattle.m2v_quant.specs.Quantiser.{levels_of, level_at}
use Rattle.m2v_idct.specs.Forward.{forward_of}
use Rattle.m2v_macro.specs.declared.values.MacroSyntax.{MacroSyntax}
use Rattle.m2v_macro.specs.States.{after}
use Rattle.m2v_macroblock.specs.m2v_recon.Macro.{is_coded}
use Rattle.m2v_macroblock.specs.Macroblocks.{kind_for, block_levels}
use Rattle.m2v_macroblock.specs.Conditions.{AreLevels}
use Rattle.m2v_slice.proofs.m2v_search.Products.{least_in}
use Rattle.m2v_slice.proofs.m2v_search.Reached.{flat_all}
use Rattle.m2v_slice.specs.m2v_choose.Decisions.{Decision, Candidate, Prediction, Coding, skipped, written, no_levels, differences, levels_by, pattern_of, intra_syntax, uncoded_syntax, coded_syntax}
use Rattle.m2v_slice.specs.m2v_choose.Candidates.{held_intra, held_levels, hold, still_prediction, may_skip, codings, predictions, intra_by, uncoded_by, coded_by, has_block, samples_by, by_prediction, others}
use Rattle.m2v_slice.specs.m2v_choose.Choice.{score, fits, choice_of}
use Rattle.m2v_slice.specs.m2v_choose.Trials.{is_empty}
use Rattle.m2v_slice.proofs.m2v_choose.Chosen.{either}
use Rattle.m2v_slice.proofs.m2v_choose.Written.{one_of, empty, pattern_bits, block_by}
use Rattle.m2v_slice.proofs.Choices.{all_of}

-- ---- patterns

-- a bit that isn't 1 is that of a block with no level but 0
none_if : (z : Bool) (n : ℕ) → n ≡ one_of z → nat_eq n 1 ≡ false → z ≡ true
none_if true n e other = refl
none_if false n e other = absurd (eqb-false n 1 other e)

uncoded_empty : (ls : List (List ℤ)) (b : ℕ) → b < 6 → is_coded (pattern_of ls) b ≡ false → empty ls b ≡ true
uncoded_empty ls zero lt e = none_if (empty ls 0) _ (pattern_bits ls).first e
uncoded_empty ls (suc zero) lt e = none_if (empty ls 1) _ (pattern_bits ls).second e
uncoded_empty ls (suc (suc zero)) lt e = none_if (empty ls 2) _ (pattern_bits ls).third e
uncoded_empty ls (suc (suc (suc zero))) lt e = none_if (empty ls 3) _ (pattern_bits ls).fourth e
uncoded_empty ls (suc (suc (suc (suc zero)))) lt e = none_if (empty ls 4) _ (pattern_bits ls).fifth e
uncoded_empty ls (suc (suc (suc (suc (suc zero))))) lt e = none_if (empty ls 5) _ (pattern_bits ls).sixth e
uncoded_empty ls (suc (suc (suc (suc (suc (suc n)))))) lt e = absurd (omega arith)

zero_level : (z : ℤ) → nat_eq (unsigned_abs z) 0 ≡ true → z ≡ pos 0
zero_level (pos n) e = ap pos (eqb-true n 0 e)
zero_level (negsuc n) e = absurd (omega (arith, ints, eqb-true (unsigned_abs (negsuc n)) 0 e))

-- levels that are all 0
zeros_are : (ls : List ℤ) → is_empty ls ≡ true → ls ≡ replicate (length ls) (pos 0)
zeros_are [] e = refl
zeros_are (z ∷ ls) e =
    let h = and_parts (nat_eq (unsigned_abs z) 0) (list_all (λ (level : ℤ). nat_eq (unsigned_abs level) 0) ls) e in
    let here = zero_level z h.0 in
    let rest = zeros_are ls h.1 in
    λ i. here i ∷ rest i

uncoded_zeros : (ls : List (List ℤ)) (b : ℕ) → b < 6 → length (block_levels ls b) ≡ 64 → is_coded (pattern_of ls) b ≡ false → block_levels ls b ≡ replicate 64 (pos 0)
uncoded_zeros ls b lt whole e = zeros_are (block_levels ls b) (uncoded_empty ls b lt e) ∙ ap (λ (n : ℕ). replicate n (pos 0)) whole

-- ---- blocks by their number

levels_by_number : (m : MacroSyntax) (f : ℕ → List ℤ) → ((b : ℕ) → b < 6 → length (f b) ≡ 64)
    → ((b : ℕ) → b < 6 → is_coded m.pattern b ≡ false → block_levels (map f (range_with_len 0 6)) b ≡ replicate 64 (pos 0))
    → AreLevels (record { syntax = m; levels = map f (range_with_len 0 6) })
levels_by_number m f whole none = record {
  six = refl;
  whole = λ b lt. ap length (block_by f b lt) ∙ whole b lt;
  none = none;
}

all_coded : (b : ℕ) → b < 6 → is_coded 63 b ≡ false → ⊥
all_coded zero lt e = absurd cc
all_coded (suc zero) lt e = absurd cc
all_coded (suc (suc zero)) lt e = absurd cc
all_coded (suc (suc (suc zero))) lt e = absurd cc
all_coded (suc (suc (suc (suc zero)))) lt e = absurd cc
all_coded (suc (suc (suc (suc (suc zero))))) lt e = absurd cc
all_coded (suc (suc (suc (suc (suc (suc n)))))) lt e = absurd (omega arith)

-- ---- candidates

levels_long : (f : List ℤ) (kind : BlockKind) → length (levels_of f kind) ≡ 64
unfolding levels_of
levels_long f kind = length-map (range_with_len 0 64) (level_at f kind)

no_levels_are : (m : MacroSyntax) → AreLevels (record { syntax = m; levels = no_levels })
no_levels_are m = record {
  six = refl;
  whole = λ b lt. ap length (zeros b lt);
  none = λ b lt e. zeros b lt;
}
  where
    zeros : (b : ℕ) → b < 6 → block_levels no_levels b ≡ replicate 64 (pos 0)
    zeros zero lt = refl
    zeros (suc zero) lt = refl
    zeros (suc (suc zero)) lt = refl
    zeros (suc (suc (suc zero))) lt = refl
    zeros (suc (suc (suc (suc zero)))) lt = refl
    zeros (suc (suc (suc (suc (suc zero))))) lt = refl
    zeros (suc (suc (suc (suc (suc (suc n)))))) lt = absurd (omega arith)

-- the levels of a candidate, also of one that is skipped
HasLevels : Candidate → Type 0
HasLevels x = AreLevels x.macroblock

module _ (d : Decision) where
  -- the levels of a block, by the samples of a prediction
  block_of : List ℕ → Bool → Coding → ℕ → List ℤ
  block_of samples intra k b = levels_of (forward_of (differences d.source samples k.dct_field b)) (kind_for d.context intra (nat_lt b 4) k.q)

  block_long : (samples : List ℕ) (intra : Bool) (k : Coding) (b : ℕ) → length (block_of samples intra k b) ≡ 64
  unfolding block_of
  block_long samples intra k b = levels_long (forward_of (differences d.source samples k.dct_field b)) (kind_for d.context intra (nat_lt b 4) k.q)

  blocks_are : (samples : List ℕ) (intra : Bool) (k : Coding) → levels_by d samples intra k ≡ map (block_of samples intra k) (range_with_len 0 6)
  unfolding levels_by block_of
  blocks_are samples intra k = refl

  by_samples : (m : MacroSyntax) (samples : List ℕ) (intra : Bool) (k : Coding)
      → ((b : ℕ) → b < 6 → is_coded m.pattern b ≡ false → block_levels (levels_by d samples intra k) b ≡ replicate 64 (pos 0)) → AreLevels (record { syntax = m; levels = levels_by d samples intra k })
  by_samples m samples intra k none =
      subst (λ (ls : List (List ℤ)). AreLevels (record { syntax = m; levels = ls })) (sym (blocks_are samples intra k))
      (levels_by_number m (block_of samples intra k) (λ b lt. block_long samples intra k b)
      (subst (λ (ls : List (List ℤ)). (b : ℕ) → b < 6 → is_coded m.pattern b ≡ false → block_levels ls b ≡ replicate 64 (pos 0)) (blocks_are samples intra k) none))

  long_by : (samples : List ℕ) (intra : Bool) (k : Coding) (b : ℕ) → b < 6 → length (block_levels (levels_by d samples intra k) b) ≡ 64
  long_by samples intra k b lt =
      ap (λ (ls : List (List ℤ)). length (block_levels ls b)) (blocks_are samples intra k) ∙ ap length (block_by (block_of samples intra k) b lt) ∙ block_long samples intra k b

  intra_levels : (k : Coding) → HasLevels (intra_by d k)
  unfolding HasLevels intra_by intra_syntax
  intra_levels k = by_samples (intra_syntax d k) (replicate 384 0) true k (λ b lt e. absurd (all_coded b lt e))

  coded_levels : (p : Prediction) (k : Coding) → HasLevels (coded_by d p k)
  unfolding HasLevels coded_by coded_syntax
  coded_levels p k =
      let ls = levels_by d (samples_by d p) false k in
      by_samples (coded_syntax d p k (pattern_of ls)) (samples_by d p) false k (λ b lt e. uncoded_zeros ls b lt (long_by (samples_by d p) false k b lt) e)

  uncoded_levels : (p : Prediction) → HasLevels (written (uncoded_syntax d p) no_levels)
  unfolding HasLevels
  uncoded_levels p = no_levels_are (uncoded_syntax d p)

  skipped_levels : HasLevels skipped
  unfolding HasLevels
  skipped_levels = no_levels_are _

  -- a held block: the DC predictor of its component, and nothing else
  held_block : ℕ → List ℤ
  held_block b = slice_index_or (after d.context d.state (held_intra d)).dc (b - 3) (pos 0) ∷ replicate 63 (pos 0)

  held_long : (b : ℕ) → length (held_block b) ≡ 64
  unfolding held_block
  held_long b = refl

  held_are : HasLevels (written (held_intra d) (held_levels d))
  unfolding HasLevels held_levels held_block intra_syntax
  held_are = levels_by_number (held_intra d) held_block (λ b lt. held_long b) (λ b lt e. absurd (all_coded b lt e))

  prediction_levels : (p : Prediction) → All HasLevels (by_prediction d p)
  unfolding by_prediction uncoded_by
  prediction_levels p =
      let bare = written (uncoded_syntax d p) no_levels in
      let coded = All-map HasLevels (coded_by d p) (codings d) (all_of (λ k. HasLevels (coded_by d p k)) (λ k. coded_levels p k) (codings d)) in
      All-append HasLevels (cond p.uncoded (bare ∷ []) []) (filter has_block (map (coded_by d p) (codings d)))
      (either (All HasLevels) p.uncoded (bare ∷ []) [] (All-cons HasLevels bare [] (uncoded_levels p) (All-nil HasLevels)) (All-nil HasLevels))
      (All-filter has_block HasLevels (map (coded_by d p) (codings d)) coded)

  others_levels : All HasLevels (others d)
  unfolding others
  others_levels =
      let skip = cond (may_skip d) (skipped ∷ []) [] in
      let intra = map (intra_by d) (codings d) in
      let intra_all = All-map HasLevels (intra_by d) (codings d) (all_of (λ k. HasLevels (intra_by d k)) (λ k. intra_levels k) (codings d)) in
      All-append HasLevels (skip ++ intra) (flat_map (by_prediction d) (predictions d))
      (All-append HasLevels skip intra (either (All HasLevels) (may_skip d) (skipped ∷ []) [] (All-cons HasLevels skipped [] skipped_levels (All-nil HasLevels)) (All-nil HasLevels)) intra_all)
      (flat_all HasLevels (λ p. Unit {0}) (by_prediction d) (λ p h. prediction_levels p) (predictions d) (all_of (λ p. Unit {0}) (λ p. tt) (predictions d)))

  hold_levels : HasLevels (hold d)
  unfolding hold
  hold_levels =
      either HasLevels (nat_eq d.context.kind 1) (written (held_intra d) (held_levels d)) (written (uncoded_syntax d (still_prediction d.context)) no_levels)
      held_are (uncoded_levels (still_prediction d.context))

  choice_has : HasLevels (choice_of d)
  unfolding choice_of
  choice_has = least_in HasLevels (score d) (hold d) (filter (fits d) (others d)) hold_levels (All-filter (fits d) HasLevels (others d) others_levels)

  pub choice_levels : AreLevels (choice_of d).macroblock
  unfolding HasLevels
  choice_levels = choice_has
