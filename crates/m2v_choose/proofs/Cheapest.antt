-- The least that a coding of a prediction scores.
use Rattle.std.proofs.Common.{◌≡◌, ℕ, zero, suc, ◌+◌, ◌-◌, ◌*◌, ◌^◌, ◌≤◌, ◌<◌, Bool, true, false, cond, inl, inr, List, [], ◌∷◌, filter, length, map, refl, ap, sym, ◌∙◌, subst, arith, ℤ}
use Rattle.std.specs.Prelude.{nat_lt, min, sum_by, slice_index, count_ones}
use Rattle.std.specs.List.{range_with_len}
use Rattle.std.proofs.Math.Nat.{mul-le-mul_left}
use Rattle.std.proofs.Math.ListN.{length-map, get_or}
use Rattle.std.proofs.lemmas.Bool.{cases_Bool}
use Rattle.std.proofs.lemmas.List.{length-append}
use Rattle.std.proofs.lemmas.List.FromFn.{get_or-map-range_with_len}
use Rattle.m2v_bits.proofs.Texts.{left_length}
use Rattle.m2v_recon.specs.Macro.{is_coded}
use Rattle.m2v_quant.specs.Quantiser.{levels_of, level_at}
use Rattle.m2v_quant.specs.declared.kind.BlockKind.{BlockKind}
use Rattle.m2v_idct.specs.Forward.{forward_of}
use Rattle.m2v_macro.specs.declared.values.MacroSyntax.{MacroSyntax}
use Rattle.m2v_macro.specs.declared.values.SliceState.{SliceState}
use Rattle.m2v_macro.specs.declared.values.PictureContext.{PictureContext}
use Rattle.m2v_macro.specs.States.{after}
use Rattle.m2v_macro.specs.Texts.{macro_text}
use Rattle.m2v_macroblock.specs.Macroblocks.{Macroblock, kind_for, block_levels, predictor}
use Rattle.m2v_macroblock.specs.Texts.{block_in_text, blocks_text, macroblock_text}
use Rattle.m2v_choose.specs.Decisions.{Decision, Candidate, Prediction, Coding, written, differences, levels_by, pattern_of, coded_syntax, uncoded_syntax}
use Rattle.m2v_choose.specs.Candidates.{coded_by, samples_by, has_block}
use Rattle.m2v_choose.specs.Choice.{bits_taken, score}
use Rattle.m2v_choose.specs.declared.task.Task.{Task}
use Rattle.m2v_choose.specs.declared.trial.Best.{Best}
use Rattle.m2v_choose.specs.Trials.{AreSquares, References, decided, IsRated, Tried, Predicts, IsHeader, coded_least, four_of, four_each, block_squared, uncoded_squared, with_blocks, sends_code}
use Rattle.m2v_vlc.proofs.ValueLaws.{below, agree}
use Rattle.m2v_choose.proofs.Sums.{sum_more}
use Rattle.m2v_choose.proofs.Written.{coded_some, pattern_most}
use Rattle.m2v_choose.proofs.Tried.{written_score, kept, tried_none}
use Rattle.m2v_choose.proofs.PartSquares.{written_squares, sum_below_same}
use Rattle.m2v_choose.proofs.Coded.{predicts, none_coded, some_coded}
use Rattle.m2v_macroblock.proofs.m2v_block.Shortest.{block_least}

-- ---- blocks

-- by the ones of the pattern
all_four : below (λ p. 4 * count_ones p) 64 ≡ below four_each 64
unfolding below four_each lib.Count.ones
all_four = refl

pub ones_four : (p : ℕ) → p < 64 → 4 * count_ones p ≡ four_each p
ones_four p most = agree (λ k. 4 * count_ones k) four_each 64 p all_four most

one_four : (b : Bool) → cond b 4 0 ≤ 4
one_four true = omega arith
one_four false = omega arith

pub four_most : (p : ℕ) → four_each p ≤ 24
unfolding four_each
four_most p =
    let f = four_of p in
    let least = λ (b : ℕ). one_four (is_coded p b) in
    omega (arith, sum_more f 0, sum_more f 1, sum_more f 2, sum_more f 3, sum_more f 4, sum_more f 5, least 0, least 1, least 2, least 3, least 4, least 5)

module _ (c : PictureContext) (st : SliceState) (m : MacroSyntax) (ls : List (List ℤ)) (other : m.kind.intra ≡ false) (own : m.pattern ≡ pattern_of ls)
    (whole : (b : ℕ) → b < 6 → length (block_levels ls b) ≡ 64) where
  pub one_least : (b : ℕ) → b < 6 → four_of m.pattern b ≤ length (block_in_text c st (record { syntax = m; levels = ls }) b)
  unfolding block_in_text kind_for
  one_least b lt = elim (cases_Bool (is_coded m.pattern b)) [
    | inl on ↦
        rw on (block_least (kind_for c m.kind.intra (nat_lt b 4) st.quantiser) c.extension.intra_vlc_format (predictor st.dc ls b) (block_levels ls b) other (whole b lt)
        (coded_some ls b lt (ap (λ (n : ℕ). is_coded n b) (sym own) ∙ on)))
    | inr off ↦ rw off (omega arith)
  ]

  -- those from one on
  pub rest_least : (k n : ℕ) → k + n ≡ 6 → sum_by (four_of m.pattern) (range_with_len 0 6)
      ≤ sum_by (four_of m.pattern) (range_with_len 0 n) + length (blocks_text c st (record { syntax = m; levels = ls }) n (6 - n))
  rest_least zero n e =
      let end : n ≡ 6 = omega (arith, e) in
      omega (arith, ap (λ (k : ℕ). sum_by (four_of m.pattern) (range_with_len 0 k)) end)
  rest_least (suc k) n e =
      let text = block_in_text c st (record { syntax = m; levels = ls }) in
      omega (arith, rest_least k (n + 1) (omega (arith, e)), sum_more (four_of m.pattern) n, left_length text 6 n (omega (arith, e)), one_least n (omega (arith, e)))

  blocks_least : sum_by (four_of m.pattern) (range_with_len 0 6) ≤ length (blocks_text c st (record { syntax = m; levels = ls }) 0 6)
  blocks_least = omega (arith, rest_least 6 0 refl)

-- ---- sums

sum_next : (f : ℕ → ℕ) (n : ℕ) → sum_by f (range_with_len 0 (suc n)) ≡ sum_by f (range_with_len 0 n) + f n
sum_next f n = let e : suc n ≡ n + 1 = omega arith in ap (λ (k : ℕ). sum_by f (range_with_len 0 k)) e ∙ sum_more f n

-- of a block the lesser one
lesser : (coded : Bool) (n bit : ℕ) → min (8 * n) (bit * 4) ≤ 8 * cond coded 0 n + bit * cond coded 4 0
lesser true n bit = omega arith
lesser false n bit = omega arith

lesser_all : (pattern bit : ℕ) (squares : ℕ → ℕ) (n : ℕ)
    → sum_by (λ b. min (8 * squares b) (bit * 4)) (range_with_len 0 n)
    ≤ 8 * sum_by (λ b. cond (is_coded pattern b) 0 (squares b)) (range_with_len 0 n) + bit * sum_by (four_of pattern) (range_with_len 0 n)
lesser_all pattern bit squares zero = omega arith
lesser_all pattern bit squares (suc n) =
    let f = λ (b : ℕ). min (8 * squares b) (bit * 4) in
    let u = λ (b : ℕ). cond (is_coded pattern b) 0 (squares b) in
    let w = four_of pattern in
    let parted : bit * (sum_by w (range_with_len 0 n) + w n) ≡ bit * sum_by w (range_with_len 0 n) + bit * w n = grind arith in
    omega (arith, sum_next f n, sum_next u n, ap (λ (k : ℕ). bit * k) (sum_next w n), parted, lesser (is_coded pattern n) (squares n) bit, lesser_all pattern bit squares n)

-- squares that are known by list
pub least_known : (bit n : ℕ) (dct : Bool) (s p squares : List ℕ) → AreSquares dct s p squares → coded_least bit n (slice_index squares) ≡ coded_least bit n (block_squared dct s p)
unfolding coded_least
least_known bit n dct s p squares known =
    ap (λ (k : ℕ). bit * n + k)
    (sum_below_same (λ b. min (8 * slice_index squares b) (bit * 4)) (λ b. min (8 * block_squared dct s p b) (bit * 4)) 6 (λ b lt. ap (λ (k : ℕ). min (8 * k) (bit * 4)) (known.value b lt)))

-- ---- scores

pub known_length : (f : ℕ → List ℤ) (b : ℕ) → b < 6 → ((b : ℕ) → length (f b) ≡ 64) → length (block_levels (map f (range_with_len 0 6)) b) ≡ 64
known_length f b lt h = ap length (get_or-map-range_with_len f 0 6 b b [] lt (omega arith)) ∙ h b

pub levels_long : (f : List ℤ) (kind : BlockKind) → length (levels_of f kind) ≡ 64
unfolding levels_of
levels_long f kind = length-map (range_with_len 0 64) (level_at f kind)

levels_whole : (d : Decision) (prediction : List ℕ) (intra : Bool) (k : Coding) (b : ℕ) → b < 6 → length (block_levels (levels_by d prediction intra k) b) ≡ 64
unfolding levels_by
levels_whole d prediction intra k b lt =
    known_length (λ block. levels_of (forward_of (differences d.source prediction k.dct_field block)) (kind_for d.context intra (nat_lt block 4) k.q)) b lt
    (λ block. levels_long (forward_of (differences d.source prediction k.dct_field block)) (kind_for d.context intra (nat_lt block 4) k.q))

module _ (r : References) (t : Task) (p : Prediction) (bare : MacroSyntax) (same : bare ≡ uncoded_syntax (decided r t) p) (other : bare.kind.intra ≡ false) (k : Coding) where
  as_coded : written (with_blocks bare (sends_code t.state.now k.q) k.q k.dct_field (pattern_of (levels_by (decided r t) (samples_by (decided r t) p) false k))) (levels_by (decided r t) (samples_by (decided r t) p) false k)
      ≡ coded_by (decided r t) p k
  unfolding coded_by coded_syntax uncoded_syntax
  as_coded = λ i. written (with_blocks (same i) (sends_code t.state.now k.q) k.q k.dct_field (pattern_of (levels_by (decided r t) (samples_by (decided r t) p) false k))) (levels_by (decided r t) (samples_by (decided r t) p) false k)

  module _ (n : ℕ) (header : IsHeader t bare n) (prediction : List ℕ) (samples : prediction ≡ samples_by (decided r t) p) (bytes : (i : ℕ) → get_or prediction i 0 < 2 ^ 8) where
    pub scores : 0 < pattern_of (levels_by (decided r t) (samples_by (decided r t) p) false k)
        → coded_least ((2 * t.limits.now.q) ^ 2) n (block_squared k.dct_field t.source.now.at prediction) ≤ score (decided r t) (coded_by (decided r t) p k)
    unfolding coded_least bits_taken macroblock_text uncoded_squared
    scores some =
        let d = decided r t in
        let ls = levels_by d (samples_by d p) false k in
        let m = with_blocks bare (sends_code t.state.now k.q) k.q k.dct_field (pattern_of ls) in
        let x : Macroblock = record { syntax = m; levels = ls } in
        let bit = (2 * t.limits.now.q) ^ 2 in
        let c = t.context.now in
        let st = t.state.now in
        let before = macro_text c st m in
        let blocks = blocks_text c (after c st m) x 0 6 in
        let squares = block_squared k.dct_field t.source.now.at prediction in
        let told : Predicts r t m prediction = predicts r t p bare same prediction k.q k.dct_field (pattern_of ls) samples in
        let points = written_score r t m ls prediction told in
        let whole = written_squares t prediction m ls bytes in
        let some_blocks = blocks_least c (after c st m) m ls other refl (levels_whole d (samples_by d p) false k) in
        let long = header k.q k.dct_field (pattern_of ls) some (pattern_most ls) in
        let parted : bit * (length before + length blocks) ≡ bit * length before + bit * length blocks = grind arith in
        omega (
          arith,
          points,
          whole,
          ap (λ (y : Candidate). score d y) as_coded,
          parted,
          ap (λ (z : ℕ). bit * z) (length-append before blocks),
          mul-le-mul_left bit long,
          mul-le-mul_left bit some_blocks,
          lesser_all (pattern_of ls) bit squares 6,
        )

    -- so it is left where that is no less than the best so far
    pub left : (best : Best) → IsRated (decided r t) best → best.below ≤ coded_least ((2 * t.limits.now.q) ^ 2) n (block_squared k.dct_field t.source.now.at prediction)
        → Tried (decided r t) best best (filter has_block (coded_by (decided r t) p k ∷ []))
    unfolding coded_by coded_syntax
    left best rated low = by_test (pattern_of (levels_by (decided r t) (samples_by (decided r t) p) false k)) refl
      where
        by_test : (z : ℕ) → pattern_of (levels_by (decided r t) (samples_by (decided r t) p) false k) ≡ z → Tried (decided r t) best best (filter has_block (coded_by (decided r t) p k ∷ []))
        by_test zero e = subst (Tried (decided r t) best best) (sym (none_coded (coded_by (decided r t) p k) e)) (tried_none (decided r t) best rated)
        by_test (suc z) e =
            let some : 0 < pattern_of (levels_by (decided r t) (samples_by (decided r t) p) false k) = omega (arith, e) in
            let least = scores some in
            subst (Tried (decided r t) best best) (sym (some_coded (coded_by (decided r t) p k) some))
            (kept (decided r t) (coded_by (decided r t) p k) best rated (omega (arith, low, least)))
