-- An intra macroblock block by block: its bits, its squares, its levels and its samples, as its blocks are reached.
use Rattle.std.proofs.Common.{◌≡◌, ℕ, zero, suc, ◌+◌, ◌-◌, ◌*◌, ◌^◌, ◌<◌, ◌≤◌, Bool, true, false, ◌&&◌, not, All, List, [], length, map, replicate, refl, ap, sym, ◌∙◌, subst, arith, ℤ, pos}
use Rattle.std.specs.Prelude.{nat_eq, nat_lt, sum_by, slice_index_or, if◌then◌else◌}
use Rattle.std.specs.List.{range_with_len, flat_map}
use Rattle.std.proofs.Math.Nat.{mul-le-mul_left}
use Rattle.std.proofs.lemmas.List.{length-append, length-map, get_or_default}
use Rattle.std.proofs.lemmas.List.FromFn.{fill_by_all, get_or-map-range_with_len}
use Rattle.std.proofs.lemmas.Int.{to_z-of_z}
use mir.Syntax.{w32}
use mir.Val.{SFits, to_z, of_z}
use Rattle.m2v_idct.specs.Forward.{forward_of}
use Rattle.m2v_quant.specs.declared.kind.BlockKind.{BlockKind}
use Rattle.m2v_quant.specs.declared.kind.Levels.{Levels}
use Rattle.m2v_quant.specs.Kinds.{IsLevel}
use Rattle.m2v_quant.specs.Quantiser.{levels_of as quantised}
use Rattle.m2v_recon.specs.Macro.{is_coded, kind_at, kind_of, macro_sample}
use Rattle.m2v_recon.specs.Steps.{levels_of, level_list}
use Rattle.m2v_macro.specs.declared.values.MacroSyntax.{MacroSyntax}
use Rattle.m2v_macro.specs.declared.values.SliceState.{SliceState}
use Rattle.m2v_macro.specs.States.{after, skips, dc_reset, dc_behind}
use Rattle.m2v_macro.specs.Texts.{macro_text}
use Rattle.m2v_macro.proofs.Ready.{ready_after}
use Rattle.m2v_macroblock.specs.Macroblocks.{kind_for, predictor}
use Rattle.m2v_macroblock.specs.Texts.{block_in_text, blocks_text, macroblock_text}
use Rattle.m2v_macroblock.specs.Conditions.{AreWritable}
use Rattle.m2v_macroblock.specs.Predictions.{sample_at}
use Rattle.m2v_macroblock.specs.m2v_block.Blocks.{IsDc}
use Rattle.m2v_macroblock.specs.m2v_block.Texts.{block_text}
use Rattle.m2v_macroblock.proofs.m2v_block.Ranges.{dc_wider}
use Rattle.m2v_macroblock.proofs.Counted.{own_levels, one_counted, is_intra, is_luma}
use Rattle.m2v_macroblock.proofs.DcLaws.{writable, all_coded}
use Rattle.m2v_choose.specs.declared.task.Task.{Task}
use Rattle.m2v_choose.specs.declared.scratch.BothTransforms.{BothTransforms}
use Rattle.m2v_choose.specs.Decisions.{differences, written}
use Rattle.m2v_choose.specs.Choice.{squared, bits_taken, score}
use Rattle.m2v_choose.specs.Trials.{References, decided, Predicts, IsTask, as_first, AreAlike, block_squared, rebuilt_with, rebuilt_by, quantised_by, transforms_of, CanTryIntra, intra_macroblock, AreMade, AreReached, first_by}
use Rattle.m2v_choose.proofs.Alike.{length_block}
use Rattle.m2v_choose.proofs.CheapestIntra.{one_least}
use Rattle.m2v_choose.proofs.PartSquares.{squared_blocks, front_sum, own_alike, levels_alike, alike_on}
use Rattle.m2v_choose.proofs.Tried.{own_picture, first_ready, first_dc, same_text, written_score}

-- ---- texts

-- six texts of at least four bits, from one on
pub left_least : (text : ℕ → List Bool) → ((b : ℕ) → b < 6 → 4 ≤ length (text b)) → (k n : ℕ) → n + k ≡ 6 → 4 * k ≤ length (flat_map text (range_with_len n k))
left_least text h zero n e = omega arith
left_least text h (suc k) n e =
    omega (arith, length-append (text n) (flat_map text (range_with_len (n + 1) k)), h n (omega (arith, e)), left_least text h k (n + 1) (omega (arith, e)))

-- so the bits of the first ones, with four of each other one, are no more than all are
pub bits_below : (text : ℕ → List Bool) → ((b : ℕ) → b < 6 → 4 ≤ length (text b)) → (n bits : ℕ) → n ≤ 6
    → bits + length (flat_map text (range_with_len n (6 - n))) ≡ length (flat_map text (range_with_len 0 6)) + 4 * (6 - n) → bits ≤ length (flat_map text (range_with_len 0 6))
bits_below text h n bits le e = omega (arith, e, left_least text h (6 - n) n (omega (arith, le)))

-- ---- predictors of DC

own_dc : (intra first other : Bool) (a b : List ℤ) → intra ≡ true → first ≡ true → (if intra && not (not first && other) then a else b) ≡ a
own_dc true true other a b e g = refl
own_dc true false other a b e g = absurd cc
own_dc false first other a b e g = absurd cc

first_is : (t : Task) → IsTask t → t.first.first ≡ true
unfolding as_first
first_is t task = ap (λ (st : SliceState). st.first) task.first

-- the blocks of an intra macroblock that is the first of its slice go by those of the slice so far
pub dc_first : (t : Task) (m : MacroSyntax) → IsTask t → m.kind.intra ≡ true → (after t.context.now t.first m).dc ≡ t.first.dc
unfolding after dc_behind skips
dc_first t m task intra = own_dc m.kind.intra t.first.first (not (nat_eq m.increment 1)) t.first.dc (dc_reset t.context.now) intra (first_is t task)

predictor_same : (dc : List ℤ) (ls ms : List (List ℤ)) (b : ℕ) → ((k : ℕ) → k < b + 1 → slice_index_or ls k [] ≡ slice_index_or ms k []) → predictor dc ls b ≡ predictor dc ms b
unfolding predictor
predictor_same dc ls ms b h =
    ap (λ (l : List ℤ). if nat_lt b 4 then (if nat_eq b 0 then slice_index_or dc 0 (pos 0) else slice_index_or l 0 (pos 0)) else slice_index_or dc (b - 3) (pos 0)) (h (b - 1) (omega arith))

-- the transforms by a DCT type are those that are made
pub made_by : (s : List ℕ) (dct : Bool) (ts : BothTransforms) → AreReached s ts → AreMade s dct (first_by dct ts)
made_by s true ts h = h.field
made_by s false ts h = h.frame

-- ---- one macroblock

-- its samples as they are rebuilt
abbrev pub whole_of : Task → MacroSyntax → List BlockKind → List ℕ
whole_of t m kinds = rebuilt_with (replicate 384 0) m (intra_macroblock t m kinds).levels kinds

module _ (t : Task) (m : MacroSyntax) (kinds : List BlockKind) (task : IsTask t) (can : CanTryIntra t m kinds) where
  pub blocks_writable : AreWritable t.context.now (after t.context.now t.first m) (intra_macroblock t m kinds)
  blocks_writable =
      writable t.context.now t.first (intra_macroblock t m kinds) (ready_after t.context.now t.first m (first_ready t task) can.writable.macro) (first_dc t task) can.writable.macro can.writable.blocks

  pub coded_there : (b : ℕ) → b < 6 → is_coded m.pattern b ≡ true
  coded_there b lt = subst (λ (p : ℕ). is_coded p b ≡ true) (sym can.pattern) (all_coded b lt)

  pub text_least : (b : ℕ) → b < 6 → 4 ≤ length (block_in_text t.context.now (after t.context.now t.first m) (intra_macroblock t m kinds) b)
  text_least b lt = one_least t.context.now (after t.context.now t.first m) (intra_macroblock t m kinds) can.intra can.pattern task.asked.own.table b (all_coded b lt)

  pub level_there : (b : ℕ) → b < 6 → slice_index_or (intra_macroblock t m kinds).levels b []
      ≡ quantised (forward_of (differences t.source.now.at (replicate 384 0) m.dct_field b)) (kind_of (kind_at kinds 0) (kind_at kinds 1) b)
  unfolding quantised_by transforms_of
  level_there b lt =
      let f = λ (k : ℕ). forward_of (differences t.source.now.at (replicate 384 0) m.dct_field k) in
      get_or-map-range_with_len (λ (k : ℕ). quantised (slice_index_or (map f (range_with_len 0 6)) k []) (kind_of (kind_at kinds 0) (kind_at kinds 1) k)) 0 6 b b [] lt (omega arith)
      ∙ ap (λ (z : List ℤ). quantised z (kind_of (kind_at kinds 0) (kind_at kinds 1) b)) (get_or-map-range_with_len f 0 6 b b [] lt (omega arith))

  -- the first blocks' levels as the program has them
  module _ (ls : List Levels) (b : ℕ) (lt : b < 6) (same : (k : ℕ) → k < b + 1 → slice_index_or (levels_of ls) k [] ≡ slice_index_or (intra_macroblock t m kinds).levels k []) where
    there : level_list ls b ≡ slice_index_or (intra_macroblock t m kinds).levels b []
    there = own_levels ls b ∙ same b (omega arith)

    pub there_within : All IsLevel (level_list ls b)
    there_within = subst (λ (xs : List ℤ). All IsLevel xs) (sym there) (blocks_writable.blocks b lt (coded_there b lt)).within

    pub there_dc : IsDc 3 (slice_index_or (level_list ls b) 0 (pos 0))
    unfolding kind_for
    there_dc =
        subst (λ (xs : List ℤ). IsDc 3 (slice_index_or xs 0 (pos 0))) (sym there)
        (dc_wider t.context.now.extension.dc_precision _ (own_picture t.context.now task.asked.own).context.precision ((blocks_writable.blocks b lt (coded_there b lt)).dc can.intra))

    -- its DC predictor
    module _ (p : ℤ) (fits : SFits w32 p) (predicted : p ≡ predictor t.first.dc (levels_of ls) b) where
      predicted_there : p ≡ predictor (after t.context.now t.first m).dc (intra_macroblock t m kinds).levels b
      predicted_there =
          predicted ∙ predictor_same t.first.dc (levels_of ls) (intra_macroblock t m kinds).levels b same
          ∙ ap (λ (dc : List ℤ). predictor dc (intra_macroblock t m kinds).levels b) (sym (dc_first t m task can.intra))

      pub there_predicted : IsDc 3 (to_z w32 (of_z w32 p))
      there_predicted =
          subst (λ (z : ℤ). IsDc 3 z) (sym (to_z-of_z w32 p fits ∙ predicted_there))
          (dc_wider t.context.now.extension.dc_precision _ (own_picture t.context.now task.asked.own).context.precision (blocks_writable.predictors can.intra b lt))

      pub there_counted : (n : ℕ) → ((kind : BlockKind) → kind.intra ≡ true → kind.luma ≡ nat_lt b 4
          → n ≡ length (block_text kind t.context.now.extension.intra_vlc_format (to_z w32 (of_z w32 p)) (level_list ls b)))
          → n ≡ length (block_in_text t.context.now (after t.context.now t.first m) (intra_macroblock t m kinds) b)
      there_counted n h =
          let c = t.context.now in
          let st = after c t.first m in
          let kind = kind_for c m.kind.intra (nat_lt b 4) st.quantiser in
          one_counted c st (intra_macroblock t m kinds) b n kind (to_z w32 (of_z w32 p)) (level_list ls b) (h kind (is_intra c m.kind.intra (nat_lt b 4) st.quantiser true can.intra) (is_luma c m.kind.intra (nat_lt b 4) st.quantiser))
          (coded_there b lt) refl (to_z-of_z w32 p fits ∙ predicted_there) there

  six_levels : length (intra_macroblock t m kinds).levels ≡ 6
  unfolding quantised_by
  six_levels = refl

  pub all_levels : (ls : List Levels) → length ls ≡ 6 → ((b : ℕ) → b < 6 → slice_index_or (levels_of ls) b [] ≡ slice_index_or (intra_macroblock t m kinds).levels b [])
      → levels_of ls ≡ (intra_macroblock t m kinds).levels
  unfolding quantised_by
  all_levels ls len h =
      let f = λ (k : ℕ). quantised (slice_index_or (transforms_of t.source.now.at (replicate 384 0) m.dct_field) k []) (kind_of (kind_at kinds 0) (kind_at kinds 1) k) in
      fill_by_all f (levels_of ls) 6 [] (length-map ls (λ (l : Levels). l.at) ∙ len) (λ k lt. h k lt ∙ get_or-map-range_with_len f 0 6 k k [] lt (omega arith))

  pub whole_is : whole_of t m kinds ≡ rebuilt_by t (replicate 384 0) (intra_macroblock t m kinds)
  unfolding rebuilt_by sample_at
  whole_is = ap (rebuilt_with (replicate 384 0) m (intra_macroblock t m kinds).levels) can.known

  pub whole_squares : squared t.source.now.at (rebuilt_by t (replicate 384 0) (intra_macroblock t m kinds)) ≡ sum_by (block_squared m.dct_field t.source.now.at (whole_of t m kinds)) (range_with_len 0 6)
  whole_squares = ap (squared t.source.now.at) (sym whole_is) ∙ squared_blocks t.source.now.at (whole_of t m kinds) m.dct_field

  pub whole_long : length (whole_of t m kinds) ≡ 384
  whole_long = length_block (macro_sample (replicate 384 0) (intra_macroblock t m kinds).levels m.pattern (kind_at kinds 0) (kind_at kinds 1) m.dct_field)

  -- a block that is rebuilt by the levels so far, over samples that are those of no prediction there
  pub block_alike : (ls : List Levels) (samples : List ℕ) (b : ℕ) → b < 6 → length ls ≡ 6 → slice_index_or (levels_of ls) b [] ≡ slice_index_or (intra_macroblock t m kinds).levels b []
      → AreAlike m.dct_field b samples (replicate 384 0) → AreAlike m.dct_field b (rebuilt_with samples m (levels_of ls) kinds) (whole_of t m kinds)
  block_alike ls samples b lt len same alike =
      let zeros : List ℕ = replicate 384 0 in
      let none = replicate 64 (pos 0) in
      let long : length (levels_of ls) ≡ 6 = length-map ls (λ (l : Levels). l.at) ∙ len in
      let same_other : slice_index_or (levels_of ls) b none ≡ slice_index_or (intra_macroblock t m kinds).levels b none =
      get_or_default (levels_of ls) b none [] (omega (arith, long, lt)) ∙ same ∙ get_or_default (intra_macroblock t m kinds).levels b [] none (omega (arith, six_levels, lt)) in
      alike_on m.dct_field b (rebuilt_with samples m (levels_of ls) kinds) (rebuilt_with zeros m (levels_of ls) kinds) (whole_of t m kinds)
      (own_alike m.dct_field samples zeros (levels_of ls) m.pattern (kind_at kinds 0) (kind_at kinds 1) b lt alike)
      (levels_alike m.dct_field zeros (levels_of ls) (intra_macroblock t m kinds).levels m.pattern (kind_at kinds 0) (kind_at kinds 1) b lt same_other)

  -- what is known of the first blocks scores no more than the whole does
  pub part_below : (bit n k bits squares : ℕ) → n ≤ 6 → k ≤ 6
      → bits + length (blocks_text t.context.now (after t.context.now t.first m) (intra_macroblock t m kinds) n (6 - n))
      ≡ length (blocks_text t.context.now (after t.context.now t.first m) (intra_macroblock t m kinds) 0 6) + 4 * (6 - n)
      → squares ≡ sum_by (block_squared m.dct_field t.source.now.at (whole_of t m kinds)) (range_with_len 0 k)
      → bit * bits + 8 * squares
      ≤ bit * length (blocks_text t.context.now (after t.context.now t.first m) (intra_macroblock t m kinds) 0 6)
      + 8 * squared t.source.now.at (rebuilt_by t (replicate 384 0) (intra_macroblock t m kinds))
  part_below bit n k bits squares le few e sum =
      let text = block_in_text t.context.now (after t.context.now t.first m) (intra_macroblock t m kinds) in
      let f = block_squared m.dct_field t.source.now.at (whole_of t m kinds) in
      omega (arith, mul-le-mul_left bit (bits_below text text_least n bits le e), sum, front_sum f k few, whole_squares)

  -- its bits, those before its blocks and those of its blocks
  pub bits_are : (r : References) (before blocks : ℕ) → m.increment ≡ t.increment → before ≡ length (macro_text t.context.now t.first m)
      → blocks ≡ length (blocks_text t.context.now (after t.context.now t.first m) (intra_macroblock t m kinds) 0 6)
      → before + blocks ≡ bits_taken (decided r t) (written m (intra_macroblock t m kinds).levels)
  unfolding bits_taken macroblock_text
  bits_are r before blocks same e g =
      let x = intra_macroblock t m kinds in
      let first = task.first ∙ ap (as_first t.context.now t.state.now) (sym same) in
      (λ i. e i + g i) ∙ sym (length-append (macro_text t.context.now t.first m) (blocks_text t.context.now (after t.context.now t.first m) x 0 6))
      ∙ ap (λ (st : SliceState). length (macroblock_text t.context.now st x)) first ∙ ap length (same_text t.context.now t.state.now x)

  -- so it scores no less than what is known of it
  pub score_least : (r : References) (header part : ℕ) → m.increment ≡ t.increment → Predicts r t m (replicate 384 0) → header ≤ length (macro_text t.context.now t.first m)
      → part ≤ (2 * t.limits.now.q) ^ 2 * length (blocks_text t.context.now (after t.context.now t.first m) (intra_macroblock t m kinds) 0 6)
      + 8 * squared t.source.now.at (rebuilt_by t (replicate 384 0) (intra_macroblock t m kinds))
      → (2 * t.limits.now.q) ^ 2 * header + part ≤ score (decided r t) (written m (intra_macroblock t m kinds).levels)
  score_least r header part same predicts low most =
      let bit = (2 * t.limits.now.q) ^ 2 in
      let before = length (macro_text t.context.now t.first m) in
      let blocks = length (blocks_text t.context.now (after t.context.now t.first m) (intra_macroblock t m kinds) 0 6) in
      let parted : bit * (before + blocks) ≡ bit * before + bit * blocks = grind arith in
      let all : bit * (before + blocks) ≡ bit * bits_taken (decided r t) (written m (intra_macroblock t m kinds).levels) = ap (λ (n : ℕ). bit * n) (bits_are r before blocks same refl refl) in
      omega (arith, written_score r t m (intra_macroblock t m kinds).levels (replicate 384 0) predicts, parted, all, mul-le-mul_left bit low, most)

  -- four bits a block are the least
  pub blocks_least : 24 ≤ length (blocks_text t.context.now (after t.context.now t.first m) (intra_macroblock t m kinds) 0 6)
  blocks_least = left_least (block_in_text t.context.now (after t.context.now t.first m) (intra_macroblock t m kinds)) text_least 6 0 refl
