-- Each candidate can be written: its syntax, and the levels of its coded blocks.
use Rattle.std.proofs.Common.{◌≡◌, ◌≢◌, ℕ, zero, suc, ◌+◌, ◌-◌, ◌*◌, ◌/◌, ◌%◌, ◌<◌, ◌≤◌, Bool, true, false, cond, ◌&&◌, ◌⊎◌, inl, inr, All, List, [], ◌∷◌, ◌++◌, filter, map, replicate, refl, ap, sym, ◌∙◌, subst, arith, ℤ, pos, negsuc}
use Rattle.std.specs.Prelude.{nat_eq, nat_lt, min, slice_index_or, unsigned_abs}
use Rattle.std.specs.List.{range_with_len, flat_map}
use Rattle.std.proofs.lemmas.Int.{ints}
use Rattle.std.proofs.lemmas.Bool.{cases_lt, ltb-true, eqb-true}
use Rattle.std.proofs.lemmas.List.FromFn.{get_or-map-range_with_len}
use Rattle.std.proofs.lemmas.List.Elements.{All-nil, All-cons, All-head, All-tail, All-append, All-map, All-filter, All-replicate, All-weaker, filter_passes}
use Rattle.m2v_quant.specs.declared.kind.BlockKind.{BlockKind}
use Rattle.m2v_quant.specs.Kinds.{IsLevel}
use Rattle.m2v_quant.specs.Quantiser.{levels_of, level_at, ac_level, dc_level, with_sign}
use Rattle.m2v_idct.specs.Forward.{forward_of}
use Rattle.m2v_macroblock.specs.m2v_block.Blocks.{IsDc}
use Rattle.m2v_macroblock.specs.m2v_block.Texts.{IsBlock}
use Rattle.m2v_macro.specs.declared.values.MacroSyntax.{MacroSyntax}
use Rattle.m2v_macro.specs.declared.values.SliceState.{SliceState}
use Rattle.m2v_macro.specs.declared.values.PictureContext.{PictureContext}
use Rattle.m2v_macro.specs.States.{after}
use Rattle.m2v_macro.specs.Conditions.{IsStep}
use Rattle.m2v_recon.specs.Macro.{is_coded}
use Rattle.m2v_macroblock.specs.Macroblocks.{kind_for, block_levels}
use Rattle.m2v_macroblock.specs.Conditions.{AreDc, AreBlocks}
use Rattle.m2v_choose.specs.Decisions.{Decision, Candidate, Prediction, Coding, skipped, written, no_levels, has_dct_type, increment_of, differences, levels_by, pattern_of, intra_syntax, uncoded_syntax, coded_syntax}
use Rattle.m2v_choose.specs.Candidates.{held_intra, held_levels, hold, still_prediction, may_skip, codings_at, codings, second_q, predictions, samples_by, intra_by, uncoded_by, coded_by, has_block, by_prediction, others}
use Rattle.m2v_choose.specs.Choice.{score, fits, choice_of}
use Rattle.m2v_choose.specs.Own.{IsOwn, IsCode, IsOwnState, AreLimits}
use Rattle.m2v_choose.specs.Laws.{IsWritable}
use Rattle.m2v_choose.specs.Trials.{is_empty}
use Rattle.m2v_choose.proofs.Chosen.{either}
use Rattle.m2v_search.proofs.Products.{least_in}
use Rattle.m2v_search.proofs.Reached.{flat_all, range_all}
use Rattle.m2v_choose.proofs.DcKept.{behind_dc, level_dc}
use Rattle.m2v_choose.proofs.Stands.{first_of, second_of, two_three, PredictionStands, predictions_stand, still_prediction_stands, uncoded_macro, coded_macro, intra_macro}

-- ---- levels

signed_within : (f : ℤ) (n : ℕ) → n ≤ 2047 → IsLevel (with_sign f n)
unfolding with_sign
signed_within (pos a) n le = (omega (arith, ints, le), omega (arith, ints, le))
signed_within (negsuc a) n le = (omega (arith, ints, le), omega (arith, ints, le))

ac_within : (intra : Bool) (step : ℕ) (f : ℤ) → IsLevel (ac_level intra step f)
unfolding ac_level
ac_within intra step f = signed_within f (min ((16 * unsigned_abs f + cond intra (step / 2) 0) / step) 2047) (omega arith)

level_within : (f : List ℤ) (kind : BlockKind) (i : ℕ) → IsLevel (level_at f kind i)
unfolding level_at
level_within f kind i =
    let dc = level_dc (slice_index_or f 0 (pos 0)) in
    either IsLevel (kind.intra && nat_eq i 0) (dc_level (slice_index_or f 0 (pos 0))) (ac_level kind.intra _ _)
    (omega (arith, ints, dc.0, dc.1), omega (arith, ints, dc.0, dc.1)) (ac_within kind.intra _ _)

pub levels_within : (f : List ℤ) (kind : BlockKind) → All IsLevel (levels_of f kind)
unfolding levels_of
levels_within f kind = All-map IsLevel (level_at f kind) (range_with_len 0 64) (range_all (λ i. IsLevel (level_at f kind i)) 0 64 (λ i lt. level_within f kind i))

-- ---- patterns

abbrev pub one_of : Bool → ℕ
one_of z = cond z 0 1

one_if : (z : Bool) (w : ℕ) → cond z 0 w ≡ w * one_of z
one_if true w = omega arith
one_if false w = omega arith

most_one : (z : Bool) → one_of z ≤ 1
most_one true = omega arith
most_one false = omega arith

-- a number of six bits
six : ℕ → ℕ → ℕ → ℕ → ℕ → ℕ → ℕ
six a b c d e f = 32 * a + 16 * b + 8 * c + 4 * d + 2 * e + f

-- each of its bits
pub record SixBits (p a b c d e f : ℕ) : Type 0 where
  pub first : p / 32 % 2 ≡ a
  pub second : p / 16 % 2 ≡ b
  pub third : p / 8 % 2 ≡ c
  pub fourth : p / 4 % 2 ≡ d
  pub fifth : p / 2 % 2 ≡ e
  pub sixth : p / 1 % 2 ≡ f

six_bits : (a b c d e f : ℕ) → a ≤ 1 → b ≤ 1 → c ≤ 1 → d ≤ 1 → e ≤ 1 → f ≤ 1 → SixBits (six a b c d e f) a b c d e f
unfolding six
six_bits a b c d e f p q r s t u = record { first = omega arith; second = omega arith; third = omega arith; fourth = omega arith; fifth = omega arith; sixth = omega arith }

abbrev pub empty : List (List ℤ) → ℕ → Bool
empty ls b = is_empty (slice_index_or ls b [])

abbrev pub number : List (List ℤ) → ℕ → ℕ
number ls b = one_of (empty ls b)

pattern_is : (ls : List (List ℤ)) → pattern_of ls ≡ six (number ls 0) (number ls 1) (number ls 2) (number ls 3) (number ls 4) (number ls 5)
unfolding pattern_of six
pattern_is ls =
    let z = λ (b : ℕ). is_empty (slice_index_or ls b []) in
    omega (arith, one_if (z 0) 32, one_if (z 1) 16, one_if (z 2) 8, one_if (z 3) 4, one_if (z 4) 2, one_if (z 5) 1)

number_most : (ls : List (List ℤ)) (b : ℕ) → number ls b ≤ 1
number_most ls b = most_one (empty ls b)

pub pattern_most : (ls : List (List ℤ)) → pattern_of ls < 64
unfolding six
pattern_most ls = omega (arith, pattern_is ls, number_most ls 0, number_most ls 1, number_most ls 2, number_most ls 3, number_most ls 4, number_most ls 5)

pub pattern_bits : (ls : List (List ℤ)) → SixBits (pattern_of ls) (number ls 0) (number ls 1) (number ls 2) (number ls 3) (number ls 4) (number ls 5)
pattern_bits ls =
    let n = number ls in
    subst (λ (p : ℕ). SixBits p (n 0) (n 1) (n 2) (n 3) (n 4) (n 5)) (sym (pattern_is ls))
    (six_bits (n 0) (n 1) (n 2) (n 3) (n 4) (n 5) (number_most ls 0) (number_most ls 1) (number_most ls 2) (number_most ls 3) (number_most ls 4) (number_most ls 5))

coded_number : (ls : List (List ℤ)) (b : ℕ) → b < 6 → is_coded (pattern_of ls) b ≡ true → number ls b ≡ 1
coded_number ls zero lt e = sym (pattern_bits ls).first ∙ eqb-true _ _ e
coded_number ls (suc zero) lt e = sym (pattern_bits ls).second ∙ eqb-true _ _ e
coded_number ls (suc (suc zero)) lt e = sym (pattern_bits ls).third ∙ eqb-true _ _ e
coded_number ls (suc (suc (suc zero))) lt e = sym (pattern_bits ls).fourth ∙ eqb-true _ _ e
coded_number ls (suc (suc (suc (suc zero)))) lt e = sym (pattern_bits ls).fifth ∙ eqb-true _ _ e
coded_number ls (suc (suc (suc (suc (suc zero))))) lt e = sym (pattern_bits ls).sixth ∙ eqb-true _ _ e
coded_number ls (suc (suc (suc (suc (suc (suc n)))))) lt e = absurd (omega arith)

-- a block that is coded has a level other than 0
some_if : (z : Bool) → one_of z ≡ 1 → z ≡ false
some_if true e = absurd (omega (arith, e))
some_if false e = refl

pub coded_some : (ls : List (List ℤ)) (b : ℕ) → b < 6 → is_coded (pattern_of ls) b ≡ true → block_levels ls b ≢ replicate 64 (pos 0)
coded_some ls b lt e same =
    let not_empty : is_empty (slice_index_or ls b []) ≡ false = some_if (is_empty (slice_index_or ls b [])) (coded_number ls b lt e) in
    let is : is_empty (slice_index_or ls b []) ≡ true = ap is_empty same in
    let no : false ≡ true = sym not_empty ∙ is in
    absurd cc

-- ---- blocks

-- six blocks by their number
pub block_by : (f : ℕ → List ℤ) (b : ℕ) → b < 6 → block_levels (map f (range_with_len 0 6)) b ≡ f b
block_by f b lt = get_or-map-range_with_len f 0 6 b b [] lt (omega arith)

blocks_stand : (c : PictureContext) (st : SliceState) (m : MacroSyntax) (f : ℕ → List ℤ)
    → ((b : ℕ) → b < 6 → is_coded m.pattern b ≡ true → IsBlock (kind_for c m.kind.intra (nat_lt b 4) (after c st m).quantiser) (f b))
    → AreBlocks c st (record { syntax = m; levels = map f (range_with_len 0 6) })
blocks_stand c st m f h b lt e =
    subst (λ (ls : List ℤ). IsBlock (kind_for c m.kind.intra (nat_lt b 4) (after c st m).quantiser) ls) (sym (block_by f b lt)) (h b lt e)

all_levels : (f : ℕ → List ℤ) → ((b : ℕ) → b < 6 → All IsLevel (f b)) → All (All IsLevel) (map f (range_with_len 0 6))
all_levels f h = All-map (All IsLevel) f (range_with_len 0 6) (range_all (λ b. All IsLevel (f b)) 0 6 (λ b lt. h b lt))

-- an intra block, whose DC is in its range
pub intra_block : (c : PictureContext) (luma : Bool) (q : ℕ) (ls : List ℤ) → c.extension.dc_precision ≡ 0 → All IsLevel ls → IsDc 0 (slice_index_or ls 0 (pos 0))
    → IsBlock (kind_for c true luma q) ls
unfolding kind_for
intra_block c luma q ls e within dc = record {
  within = within;
  dc = λ is. subst (λ (p : ℕ). IsDc p (slice_index_or ls 0 (pos 0))) (sym e) dc;
  some = λ no. absurd cc;
}

pub other_block : (c : PictureContext) (luma : Bool) (q : ℕ) (ls : List ℤ) → All IsLevel ls → ls ≢ replicate 64 (pos 0) → IsBlock (kind_for c false luma q) ls
unfolding kind_for
other_block c luma q ls within some = record { within = within; dc = λ is. absurd cc; some = λ no. some }

-- ---- candidates

module _ (d : Decision) (own : IsOwn d.context) (st : SliceState) (step : IsStep d.context st (increment_of d)) where
  pub intra_written : (k : Coding) → IsCode k.q → (k.dct_field ≡ true → has_dct_type d ≡ true) → IsWritable d.context st (intra_by d k).macroblock
  unfolding intra_by levels_by intra_syntax levels_of level_at kind_for
  intra_written k code dct =
      let t = λ (b : ℕ). forward_of (differences d.source (replicate 384 0) k.dct_field b) in
      let kind = λ (b : ℕ). kind_for d.context true (nat_lt b 4) k.q in
      let f = λ (b : ℕ). levels_of (t b) (kind b) in
      let m = intra_syntax d k in
      record {
        macro = intra_macro d own st step k code dct;
        blocks = blocks_stand d.context st m f (λ b lt e. intra_block d.context (nat_lt b 4) (after d.context st m).quantiser (f b) own.precision (levels_within (t b) (kind b)) (level_dc (slice_index_or (t b) 0 (pos 0))));
        levels = all_levels f (λ b lt. levels_within (t b) (kind b));
      }

  coded_written : (p : Prediction) (k : Coding) → PredictionStands d.context p → IsCode k.q → (k.dct_field ≡ true → has_dct_type d ≡ true)
      → has_block (coded_by d p k) ≡ true → IsWritable d.context st (coded_by d p k).macroblock
  unfolding coded_by levels_by coded_syntax
  coded_written p k h code dct some =
      let t = λ (b : ℕ). forward_of (differences d.source (samples_by d p) k.dct_field b) in
      let kind = λ (b : ℕ). kind_for d.context false (nat_lt b 4) k.q in
      let f = λ (b : ℕ). levels_of (t b) (kind b) in
      let ls = map f (range_with_len 0 6) in
      let m = coded_syntax d p k (pattern_of ls) in
      record {
        macro = coded_macro d own st step p k (pattern_of ls) h code dct (ltb-true 0 (pattern_of ls) some) (pattern_most ls);
        blocks = blocks_stand d.context st m f (λ b lt e. other_block d.context (nat_lt b 4) (after d.context st m).quantiser (f b) (levels_within (t b) (kind b))
            (subst (λ (l : List ℤ). l ≢ replicate 64 (pos 0)) (block_by f b lt) (coded_some ls b lt e)));
        levels = all_levels f (λ b lt. levels_within (t b) (kind b));
      }

  uncoded_written : (p : Prediction) → PredictionStands d.context p → p.uncoded ≡ true → IsWritable d.context st (uncoded_by d p).macroblock
  unfolding uncoded_by uncoded_syntax
  uncoded_written p h bare = record {
    macro = uncoded_macro d own st step p h bare;
    blocks = λ b lt e. absurd (none_coded b e);
    levels = All-replicate (All IsLevel) 6 (replicate 64 (pos 0)) (All-replicate IsLevel 64 (pos 0) (omega (arith, ints), omega (arith, ints)));
  }
    where
      none_coded : (b : ℕ) → is_coded 0 b ≡ true → ⊥
      none_coded b e = omega (arith, eqb-true _ _ e)

  codings_at_stand : (q : ℕ) → IsCode q → All (λ (k : Coding). IsCode k.q × (k.dct_field ≡ true → has_dct_type d ≡ true)) (codings_at d q)
  unfolding codings_at
  codings_at_stand q code =
      let P = λ (k : Coding). IsCode k.q × (k.dct_field ≡ true → has_dct_type d ≡ true) in
      All-cons P _ _ (code, λ e. absurd cc)
      (where_holds (has_dct_type d) (λ e. All-cons P _ [] (code, λ g. e) (All-nil P)))
    where
      where_holds : (b : Bool) → (b ≡ true → All (λ (k : Coding). IsCode k.q × (k.dct_field ≡ true → has_dct_type d ≡ true)) (record { q = q; dct_field = true } ∷ []))
          → All (λ (k : Coding). IsCode k.q × (k.dct_field ≡ true → has_dct_type d ≡ true)) (cond b (record { q = q; dct_field = true } ∷ []) [])
      where_holds true h = h refl
      where_holds false h = All-nil _

  pub codings_stand : IsCode d.limits.q → All (λ (k : Coding). IsCode k.q × (k.dct_field ≡ true → has_dct_type d ≡ true)) (codings d)
  unfolding codings
  codings_stand h =
      let P = λ (k : Coding). IsCode k.q × (k.dct_field ≡ true → has_dct_type d ≡ true) in
      let second : IsCode (second_q d.limits.q) = (omega (arith, h.0), omega arith) in
      All-append P _ _ (codings_at_stand d.limits.q h)
      (either (All P) (nat_eq (second_q d.limits.q) d.limits.q) [] (codings_at d (second_q d.limits.q)) (All-nil P) (codings_at_stand (second_q d.limits.q) second))

  -- of those that pass a test, what holds of each that passes it
  passing : {A : Type 0} (p : A → Bool) (P : A → Type 0) (xs : List A) → All (λ x. p x ≡ true → P x) xs → All P (filter p xs)
  passing {A = A} p P xs h = both (filter p xs) (All-filter p (λ x. p x ≡ true → P x) xs h) (filter_passes p xs)
    where
      both : (ys : List A) → All (λ x. p x ≡ true → P x) ys → All (λ x. p x ≡ true) ys → All P ys
      both [] f e = All-nil P
      both (y ∷ ys) f e =
          All-cons P y ys (All-head (λ x. p x ≡ true → P x) y ys f (All-head (λ x. p x ≡ true) y ys e))
          (both ys (All-tail (λ x. p x ≡ true → P x) y ys f) (All-tail (λ x. p x ≡ true) y ys e))

  -- what is known of a candidate that isn't skipped
  Writes : Candidate → Type 0
  Writes x = x.skip ≡ false → IsWritable d.context st x.macroblock

  prediction_written : IsCode d.limits.q → (p : Prediction) → PredictionStands d.context p → All Writes (by_prediction d p)
  unfolding by_prediction Writes
  prediction_written code p h =
      All-append Writes (cond p.uncoded (uncoded_by d p ∷ []) []) (filter has_block (map (coded_by d p) (codings d)))
      (bare p.uncoded (λ e. uncoded_written p h e))
      (passing has_block Writes (map (coded_by d p) (codings d))
      (All-map (λ x. has_block x ≡ true → Writes x) (coded_by d p) (codings d)
      (All-weaker (λ (k : Coding). IsCode k.q × (k.dct_field ≡ true → has_dct_type d ≡ true)) (λ k. has_block (coded_by d p k) ≡ true → Writes (coded_by d p k))
      (λ k is some told. coded_written p k h is.0 is.1 some) (codings d) (codings_stand code))))
    where
      bare : (b : Bool) → (b ≡ true → IsWritable d.context st (uncoded_by d p).macroblock) → All Writes (cond b (uncoded_by d p ∷ []) [])
      bare true w = All-cons Writes (uncoded_by d p) [] (λ told. w refl) (All-nil Writes)
      bare false w = All-nil Writes

  others_written : AreLimits d.limits → All Writes (others d)
  unfolding others Writes
  others_written limits =
      let skip = cond (may_skip d) (skipped ∷ []) [] in
      let intra = map (intra_by d) (codings d) in
      let skip_all = either (All Writes) (may_skip d) (skipped ∷ []) [] (All-cons Writes skipped [] (λ told. absurd cc) (All-nil Writes)) (All-nil Writes) in
      let intra_all = All-map Writes (intra_by d) (codings d)
      (All-weaker (λ (k : Coding). IsCode k.q × (k.dct_field ≡ true → has_dct_type d ≡ true)) (λ k. Writes (intra_by d k))
      (λ k is told. intra_written k is.0 is.1) (codings d) (codings_stand limits.q)) in
      All-append Writes (skip ++ intra) (flat_map (by_prediction d) (predictions d)) (All-append Writes skip intra skip_all intra_all)
      (flat_all Writes (PredictionStands d.context) (by_prediction d) (λ p h. prediction_written limits.q p h) (predictions d) (predictions_stand d own limits.search))

  pub held_written : AreDc 0 d.state.dc → IsCode d.state.quantiser → IsWritable d.context st (record { syntax = held_intra d; levels = held_levels d })
  unfolding held_levels intra_syntax
  held_written dc code =
      let m = held_intra d in
      let behind = behind_dc d.context d.state m own.precision dc in
      let f = λ (b : ℕ). slice_index_or (after d.context d.state m).dc (b - 3) (pos 0) ∷ replicate 63 (pos 0) in
      let levels = λ (b : ℕ) (lt : b < 6). held_within (slice_index_or (after d.context d.state m).dc (b - 3) (pos 0)) (dc_at (after d.context d.state m).dc (b - 3) behind (omega (arith, lt))) in
      record {
        macro = intra_macro d own st step (record { q = d.state.quantiser; dct_field = false }) code (λ e. absurd cc);
        blocks = blocks_stand d.context st m f (λ b lt e. intra_block d.context (nat_lt b 4) (after d.context st m).quantiser (f b) own.precision (levels b lt)
            (dc_at (after d.context d.state m).dc (b - 3) behind (omega (arith, lt))));
        levels = all_levels f levels;
      }
    where
      dc_at : (dc : List ℤ) (k : ℕ) → AreDc 0 dc → k < 3 → IsDc 0 (slice_index_or dc k (pos 0))
      dc_at dc zero h lt = h.luma
      dc_at dc (suc zero) h lt = h.blue
      dc_at dc (suc (suc zero)) h lt = h.red
      dc_at dc (suc (suc (suc n))) h lt = absurd (omega (arith, lt))

      held_within : (z : ℤ) → IsDc 0 z → All IsLevel (z ∷ replicate 63 (pos 0))
      held_within z h = All-cons IsLevel z (replicate 63 (pos 0)) (omega (arith, ints, h.0, h.1), omega (arith, ints, h.0, h.1)) (All-replicate IsLevel 63 (pos 0) (omega (arith, ints), omega (arith, ints)))

  hold_written : AreDc 0 d.state.dc → IsCode d.state.quantiser → Writes (hold d)
  unfolding hold Writes uncoded_by still_prediction
  hold_written dc code = elim (cases_lt d.context.kind 2) [
    | inl less ↦
        let one : d.context.kind ≡ 1 = omega (arith, less, own.kind.0) in
        first_of Writes (nat_eq d.context.kind 1) (written (held_intra d) (held_levels d)) (written (uncoded_syntax d (still_prediction d.context)) no_levels) (rw one refl)
        (λ told. held_written dc code)
    | inr more ↦
        let p = still_prediction d.context in
        let kind : (d.context.kind ≡ 2) ⊎ (d.context.kind ≡ 3) = two_three d.context.kind more own.kind.1 in
        let moving : Writes (written (uncoded_syntax d p) no_levels) = λ told. uncoded_written p (still_prediction_stands d own kind) (refl) in
        second_of Writes (nat_eq d.context.kind 1) (written (held_intra d) (held_levels d)) (written (uncoded_syntax d p) no_levels) (not_first d.context.kind more) moving
  ]
    where
      not_first : (k : ℕ) → 2 ≤ k → nat_eq k 1 ≡ false
      not_first k more = by_test (nat_eq k 1) refl
        where
          by_test : (b : Bool) → nat_eq k 1 ≡ b → nat_eq k 1 ≡ false
          by_test true e = absurd (omega (arith, eqb-true k 1 e, more))
          by_test false e = e

  choice_writes : IsOwnState d.state → AreLimits d.limits → AreDc 0 d.state.dc → Writes (choice_of d)
  unfolding choice_of
  choice_writes state limits dc =
      least_in Writes (score d) (hold d) (filter (fits d) (others d)) (hold_written dc state.quantiser) (All-filter (fits d) Writes (others d) (others_written limits))

  pub choice_written : IsOwnState d.state → AreLimits d.limits → AreDc 0 d.state.dc → (choice_of d).skip ≡ false → IsWritable d.context st (choice_of d).macroblock
  unfolding Writes
  choice_written state limits dc told = choice_writes state limits dc told
