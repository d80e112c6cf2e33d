-- DC predictors stay in their range.
use Rattle.std.proofs.Common.{◌≡◌, ℕ, Bool, true, false, cond, ◌&&◌, not, All, List, [], ◌∷◌, ◌++◌, filter, map, refl, arith, ℤ, pos, ◌+ℤ◌}
use Rattle.std.specs.Prelude.{nat_eq, replicate}
use Rattle.std.specs.List.{flat_map}
use Rattle.std.specs.Int.{int_min, int_shr}
use Rattle.std.proofs.lemmas.Int.{ints, int_max_is, int_min_is}
use Rattle.std.proofs.lemmas.List.Elements.{All-nil, All-cons, All-append, All-map, All-filter}
use Rattle.m2v_quant.specs.Quantiser.{levels_of, level_at, dc_level}
use Rattle.m2v_macroblock.specs.m2v_block.Blocks.{IsDc}
use Rattle.m2v_macro.specs.declared.values.MacroSyntax.{MacroSyntax}
use Rattle.m2v_macro.specs.declared.values.SliceState.{SliceState}
use Rattle.m2v_macro.specs.declared.values.PictureContext.{PictureContext}
use Rattle.m2v_macro.specs.States.{skips, dc_reset, dc_behind, at_start, after}
use Rattle.m2v_macroblock.specs.Macroblocks.{kind_for, dc_after, after_macroblock}
use Rattle.m2v_macroblock.specs.Conditions.{AreDc}
use Rattle.m2v_choose.specs.Decisions.{Decision, Candidate, Prediction, Coding, skipped, written, no_levels, levels_by, intra_syntax, uncoded_syntax, coded_syntax}
use Rattle.m2v_choose.specs.Candidates.{held_intra, held_levels, hold, still_prediction, may_skip, codings, predictions, intra_by, uncoded_by, coded_by, has_block, by_prediction, others}
use Rattle.m2v_choose.specs.Choice.{score, fits, choice_of, state_behind}
use Rattle.m2v_search.proofs.Products.{least_in}
use Rattle.m2v_choose.proofs.Chosen.{either}
use Rattle.m2v_search.proofs.Reached.{flat_all}

-- what holds of each element
all_of : {X : Type 0} (P : X → Type 0) → ((x : X) → P x) → (xs : List X) → All P xs
all_of P h [] = All-nil P
all_of P h (x ∷ xs) = All-cons P x xs (h x) (all_of P h xs)

-- ---- predictors

AreOwnDc : List ℤ → Type 0
AreOwnDc dc = AreDc 0 dc

reset_dc : (c : PictureContext) → c.extension.dc_precision ≡ 0 → AreOwnDc (dc_reset c)
unfolding dc_reset AreOwnDc
reset_dc c e = rw e (record { luma = (omega (arith, ints), omega (arith, ints)); blue = (omega (arith, ints), omega (arith, ints)); red = (omega (arith, ints), omega (arith, ints)) })

after_dc : (c : PictureContext) (st : SliceState) (m : MacroSyntax) → c.extension.dc_precision ≡ 0 → AreOwnDc st.dc → AreOwnDc (after c st m).dc
unfolding after dc_behind
after_dc c st m e own = either AreOwnDc (m.kind.intra && not (skips st m.increment)) st.dc (dc_reset c) own (reset_dc c e)

pub reset_own : (c : PictureContext) → c.extension.dc_precision ≡ 0 → AreDc 0 (dc_reset c)
unfolding AreOwnDc
reset_own c e = reset_dc c e

pub behind_dc : (c : PictureContext) (st : SliceState) (m : MacroSyntax) → c.extension.dc_precision ≡ 0 → AreDc 0 st.dc → AreDc 0 (after c st m).dc
unfolding AreOwnDc
behind_dc c st m e own = after_dc c st m e own

-- a DC level of the encoder's quantiser is in its range
pub level_dc : (f : ℤ) → IsDc 0 (dc_level f)
unfolding dc_level
level_dc f =
    let z = int_shr (f +ℤ pos 4) 3 in
    let low = int_min_is z (pos 255) in
    let high = int_max_is (int_min z (pos 255)) (pos 0) in
    (omega (arith, ints, low, high), omega (arith, ints, low, high))

-- ---- candidates

-- a candidate leaves DC predictors in their range
KeepsDc : Decision → Candidate → Type 0
KeepsDc d x = AreOwnDc (dc_after x.macroblock.syntax.kind.intra x.macroblock.levels (after d.context d.state x.macroblock.syntax).dc)

same_dc : (intra : Bool) (levels : List (List ℤ)) (dc : List ℤ) → intra ≡ false → AreOwnDc dc → AreOwnDc (dc_after intra levels dc)
unfolding dc_after
same_dc false levels dc e own = own
same_dc true levels dc e own = absurd cc

other_keeps : (d : Decision) (x : Candidate) → d.context.extension.dc_precision ≡ 0 → AreOwnDc d.state.dc → x.macroblock.syntax.kind.intra ≡ false → KeepsDc d x
unfolding KeepsDc
other_keeps d x e own other =
    same_dc x.macroblock.syntax.kind.intra x.macroblock.levels (after d.context d.state x.macroblock.syntax).dc other (after_dc d.context d.state x.macroblock.syntax e own)

intra_keeps : (d : Decision) (k : Coding) (prediction : List ℕ) → KeepsDc d (written (intra_syntax d k) (levels_by d prediction true k))
unfolding KeepsDc AreOwnDc dc_after levels_by levels_of level_at kind_for intra_syntax
intra_keeps d k prediction = record { luma = level_dc _; blue = level_dc _; red = level_dc _ }

held_keeps : (d : Decision) → d.context.extension.dc_precision ≡ 0 → AreOwnDc d.state.dc → KeepsDc d (written (held_intra d) (held_levels d))
unfolding KeepsDc AreOwnDc dc_after held_levels intra_syntax
held_keeps d e own =
    let h = after_dc d.context d.state (held_intra d) e own in
    record { luma = h.luma; blue = h.blue; red = h.red }

uncoded_keeps : (d : Decision) (p : Prediction) → d.context.extension.dc_precision ≡ 0 → AreOwnDc d.state.dc → KeepsDc d (written (uncoded_syntax d p) no_levels)
unfolding uncoded_syntax
uncoded_keeps d p e own = other_keeps d (written (uncoded_syntax d p) no_levels) e own refl

coded_keeps : (d : Decision) (p : Prediction) (k : Coding) → d.context.extension.dc_precision ≡ 0 → AreOwnDc d.state.dc → KeepsDc d (coded_by d p k)
unfolding coded_by coded_syntax
coded_keeps d p k e own = other_keeps d (coded_by d p k) e own refl

prediction_keeps : (d : Decision) (p : Prediction) → d.context.extension.dc_precision ≡ 0 → AreOwnDc d.state.dc → All (KeepsDc d) (by_prediction d p)
unfolding by_prediction uncoded_by
prediction_keeps d p e own =
    let P = KeepsDc d in
    let bare = written (uncoded_syntax d p) no_levels in
    let coded = All-map P (coded_by d p) (codings d) (all_of (λ k. P (coded_by d p k)) (λ k. coded_keeps d p k e own) (codings d)) in
    All-append P (cond p.uncoded (bare ∷ []) []) (filter has_block (map (coded_by d p) (codings d)))
    (either (All P) p.uncoded (bare ∷ []) [] (All-cons P bare [] (uncoded_keeps d p e own) (All-nil P)) (All-nil P))
    (All-filter has_block P (map (coded_by d p) (codings d)) coded)

intra_by_keeps : (d : Decision) (k : Coding) → KeepsDc d (intra_by d k)
unfolding intra_by
intra_by_keeps d k = intra_keeps d k (replicate 384 0)

others_keep : (d : Decision) → d.context.extension.dc_precision ≡ 0 → AreOwnDc d.state.dc → All (KeepsDc d) (others d)
unfolding others
others_keep d e own =
    let P = KeepsDc d in
    let skip = cond (may_skip d) (skipped ∷ []) [] in
    let intra = map (intra_by d) (codings d) in
    let skip_all = either (All P) (may_skip d) (skipped ∷ []) [] (All-cons P skipped [] (other_keeps d skipped e own refl) (All-nil P)) (All-nil P) in
    let intra_all = All-map P (intra_by d) (codings d) (all_of (λ k. P (intra_by d k)) (λ k. intra_by_keeps d k) (codings d)) in
    All-append P (skip ++ intra) (flat_map (by_prediction d) (predictions d)) (All-append P skip intra skip_all intra_all)
    (flat_all P (λ p. Unit {0}) (by_prediction d) (λ p h. prediction_keeps d p e own) (predictions d) (all_of (λ p. Unit {0}) (λ p. tt) (predictions d)))

hold_keeps : (d : Decision) → d.context.extension.dc_precision ≡ 0 → AreOwnDc d.state.dc → KeepsDc d (hold d)
unfolding hold
hold_keeps d e own =
    either (KeepsDc d) (nat_eq d.context.kind 1) (written (held_intra d) (held_levels d)) (written (uncoded_syntax d (still_prediction d.context)) no_levels)
    (held_keeps d e own) (uncoded_keeps d (still_prediction d.context) e own)

-- ---- the choice

choice_keeps : (d : Decision) → d.context.extension.dc_precision ≡ 0 → AreOwnDc d.state.dc → KeepsDc d (choice_of d)
unfolding choice_of
choice_keeps d e own =
    least_in (KeepsDc d) (score d) (hold d) (filter (fits d) (others d)) (hold_keeps d e own) (All-filter (fits d) (KeepsDc d) (others d) (others_keep d e own))

pub choice_dc : (d : Decision) → d.context.extension.dc_precision ≡ 0 → AreDc 0 d.state.dc → AreDc 0 (state_behind d (choice_of d)).dc
unfolding KeepsDc AreOwnDc after_macroblock
choice_dc d e own =
    let x = choice_of d in
    either (λ (st : SliceState). AreDc 0 st.dc) x.skip d.state (after_macroblock d.context d.state x.macroblock) own (choice_keeps d e own)

pub start_dc : (c : PictureContext) (row q next : ℕ) → c.extension.dc_precision ≡ 0 → AreDc 0 (at_start c row q next).dc
unfolding at_start AreOwnDc
start_dc c row q next e = reset_dc c e
