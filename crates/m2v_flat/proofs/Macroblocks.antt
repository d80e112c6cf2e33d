-- What is written of a macroblock of the flat profile spells it, and leaves the state of the next one.
use Rattle.std.proofs.Common.{◌≡◌, ℕ, zero, suc, ◌+◌, ◌-◌, ◌*◌, ◌<◌, ◌≤◌, Bool, true, false, cond, List, [], ◌++◌, ℤ, pos, ◌+ℤ◌, refl, sym, ap, subst, ◌∙◌, arith, append_assoc}
use Rattle.std.specs.Prelude.{nat_lt, nat_eq, int_le, ◌&&◌, ◌-ℤ◌}
use Rattle.std.proofs.lemmas.Int.{ints}
use Rattle.std.proofs.lemmas.Bool.{lt-ltb, and_from}
use Rattle.std.proofs.lemmas.Nat.{mod-mul-add}
use Rattle.m2v_bits.specs.Bits.{bits_of}
use Rattle.m2v_bits.specs.Syntax.{Spells}
use Rattle.m2v_bits.proofs.LeafLaws.{done_spells, here_spells, rule_spells, first_spells, renamed_spells}
use Rattle.m2v_head.proofs.ElementLaws.{last_spells, same_spells}
use Rattle.m2v_vlc.specs.declared.values.Increment.TheVariants.{Step}
use Rattle.m2v_vlc.specs.Codes.{code_of}
use Rattle.m2v_vlc.specs.Tables.{increment, type_i, increment_code, type_i_code}
use Rattle.m2v_vlc.specs.Values.{kind, same_increment}
use Rattle.m2v_quant.specs.declared.kind.BlockKind.{BlockKind}
use Rattle.m2v_vector.specs.Predictors.{predictors_after, resets}
use Rattle.m2v_vector.specs.Predictors.{zero as no_predictors}
use Rattle.m2v_macro.specs.declared.values.SliceState.{SliceState}
use Rattle.m2v_macro.specs.Macros.{macro_at, has_form, has_dct}
use Rattle.m2v_macro.specs.States.{address, column, not_past, in_order, skips, may_skip, dc_reset, dc_behind, at_start, after}
use Rattle.m2v_macro.specs.Conditions.{IsContext, IsReady, IsStep, IsMacro, is_used, has_type}
use Rattle.m2v_macro.specs.Texts.{macro_text, modes_text, directions_text, direction_text, increment_text, escapes_text, kind_text, form_text, dct_text, quantiser_text, marker_text, pattern_text}
use Rattle.m2v_macro.proofs.Spellings.{then_spells}
use Rattle.m2v_macro.proofs.MacroSpellings.{macro_spells}
use Rattle.m2v_macroblock.specs.Macroblocks.{Macroblock, kind_for, predictor, dc_after, after_macroblock}
use Rattle.m2v_macroblock.specs.Modes.{skipped_before, mode_of}
use Rattle.m2v_pred.specs.Inside.{is_inside}
use Rattle.m2v_plane.specs.declared.dims.Dims.{Dims}
use Rattle.m2v_plane.specs.Samples.{Samples}
use Rattle.m2v_flat.specs.Flat.{predictors, block_text, blocks_text, macroblock_text}
use Rattle.m2v_flat.specs.Flat.{predictor as predictor_of}
use Rattle.m2v_flat.specs.Recon.{flat_kind, flat_levels}
use Rattle.m2v_flat.proofs.Predictions.{IsByte, level_byte, predictors_bytes}
use Rattle.m2v_recon.specs.Macro.{is_coded}
use Rattle.m2v_block.specs.Blocks.{block_at}
use Rattle.m2v_model.specs.declared.fault.FaultKind.TheVariants.{VectorOutside, MissingReference}
use Rattle.m2v_model.specs.Faults.{of_block, of_macro}
use Rattle.m2v_model.specs.Modes.{is_decoded, all_inside, references_decoded}
use Rattle.m2v_model.specs.Slices.{block_in, blocks_from, macroblock_at}
use Rattle.m2v_flat.specs.Tree.{flat_context, flat_setup, flat_macro, flat_macroblock, predictor_list, state_inside, state_before}
use Rattle.m2v_flat.proofs.Blocks.{flat_block_spells}

-- ---- states

-- a state behind an intra macroblock
abbrev behind_intra : ℕ → List ℤ → ℤ → ℕ → SliceState
behind_intra quantiser dc address next =
    record { quantiser = quantiser; dc = dc; pmv = no_predictors; forward = false; backward = false; intra = true; first = false; address = address; next = next }

inside_first : (quantiser columns : ℕ) (frame : Samples) (row : ℕ) → after (flat_context columns) (state_before quantiser columns frame row 0) flat_macro ≡ state_inside quantiser columns frame row 0
unfolding after state_before state_inside at_start dc_behind dc_reset skips predictors_after resets predictors
inside_first quantiser columns frame row =
    let place : (pos (row * columns) -ℤ pos 1) +ℤ pos 1 ≡ pos (row * columns + 0) = omega (arith, ints) in
    ap (λ (a : ℤ). behind_intra quantiser (predictor_list frame row 0) a (row * columns)) place

inside_later : (quantiser columns : ℕ) (frame : Samples) (row column : ℕ) → after (flat_context columns) (state_before quantiser columns frame row (suc column)) flat_macro ≡ state_inside quantiser columns frame row (suc column)
unfolding after state_before state_inside dc_behind skips predictors_after resets
inside_later quantiser columns frame row column =
    let place : pos (row * columns + column) +ℤ pos 1 ≡ pos (row * columns + suc column) = omega (arith, ints) in
    ap (λ (a : ℤ). behind_intra quantiser (predictor_list frame row (suc column)) a (row * columns)) place

pub inside_is : (quantiser columns : ℕ) (frame : Samples) (row column : ℕ) → after (flat_context columns) (state_before quantiser columns frame row column) flat_macro ≡ state_inside quantiser columns frame row column
inside_is quantiser columns frame row zero = inside_first quantiser columns frame row
inside_is quantiser columns frame row (suc column) = inside_later quantiser columns frame row column

behind_inside : (quantiser columns : ℕ) (frame : Samples) (row column : ℕ)
    → record (state_inside quantiser columns frame row column) { dc = dc_after true (flat_macroblock frame row column).levels (state_inside quantiser columns frame row column).dc } ≡ state_before quantiser columns frame row (suc column)
unfolding state_inside state_before dc_after flat_macroblock flat_levels predictors
behind_inside quantiser columns frame row column = refl

-- a macroblock leaves the state of the next one
pub after_is : (quantiser columns : ℕ) (frame : Samples) (row column : ℕ)
    → after_macroblock (flat_context columns) (state_before quantiser columns frame row column) (flat_macroblock frame row column) ≡ state_before quantiser columns frame row (suc column)
unfolding after_macroblock flat_macroblock
after_is quantiser columns frame row column =
    ap (λ (st : SliceState). record st { dc = dc_after true (flat_macroblock frame row column).levels st.dc }) (inside_is quantiser columns frame row column)
    ∙ behind_inside quantiser columns frame row column

-- ---- up to the blocks

context_is : (columns : ℕ) → 1 ≤ columns → columns ≤ 120 → IsContext (flat_context columns)
unfolding is_used
context_is columns least most = record {
  kind = (omega arith, omega arith);
  structure = (omega arith, omega arith);
  columns = (least, most);
  precision = omega arith;
  forward = λ e. absurd cc;
  backward = λ e. absurd cc;
}

ready_is : (quantiser columns : ℕ) (frame : Samples) (row column : ℕ) → 1 ≤ quantiser → quantiser ≤ 31 → IsReady (flat_context columns) (state_before quantiser columns frame row column)
unfolding is_used state_before at_start
ready_is quantiser columns frame row zero least most = record { forward = λ e. absurd cc; backward = λ e. absurd cc; quantiser = (least, most) }
ready_is quantiser columns frame row (suc column) least most = record { forward = λ e. absurd cc; backward = λ e. absurd cc; quantiser = (least, most) }

first_near : (n : ℕ) → int_le ((pos n -ℤ pos 1) +ℤ pos 1) (pos n) ≡ true
first_near n = grind (arith, ints)

first_order : (n : ℕ) → int_le (pos n) ((pos n -ℤ pos 1) +ℤ pos 1) ≡ true
first_order n = grind (arith, ints)

step_is : (quantiser columns : ℕ) (frame : Samples) (row column : ℕ) → column < columns → IsStep (flat_context columns) (state_before quantiser columns frame row column) 1
unfolding state_before at_start not_past in_order may_skip skips column
step_is quantiser columns frame row zero lt = record {
  some = omega arith;
  near = first_near (row * columns);
  order = and_from _ _ (lt-ltb 0 columns lt) (first_order (row * columns));
  skip = refl;
}
step_is quantiser columns frame row (suc column) lt = record {
  some = omega arith;
  near = refl;
  order = and_from _ _ (lt-ltb _ _ (omega (arith, mod-mul-add row columns column (omega arith)))) refl;
  skip = refl;
}

macro_is : (quantiser columns : ℕ) (frame : Samples) (row column : ℕ) → column < columns → IsMacro (flat_context columns) (state_before quantiser columns frame row column) flat_macro
unfolding has_type has_form has_dct
macro_is quantiser columns frame row column lt = record {
  step = step_is quantiser columns frame row column lt;
  kind = refl;
  form = λ e. absurd cc;
  no_form = λ e. refl;
  no_dct = λ e. refl;
  quantiser = λ e. absurd cc;
  no_quantiser = λ e. refl;
  forward = record { first = λ e. absurd cc; second = λ e f. absurd cc; one = λ e f. absurd cc; none = λ e. (refl, refl) };
  backward = record { first = λ e. absurd cc; second = λ e f. absurd cc; one = λ e f. absurd cc; none = λ e. (refl, refl) };
  intra = λ e. refl;
  pattern = λ e f. absurd cc;
  no_pattern = λ e f. absurd cc;
  arranged = refl;
}

elements_are : (columns : ℕ) (st : SliceState) → macro_text (flat_context columns) st flat_macro ≡ increment_code (Step 1) ++ type_i_code (kind 0 0 0 0 1)
unfolding macro_text modes_text directions_text direction_text increment_text escapes_text kind_text form_text dct_text quantiser_text marker_text pattern_text has_form has_dct code_of increment type_i same_increment bits_of
elements_are columns st = refl

elements_spell : (quantiser columns : ℕ) (frame : Samples) (row column : ℕ) → 1 ≤ quantiser → quantiser ≤ 31 → columns ≤ 120 → column < columns
    → Spells (macro_at (flat_context columns) (state_before quantiser columns frame row column)) flat_macro (increment_code (Step 1) ++ type_i_code (kind 0 0 0 0 1))
elements_spell quantiser columns frame row column least most wide lt =
    same_spells (elements_are columns (state_before quantiser columns frame row column))
    (macro_spells (flat_context columns) (state_before quantiser columns frame row column) flat_macro (context_is columns (omega arith) wide) (ready_is quantiser columns frame row column least most) (macro_is quantiser columns frame row column lt))

-- ---- blocks

kind_same : (columns quantiser block : ℕ) → flat_kind quantiser block ≡ kind_for (flat_context columns) true (nat_lt block 4) quantiser
unfolding flat_kind kind_for
kind_same columns quantiser block = refl

chosen : (b : Bool) (x y : ℤ) → IsByte x → IsByte y → IsByte (cond b x y)
chosen true x y p q = p
chosen false x y p q = q

predictor_byte : (frame : Samples) (row column block : ℕ) → IsByte (predictor_of frame row column block)
unfolding predictor_of
predictor_byte frame row column block =
    let p = predictors_bytes frame row column in
    chosen (nat_lt 0 block && nat_lt block 4) _ _ (level_byte frame row column (block - 1))
    (chosen (nat_eq block 0) _ _ p.luma (chosen (nat_eq block 4) _ _ p.cb p.cr))

block_spell : (quantiser columns : ℕ) (frame : Samples) (row column block : ℕ) (levels : List (List ℤ)) → 1 ≤ quantiser → quantiser ≤ 31
    → is_coded 63 block ≡ true → predictor (predictor_list frame row column) levels block ≡ predictor_of frame row column block
    → Spells (block_in (flat_context columns) flat_macro (state_inside quantiser columns frame row column) block levels) (flat_levels frame row column block) (block_text frame row column block)
unfolding block_in state_inside
block_spell quantiser columns frame row column block levels least most coded same =
    first_spells (is_coded 63 block) _ _ _ _ coded (renamed_spells of_block _ _ _
    (subst (λ (k : BlockKind). Spells (block_at k false (predictor (predictor_list frame row column) levels block)) (flat_levels frame row column block) (block_text frame row column block)) (kind_same columns quantiser block)
    (flat_block_spells quantiser frame row column block (predictor (predictor_list frame row column) levels block) least most (subst IsByte (sym same) (predictor_byte frame row column block)) same)))

blocks_spell : (quantiser columns : ℕ) (frame : Samples) (row column : ℕ) → 1 ≤ quantiser → quantiser ≤ 31
    → Spells (blocks_from (flat_context columns) flat_macro (state_inside quantiser columns frame row column) 0 6 []) (flat_macroblock frame row column).levels (blocks_text frame row column)
unfolding blocks_from blocks_text flat_macroblock predictor predictor_of flat_levels
blocks_spell quantiser columns frame row column least most =
    then_spells _ (block_spell quantiser columns frame row column 0 [] least most refl refl) (
    then_spells _ (block_spell quantiser columns frame row column 1 _ least most refl refl) (
    then_spells _ (block_spell quantiser columns frame row column 2 _ least most refl refl) (
    then_spells _ (block_spell quantiser columns frame row column 3 _ least most refl refl) (
    then_spells _ (block_spell quantiser columns frame row column 4 _ least most refl refl) (
    then_spells _ (block_spell quantiser columns frame row column 5 _ least most refl refl) (
    done_spells _))))))

-- ---- macroblocks

-- none is skipped before one, and none reads a reference
pub none_skipped : (quantiser columns : ℕ) (frame : Samples) (row column : ℕ) → skipped_before (state_before quantiser columns frame row column) flat_macro ≡ 0
unfolding state_before at_start skips
none_skipped quantiser columns frame row zero = refl
none_skipped quantiser columns frame row (suc column) = refl

inside_all : (quantiser columns : ℕ) (d : Dims) (frame : Samples) (row column : ℕ) → all_inside (flat_setup columns d) (state_before quantiser columns frame row column) flat_macro ≡ true
unfolding all_inside mode_of is_inside state_before at_start skips
inside_all quantiser columns d frame row zero = refl
inside_all quantiser columns d frame row (suc column) = refl

decoded_all : (quantiser columns : ℕ) (d : Dims) (frame : Samples) (row column : ℕ) → references_decoded (flat_setup columns d) (state_before quantiser columns frame row column) flat_macro ≡ true
unfolding references_decoded is_decoded mode_of state_before at_start skips
decoded_all quantiser columns d frame row zero = refl
decoded_all quantiser columns d frame row (suc column) = refl

pub macroblock_spells : (quantiser columns : ℕ) (d : Dims) (frame : Samples) (row column : ℕ) → 1 ≤ quantiser → quantiser ≤ 31 → columns ≤ 120 → column < columns
    → Spells (macroblock_at (flat_setup columns d) (state_before quantiser columns frame row column)) (flat_macroblock frame row column) (macroblock_text frame row column)
unfolding macroblock_at macroblock_text flat_macroblock
macroblock_spells quantiser columns d frame row column least most wide lt =
    same_spells (append_assoc (increment_code (Step 1)) (type_i_code (kind 0 0 0 0 1)) (blocks_text frame row column))
    (here_spells _ _ (flat_macroblock frame row column) _ (λ start.
    then_spells _ (renamed_spells of_macro _ _ _ (elements_spell quantiser columns frame row column least most wide lt))
    (rule_spells _ VectorOutside start _ (flat_macroblock frame row column) _ (inside_all quantiser columns d frame row column)
    (rule_spells _ MissingReference start _ (flat_macroblock frame row column) _ (decoded_all quantiser columns d frame row column)
    (last_spells (flat_macroblock frame row column).levels (λ levels. made levels) (blocks_text frame row column)
    (subst (λ (st : SliceState). Spells (blocks_from (flat_context columns) flat_macro st 0 6 []) (flat_macroblock frame row column).levels (blocks_text frame row column)) (sym (inside_is quantiser columns frame row column))
    (blocks_spell quantiser columns frame row column least most)))))))
  where
    made : List (List ℤ) → Macroblock
    made levels = record { syntax = flat_macro; levels = levels }
