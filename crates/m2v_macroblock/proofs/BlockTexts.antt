-- A block of a macroblock as it is gained, and the most bits that a macroblock takes.
use Rattle.std.proofs.Common.{◌≡◌, ℕ, ◌+◌, ◌*◌, ◌≤◌, ◌^◌, Bool, true, List, length, ℤ, [], ap, subst, ◌∙◌, arith, inl, inr}
use Rattle.std.proofs.Math.ListN.{get_or-map}
use Rattle.std.specs.Prelude.{nat_lt}
use Rattle.std.proofs.lemmas.Bool.{cases_Bool}
use Rattle.std.proofs.lemmas.List.{length-append}
use Rattle.m2v_bits.proofs.Texts.{left_length}
use Rattle.m2v_bits.specs.Outputs.{Gains}
use Rattle.m2v_block.specs.m2v_quant.declared.kind.BlockKind.{BlockKind}
use Rattle.m2v_block.specs.m2v_quant.declared.kind.Levels.{Levels}
use Rattle.m2v_block.specs.Texts.{block_text}
use Rattle.m2v_block.proofs.Written.{block_most}
use Rattle.m2v_macro.specs.declared.values.SliceState.{SliceState}
use Rattle.m2v_macro.specs.declared.values.PictureContext.{PictureContext}
use Rattle.m2v_macro.specs.States.{after}
use Rattle.m2v_macro.specs.Texts.{macro_text}
use Rattle.m2v_macro.specs.Conditions.{IsContext, IsMacro}
use Rattle.m2v_macro.proofs.Lengths.{macro_most}
use Rattle.m2v_recon.specs.Macro.{is_coded}
use Rattle.m2v_recon.specs.Steps.{levels_of, level_list}
use Rattle.m2v_macroblock.specs.Macroblocks.{Macroblock, kind_for, block_levels, predictor}
use Rattle.m2v_macroblock.specs.Texts.{block_in_text, blocks_text, macroblock_text}

pub one_gained : {O : Type 0} {took : O → List Bool → Type 0} {space : O → ℕ} {old new : O} (c : PictureContext) (st : SliceState) (x : Macroblock) (block : ℕ) (kind : BlockKind) (p : ℤ) (levels : List ℤ)
    → Gains took space old (block_text kind c.extension.intra_vlc_format p levels) new → is_coded x.syntax.pattern block ≡ true → kind ≡ kind_for c x.syntax.kind.intra (nat_lt block 4) st.quantiser
    → p ≡ predictor st.dc x.levels block → levels ≡ block_levels x.levels block → Gains took space old (block_in_text c st x block) new
unfolding block_in_text
one_gained {O} {took} {space} {old} {new} c st x block kind p levels gains on k e l =
    rw on (subst (λ (text : List Bool). Gains took space old text new) (λ i. block_text (k i) c.extension.intra_vlc_format (e i) (l i)) gains)

one_most : (c : PictureContext) (st : SliceState) (x : Macroblock) (block : ℕ) → length (block_levels x.levels block) ≤ 64 → length (block_in_text c st x block) ≤ 1538
unfolding block_in_text
one_most c st x block whole = elim (cases_Bool (is_coded x.syntax.pattern block)) [
  | inl on ↦ rw on (block_most (kind_for c x.syntax.kind.intra (nat_lt block 4) st.quantiser) c.extension.intra_vlc_format (predictor st.dc x.levels block) (block_levels x.levels block) whole)
  | inr off ↦ rw off (omega arith)
]

-- the blocks of a macroblock, one by one
pub six_blocks : (c : PictureContext) (st : SliceState) (x : Macroblock) → (let text = block_in_text c st x in
    length (blocks_text c st x 0 6) ≡ length (text 0) + length (text 1) + length (text 2) + length (text 3) + length (text 4) + length (text 5))
six_blocks c st x =
    let left = left_length (block_in_text c st x) 6 in
    omega (arith, left 0 (omega arith), left 1 (omega arith), left 2 (omega arith), left 3 (omega arith), left 4 (omega arith), left 5 (omega arith))

-- six blocks of 64 levels
pub record AreWhole (levels : List (List ℤ)) : Type 0 where
  pub first : length (block_levels levels 0) ≡ 64
  pub second : length (block_levels levels 1) ≡ 64
  pub third : length (block_levels levels 2) ≡ 64
  pub fourth : length (block_levels levels 3) ≡ 64
  pub blue : length (block_levels levels 4) ≡ 64
  pub red : length (block_levels levels 5) ≡ 64

pub are_whole : (levels : List Levels) → length (level_list levels 0) ≡ 64 → length (level_list levels 1) ≡ 64 → length (level_list levels 2) ≡ 64 → length (level_list levels 3) ≡ 64 → length (level_list levels 4) ≡ 64 → length (level_list levels 5) ≡ 64
    → AreWhole (levels_of levels)
are_whole levels first second third fourth blue red =
    let at = λ (block : ℕ) (e : length (level_list levels block) ≡ 64). ap length (get_or-map (λ (l : Levels). l.at) levels block (record { at = [] })) ∙ e in
    record { first = at 0 first; second = at 1 second; third = at 2 third; fourth = at 3 fourth; blue = at 4 blue; red = at 5 red }

blocks_most : (c : PictureContext) (st : SliceState) (x : Macroblock) → AreWhole x.levels → length (blocks_text c st x 0 6) ≤ 6 * 1538
blocks_most c st x whole =
    omega (
      arith,
      six_blocks c st x,
      one_most c st x 0 (omega (arith, whole.first)),
      one_most c st x 1 (omega (arith, whole.second)),
      one_most c st x 2 (omega (arith, whole.third)),
      one_most c st x 3 (omega (arith, whole.fourth)),
      one_most c st x 4 (omega (arith, whole.blue)),
      one_most c st x 5 (omega (arith, whole.red)),
    )

pub macroblock_most : (c : PictureContext) (st : SliceState) (x : Macroblock) → IsContext c → IsMacro c st x.syntax → AreWhole x.levels → length (macroblock_text c st x) ≤ 2 ^ 21
unfolding macroblock_text
macroblock_most c st x context fits whole =
    omega (arith, length-append (macro_text c st x.syntax) (blocks_text c (after c st x.syntax) x 0 6), macro_most c st x.syntax context fits, blocks_most c (after c st x.syntax) x whole)
