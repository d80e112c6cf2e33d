-- What is written of a macroblock spells it: its elements, and its blocks where they are coded.
use Rattle.std.proofs.Common.{◌≡◌, ℕ, ◌<◌, List, [], ◌∷◌, ℤ, pos, replicate, refl, sym, subst, arith}
use Rattle.std.specs.Prelude.{nat_lt}
use Rattle.m2v_bits.specs.Syntax.{Spells}
use Rattle.m2v_bits.proofs.LeafLaws.{done_spells, here_spells, renamed_spells, rule_spells}
use Rattle.m2v_macroblock.proofs.m2v_head.ElementLaws.{last_spells}
use Rattle.m2v_macroblock.proofs.m2v_block.Spellings.{block_spells}
use Rattle.m2v_macroblock.specs.m2v_macro.declared.values.SliceState.{SliceState}
use Rattle.m2v_macroblock.specs.m2v_macro.declared.values.PictureContext.{PictureContext}
use Rattle.m2v_macroblock.specs.m2v_macro.States.{after}
use Rattle.m2v_macroblock.proofs.m2v_macro.Ready.{ready_after}
use Rattle.m2v_macroblock.proofs.m2v_macro.Spellings.{then_spells, if_spells}
use Rattle.m2v_macroblock.proofs.m2v_macro.MacroSpellings.{macro_spells}
use Rattle.m2v_macroblock.specs.m2v_recon.Macro.{is_coded}
use Rattle.m2v_macroblock.specs.Macroblocks.{Macroblock, kind_for, block_levels, predictor}
use Rattle.m2v_macroblock.specs.Texts.{block_in_text, blocks_text, macroblock_text}
use Rattle.m2v_macroblock.specs.Conditions.{IsPicture, AreWritable, AreLevels}
use Rattle.m2v_macroblock.proofs.KindLaws.{kind_is}
use Rattle.m2v_macroblock.proofs.DcLaws.{writable}
use Rattle.m2v_model.specs.declared.fault.FaultKind.TheVariants.{VectorOutside, MissingReference}
use Rattle.m2v_model.specs.declared.setup.SliceSetup.{SliceSetup}
use Rattle.m2v_model.specs.Faults.{of_block, of_macro}
use Rattle.m2v_model.specs.Slices.{block_in, blocks_from, macroblock_at}
use Rattle.m2v_model.specs.Written.{CanBeWritten}

-- a block behind those before it, which give the same predictor as all blocks do
block_in_spells : (c : PictureContext) (st : SliceState) (x : Macroblock) (block : ℕ) (before : List (List ℤ)) → IsPicture c → AreWritable c st x → AreLevels x → block < 6 → predictor st.dc before block ≡ predictor st.dc x.levels block
    → Spells (block_in c x.syntax st block before) (block_levels x.levels block) (block_in_text c st x block)
unfolding block_in block_in_text kind_for
block_in_spells c st x block before h w l lt same = rw same
    (if_spells (is_coded x.syntax.pattern block) _ (replicate 64 (pos 0)) (block_levels x.levels block) _
    (λ coded. renamed_spells of_block _ _ _
    (block_spells (kind_for c x.syntax.kind.intra (nat_lt block 4) st.quantiser) c.extension.intra_vlc_format (predictor st.dc x.levels block) (block_levels x.levels block)
    (kind_is c x.syntax.kind.intra (nat_lt block 4) st.quantiser h w.quantiser.0 w.quantiser.1) (w.blocks block lt coded) (λ intra. w.predictors intra block lt) (l.whole block lt)))
    (l.none block lt))

blocks_spell : (c : PictureContext) (st : SliceState) (x : Macroblock) → IsPicture c → AreWritable c st x → AreLevels x
    → Spells (blocks_from c x.syntax st 0 6 []) (block_levels x.levels 0 ∷ block_levels x.levels 1 ∷ block_levels x.levels 2 ∷ block_levels x.levels 3 ∷ block_levels x.levels 4 ∷ block_levels x.levels 5 ∷ []) (blocks_text c st x 0 6)
unfolding blocks_from predictor
blocks_spell c st x h w l =
    then_spells _ (block_in_spells c st x 0 [] h w l (omega arith) refl) (
    then_spells _ (block_in_spells c st x 1 _ h w l (omega arith) refl) (
    then_spells _ (block_in_spells c st x 2 _ h w l (omega arith) refl) (
    then_spells _ (block_in_spells c st x 3 _ h w l (omega arith) refl) (
    then_spells _ (block_in_spells c st x 4 _ h w l (omega arith) refl) (
    then_spells _ (block_in_spells c st x 5 _ h w l (omega arith) refl) (
    done_spells _))))))

pub macroblock_spells : (s : SliceSetup) (st : SliceState) (x : Macroblock) → CanBeWritten s st x → Spells (macroblock_at s st) x (macroblock_text s.context st x)
unfolding macroblock_at macroblock_text
macroblock_spells s st x h =
    let w = writable s.context st x (ready_after s.context st x.syntax h.ready h.fits) h.dc h.fits h.blocks in
    here_spells _ _ x _ (λ start.
    then_spells _ (renamed_spells of_macro _ _ _ (macro_spells s.context st x.syntax h.picture.context h.ready h.fits))
    (rule_spells _ VectorOutside start _ x _ h.inside
    (rule_spells _ MissingReference start _ x _ h.decoded
    (last_spells x.levels (λ levels. made levels) (blocks_text s.context (after s.context st x.syntax) x 0 6)
    (subst (λ (levels : List (List ℤ)). Spells (blocks_from s.context x.syntax (after s.context st x.syntax) 0 6 []) levels (blocks_text s.context (after s.context st x.syntax) x 0 6)) (sym h.levels.six)
    (blocks_spell s.context (after s.context st x.syntax) x h.picture w h.levels))))))
  where
    made : List (List ℤ) → Macroblock
    made levels = record { syntax = x.syntax; levels = levels }
