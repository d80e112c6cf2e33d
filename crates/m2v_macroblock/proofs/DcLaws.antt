-- The DC predictors of a macroblock's blocks are in their range.
use Rattle.std.proofs.Common.{◌≡◌, ℕ, zero, suc, ◌+◌, ◌<◌, ◌^◌, Bool, true, false, List, ℤ, refl, sym, ap, ◌∙◌, subst, arith, inl, inr, pos, pow-suc}
use Rattle.std.specs.Prelude.{◌&&◌, not}
use Rattle.std.proofs.lemmas.Int.{ints, to_z-of_z}
use mir.Syntax.{w32}
use mir.Val.{SFits, to_z, of_z}
use Rattle.std.proofs.lemmas.Nat.{pow_pos}
use Rattle.std.proofs.lemmas.Bool.{cases_Bool}
use Rattle.m2v_block.specs.m2v_quant.declared.kind.BlockKind.{BlockKind}
use Rattle.m2v_block.specs.m2v_quant.declared.kind.Levels.{Levels}
use Rattle.m2v_block.specs.Blocks.{IsDc}
use Rattle.m2v_block.proofs.m2v_vlc.ValueLaws.{below, agree}
use Rattle.m2v_macro.specs.declared.values.MacroSyntax.{MacroSyntax}
use Rattle.m2v_macro.specs.declared.values.SliceState.{SliceState}
use Rattle.m2v_macro.specs.declared.values.PictureContext.{PictureContext}
use Rattle.m2v_macro.specs.States.{skips, dc_reset, dc_behind, at_start, after}
use Rattle.m2v_macro.specs.Conditions.{IsReady, IsMacro}
use Rattle.m2v_recon.specs.Macro.{is_coded}
use Rattle.m2v_recon.specs.Steps.{levels_of}
use Rattle.m2v_macroblock.specs.Macroblocks.{Macroblock, kind_for, dc_of, predictor, dc_after}
use Rattle.m2v_macroblock.specs.Conditions.{AreDc, AreBlocks, AreWritable, last_dc}

dc_one : (precision : ℕ) → IsDc precision (pos (2 ^ (7 + precision)))
dc_one precision =
    let e : 8 + precision ≡ suc (7 + precision) = omega arith in
    let some = pow_pos (7 + precision) in
    let twice = pow-suc 2 (7 + precision) in
    (omega (arith, ints), rw e (omega (arith, ints, some, twice)))

dc_reset-is : (c : PictureContext) → AreDc c.extension.dc_precision (dc_reset c)
unfolding dc_reset
dc_reset-is c = let d = dc_one c.extension.dc_precision in record { luma = d; blue = d; red = d }

-- as a slice begins
pub dc_start : (c : PictureContext) (row quantiser next : ℕ) → AreDc c.extension.dc_precision (at_start c row quantiser next).dc
unfolding at_start
dc_start c row quantiser next = dc_reset-is c

pub dc_behind-is : (c : PictureContext) (st : SliceState) (m : MacroSyntax) → AreDc c.extension.dc_precision st.dc → AreDc c.extension.dc_precision (dc_behind c st m)
unfolding dc_behind
dc_behind-is c st m d = elim (cases_Bool (m.kind.intra && not (skips st m.increment))) [
  | inl e ↦ rw e d
  | inr e ↦ rw e (dc_reset-is c)
]

-- the DC predictors that a macroblock's blocks leave
pub dc_left : (c : PictureContext) (intra : Bool) (ls : List Levels) (dc : List ℤ) → AreDc c.extension.dc_precision dc → (intra ≡ true → AreDc c.extension.dc_precision (last_dc ls)) → AreDc c.extension.dc_precision (dc_after intra (levels_of ls) dc)
unfolding dc_after
dc_left c true ls dc d h = h refl
dc_left c false ls dc d h = d

-- all blocks of an intra macroblock are coded
pub all_coded : (block : ℕ) → block < 6 → is_coded 63 block ≡ true
unfolding below
all_coded block lt = agree (is_coded 63) (λ b. true) 6 block refl lt

-- so their DC levels are in their range
levels_in : (c : PictureContext) (st : SliceState) (x : Macroblock) → IsMacro c st x.syntax → AreBlocks c st x → x.syntax.kind.intra ≡ true → (block : ℕ) → block < 6 → IsDc c.extension.dc_precision (dc_of x.levels block)
unfolding kind_for
levels_in c st x h b intra block lt =
    (b block lt (subst (λ (p : ℕ). is_coded p block ≡ true) (sym (h.intra intra)) (all_coded block lt))).dc intra

predictor_in : (precision : ℕ) (dc : List ℤ) (levels : List (List ℤ)) → AreDc precision dc → ((block : ℕ) → block < 6 → IsDc precision (dc_of levels block)) → (block : ℕ) → block < 6 → IsDc precision (predictor dc levels block)
unfolding predictor
predictor_in precision dc levels d l zero lt = d.luma
predictor_in precision dc levels d l (suc zero) lt = l 0 (omega arith)
predictor_in precision dc levels d l (suc (suc zero)) lt = l 1 (omega arith)
predictor_in precision dc levels d l (suc (suc (suc zero))) lt = l 2 (omega arith)
predictor_in precision dc levels d l (suc (suc (suc (suc zero)))) lt = d.blue
predictor_in precision dc levels d l (suc (suc (suc (suc (suc zero))))) lt = d.red
predictor_in precision dc levels d l (suc (suc (suc (suc (suc (suc n)))))) lt = absurd (omega (arith, lt))

pub writable : (c : PictureContext) (st : SliceState) (x : Macroblock) → IsReady c (after c st x.syntax) → AreDc c.extension.dc_precision st.dc → IsMacro c st x.syntax → AreBlocks c st x → AreWritable c (after c st x.syntax) x
unfolding after
writable c st x ready d h b = record {
  quantiser = ready.quantiser;
  blocks = b;
  predictors = λ intra. predictor_in c.extension.dc_precision (dc_behind c st x.syntax) x.levels (dc_behind-is c st x.syntax d) (levels_in c st x h b intra);
}

-- the DC predictors behind a macroblock with its blocks
pub dc_written : (c : PictureContext) (st : SliceState) (m : MacroSyntax) (ls : List Levels) → AreDc c.extension.dc_precision st.dc → IsMacro c st m → AreBlocks c st (record { syntax = m; levels = levels_of ls })
    → AreDc c.extension.dc_precision (dc_after m.kind.intra (levels_of ls) (after c st m).dc)
unfolding after
dc_written c st m ls d h b = dc_left c m.kind.intra ls (dc_behind c st m) (dc_behind-is c st m d)
    (λ intra. let l = levels_in c st (record { syntax = m; levels = levels_of ls }) h b intra in record { luma = l 3 (omega arith); blue = l 4 (omega arith); red = l 5 (omega arith) })

-- a DC predictor as it is handed on is in its range
pub predictor_passed : (c : PictureContext) (st : SliceState) (x : Macroblock) (block : ℕ) (luma : Bool) (kind : BlockKind) (p : ℤ) → AreWritable c st x → block < 6
    → kind ≡ kind_for c x.syntax.kind.intra luma st.quantiser → p ≡ predictor st.dc x.levels block → SFits w32 p → kind.intra ≡ true → IsDc kind.precision (to_z w32 (of_z w32 p))
unfolding kind_for
predictor_passed c st x block luma kind p w lt e same fits intra =
    subst (λ (z : ℤ). IsDc kind.precision z) (sym (to_z-of_z w32 p fits))
    (subst (λ (z : ℤ). IsDc kind.precision z) (sym same)
    (subst (λ (n : ℕ). IsDc n (predictor st.dc x.levels block)) (sym (ap (λ (k : BlockKind). k.precision) e)) (w.predictors (sym (ap (λ (k : BlockKind). k.intra) e) ∙ intra) block lt)))
