use Rattle.std.proofs.Common.{refl, w32, ◌∙◌, arith, ap, map, sym, get_or, subst, pos, ◌*◌, ◌+◌}
use Rattle.std.proofs.lemmas.Int.{to_z-of_z}
use Rattle.std.proofs.lemmas.List.{get_or-map, length-map}
use Rattle.m2v_idct.specs.Block.{at}
use Rattle.m2v_idct.specs.Inverse.{after_rows, clip, inverse_at, inverse_of}
use Rattle.m2v_idct.specs.Ranges.{Within}
use mir.Val.{SFits}
use Rattle.m2v_idct.proofs.Passed.{coefficient_within, fits}
use Rattle.m2v_idct.proofs.Mean.{mean_block}
use Rattle.m2v_idct.proofs.Blocks.{all_places, block_is}
use Rattle.m2v_idct.proofs.Columns.{column_within}
use Rattle.m2v_idct.proofs.Rows.{after_rows_within, column_same}
use Rattle.m2v_idct.proofs.inverse_dct.inverse_by_rows.Goals as goal

pub transform_columns-requires : goal.transform_columns-requires
transform_columns-requires c =
    all_places (Within 160000) c.transform_rows.new.block c.transform_rows.array_long
    (λ y x ly lx. subst (Within 160000) (sym (c.transform_rows.ensures y x ly lx)) (after_rows_within c.args.block.now c.told-block c.requires.coefficients y x ly lx))

pub returns-then-has_mean : goal.returns-then-has_mean
returns-then-has_mean c =
    let b = c.args.block.now in
    let first : SFits w32 (get_or b 0 (pos 0)) = fits 2048 _ (omega arith) (coefficient_within _ (c.requires.coefficients 0 (pos 0) (omega arith))) in
    let r : SFits w32 c.mean.result = record { sfits = c.mean.type_inv } in
    let filled = simp to_z-of_z at c.fill.ensures.value in
    let value = simp to_z-of_z at c.mean.ensures.value in
    record {
      value = mean_block b (map clip c.fill.new.block) (clip c.mean.result) (length-map c.fill.new.block clip ∙ c.fill.array_long) (ap (map clip) filled)
          (λ y x ly lx. ap clip value ∙ sym (c.if-has_mean.ensures refl y x ly lx));
      within = c.fill.ensures.within;
    }

pub returns-clause-value : goal.returns-clause-value
unfolding inverse_of inverse_at
returns-clause-value c =
    let b = c.args.block.now in
    let rows = c.transform_rows.new.block in
    let new = c.transform_columns.new.block in
    let len = c.transform_columns.array_long in
    block_is (map clip new) (inverse_at b) (length-map new clip ∙ len)
    (λ y x ly lx. get_or-map clip new (8 * y + x) (pos 0) (pos 0) (omega (arith, len)) ∙ ap clip (c.transform_columns.ensures y x ly lx)
    ∙ ap (λ zs. clip (get_or zs y (pos 0)))
    (column_same (λ k. at rows k x) (λ k. after_rows b k x) (λ k lk. c.transform_rows.ensures k x lk lx)))

pub returns-clause-within : goal.returns-clause-within
returns-clause-within c =
    let b = c.args.block.now in
    let rows = c.transform_rows.new.block in
    all_places (Within 30000) c.transform_columns.new.block c.transform_columns.array_long
    (λ y x ly lx. subst (Within 30000) (sym (c.transform_columns.ensures y x ly lx))
    (column_within (λ k. at rows k x)
    (λ k lk. subst (Within 160000) (sym (c.transform_rows.ensures k x lk lx)) (after_rows_within b c.told-block c.requires.coefficients k x lk lx)) y ly))
