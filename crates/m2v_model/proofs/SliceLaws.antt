-- Macroblocks with their blocks, and slices, are lawful.
use Rattle.std.proofs.Common.{ℕ, zero, suc, ◌+◌, Bool, List, ◌∷◌, ◌++◌, [], length, ℤ}
use Rattle.m2v_bits.specs.Syntax.{Syntax, renamed}
use Rattle.m2v_bits.proofs.SyntaxLaws.{Lawful, Strict, Takes, done_lawful, here_lawful, rule_lawful, seq_lawful, seq_strict, seq_strict_later, choose_lawful, renamed_lawful, repeated_strict}
use Rattle.m2v_bits.proofs.LeafLaws.{zero_lawful}
use Rattle.m2v_macroblock.proofs.m2v_head.HeaderLaws.{slice_strict}
use Rattle.m2v_macroblock.proofs.m2v_block.BlockLaws.{block_strict}
use Rattle.m2v_macroblock.specs.m2v_macro.declared.values.MacroSyntax.{MacroSyntax}
use Rattle.m2v_macroblock.specs.m2v_macro.declared.values.SliceState.{SliceState}
use Rattle.m2v_macroblock.specs.m2v_macro.declared.values.PictureContext.{PictureContext}
use Rattle.m2v_macroblock.proofs.m2v_macro.MacroLaws.{increment_from_strict, macro_strict}
use Rattle.m2v_model.specs.declared.fault.FaultKind.TheVariants.{Truncated, SliceOrder, VectorOutside, MissingReference}
use Rattle.m2v_model.specs.declared.setup.SliceSetup.{SliceSetup}
use Rattle.m2v_model.specs.Faults.{of_head, of_block, of_macro}
use Rattle.m2v_model.specs.Slices.{Row, block_in, blocks_from, macroblock_at, macroblock_round, macroblocks_at, unit_place, slice_at}
use Rattle.m2v_model.proofs.LookLaws.{looking_lawful}

renamed_takes : {K L V : Type 0} {s : Syntax (List Bool) K V} (f : K → L) → Takes length s → Takes length (renamed f s)
unfolding renamed
renamed_takes f ts = record { less = ts.less }

renamed_strict : {K L V : Type 0} {s : Syntax (List Bool) K V} (f : K → L) → Strict length s → Strict length (renamed f s)
renamed_strict f ss = record { lawful = renamed_lawful f ss.lawful; takes = renamed_takes f ss.takes }

block_lawful : (c : PictureContext) (m : MacroSyntax) (st : SliceState) (block : ℕ) (levels : List (List ℤ)) → Lawful length (block_in c m st block levels)
unfolding block_in
block_lawful c m st block levels = choose_lawful _ (renamed_lawful of_block (block_strict _ _ _).lawful) (done_lawful length _)

blocks_lawful : (c : PictureContext) (m : MacroSyntax) (st : SliceState) (block n : ℕ) (levels : List (List ℤ)) → Lawful length (blocks_from c m st block n levels)
unfolding blocks_from
blocks_lawful c m st block zero levels = done_lawful length levels
blocks_lawful c m st block (suc n) levels = seq_lawful (block_lawful c m st block levels) (λ own. blocks_lawful c m st (block + 1) n (levels ++ own ∷ []))

pub macroblock_strict : (s : SliceSetup) (st : SliceState) → Strict length (macroblock_at s st)
unfolding macroblock_at
macroblock_strict s st =
    seq_strict_later (here_lawful length length) (λ start.
    seq_strict (renamed_strict of_macro (macro_strict s.context st)) (λ m.
    seq_lawful (rule_lawful length _ VectorOutside start) (λ inside.
    seq_lawful (rule_lawful length _ MissingReference start) (λ decoded.
    seq_lawful (blocks_lawful s.context m _ 0 6 []) (λ levels.
    done_lawful length _)))))

pub round_strict : (s : SliceSetup) (r : Row) → Strict length (macroblock_round s r)
unfolding macroblock_round
round_strict s r =
    seq_strict_later (here_lawful length length) (λ start.
    seq_strict (macroblock_strict s r.state) (λ x.
    seq_lawful (here_lawful length length) (λ end.
    seq_lawful zero_lawful (λ over.
    done_lawful length _))))

pub macroblocks_strict : (s : SliceSetup) (r : Row) → Strict length (macroblocks_at s r)
unfolding macroblocks_at
macroblocks_strict s r = repeated_strict length Truncated (macroblock_round s) (round_strict s) r

pub slice_lawful : (s : SliceSetup) (covered row : ℕ) → Lawful length (slice_at s covered row)
unfolding slice_at unit_place
slice_lawful s covered row =
    seq_lawful (here_lawful length _) (λ unit.
    seq_lawful (renamed_lawful of_head slice_strict.lawful) (λ info.
    seq_lawful (looking_lawful (renamed_lawful of_macro (increment_from_strict 0).lawful)) (λ increment.
    seq_lawful (rule_lawful length _ SliceOrder unit) (λ late.
    seq_lawful (macroblocks_strict _ _).lawful (λ x.
    done_lawful length _)))))
