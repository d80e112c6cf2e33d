use Rattle.std.proofs.Common.{arith, ◌≡◌, ◌∙◌, ◌++◌, ap, length, List, Bool, ℤ}
use Rattle.std.specs.Prelude.{nat_lt}
use Rattle.std.specs.Int.{w32}
use mir.Val.{to_z, of_z}
use Rattle.std.proofs.lemmas.Int.{to_z-of_z}
use Rattle.std.proofs.lemmas.List.{length-append}
use Rattle.m2v_bits.proofs.Bits.{length-bits_of}
use Rattle.m2v_block.specs.Dc.{dc_text}
use Rattle.m2v_flat.specs.Flat.{block_text, end_of_block}
use Rattle.m2v_flat.proofs.Predictions.{block_is}
use Rattle.m2v_flat.proofs.writing.blocks.write_block.Goals as goal

-- the difference that was written is that of the block
written_is : (c : goal.After-write_dc_block) → dc_text (nat_lt c.args.block 4) (to_z w32 (of_z w32 c.difference.result)) ++ end_of_block ≡ block_text c.args.frame.now c.args.row c.args.column c.args.block
written_is c =
    let passed = to_z-of_z w32 c.difference.result (record { sfits = c.difference.type_inv }) in
    let l = to_z-of_z w32 c.dc_of-level.result (record { sfits = c.dc_of-level.type_inv }) in
    let b = to_z-of_z w32 c.args.before c.ranges.before in
    let difference = rw (l, b) at c.difference.ensures.value in
    ap (λ (z : ℤ). dc_text (nat_lt c.args.block 4) z ++ end_of_block) (passed ∙ difference)
    ∙ block_is c.args.frame.now c.args.row c.args.column c.args.block c.dc_of-level.result c.args.before c.dc_of-level.ensures.value c.requires.before

pub returns-clause-written : goal.returns-clause-written
returns-clause-written c = c.write_dc_block.ensures.written ∙ ap (λ (bits : List Bool). c.args.out.now.written ++ bits) (written_is c)

pub returns-clause-room : goal.returns-clause-room
returns-clause-room c =
    let same = ap length (written_is c) in
    omega (arith, c.write_dc_block.ensures.room, length-append (dc_text (nat_lt c.args.block 4) (to_z w32 (of_z w32 c.difference.result))) end_of_block, length-bits_of 2 2)
