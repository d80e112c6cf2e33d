use Rattle.std.proofs.Common.{sym, true, refl}
use Rattle.m2v_block.specs.Blocks.{Scan}
use Rattle.m2v_block.proofs.BlockLaws.{pairs_more}
use Rattle.m2v_block.proofs.quick.third_pair.Goals as goal

pub returns-in-Ok-clause-read : goal.returns-in-Ok-clause-read
returns-in-Ok-clause-read c =
    let s : Scan = record { filled = c.args.filled; levels = c.args.out.now.at } in
    let m : Scan = record { filled = c.in-Ok.next; levels = c.quick_pair.new.out.at } in
    sym (pairs_more c.args.one s m c.args.input.now.rest c.quick_pair.new.input.rest true c.in-Ok.ensures.read refl)
