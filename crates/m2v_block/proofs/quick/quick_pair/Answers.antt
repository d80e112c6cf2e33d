use Rattle.std.proofs.Common.{arith, rules, ap, ◌∙◌, ◌≡◌, ◌<◌, ◌≤◌, length, drop}
use Rattle.std.proofs.lemmas.Int.{to_z-of_z}
use mir.Syntax.{w16, w32}
use mir.Val.{SFits, to_z, of_z}
use Rattle.m2v_bits.specs.Bits.{Unread}
use Rattle.m2v_block.specs.Blocks.{Scan}
use Rattle.m2v_block.proofs.BlockLaws.{quick, quick_end}
use Rattle.m2v_block.proofs.quick.quick_pair.Goals as goal

pub returns-clause-read : goal.returns-clause-read
returns-clause-read c =
    let pair = c.short_pair-pair.result.now in
    let run : pair.1 < 64 = omega arith in
    let stands = c.short_pair-pair.ensures.stands run in
    let enough : pair.2 ≤ length c.args.input.now.rest = omega (arith, stands.short, c.requires.left) in
    let e = stands.reads c.args.input.now.rest c.requires.nine enough in
    let s : Scan = record { filled = c.args.filled; levels = c.args.out.now.at } in
    let f : SFits w32 c.from.result = search rules in
    let g : SFits w16 pair.0 = search rules in
    let level : to_z w32 (of_z w32 c.from.result) ≡ pair.0 = to_z-of_z w32 c.from.result f ∙ c.from.ensures ∙ to_z-of_z w16 pair.0 g in
    let rest : c.skip.new.self.rest ≡ drop pair.2 c.args.input.now.rest = ap (λ (u : Unread). u.rest) c.skip.ensures in
    rw (c.set_later.ensures.value, level, rest) (quick c.args.one s pair.1 pair.0 c.args.input.now.rest (drop pair.2 c.args.input.now.rest) c.requires.some c.if-at-ge64.false e)

pub returns-then-pair-clause-ended : goal.returns-then-pair-clause-ended
returns-then-pair-clause-ended c =
    let pair = c.short_pair-pair.result.now in
    let ends = c.short_pair-pair.ensures.ends c.if-pair.true in
    let enough : pair.2 ≤ length c.args.input.now.rest = omega (arith, ends.short, c.requires.left) in
    let e = ends.reads c.args.input.now.rest c.requires.nine enough in
    let s : Scan = record { filled = c.args.filled; levels = c.args.out.now.at } in
    λ some. record { enough = enough; reads = quick_end c.args.one s c.args.input.now.rest (drop pair.2 c.args.input.now.rest) c.requires.some e }
