use Rattle.std.proofs.Common.{arith, rules, ap, ◌∙◌, ◌≡◌, ◌<◌, ◌≤◌, refl, length, drop}
use Rattle.std.proofs.lemmas.Int.{to_z-of_z}
use mir.Syntax.{w16, w32}
use mir.Val.{SFits, to_z, of_z}
use Rattle.m2v_bits.specs.Bits.{Unread}
use Rattle.m2v_block.proofs.BlockLaws.{quick_begin}
use Rattle.m2v_block.proofs.quick.quick_first.Goals as goal

pub returns-clause-look : goal.returns-clause-look
returns-clause-look c =
    let pair = c.short_first-pair.result.now in
    let run : pair.1 < 64 = omega arith in
    let stands = c.short_first-pair.ensures.stands run in
    let enough : pair.2 ≤ length c.args.input.now.rest = omega (arith, stands.short, c.in_ok-nine.ensures.left refl) in
    let e = stands.reads c.args.input.now.rest c.in_ok-nine.ensures.value enough in
    let f : SFits w32 c.from.result = search rules in
    let g : SFits w16 pair.0 = search rules in
    let level : to_z w32 (of_z w32 c.from.result) ≡ pair.0 = to_z-of_z w32 c.from.result f ∙ c.from.ensures ∙ to_z-of_z w16 pair.0 g in
    let rest : c.skip.new.self.rest ≡ drop pair.2 c.args.input.now.rest = ap (λ (u : Unread). u.rest) c.skip.ensures in
    record {
      read = rw (c.set.ensures.value, level, rest) (quick_begin c.args.out.now.at pair.1 pair.0 c.args.input.now.rest (drop pair.2 c.args.input.now.rest) run e);
      here = search rules;
      text = search rules;
      within = search rules;
      clear = search rules;
      dc = search rules;
      levels = search rules;
    }
