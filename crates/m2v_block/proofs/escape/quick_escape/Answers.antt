use Rattle.std.proofs.Common.{arith, rules, ap, sym, ◌∙◌, ◌≤◌, ◌/◌, ◌%◌, refl, length}
use Rattle.std.proofs.lemmas.Int.{to_z-of_z}
use mir.Syntax.{w32}
use mir.Val.{SFits}
use Rattle.m2v_bits.specs.Bits.{Unread}
use Rattle.m2v_block.specs.Blocks.{Scan}
use Rattle.m2v_block.proofs.Looks.{escape_look}
use Rattle.m2v_block.proofs.Escapes.{escape_read}
use Rattle.m2v_block.proofs.escape.quick_escape.Goals as goal

pub returns-clause-look : goal.returns-clause-look
returns-clause-look c =
    let bs = c.args.input.now.rest in
    let look = c.in_ok-bits.bits in
    let s : Scan = record { filled = c.args.filled; levels = c.args.out.now.at } in
    let left : 24 ≤ length bs = omega (arith, c.in_ok-bits.ensures.left refl) in
    let parts = escape_look look bs c.in_ok-bits.ensures.value in
    let f : SFits w32 c.escaped.result = search rules in
    let level = to_z-of_z w32 c.escaped.result f ∙ c.escaped.ensures.value in
    let rest = ap (λ (u : Unread). u.rest) c.skip.ensures in
    record {
      read = rw (c.set.ensures.value, level, rest)
          (escape_read c.args.one s bs (look / 4096 % 64) (look % 4096) (sym parts.0 ∙ c.if-bits-ne1.false) left (sym parts.1) (sym parts.2) (sym c.if-not-is_allowed.ensures) c.if-at-ge64.false);
      here = search rules;
      text = search rules;
      within = search rules;
      clear = search rules;
      dc = search rules;
      levels = search rules;
    }
