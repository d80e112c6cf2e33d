use Rattle.std.proofs.Common.{◌∙◌, ap}
use Rattle.std.proofs.lemmas.Int.{to_z-of_z}
use Rattle.m2v_block.specs.Texts.{code_text}
use Rattle.m2v_block.proofs.Written.{pair_escaped, pair_coded}
use Rattle.m2v_block.proofs.write.pair_code.Goals as goal

pub returns-then-code-eq0-clause-spelled : goal.returns-then-code-eq0-clause-spelled
returns-then-code-eq0-clause-spelled c =
    let fits = c.ranges.level in
    let pair = simp to_z-of_z at c.pair_of.ensures in
    let own = c.code_of-code.ensures.spelled ∙ ap (code_text c.args.first c.args.one) pair in
    let escape = simp to_z-of_z at (c.escape_of.ensures.spelled c.args.first c.args.one) in
    escape ∙ pair_escaped c.args.first c.args.one c.args.run c.code_of-code.result.len c.code_of-code.result.number c.args.level own c.if-code-eq0.true

pub returns-clause-spelled : goal.returns-clause-spelled
returns-clause-spelled c =
    let fits = c.ranges.level in
    let pair = simp to_z-of_z at c.pair_of.ensures in
    let own = c.code_of-code.ensures.spelled ∙ ap (code_text c.args.first c.args.one) pair in
    pair_coded c.args.first c.args.one c.args.run c.code_of-code.result.len c.code_of-code.result.number c.args.level own c.if-code-eq0.false
