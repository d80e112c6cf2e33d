use Rattle.std.proofs.Common.{get_or, pos, rules, ap, ◌∙◌, set}
use Rattle.std.proofs.lemmas.Int.{to_z-of_z}
use Rattle.std.proofs.lemmas.List.Elements.{All-set}
use mir.Syntax.{w32}
use mir.Val.{SFits}
use Rattle.m2v_quant.specs.Kinds.{IsCoefficient}
use Rattle.m2v_quant.proofs.Scanned.{rows_put}
use Rattle.m2v_quant.proofs.inverse.turn_last.Goals as goal

pub returns : goal.returns
returns c =
    let xs = c.args.out.now in
    let fits : SFits w32 c.turned.result = record { sfits = c.turned.type_inv } in
    let last : SFits w32 (get_or xs 63 (pos 0)) = search rules in
    let turned = simp to_z-of_z at c.turned.ensures.value in
    record {
      even = λ _. ap (set xs 63) (to_z-of_z w32 c.turned.result fits ∙ turned);
      odd = λ no. absurd (no c.if-told-ne0.false);
      rows = rows_put c.args.told.rows c.rows_with.result 63 _ xs c.rows_with.ensures.here c.rows_with.ensures.others c.requires.rows;
      within = All-set IsCoefficient xs 63 _ (rw (to_z-of_z w32 c.turned.result fits) c.turned.ensures.within) c.requires.within;
    }
