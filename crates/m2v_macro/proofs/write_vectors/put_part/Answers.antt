use Rattle.std.proofs.Common.{◌≤◌, List, Bool, length, sym, subst, ◌∙◌, rules, ℤ, pos, get_or}
use Rattle.std.proofs.lemmas.Int.{to_z-of_z}
use mir.Syntax.{w32}
use mir.Val.{SFits}
use Rattle.m2v_vector.specs.Vectors.{scale, IsVector}
use Rattle.m2v_macro.specs.Conditions.{IsDm}
use Rattle.m2v_macro.proofs.Components.{passed}
use Rattle.m2v_bits.specs.Outputs.{Gains}
use Rattle.m2v_bits.proofs.Outputs.{gains_on}
use Rattle.m2v_macro.proofs.Lengths.{first_room, second_room}
use Rattle.m2v_macro.proofs.Parts.{part_facts, part_is}
use Rattle.m2v_macro.proofs.write_vectors.put_part.Goals as goal

pub put_component-requires-clause-least : goal.put_component-requires-clause-least
put_component-requires-clause-least g c = (part_facts c.args.by.now.shape.now c.args.by.now.f_code.now c.args.by.now.predictor.now c.args.s.now c.args.k c.requires.k c.requires.scales c.requires.predictor c.requires.selected).least

pub put_component-requires-clause-most : goal.put_component-requires-clause-most
put_component-requires-clause-most g c = (part_facts c.args.by.now.shape.now c.args.by.now.f_code.now c.args.by.now.predictor.now c.args.s.now c.args.k c.requires.k c.requires.scales c.requires.predictor c.requires.selected).most

pub put_component-requires-clause-predictor : goal.put_component-requires-clause-predictor
put_component-requires-clause-predictor g c =
    let facts = part_facts c.args.by.now.shape.now c.args.by.now.f_code.now c.args.by.now.predictor.now c.args.s.now c.args.k c.requires.k c.requires.scales c.requires.predictor c.requires.selected in
    let x = to_z-of_z w32 c.predictor_at-above.result (record { sfits = c.predictor_at-above.type_inv }) ∙ c.predictor_at-above.ensures in
    subst (λ (z : ℤ). IsVector (scale (get_or c.args.by.now.f_code.now c.args.k 0)) z) (sym x) facts.before

pub put_component-requires-clause-vector : goal.put_component-requires-clause-vector
put_component-requires-clause-vector g c =
    let facts = part_facts c.args.by.now.shape.now c.args.by.now.f_code.now c.args.by.now.predictor.now c.args.s.now c.args.k c.requires.k c.requires.scales c.requires.predictor c.requires.selected in
    subst (λ (z : ℤ). IsVector (scale (get_or c.args.by.now.f_code.now c.args.k 0)) z) (sym (passed _ _ facts.most facts.vector)) facts.vector

pub put_component-requires-clause-room : goal.put_component-requires-clause-room
put_component-requires-clause-room g c =
    let facts = part_facts c.args.by.now.shape.now c.args.by.now.f_code.now c.args.by.now.predictor.now c.args.s.now c.args.k c.requires.k c.requires.scales c.requires.predictor c.requires.selected in
    let x = to_z-of_z w32 c.predictor_at-above.result (record { sfits = c.predictor_at-above.type_inv }) ∙ c.predictor_at-above.ensures in
    let text = part_is c.args.by.now.shape.now c.args.by.now.f_code.now c.args.by.now.predictor.now c.args.s.now c.args.k _ _ _ x (passed _ _ facts.most facts.vector) (λ i. get_or c.args.s.now.dmvector c.args.k (pos 0)) in
    first_room _ _ _ (subst (λ (t : List Bool). length t ≤ g.O.BitOutput.space c.args.out.now) text c.requires.room)

pub put_dm-requires-clause-known : goal.put_dm-requires-clause-known
put_dm-requires-clause-known g c =
    let facts = part_facts c.args.by.now.shape.now c.args.by.now.f_code.now c.args.by.now.predictor.now c.args.s.now c.args.k c.requires.k c.requires.scales c.requires.predictor c.requires.selected in
    let fits : SFits w32 (get_or c.args.s.now.dmvector c.args.k (pos 0)) = search rules in
    λ e. subst (λ (z : ℤ). IsDm z) (sym (to_z-of_z w32 (get_or c.args.s.now.dmvector c.args.k (pos 0)) fits)) (facts.dm e)

pub put_dm-requires-clause-room : goal.put_dm-requires-clause-room
put_dm-requires-clause-room g c =
    let facts = part_facts c.args.by.now.shape.now c.args.by.now.f_code.now c.args.by.now.predictor.now c.args.s.now c.args.k c.requires.k c.requires.scales c.requires.predictor c.requires.selected in
    let fits : SFits w32 (get_or c.args.s.now.dmvector c.args.k (pos 0)) = search rules in
    let x = to_z-of_z w32 c.predictor_at-above.result (record { sfits = c.predictor_at-above.type_inv }) ∙ c.predictor_at-above.ensures in
    let text = part_is c.args.by.now.shape.now c.args.by.now.f_code.now c.args.by.now.predictor.now c.args.s.now c.args.k _ _ _ x (passed _ _ facts.most facts.vector) (to_z-of_z w32 (get_or c.args.s.now.dmvector c.args.k (pos 0)) fits) in
    second_room _ _ _ _ (subst (λ (t : List Bool). length t ≤ g.O.BitOutput.space c.args.out.now) text c.requires.room) c.put_component.ensures.less

pub returns : goal.returns
returns g c =
    let facts = part_facts c.args.by.now.shape.now c.args.by.now.f_code.now c.args.by.now.predictor.now c.args.s.now c.args.k c.requires.k c.requires.scales c.requires.predictor c.requires.selected in
    let fits : SFits w32 (get_or c.args.s.now.dmvector c.args.k (pos 0)) = search rules in
    let x = to_z-of_z w32 c.predictor_at-above.result (record { sfits = c.predictor_at-above.type_inv }) ∙ c.predictor_at-above.ensures in
    let text = part_is c.args.by.now.shape.now c.args.by.now.f_code.now c.args.by.now.predictor.now c.args.s.now c.args.k _ _ _ x (passed _ _ facts.most facts.vector) (to_z-of_z w32 (get_or c.args.s.now.dmvector c.args.k (pos 0)) fits) in
    subst (λ (t : List Bool). Gains g.O.BitOutput.took g.O.BitOutput.space c.args.out.now t c.put_dm.new.out) (sym text) (gains_on c.put_component.ensures c.put_dm.ensures)
