use Rattle.std.proofs.Common.{ℕ, true, false, [], ◌∷◌, ◌∙◌, ap, subst, rules}
use Rattle.m2v_macro.specs.Conditions.{IsMacro}
use Rattle.m2v_macro.specs.declared.values.SliceState.{SliceState}
use Rattle.m2v_macroblock.specs.Macroblocks.{kind_for}
use Rattle.m2v_dec_picture.specs.Conditions.{IsColumn}
use Rattle.m2v_dec_picture.proofs.RowLaws.{column_is}
use Rattle.m2v_dec_picture.proofs.macroblocks.macroblock.Goals as goal

pub check-requires-clause-located : goal.check-requires-clause-located
check-requires-clause-located c =
    let ctx = c.args.s.now.context in
    let m = c.elements.new.m in
    let column = column_is ctx c.args.row c.args.state.now m c.elements.new.state c.column-x.result
    c.in_ok-elements.ensures.state c.column-x.ensures.value c.column-x.ensures.below in
    record {
      fits = subst (λ (st : SliceState). IsMacro ctx st m) c.requires.before c.in_ok-elements.ensures.fits;
      mode = search rules;
      gap = search rules;
      column = subst (λ (st : SliceState). IsColumn ctx c.args.row st m c.column-x.result) c.requires.before column;
    }

pub returns-clause-column : goal.returns-clause-column
returns-clause-column c =
    column_is c.args.s.now.context c.args.row c.args.state.now c.elements.new.m c.elements.new.state c.column-x.result
    c.in_ok-elements.ensures.state c.column-x.ensures.value c.column-x.ensures.below

pub blocks-requires-clause-kinds : goal.blocks-requires-clause-kinds
blocks-requires-clause-kinds c =
    let ctx = c.args.s.now.context in
    let intra = c.elements.new.m.kind.intra in
    record {
      value = c.of-own.ensures.value
          ∙ ap (λ (q : ℕ). kind_for ctx intra true q ∷ kind_for ctx intra false q ∷ []) c.set_quantiser.ensures.quantiser;
      each = c.of-own.ensures.kinds;
    }

pub returns-clause-quantiser : goal.returns-clause-quantiser
returns-clause-quantiser c =
    c.set_quantiser.ensures.quantiser ∙ ap (λ (z : SliceState). z.quantiser) c.in_ok-elements.ensures.state
