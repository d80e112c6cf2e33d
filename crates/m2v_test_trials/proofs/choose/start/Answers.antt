use Rattle.std.proofs.Common.{◌≡◌, ◌≤◌, ℕ, ◌*◌, subst, sym, ◌∙◌, ap, arith, pos, ◌-ℤ◌}
use Rattle.m2v_macro.specs.declared.values.SliceState.{SliceState}
use Rattle.m2v_macro.specs.declared.values.PictureContext.{PictureContext}
use Rattle.m2v_macro.specs.States.{at_start}
use Rattle.m2v_macroblock.specs.Conditions.{AreDc}
use Rattle.m2v_choose.specs.Own.{IsOwn, IsOwnState}
use Rattle.m2v_choose.proofs.OwnReady.{start_own}
use Rattle.m2v_choose.proofs.DcKept.{start_dc}
use Rattle.m2v_test_trials.proofs.choose.start.Goals as goal

state_own : (c : PictureContext) (st : SliceState) (q : ℕ) → 1 ≤ q → q ≤ 31 → st ≡ at_start c 0 q 0 → IsOwnState st
state_own c st q least most e = subst IsOwnState (sym e) (start_own c 0 q 0 (least, most))

state_dc : (c : PictureContext) (st : SliceState) (q : ℕ) → IsOwn c → st ≡ at_start c 0 q 0 → AreDc 0 st.dc
state_dc c st q own e = subst (λ (s : SliceState). AreDc 0 s.dc) (sym e) (start_dc c 0 q 0 own.precision)

state_address : (c : PictureContext) (st : SliceState) (q : ℕ) → st ≡ at_start c 0 q 0 → st.address ≡ pos 0 -ℤ pos 1
unfolding at_start
state_address c st q e =
    let none_before : 0 * c.columns ≡ 0 = omega arith in
    ap (λ (s : SliceState). s.address) e ∙ ap (λ (n : ℕ). pos n -ℤ pos 1) none_before

pub returns-clause-state : goal.returns-clause-state
returns-clause-state c = state_own c.args.context.now c.at_start.result c.args.q c.requires.least c.requires.most c.at_start.ensures.value

pub returns-clause-dc : goal.returns-clause-dc
returns-clause-dc c = state_dc c.args.context.now c.at_start.result c.args.q c.requires.own c.at_start.ensures.value

pub returns-clause-address : goal.returns-clause-address
returns-clause-address c = state_address c.args.context.now c.at_start.result c.args.q c.at_start.ensures.value
