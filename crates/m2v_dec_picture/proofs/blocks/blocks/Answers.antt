use Rattle.std.proofs.Common.{◌≡◌, ◌∙◌, ◌+◌, ◌-◌, ℕ, List, ℤ, suc, refl, sym, ap, subst, arith, take, Ok, All}
use Rattle.std.proofs.lemmas.List.{length-map, take_all}
use Rattle.std.proofs.lemmas.Result.{err_from_is_err_and}
use Rattle.m2v_quant.specs.declared.kind.Levels.{Levels}
use Rattle.m2v_recon.specs.Steps.{levels_of}
use Rattle.m2v_model.specs.Slices.{blocks_from}
use Rattle.m2v_dec_picture.specs.Conditions.{AreFine}
use Rattle.m2v_dec_picture.proofs.BlockLaws.{blocks_more, blocks_err, blocks_over, all_levels, all_dc}
use Rattle.m2v_dec_picture.proofs.blocks.blocks.Goals as goal

pub loop-k-init : goal.loop-k-init
loop-k-init c = record { read = refl; text = refl; fine = λ k d lt. absurd (omega (arith, lt)); long = c.told-out }

pub loop-k-preserved : goal.loop-k-preserved
loop-k-preserved c =
    let ctx = c.args.c.now in
    let m = c.args.m.now in
    let st = c.args.state.now in
    let k = c.loop-k.k in
    let before = take k (levels_of c.loop-k.out) in
    let t = c.loop-k.input.rest in
    let x = c.in_ok-next_block.ensures.exact in
    let e : 6 - k ≡ suc (6 - (k + 1)) = omega (arith, c.loop-k-test.true) in
    record {
      read = (λ i. (blocks_from ctx m st (k + 1) (6 - (k + 1)) (x.2 i)).read c.next_block.new.input.rest)
          ∙ sym (blocks_more ctx m st k (6 - (k + 1)) before x.0 t c.next_block.new.input.rest x.1)
          ∙ ap (λ (n : ℕ). (blocks_from ctx m st k n before).read t) (sym e) ∙ c.loop-k.invariant.read;
      text = c.in_ok-next_block.ensures.text ∙ c.loop-k.invariant.text;
      fine = c.in_ok-next_block.ensures.fine;
      long = c.in_ok-next_block.ensures.long;
    }

pub returns-in_err-next_block-clause-exact : goal.returns-in_err-next_block-clause-exact
returns-in_err-next_block-clause-exact c =
    let ctx = c.args.c.now in
    let m = c.args.m.now in
    let st = c.args.state.now in
    let k = c.loop-k.k in
    let before = take k (levels_of c.loop-k.out) in
    let t = c.loop-k.input.rest in
    let p = err_from_is_err_and c.from_residual.result c.from_residual.ensures.1 in
    let e = c.in_err-next_block.field-0.0 in
    let n : 6 - k ≡ suc (6 - (k + 1)) = omega (arith, c.loop-k-test.true) in
    rw (p.1, p.2) (sym c.loop-k.invariant.read ∙ ap (λ (z : ℕ). (blocks_from ctx m st k z before).read t) n
    ∙ blocks_err ctx m st k (6 - (k + 1)) before t (e.kind, e.left) c.in_err-next_block.ensures.exact)

pub returns-clause-exact : goal.returns-clause-exact
returns-clause-exact c =
    let ctx = c.args.c.now in
    let m = c.args.m.now in
    let st = c.args.state.now in
    let k = c.loop-k.k in
    let ls = levels_of c.loop-k.out in
    let t = c.loop-k.input.rest in
    let n : 6 - k ≡ 0 = omega (arith, c.loop-k-test.false) in
    let whole = take_all k ls (omega (arith, c.loop-k-test.false, c.loop-k.invariant.long, length-map c.loop-k.out (λ (l : Levels). l.at))) in
    sym c.loop-k.invariant.read ∙ ap (λ (z : ℕ). (blocks_from ctx m st k z (take k ls)).read t) n ∙ blocks_over ctx m st k (take k ls) t
    ∙ ap (λ (z : List (List ℤ)). Ok (z, t)) whole

pub returns-clause-levels : goal.returns-clause-levels
returns-clause-levels c =
    let k : c.loop-k.k ≡ 6 = omega (arith, c.loop-k-test.false, c.loop-k.auto.k-end) in
    all_levels c.args.c.now c.args.m.now c.loop-k.out c.loop-k.invariant.long
    (subst (λ (n : ℕ). All (AreFine c.args.c.now c.args.m.now) (take n (levels_of c.loop-k.out))) k c.loop-k.invariant.fine)

pub returns-clause-dc : goal.returns-clause-dc
returns-clause-dc c =
    let k : c.loop-k.k ≡ 6 = omega (arith, c.loop-k-test.false, c.loop-k.auto.k-end) in
    all_dc c.args.c.now c.args.m.now c.loop-k.out c.loop-k.invariant.long
    (subst (λ (n : ℕ). All (AreFine c.args.c.now c.args.m.now) (take n (levels_of c.loop-k.out))) k c.loop-k.invariant.fine)
