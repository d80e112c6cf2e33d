use Rattle.std.proofs.Common.{◌≡◌, ◌+◌, ◌-◌, ◌≤◌, refl, sym, ◌∙◌, [], ◌∷◌, ◌++◌, length, arith}
use Rattle.std.specs.Prelude.{filter}
use Rattle.std.proofs.lemmas.Result.{err_from_is_err_and}
use Rattle.m2v_model.specs.Slices.{Row, with_next, is_large}
use Rattle.m2v_dec_picture.specs.Reads.{seen_by}
use Rattle.m2v_dec_picture.proofs.SliceLaws.{macroblocks_err, macroblocks_more, macroblocks_last, macroblock_less}
use Rattle.m2v_dec_picture.proofs.RowLaws.{left_first, left_more, left_samples, few_first, large_few, large_then, large_else, one_more, none_more, not_more, still_more, few_more}
use Rattle.m2v_dec_picture.proofs.macroblocks.macroblocks.Goals.{then-r, else-r}
use Rattle.m2v_dec_picture.proofs.macroblocks.macroblocks.Goals as goal

pub loop-r-init : goal.loop-r-init
loop-r-init g c =
    let s = c.args.basis.now.setup.now in
    let refs = seen_by (g.V.RefView.at c.args.basis.now.forward.now) (g.V.RefView.at c.args.basis.now.backward.now) in
    record {
      macroblocks = ([], [], refl, left_first g.T.Target.placed s refs c.args.first (g.T.Target.samples c.args.out.now), refl);
      state = c.requires.state;
      kinds = c.new-kinds.ensures;
      few = few_first c.args.first c.requires.begins;
      text = refl;
      takes = λ p t. t;
    }

pub next_macroblock-requires-clause-takes : goal.next_macroblock-requires-clause-takes
next_macroblock-requires-clause-takes g c = λ column lt. c.loop-r.invariant.takes _ (c.requires.takes column lt)

pub returns-in_err-r-clause-exact : goal.returns-in_err-r-clause-exact
returns-in_err-r-clause-exact g c =
    let inv = c.loop-r.invariant.macroblocks in
    let p = err_from_is_err_and c.from_residual.result c.from_residual.ensures.1 in
    let r : Row = record { state = c.loop-r.state; macroblocks = inv.0; bits = inv.1 } in
    let e = c.in_err-r.field-0.0 in
    rw (p.1, p.2) (sym inv.2 ∙ macroblocks_err c.args.basis.now.setup.now r c.loop-r.input.rest (e.kind, e.left) c.in_err-r.ensures.exact)

pub overflow_add-large : goal.overflow_add-large
overflow_add-large g c =
    let few = large_few c.args.basis.now.setup.now.context c.args.row c.args.first.next c.loop-r.state c.loop-r.large c.loop-r.invariant.state.place c.loop-r.invariant.few in
    record { fits = omega (arith, few) }

pub returns-then-not-r-clause-exact : goal.returns-then-not-r-clause-exact
returns-then-not-r-clause-exact g c =
    let inv = c.loop-r.invariant.macroblocks in
    let x = c.in_ok-r.ensures.exact in
    let s = c.args.basis.now.setup.now in
    let refs = seen_by (g.V.RefView.at c.args.basis.now.forward.now) (g.V.RefView.at c.args.basis.now.backward.now) in
    let before = c.loop-r.input.rest in
    let rest = c.next_macroblock.new.input.rest in
    let r : Row = record { state = c.loop-r.state; macroblocks = inv.0; bits = inv.1 } in
    let z : Row = with_next s.context r x.0 (length before - length rest) in
    let large : c.if-r.large ≡ length (filter is_large (inv.1 ++ (length before - length rest) ∷ [])) = elim c.if-r.branch [
      | then-r w ↦ w.large-is ∙ large_then inv.1 (length before - length rest) c.loop-r.large (inv.4) (x.3 ∙ w.if-r.true)
      | else-r w ↦ w.large-is ∙ large_else inv.1 (length before - length rest) c.loop-r.large (inv.4) (x.3 ∙ w.if-r.false)
    ] in
    let left = left_more g.T.Target.placed s refs c.args.first (g.T.Target.samples c.args.out.now) inv.0 c.loop-r.state z.state (g.T.Target.samples c.loop-r.out)
    (g.T.Target.samples c.next_macroblock.new.out) x.0 inv.3 refl x.5 in (
      z,
      sym inv.2 ∙ macroblocks_last s r x.0 before rest x.1 (x.2 ∙ not_more c.in_ok-r.r.more c.if-not-r.true),
      x.4,
      large,
      left_samples g.T.Target.placed s refs c.args.first (g.T.Target.samples c.args.out.now) z.macroblocks z.state (g.T.Target.samples c.next_macroblock.new.out) left,
    )

pub returns-then-not-r-clause-few : goal.returns-then-not-r-clause-few
returns-then-not-r-clause-few g c =
    let most : c.if-r.large ≤ c.loop-r.large + 1 = elim c.if-r.branch [
      | then-r w ↦ one_more c.if-r.large c.loop-r.large w.large-is
      | else-r w ↦ none_more c.if-r.large c.loop-r.large w.large-is
    ] in
    few_more c.args.first.next c.loop-r.state c.next_macroblock.new.state c.loop-r.large c.if-r.large c.loop-r.invariant.few c.in_ok-r.ensures.goes_on most

pub returns-then-not-r-clause-takes : goal.returns-then-not-r-clause-takes
returns-then-not-r-clause-takes g c = λ p t. c.in_ok-r.ensures.takes p (c.loop-r.invariant.takes p t)

pub loop-r-smaller : goal.loop-r-smaller
loop-r-smaller g c =
    let x = c.in_ok-r.ensures.exact in
    macroblock_less c.args.basis.now.setup.now c.loop-r.state x.0 c.loop-r.input.rest c.next_macroblock.new.input.rest x.1

pub loop-r-preserved : goal.loop-r-preserved
loop-r-preserved g c =
    let inv = c.loop-r.invariant.macroblocks in
    let x = c.in_ok-r.ensures.exact in
    let s = c.args.basis.now.setup.now in
    let refs = seen_by (g.V.RefView.at c.args.basis.now.forward.now) (g.V.RefView.at c.args.basis.now.backward.now) in
    let before = c.loop-r.input.rest in
    let rest = c.next_macroblock.new.input.rest in
    let n = length before - length rest in
    let r : Row = record { state = c.loop-r.state; macroblocks = inv.0; bits = inv.1 } in
    let large : c.if-r.large ≡ length (filter is_large (inv.1 ++ n ∷ [])) = elim c.if-r.branch [
      | then-r w ↦ w.large-is ∙ large_then inv.1 n c.loop-r.large (inv.4) (x.3 ∙ w.if-r.true)
      | else-r w ↦ w.large-is ∙ large_else inv.1 n c.loop-r.large (inv.4) (x.3 ∙ w.if-r.false)
    ] in
    let most : c.if-r.large ≤ c.loop-r.large + 1 = elim c.if-r.branch [
      | then-r w ↦ one_more c.if-r.large c.loop-r.large w.large-is
      | else-r w ↦ none_more c.if-r.large c.loop-r.large w.large-is
    ] in
    record {
      macroblocks = (
        inv.0 ++ x.0 ∷ [],
        inv.1 ++ n ∷ [],
        rw x.4 (sym (macroblocks_more s r x.0 before rest x.1 (x.2 ∙ still_more c.in_ok-r.r.more c.if-not-r.false)) ∙ inv.2),
        left_more g.T.Target.placed s refs c.args.first (g.T.Target.samples c.args.out.now) inv.0 c.loop-r.state c.next_macroblock.new.state (g.T.Target.samples c.loop-r.out)
            (g.T.Target.samples c.next_macroblock.new.out) x.0 inv.3 x.4 x.5,
        large,
      );
      state = c.in_ok-r.ensures.state;
      kinds = c.in_ok-r.ensures.kinds;
      few = few_more c.args.first.next c.loop-r.state c.next_macroblock.new.state c.loop-r.large c.if-r.large c.loop-r.invariant.few c.in_ok-r.ensures.goes_on most;
      text = c.in_ok-r.ensures.text ∙ c.loop-r.invariant.text;
      takes = λ p t. c.in_ok-r.ensures.takes p (c.loop-r.invariant.takes p t);
    }
