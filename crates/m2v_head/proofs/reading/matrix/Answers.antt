use Rattle.std.proofs.Common.{◌≡◌, suc, ◌-◌, ◌+◌, length, refl, sym, ◌∙◌, arith, rules, Some}
use Rattle.std.proofs.lemmas.List.{length-set}
use Rattle.std.proofs.lemmas.Result.{err_from_is_err_and}
use Rattle.m2v_quant.specs.Scans.{scan_order}
use Rattle.m2v_head.specs.Elements.{numbers_at}
use Rattle.m2v_head.proofs.MatrixLaws.{scanned, none_behind, scanned_more, numbers_err, numbers_more, matrix_read, matrix_err, matrix_fits}
use Rattle.m2v_head.proofs.reading.matrix.Goals as goal

pub loop-i-init : goal.loop-i-init
loop-i-init c = record { exact = none_behind ((numbers_at c.args.field 64).read c.args.input.now.rest); whole = refl; text = refl }

pub returns-in_err-numbers-clause-exact : goal.returns-in_err-numbers-clause-exact
returns-in_err-numbers-clause-exact c =
    let p = err_from_is_err_and c.from_residual.result c.from_residual.ensures.1 in
    let next : 64 - c.loop-i.i ≡ suc (63 - c.loop-i.i) = omega arith in
    rw (p.1, p.2) (matrix_err c.args.field c.args.input.now.rest (c.in_err-numbers.field-0.0, length c.some.new.input.rest) (sym c.loop-i.invariant.exact ∙ numbers_err c.args.field (64 - c.loop-i.i) (63 - c.loop-i.i) (scanned c.loop-i.numbers c.loop-i.i) c.loop-i.input.rest (c.in_err-numbers.field-0.0, length c.some.new.input.rest) next c.in_err-numbers.ensures.exact))

pub loop-i-preserved : goal.loop-i-preserved
unfolding scan_order
loop-i-preserved c =
    let next : 64 - c.loop-i.i ≡ suc (64 - (c.loop-i.i + 1)) = omega arith in
    let more = scanned_more c.loop-i.numbers c.loop-i.i c.scan.result c.in_ok-numbers.field-0 c.loop-i.invariant.whole c.loop-i-test.true c.scan.ensures.value in
    record {
      exact = rw more (sym (numbers_more c.args.field (64 - c.loop-i.i) (64 - (c.loop-i.i + 1)) c.in_ok-numbers.field-0 (scanned c.loop-i.numbers c.loop-i.i) c.loop-i.input.rest c.some.new.input.rest next c.in_ok-numbers.ensures.exact) ∙ c.loop-i.invariant.exact);
      whole = length-set c.loop-i.numbers c.scan.result c.in_ok-numbers.field-0 ∙ c.loop-i.invariant.whole;
      text = search rules;
    }

pub returns-clause-exact : goal.returns-clause-exact
returns-clause-exact c =
    let end : c.loop-i.i ≡ 64 = omega arith in
    matrix_read c.args.field c.loop-i.numbers c.args.input.now.rest c.loop-i.input.rest c.loop-i.invariant.whole (rw end at c.loop-i.invariant.exact)

pub returns-clause-fits : goal.returns-clause-fits
returns-clause-fits c =
    let end : c.loop-i.i ≡ 64 = omega arith in
    matrix_fits c.args.field (Some c.loop-i.numbers) c.args.input.now.rest c.loop-i.input.rest (matrix_read c.args.field c.loop-i.numbers c.args.input.now.rest c.loop-i.input.rest c.loop-i.invariant.whole (rw end at c.loop-i.invariant.exact))
