use Rattle.std.proofs.Common.{rules, arith, ap, ◌∙◌, get_or, pos}
use Rattle.std.proofs.lemmas.Int.{to_z-of_z}
use mir.Syntax.{w32}
use mir.Val.{SFits}
use Rattle.m2v_idct.specs.Inverse.{eighth}
use Rattle.m2v_idct.proofs.Passed.{fits, passed, passed_within, read_within}
use Rattle.m2v_idct.proofs.terms.column_terms.Goals as goal

pub one_plus-requires-clause-x : goal.one_plus-requires-clause-x
one_plus-requires-clause-x c = read_within 160000 160000 c.args.c.now 1 (omega arith) (omega arith) (omega arith) c.requires

pub one_plus-requires-clause-y : goal.one_plus-requires-clause-y
one_plus-requires-clause-y c = read_within 160000 160000 c.args.c.now 7 (omega arith) (omega arith) (omega arith) c.requires

pub one_minus-requires-clause-x : goal.one_minus-requires-clause-x
one_minus-requires-clause-x c = read_within 160000 160000 c.args.c.now 1 (omega arith) (omega arith) (omega arith) c.requires

pub one_minus-requires-clause-y : goal.one_minus-requires-clause-y
one_minus-requires-clause-y c = read_within 160000 160000 c.args.c.now 7 (omega arith) (omega arith) (omega arith) c.requires

pub three_plus-requires-clause-x : goal.three_plus-requires-clause-x
three_plus-requires-clause-x c = read_within 160000 160000 c.args.c.now 3 (omega arith) (omega arith) (omega arith) c.requires

pub three_plus-requires-clause-y : goal.three_plus-requires-clause-y
three_plus-requires-clause-y c = read_within 160000 160000 c.args.c.now 5 (omega arith) (omega arith) (omega arith) c.requires

pub three_minus-requires-clause-x : goal.three_minus-requires-clause-x
three_minus-requires-clause-x c = read_within 160000 160000 c.args.c.now 5 (omega arith) (omega arith) (omega arith) c.requires

pub three_minus-requires-clause-y : goal.three_minus-requires-clause-y
three_minus-requires-clause-y c = read_within 160000 160000 c.args.c.now 3 (omega arith) (omega arith) (omega arith) c.requires

pub two_plus-requires-clause-x : goal.two_plus-requires-clause-x
two_plus-requires-clause-x c = read_within 160000 160000 c.args.c.now 2 (omega arith) (omega arith) (omega arith) c.requires

pub two_plus-requires-clause-y : goal.two_plus-requires-clause-y
two_plus-requires-clause-y c = read_within 160000 160000 c.args.c.now 6 (omega arith) (omega arith) (omega arith) c.requires

pub two_minus-requires-clause-x : goal.two_minus-requires-clause-x
two_minus-requires-clause-x c = read_within 160000 160000 c.args.c.now 2 (omega arith) (omega arith) (omega arith) c.requires

pub two_minus-requires-clause-y : goal.two_minus-requires-clause-y
two_minus-requires-clause-y c = read_within 160000 160000 c.args.c.now 6 (omega arith) (omega arith) (omega arith) c.requires

pub column_sum-requires-clause-x : goal.column_sum-requires-clause-x
column_sum-requires-clause-x c = read_within 160000 160000 c.args.c.now 0 (omega arith) (omega arith) (omega arith) c.requires

pub column_sum-requires-clause-y : goal.column_sum-requires-clause-y
column_sum-requires-clause-y c = read_within 160000 160000 c.args.c.now 4 (omega arith) (omega arith) (omega arith) c.requires

pub column_difference-requires-clause-x : goal.column_difference-requires-clause-x
column_difference-requires-clause-x c = read_within 160000 160000 c.args.c.now 0 (omega arith) (omega arith) (omega arith) c.requires

pub column_difference-requires-clause-y : goal.column_difference-requires-clause-y
column_difference-requires-clause-y c = read_within 160000 160000 c.args.c.now 4 (omega arith) (omega arith) (omega arith) c.requires

pub returns-clause-a1 : goal.returns-clause-a1
returns-clause-a1 c =
    let x = fits 160000 (get_or c.args.c.now 1 (pos 0)) (omega arith) (c.requires 1 (pos 0) (omega arith)) in
    let y = fits 160000 (get_or c.args.c.now 7 (pos 0)) (omega arith) (c.requires 7 (pos 0) (omega arith)) in
    let t = fits 650000000 c.one_plus.result (omega arith) c.one_plus.ensures.within in
    passed 82000000 _ (omega arith) c.eighth_of.ensures.within ∙ (simp to_z-of_z at c.eighth_of.ensures.value)
    ∙ ap eighth (simp to_z-of_z at c.one_plus.ensures.value)

pub returns-clause-a7 : goal.returns-clause-a7
returns-clause-a7 c =
    let x = fits 160000 (get_or c.args.c.now 1 (pos 0)) (omega arith) (c.requires 1 (pos 0) (omega arith)) in
    let y = fits 160000 (get_or c.args.c.now 7 (pos 0)) (omega arith) (c.requires 7 (pos 0) (omega arith)) in
    let t = fits 650000000 c.one_minus.result (omega arith) c.one_minus.ensures.within in
    passed 82000000 _ (omega arith) c.eighth_of-2.ensures.within ∙ (simp to_z-of_z at c.eighth_of-2.ensures.value)
    ∙ ap eighth (simp to_z-of_z at c.one_minus.ensures.value)

pub returns-clause-a5 : goal.returns-clause-a5
returns-clause-a5 c =
    let x = fits 160000 (get_or c.args.c.now 3 (pos 0)) (omega arith) (c.requires 3 (pos 0) (omega arith)) in
    let y = fits 160000 (get_or c.args.c.now 5 (pos 0)) (omega arith) (c.requires 5 (pos 0) (omega arith)) in
    let t = fits 650000000 c.three_plus.result (omega arith) c.three_plus.ensures.within in
    passed 82000000 _ (omega arith) c.eighth_of-3.ensures.within ∙ (simp to_z-of_z at c.eighth_of-3.ensures.value)
    ∙ ap eighth (simp to_z-of_z at c.three_plus.ensures.value)

pub returns-clause-a3 : goal.returns-clause-a3
returns-clause-a3 c =
    let x = fits 160000 (get_or c.args.c.now 5 (pos 0)) (omega arith) (c.requires 5 (pos 0) (omega arith)) in
    let y = fits 160000 (get_or c.args.c.now 3 (pos 0)) (omega arith) (c.requires 3 (pos 0) (omega arith)) in
    let t = fits 650000000 c.three_minus.result (omega arith) c.three_minus.ensures.within in
    passed 82000000 _ (omega arith) c.eighth_of-4.ensures.within ∙ (simp to_z-of_z at c.eighth_of-4.ensures.value)
    ∙ ap eighth (simp to_z-of_z at c.three_minus.ensures.value)

pub returns-clause-e2 : goal.returns-clause-e2
returns-clause-e2 c =
    let x = fits 160000 (get_or c.args.c.now 2 (pos 0)) (omega arith) (c.requires 2 (pos 0) (omega arith)) in
    let y = fits 160000 (get_or c.args.c.now 6 (pos 0)) (omega arith) (c.requires 6 (pos 0) (omega arith)) in
    let t = fits 650000000 c.two_plus.result (omega arith) c.two_plus.ensures.within in
    passed 82000000 _ (omega arith) c.eighth_of-5.ensures.within ∙ (simp to_z-of_z at c.eighth_of-5.ensures.value)
    ∙ ap eighth (simp to_z-of_z at c.two_plus.ensures.value)

pub returns-clause-e6 : goal.returns-clause-e6
returns-clause-e6 c =
    let x = fits 160000 (get_or c.args.c.now 2 (pos 0)) (omega arith) (c.requires 2 (pos 0) (omega arith)) in
    let y = fits 160000 (get_or c.args.c.now 6 (pos 0)) (omega arith) (c.requires 6 (pos 0) (omega arith)) in
    let t = fits 650000000 c.two_minus.result (omega arith) c.two_minus.ensures.within in
    passed 82000000 _ (omega arith) c.eighth_of-6.ensures.within ∙ (simp to_z-of_z at c.eighth_of-6.ensures.value)
    ∙ ap eighth (simp to_z-of_z at c.two_minus.ensures.value)

pub returns-clause-p : goal.returns-clause-p
returns-clause-p c =
    let x = fits 160000 (get_or c.args.c.now 0 (pos 0)) (omega arith) (c.requires 0 (pos 0) (omega arith)) in
    let y = fits 160000 (get_or c.args.c.now 4 (pos 0)) (omega arith) (c.requires 4 (pos 0) (omega arith)) in
    let t : SFits w32 c.column_sum.result = search rules in
    to_z-of_z w32 _ t ∙ (simp to_z-of_z at c.column_sum.ensures.value)

pub returns-clause-m : goal.returns-clause-m
returns-clause-m c =
    let x = fits 160000 (get_or c.args.c.now 0 (pos 0)) (omega arith) (c.requires 0 (pos 0) (omega arith)) in
    let y = fits 160000 (get_or c.args.c.now 4 (pos 0)) (omega arith) (c.requires 4 (pos 0) (omega arith)) in
    let t : SFits w32 c.column_difference.result = search rules in
    to_z-of_z w32 _ t ∙ (simp to_z-of_z at c.column_difference.ensures.value)

pub returns-clause-terms : goal.returns-clause-terms
returns-clause-terms c = record {
  a1 = passed_within 82000000 82000000 _ (omega arith) (omega arith) c.eighth_of.ensures.within;
  a7 = passed_within 82000000 82000000 _ (omega arith) (omega arith) c.eighth_of-2.ensures.within;
  a5 = passed_within 82000000 82000000 _ (omega arith) (omega arith) c.eighth_of-3.ensures.within;
  a3 = passed_within 82000000 82000000 _ (omega arith) (omega arith) c.eighth_of-4.ensures.within;
  e2 = passed_within 82000000 82000000 _ (omega arith) (omega arith) c.eighth_of-5.ensures.within;
  e6 = passed_within 82000000 82000000 _ (omega arith) (omega arith) c.eighth_of-6.ensures.within;
  p = passed_within 82000000 82000000 _ (omega arith) (omega arith) c.column_sum.ensures.within;
  m = passed_within 82000000 82000000 _ (omega arith) (omega arith) c.column_difference.ensures.within;
}
