use Rattle.std.proofs.Common.{◌≡◌, ◌*◌, ◌≤◌, ℕ, arith, map, filter, subst, sym, ◌∙◌, ap, true, false}
use Rattle.std.proofs.lemmas.Bool.{eq-eqb, ne_eqb}
use Rattle.std.specs.Prelude.{nat_eq}
use Rattle.m2v_choose.specs.Trials.{decided, HaveSame, Tried, has_types, transforms_of}
use Rattle.m2v_choose.specs.Candidates.{second_q as second_of, coded_by, codings_at, has_block}
use Rattle.m2v_choose.proofs.Coded.{tried_once, tried_twice}
use Rattle.m2v_choose.proofs.Near.{same_farther}
use Rattle.m2v_choose.proofs.trial.Best.try_codings.Goals as goal

pub returns-then-second-q : goal.returns-then-second-q
returns-then-second-q c = record {
  tried = λ r p same samples rated.
      let t = c.args.task.now in
      let s = t.source.now.at in
      let x = c.args.plain.now.prediction.now.at in
      let frame : HaveSame (2 * t.limits.now.q) c.transform-far.new.out (transforms_of s x false) =
      subst (λ (n : ℕ). HaveSame n c.transform-far.new.out (transforms_of s x false)) c.least_far-least.ensures.value c.transform-far.ensures.alike in
      let field : has_types t.context.now ≡ true → HaveSame (2 * t.limits.now.q) c.transform_fields-far_field.new.out (transforms_of s x true) =
      λ has. subst (λ (n : ℕ). HaveSame n c.transform_fields-far_field.new.out (transforms_of s x true)) c.least_far-least.ensures.value (c.transform_fields-far_field.ensures.alike has) in
      let d = decided r c.args.task.now in
      let q = c.args.task.now.limits.now.q in
      let other : nat_eq (second_of q) q ≡ false = ap (λ (n : ℕ). nat_eq n q) (sym c.second_q-second.ensures) ∙ ne_eqb c.second_q-second.result q c.if-second-q.true in
      let first = c.try_codings_at.ensures.tried r p same samples frame field rated in
      let more : 2 * q ≤ 2 * c.second_q-second.result = omega (arith, c.second_q-second.ensures, c.least_far-least.ensures.value, c.least_far-least.ensures.most) in
      let second = c.try_codings_at-then-second-q.ensures.tried r p same samples
      (same_farther (2 * q) (2 * c.second_q-second.result) more c.transform-far.new.out (transforms_of s x false) frame)
      (λ has. same_farther (2 * q) (2 * c.second_q-second.result) more c.transform_fields-far_field.new.out (transforms_of s x true) (field has)) first.rated in
      tried_twice d p c.args.self.now c.try_codings_at.new.self c.try_codings_at-then-second-q.new.self other first
      (subst (λ (n : ℕ). Tried d c.try_codings_at.new.self c.try_codings_at-then-second-q.new.self (filter has_block (map (coded_by d p) (codings_at d n)))) c.second_q-second.ensures second);
}

pub returns-else-second-q : goal.returns-else-second-q
returns-else-second-q c = record {
  tried = λ r p same samples rated.
      let t = c.args.task.now in
      let s = t.source.now.at in
      let x = c.args.plain.now.prediction.now.at in
      let frame : HaveSame (2 * t.limits.now.q) c.transform-far.new.out (transforms_of s x false) =
      subst (λ (n : ℕ). HaveSame n c.transform-far.new.out (transforms_of s x false)) c.least_far-least.ensures.value c.transform-far.ensures.alike in
      let field : has_types t.context.now ≡ true → HaveSame (2 * t.limits.now.q) c.transform_fields-far_field.new.out (transforms_of s x true) =
      λ has. subst (λ (n : ℕ). HaveSame n c.transform_fields-far_field.new.out (transforms_of s x true)) c.least_far-least.ensures.value (c.transform_fields-far_field.ensures.alike has) in
      let q = c.args.task.now.limits.now.q in
      let one : nat_eq (second_of q) q ≡ true = ap (λ (n : ℕ). nat_eq n q) (sym c.second_q-second.ensures) ∙ eq-eqb c.second_q-second.result q c.if-second-q.false in
      tried_once (decided r c.args.task.now) p c.args.self.now c.try_codings_at.new.self one
      (c.try_codings_at.ensures.tried r p same samples frame field rated);
}
