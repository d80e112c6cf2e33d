use Rattle.std.proofs.Common.{◌≡◌, ℕ, All, map, replicate, subst, sym, ◌∙◌, ap, true, false, arith, pos}
use Rattle.std.proofs.lemmas.Int.{ints}
use Rattle.std.proofs.lemmas.List.Elements.{All-replicate}
use Rattle.m2v_quant.specs.Kinds.{IsLevel}
use Rattle.std.proofs.lemmas.Bool.{eq-eqb, ne_eqb}
use Rattle.std.specs.Prelude.{nat_eq}
use Rattle.m2v_choose.specs.Trials.{decided, Tried}
use Rattle.m2v_choose.specs.Candidates.{second_q as second_of, intra_by, codings_at}
use Rattle.m2v_choose.proofs.IntraCoded.{tried_once, tried_twice}
use Rattle.m2v_choose.proofs.Tried.{each_level}
use Rattle.m2v_choose.proofs.trial.Best.try_intra.Goals as goal

pub try_intra_at-requires-clause-within : goal.try_intra_at-requires-clause-within
try_intra_at-requires-clause-within c =
    each_level c.no_levels.result.now
    (subst (All (All IsLevel)) (sym c.no_levels.ensures) (All-replicate (All IsLevel) 6 (replicate 64 (pos 0)) (All-replicate IsLevel 64 (pos 0) (omega (arith, ints), omega (arith, ints)))))

pub returns-then-second-q : goal.returns-then-second-q
returns-then-second-q c = record {
  tried = λ r rated.
      let d = decided r c.args.task.now in
      let q = c.args.task.now.limits.now.q in
      let other : nat_eq (second_of q) q ≡ false = ap (λ (n : ℕ). nat_eq n q) (sym c.second_q-second.ensures) ∙ ne_eqb c.second_q-second.result q c.if-second-q.true in
      let first = c.try_intra_at.ensures.tried r rated in
      let second = c.try_intra_at-then-second-q.ensures.tried r first.rated in
      tried_twice d (intra_by d) c.args.self.now c.try_intra_at.new.self c.try_intra_at-then-second-q.new.self other first
      (subst (λ (n : ℕ). Tried d c.try_intra_at.new.self c.try_intra_at-then-second-q.new.self (map (intra_by d) (codings_at d n))) c.second_q-second.ensures second);
}

pub returns-else-second-q : goal.returns-else-second-q
returns-else-second-q c = record {
  tried = λ r rated.
      let d = decided r c.args.task.now in
      let q = c.args.task.now.limits.now.q in
      let one : nat_eq (second_of q) q ≡ true = ap (λ (n : ℕ). nat_eq n q) (sym c.second_q-second.ensures) ∙ eq-eqb c.second_q-second.result q c.if-second-q.false in
      tried_once d (intra_by d) c.args.self.now c.try_intra_at.new.self one (c.try_intra_at.ensures.tried r rated);
}
