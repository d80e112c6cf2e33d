use Rattle.std.proofs.Common.{ℕ, List, ℤ, ap, sym, ◌∙◌}
use Rattle.std.specs.Prelude.{is_some}
use Rattle.m2v_choose.specs.Choice.{bits_taken}
use Rattle.m2v_choose.specs.Decisions.{written}
use Rattle.m2v_choose.specs.Trials.{block_squared, decided, uncoded_squared}
use Rattle.m2v_choose.proofs.PartSquares.{all_uncoded}
use Rattle.m2v_recon.specs.Steps.{levels_of}
use Rattle.m2v_choose.proofs.Predicted.{uncoded_writable, uncoded_tried, none_tried}
use Rattle.m2v_choose.proofs.trial.Best.try_uncoded.Goals as goal

pub try_counted-requires-clause-writable : goal.try_counted-requires-clause-writable
try_counted-requires-clause-writable c =
    uncoded_writable c.args.task.now.context.now c.args.task.now.first c.args.bare.now (levels_of c.no_levels.result.now) c.requires.pattern c.no_levels.ensures (c.requires.alone.macro (ap is_some c.in-Some.is))

pub try_counted-requires-clause-bits : goal.try_counted-requires-clause-bits
try_counted-requires-clause-bits c = λ r.
    let bits = rw c.in-Some.is at c.requires.alone.bits in
    bits r ∙ ap (λ (ls : List (List ℤ)). bits_taken (decided r c.args.task.now) (written c.args.bare.now ls)) (sym c.no_levels.ensures)

pub try_counted-requires-clause-still : goal.try_counted-requires-clause-still
try_counted-requires-clause-still c =
    let s = c.args.task.now.source.now.at in
    let p = c.args.prediction.now.at in
    let f = block_squared c.args.bare.now.dct_field s p in
    c.requires.whole ∙ sym (ap (λ (n : ℕ). uncoded_squared n f) c.requires.pattern ∙ all_uncoded c.args.bare.now.dct_field s p)

pub returns-in-Some : goal.returns-in-Some
returns-in-Some c = record {
  tried = λ r predicts rated.
      uncoded_tried r c.args.task.now c.args.bare.now c.args.self.now c.try_counted.new.self (is_some c.args.alone) (levels_of c.no_levels.result.now) (ap is_some c.in-Some.is) c.no_levels.ensures
      (c.try_counted.ensures.tried r predicts rated);
}

pub returns-in_default : goal.returns-in_default
returns-in_default c = record { tried = λ r predicts rated. none_tried r c.args.task.now c.args.bare.now c.args.self.now c.args.self.now (is_some c.args.alone) (ap is_some c.in_default.is) rated }
