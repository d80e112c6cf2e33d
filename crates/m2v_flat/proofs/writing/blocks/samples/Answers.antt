use Rattle.std.proofs.Common.{arith, ◌≡◌, ◌∙◌, ap, sym, pos, ◌+◌, ◌/◌, ◌%◌}
use Rattle.std.specs.Int.{w32}
use Rattle.std.proofs.lemmas.Int.{to_z-of_z}
use Rattle.m2v_plane.specs.Samples.{sample_of}
use Rattle.m2v_flat.proofs.Samples.{made_none, made_more, made_all, all_within}
use Rattle.m2v_flat.proofs.writing.blocks.samples.Goals as goal

pub loop-k-init : goal.loop-k-init
loop-k-init c = made_none _ _ (omega arith)

pub loop-k-preserved : goal.loop-k-preserved
loop-k-preserved c =
    let same = to_z-of_z w32 c.from.result (record { sfits = c.from.type_inv }) in
    made_more (λ k. pos (sample_of c.args.frame.now c.args.plane (c.args.line + k / 8) (c.args.column + k % 8))) c.loop-k.k c.sample-sample.result _ c.loop-k.samples c.loop-k.invariant c.loop-k-test.true c.sample-sample.type_inv (same ∙ c.from.ensures) (ap pos (sym c.sample-sample.ensures.value))

pub returns-clause-value : goal.returns-clause-value
returns-clause-value c =
    let end : c.loop-k.k ≡ 64 = omega arith in
    made_all c.args.frame.now c.args.plane c.args.line c.args.column c.loop-k.samples (rw end at c.loop-k.invariant)

pub returns-clause-within : goal.returns-clause-within
returns-clause-within c =
    let end : c.loop-k.k ≡ 64 = omega arith in
    all_within _ c.loop-k.samples (rw end at c.loop-k.invariant)
