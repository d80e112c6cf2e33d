use Rattle.std.proofs.Common.{inl, refl, arith}
use Rattle.m2v_choose.specs.Trials.{decided, references_of}
use Rattle.m2v_choose.proofs.Skips.{chosen_all, bits_all, samples_all, earlier_tried}
use Rattle.m2v_choose.proofs.trial.Best.decide.Goals as goal

pub returns-clause-value : goal.returns-clause-value
returns-clause-value g c =
    let r = references_of (g.V.RefView.size c.args.forward.now) (g.V.RefView.at c.args.forward.now) (g.V.RefView.at c.args.backward.now) in
    let d = decided r c.args.task.now in
    let held = c.hold-squares.ensures in
    let skip = c.try_skip.ensures.tried held.still held.squares held.rated in
    let later = c.try_later.ensures.tried skip.rated in
    let intra = c.try_intra.ensures.tried r (record { bits = later.rated.bits; samples = later.rated.samples }) in
    let zero = c.try_zero.ensures.tried r held.still intra.rated in
    chosen_all d c.hold-squares.new.self c.try_skip.new.self c.try_later.new.self c.try_zero.new.self c.limit_of-self.result held.candidate held.score skip later
    (earlier_tried d _ c.try_intra.new.self c.try_zero.new.self intra zero) c.limit_of-self.ensures.most c.limit_of-self.ensures.near c.limit_of-self.ensures.one

pub returns-clause-bits : goal.returns-clause-bits
returns-clause-bits g c =
    let r = references_of (g.V.RefView.size c.args.forward.now) (g.V.RefView.at c.args.forward.now) (g.V.RefView.at c.args.backward.now) in
    let d = decided r c.args.task.now in
    let held = c.hold-squares.ensures in
    let skip = c.try_skip.ensures.tried held.still held.squares held.rated in
    let later = c.try_later.ensures.tried skip.rated in
    let intra = c.try_intra.ensures.tried r (record { bits = later.rated.bits; samples = later.rated.samples }) in
    let zero = c.try_zero.ensures.tried r held.still intra.rated in
    bits_all d c.hold-squares.new.self c.try_skip.new.self c.try_later.new.self c.try_zero.new.self c.limit_of-self.result held.candidate held.score skip later
    (earlier_tried d _ c.try_intra.new.self c.try_zero.new.self intra zero) c.limit_of-self.ensures.most c.limit_of-self.ensures.near c.limit_of-self.ensures.one

pub returns-clause-samples : goal.returns-clause-samples
returns-clause-samples g c =
    let r = references_of (g.V.RefView.size c.args.forward.now) (g.V.RefView.at c.args.forward.now) (g.V.RefView.at c.args.backward.now) in
    let d = decided r c.args.task.now in
    let held = c.hold-squares.ensures in
    let skip = c.try_skip.ensures.tried held.still held.squares held.rated in
    let later = c.try_later.ensures.tried skip.rated in
    let intra = c.try_intra.ensures.tried r (record { bits = later.rated.bits; samples = later.rated.samples }) in
    let zero = c.try_zero.ensures.tried r held.still intra.rated in
    samples_all d c.hold-squares.new.self c.try_skip.new.self c.try_later.new.self c.try_zero.new.self c.limit_of-self.result held.candidate held.score skip later
    (earlier_tried d _ c.try_intra.new.self c.try_zero.new.self intra zero) c.limit_of-self.ensures.most c.limit_of-self.ensures.near c.limit_of-self.ensures.one

pub returns-then-is_settled-clause-value : goal.returns-then-is_settled-clause-value
returns-then-is_settled-clause-value g c =
    let r = references_of (g.V.RefView.size c.args.forward.now) (g.V.RefView.at c.args.forward.now) (g.V.RefView.at c.args.backward.now) in
    let d = decided r c.args.task.now in
    let held = c.hold-squares.ensures in
    let skip = c.try_skip.ensures.tried held.still held.squares held.rated in
    let best = c.try_skip.new.self in
    let left = c.is_settled.ensures c.if-is_settled.true r skip.rated in
    chosen_all d c.hold-squares.new.self best best best best.below held.candidate held.score skip left.1 left.0 (omega arith) (omega arith) (inl refl)

pub returns-then-is_settled-clause-bits : goal.returns-then-is_settled-clause-bits
returns-then-is_settled-clause-bits g c =
    let r = references_of (g.V.RefView.size c.args.forward.now) (g.V.RefView.at c.args.forward.now) (g.V.RefView.at c.args.backward.now) in
    let d = decided r c.args.task.now in
    let held = c.hold-squares.ensures in
    let skip = c.try_skip.ensures.tried held.still held.squares held.rated in
    let best = c.try_skip.new.self in
    let left = c.is_settled.ensures c.if-is_settled.true r skip.rated in
    bits_all d c.hold-squares.new.self best best best best.below held.candidate held.score skip left.1 left.0 (omega arith) (omega arith) (inl refl)

pub returns-then-is_settled-clause-samples : goal.returns-then-is_settled-clause-samples
returns-then-is_settled-clause-samples g c =
    let r = references_of (g.V.RefView.size c.args.forward.now) (g.V.RefView.at c.args.forward.now) (g.V.RefView.at c.args.backward.now) in
    let d = decided r c.args.task.now in
    let held = c.hold-squares.ensures in
    let skip = c.try_skip.ensures.tried held.still held.squares held.rated in
    let best = c.try_skip.new.self in
    let left = c.is_settled.ensures c.if-is_settled.true r skip.rated in
    samples_all d c.hold-squares.new.self best best best best.below held.candidate held.score skip left.1 left.0 (omega arith) (omega arith) (inl refl)
