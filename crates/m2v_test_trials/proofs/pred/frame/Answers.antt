use Rattle.std.proofs.Common.{◌+◌, ◌*◌, ◌/◌, ap, sym, ◌∙◌}
use Rattle.m2v_plane.specs.Samples.{Samples}
use Rattle.m2v_test_trials.proofs.pred.frame.Goals as goal

pub pad_from_raw-requires : goal.pad_from_raw-requires
pad_from_raw-requires c =
    let w = ap (λ (s : Samples). s.dims.width) c.in_ok-frame.ensures.value in
    let h = ap (λ (s : Samples). s.dims.height) c.in_ok-frame.ensures.value in
    record { whole = c.requires ∙ sym (λ i. w i * h i + 2 * ((w i + 1) / 2 * ((h i + 1) / 2))) }
