use Rattle.std.proofs.Common.{◌≡◌}
use Rattle.std.proofs.lemmas.List.{append-nil}
use Rattle.m2v_check.proofs.picture_rules.f_code_rules.Goals as goal

pub returns : goal.returns
returns c =
    let forward = rw (c.has_forward_vectors.ensures.value, c.f_code-fore.ensures.value) at c.f_code_at-forward.ensures.value in
    let backward = rw (c.is_b.ensures.value, c.f_code-back.ensures.value) at c.f_code_at-backward.ensures.value in
    record { value = simp (append-nil, forward, backward) }
