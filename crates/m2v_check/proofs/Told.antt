-- What is told place by place.
use Rattle.std.proofs.Common.{◌≡◌, ◌+◌, ◌*◌, List, [], ◌∷◌, ◌++◌, Option, refl, sym, ap, ◌∙◌}
use Rattle.std.proofs.lemmas.List.{append-nil, append_assoc}
use Rattle.m2v_model.specs.declared.state.Sequence.{Sequence}
use Rattle.m2v_model.specs.Lawful.{Breaches, within, at_most, limits_in, level_rule, width_rule, height_rule, frame_rate_rule, luma_rule, rate_rule, buffer_rule, sequence_breaches}
use Rattle.m2v_check.specs.declared.broken.BrokenRule.{BrokenRule}
use Rattle.m2v_check.specs.Breaking.{told_at, told_by}
use Rattle.m2v_check.proofs.Firsts.{of_one}

seven_rules : (s : Sequence) → sequence_breaches (s ∷ [])
    ≡ level_rule s ++ (width_rule s ++ (height_rule s ++ (frame_rate_rule s ++ (luma_rule s ++ (rate_rule s ++ buffer_rule s)))))
seven_rules s = simp (of_one, append_assoc)

pub eight_told : (s : Sequence) (a b c d e f g h : Option BrokenRule) → told_at a ≡ level_rule s → told_at b ≡ width_rule s → told_at c ≡ height_rule s
    → told_at d ≡ within 4 0 s.info.frame_rate_code 1 (limits_in s).codes → told_at e ≡ at_most 4 0 (32 * s.extension.rate_n + s.extension.rate_d) 0
    → told_at f ≡ luma_rule s → told_at g ≡ rate_rule s → told_at h ≡ buffer_rule s
    → told_by (a ∷ b ∷ c ∷ d ∷ e ∷ f ∷ g ∷ h ∷ []) ≡ sequence_breaches (s ∷ [])
unfolding frame_rate_rule
eight_told s a b c d e f g h pa pb pc pd pe pf pg ph = rw (seven_rules s, ← pa, ← pb, ← pc, ← pd, ← pe, ← pf, ← pg, ← ph) simp (append-nil, append_assoc)
