-- Conditions one list after another.
use Rattle.std.proofs.Common.{◌≡◌, ℕ, List, [], ◌∷◌, ◌++◌, refl, ap, Result, Ok, Err, ◌∙◌, sym, append_assoc, if◌then◌else◌}
use Rattle.m2v_set.specs.declared.unfit.Unfit.{Unfit}
use Rattle.m2v_set.specs.declared.settings.Settings.{Settings}
use Rattle.m2v_set.specs.declared.settings.Scan.TheVariants.{Progressive}
use Rattle.m2v_set.specs.declared.settings.Level.TheVariants.{Main}
use Rattle.m2v_set.specs.Numbers.{limits_of}
use Rattle.m2v_set.specs.Rules.{Condition, judge, judged, and_then, frame_rules, channel_rules, buffer_rules, delay_rules, choice_rules, pulldown_rules, rules, quantiser_rules, flat_rules}

-- what three judgements in a row say doesn't depend on how they are joined
and_then-then : (a b c : Result (Unit {0}) Unfit) → and_then (and_then a b) c ≡ and_then a (and_then b c)
unfolding and_then
and_then-then (Ok passed) b c = refl
and_then-then (Err unfit) b c = refl

-- one list after another is judged one after another
pub judged-append : (cs ds : List Condition) → judged (cs ++ ds) ≡ and_then (judged cs) (judged ds)
unfolding judged and_then
judged-append [] ds = refl
judged-append (c ∷ cs) ds =
    ap (λ r. and_then (judge c) r) (judged-append cs ds) ∙ sym (and_then-then (judge c) (judged cs) (judged ds))

three : (a b c : List Condition) → judged (a ++ b ++ c) ≡ and_then (judged a) (and_then (judged b) (judged c))
three a b c = judged-append (a ++ b) c ∙ ap (λ r. and_then r (judged c)) (judged-append a b) ∙ and_then-then (judged a) (judged b) (judged c)

six : (a b c d e f : List Condition) → judged (a ++ b ++ c ++ d ++ e ++ f)
    ≡ and_then (judged a) (and_then (judged b) (and_then (judged c) (and_then (judged d) (and_then (judged e) (judged f)))))
six a b c d e f =
    ap judged (append_assoc (a ++ b ++ c ++ d) e f) ∙ ap judged (append_assoc (a ++ b ++ c) d (e ++ f))
    ∙ three (a ++ b) c (d ++ (e ++ f))
    ∙ ap (λ r. and_then r (and_then (judged c) (judged (d ++ (e ++ f))))) (judged-append a b)
    ∙ and_then-then (judged a) (judged b) (and_then (judged c) (judged (d ++ (e ++ f))))
    ∙ ap (λ r. and_then (judged a) (and_then (judged b) (and_then (judged c) r)))
    (judged-append d (e ++ f) ∙ ap (λ r. and_then (judged d) r) (judged-append e f))

-- the rules of settings, one part after another
pub in_turn : (s : Settings) → judged (rules s)
    ≡ and_then (judged (frame_rules (limits_of s.level) s.scan s.width s.height s.rate_code))
    (and_then (judged (channel_rules (limits_of s.level) s))
    (and_then (judged (buffer_rules s))
    (and_then (judged (delay_rules s))
    (and_then (judged (choice_rules s)) (judged (if s.pulldown then pulldown_rules s else []))))))
unfolding rules
in_turn s = six _ _ _ _ _ _

-- the rules of the flat profile, one part after another
pub flat_in_turn : (width height code quantiser : ℕ) → judged (flat_rules width height code quantiser)
    ≡ and_then (judged (frame_rules (limits_of Main) Progressive width height code)) (judged (quantiser_rules quantiser))
unfolding flat_rules
flat_in_turn width height code quantiser = judged-append _ _
