-- What the safety of the buffer asks of a plan holds of both plans.
use Rattle.std.proofs.Common.{◌≡◌, ℕ, ◌+◌, ◌-◌, ◌*◌, ◌/◌, ◌%◌, ◌≤◌, ◌<◌, ◌^◌, min, max, length, get_or, refl, arith, Option, Some, None}
use Rattle.std.proofs.lemmas.Bool.{cond_both}
use Rattle.m2v_set.specs.declared.settings.Settings.{Settings}
use Rattle.m2v_set.specs.Numbers.{least_of, rows_by, slice_least, mb_width_of}
use Rattle.m2v_set.specs.Rules.{is_even}
use Rattle.m2v_rate.specs.declared.values.Plan.{Plan}
use Rattle.m2v_rate.specs.declared.values.Known.{Known}
use Rattle.m2v_rate.specs.Sharing.{quantiser, most, target}
use Rattle.m2v_rate.specs.Plans.{Entries, first_open, Low, cap_within, last_known, target_of, quantiser_by, outlook_of, plan_by_weights, plan_by_source, plan_of}
use Rattle.m2v_rate.specs.Steady.{IsBegun, IsPlan, IsLedger}
use Rattle.m2v_rate.proofs.Lows.{low_least}
use Rattle.m2v_rate.proofs.Targets.{target_most}
use Rattle.m2v_rate.proofs.Measures.{outlook_is, even_target_most}

-- ---- a cap leaves room for an emergency picture

whole_bytes : (rows k : ℕ) → (416 + rows * (8 * k)) % 8 ≡ 0
whole_bytes rows k =
    let e : rows * (8 * k) ≡ 8 * (rows * k) = omega arith in
    rw e (omega arith)

pub least_bytes : (s : Settings) → least_of s % 8 ≡ 0
unfolding least_of slice_least
least_bytes s = whole_bytes (rows_by s.scan s.height) ((38 + 31 * mb_width_of s + 7) / 8)

-- whatever a picture is to have at most
within_is : (s : Settings) (low most q target : ℕ) → 1800 * least_of s ≤ low → (1 ≤ q) × (q ≤ 31)
    → IsPlan s low (record { q = q; cap = cap_within s low most; target = target })
within_is s low most q target le code = record {
  code = code;
  bytes = omega arith;
  least = omega (arith, least_bytes s);
  held = omega arith;
}

-- ---- the two plans

code_is : (q : ℕ) → (1 ≤ min 31 (max 1 q)) × (min 31 (max 1 q) ≤ 31)
code_is q = (omega arith, omega arith)

quantiser_is : (k : Option Known) (target : ℕ) → (1 ≤ quantiser_by k target) × (quantiser_by k target ≤ 31)
unfolding quantiser_by
quantiser_is None target = (omega arith, omega arith)
quantiser_is (Some k) target = code_is ((k.bits * k.q + max 1 target - 1) / max 1 target)

pub weights_is : (l : Entries) (p : ℕ) → 1800 * least_of l.settings ≤ Low l p → IsPlan l.settings (Low l p) (plan_by_weights l p)
unfolding plan_by_weights
weights_is l p least =
    within_is l.settings (Low l p) (2 * target_of l p) (quantiser_by (last_known l (get_or l.kinds p 0) (first_open p)) (target_of l p)) (target_of l p)
    least (quantiser_is (last_known l (get_or l.kinds p 0) (first_open p)) (target_of l p))

pub source_is : (l : Entries) (p : ℕ) → 1800 * least_of l.settings ≤ Low l p → IsPlan l.settings (Low l p) (plan_by_source l p)
unfolding plan_by_source quantiser
source_is l p least =
    let o = outlook_of l p in
    within_is l.settings (Low l p) (most o p) (quantiser o p) (target o p) least (code_is _)

-- an emergency picture is held at least
pub least_held : (l : Entries) (p : ℕ) → IsBegun l → p < length l.kinds → 1800 * least_of l.settings ≤ Low l p
least_held l p h lt =
    let f = first_open p in
    low_least l f (p - f) h (omega arith)

pub plan_is : (l : Entries) (p : ℕ) → IsBegun l → p < length l.kinds → IsPlan l.settings (Low l p) (plan_of l p)
unfolding plan_of
plan_is l p h lt =
    let least = least_held l p h lt in
    cond_both _ _ _ (IsPlan l.settings (Low l p)) (λ e. source_is l p least) (λ e. weights_is l p least)

-- ---- a target

weights_target : (l : Entries) (p : ℕ) → (plan_by_weights l p).target ≡ target_of l p
unfolding plan_by_weights
weights_target l p = refl

source_target : (l : Entries) (p : ℕ) → (plan_by_source l p).target ≡ target (outlook_of l p) p
unfolding plan_by_source
source_target l p = refl

pub plan_target_most : (l : Entries) (p : ℕ) → IsLedger l → p < length l.kinds → p ≤ length l.sizes + 3 → (plan_of l p).target < 2 ^ 31
unfolding plan_of
plan_target_most l p h lt known =
    cond_both (is_even l.settings.planning) (plan_by_source l p) (plan_by_weights l p) (λ (x : Plan). x.target < 2 ^ 31)
    (λ even. omega (arith, source_target l p, even_target_most (outlook_of l p) p (outlook_is l p h even lt known) lt))
    (λ e. omega (arith, weights_target l p, target_most l p h.steady.begun h.few lt))
