-- What a stream keeps where none of the verifier's rules is broken and its rate is constant: by its first sequence header it has
-- an account, and no progressive sequence repeats a frame.
use Rattle.std.proofs.Common.{◌≡◌, ℕ, ◌+◌, ◌*◌, ◌≤◌, Bool, true, false, not, List, [], ◌∷◌, ◌++◌, Some, None, refl, sym, ap, subst, ◌∙◌, arith}
use Rattle.std.specs.Prelude.{◌&&◌, ◌||◌, nat_eq, nat_le, nat_lt, if◌then◌else◌}
use Rattle.std.specs.List.{flat_map, AllByRecursion}
use Rattle.std.proofs.lemmas.Bool.{and_from, leb-true, le-leb, ltb-false}
use Rattle.m2v_order.specs.m2v_set.declared.settings.Level.{Level}
use Rattle.m2v_order.specs.m2v_set.declared.settings.Level.TheVariants.{Main, High1440, High}
use Rattle.m2v_order.specs.m2v_set.Numbers.{limits_of}
use Rattle.m2v_model.specs.declared.state.Sequence.{Sequence}
use Rattle.m2v_model.specs.States.{is_frame}
use Rattle.m2v_model.specs.Pictures.{Events, sequence_header, group_header, coded_picture}
use Rattle.m2v_model.specs.Lawful.{Breach, Breaches, breach, judge, at_most, within, level_in, limits_in, frame_rate_rule, luma_rule, rate_rule, buffer_rule, sequences_in, sequence_breaches, Numbered, repeat_rule, progressive_rule, precision_rule, picture_breaches, all_numbered, is_variable, breaches}
use Rattle.m2v_audit.specs.Opening.{keeps, has_frame_rate, has_account}
use Rattle.m2v_audit.proofs.m2v_check.Telling.{first_in}
use Rattle.m2v_audit.proofs.m2v_check.Onward.{first_stays}
use Rattle.m2v_law_audit.specs.Accounts.{IsOnceAmong}

-- ---- nothing

pub none_before : {A : Type 0} (xs ys : List A) → xs ++ ys ≡ [] → xs ≡ []
none_before [] ys e = refl
none_before (x ∷ xs) ys e = absurd cc

pub none_behind : {A : Type 0} (xs ys : List A) → xs ++ ys ≡ [] → ys ≡ []
none_behind [] ys e = e
none_behind (x ∷ xs) ys e = absurd cc

-- ---- a rule that isn't broken holds

judge_holds : (holds : Bool) (b : Breach) → judge holds b ≡ [] → holds ≡ true
judge_holds true b e = refl
judge_holds false b e = absurd cc

most_holds : (rule picture have need : ℕ) → at_most rule picture have need ≡ [] → have ≤ need
most_holds rule picture have need none = leb-true have need (judge_holds (nat_le have need) (breach rule picture have need) none)

not_below : (below : Bool) (b : Breach) (bs : Breaches) → (if below then b ∷ [] else bs) ≡ [] → (below ≡ false) × (bs ≡ [])
not_below true b bs e = absurd cc
not_below false b bs e = (refl, e)

within_holds : (rule picture have low high : ℕ) → within rule picture have low high ≡ [] → (low ≤ have) × (have ≤ high)
within_holds rule picture have low high none =
    let h = not_below (nat_lt have low) (breach rule picture have low) (at_most rule picture have high) none in
    (ltb-false have low h.0, most_holds rule picture have high h.1)

-- ---- the first sequence header

-- no level has a frame rate beyond table 6-4
most_codes : (l : Level) → (limits_of l).codes ≤ 8
unfolding limits_of
most_codes Main = omega arith
most_codes High1440 = omega arith
most_codes High = omega arith

frame_rate_holds : (s : Sequence) → frame_rate_rule s ≡ [] → has_frame_rate s ≡ true
unfolding frame_rate_rule
frame_rate_holds s none =
    let code = s.info.frame_rate_code in
    let n = s.extension.rate_n in
    let d = s.extension.rate_d in
    let bounds = within_holds 4 0 code 1 (limits_in s).codes (none_before _ (at_most 4 0 (32 * n + d) 0) none) in
    let least = most_holds 4 0 (32 * n + d) 0 (none_behind (within 4 0 code 1 (limits_in s).codes) _ none) in
    let most : code ≤ 8 = omega (arith, bounds.1, most_codes (level_in s)) in
    let no_n : n ≡ 0 = omega (arith, least) in
    let no_d : d ≡ 0 = omega (arith, least) in
    and_from (nat_le 1 code && nat_le code 8) (nat_eq n 0 && nat_eq d 0)
    (and_from (nat_le 1 code) (nat_le code 8) (le-leb 1 code bounds.0) (le-leb code 8 most))
    (and_from (nat_eq n 0) (nat_eq d 0) (ap (λ (k : ℕ). nat_eq k 0) no_n) (ap (λ (k : ℕ). nat_eq k 0) no_d))

-- a rule that no sequence header breaks the first one doesn't break
at_first : (rule : Sequence → Breaches) (es : Events) (s : Sequence) → first_in None es ≡ Some s → flat_map rule (sequences_in es) ≡ [] → rule s ≡ []
at_first rule [] s e none = absurd cc
at_first rule (sequence_header t ∷ es) s e none =
    let is : Some t ≡ Some s = sym (first_stays t es) ∙ e in
    let same : t ≡ s = cc in
    subst (λ (x : Sequence). rule x ≡ []) same (none_before (rule t) (flat_map rule (sequences_in es)) none)
at_first rule (group_header g ∷ es) s e none = at_first rule es s e none
at_first rule (coded_picture p ∷ es) s e none = at_first rule es s e none

account_where : (es : Events) (s : Sequence) → first_in None es ≡ Some s → sequence_breaches (sequences_in es) ≡ [] → has_account s ≡ true
account_where es s e none =
    let ss = sequences_in es in
    let to_rates = none_before _ (flat_map buffer_rule ss) none in
    let to_lumas = none_before _ (flat_map rate_rule ss) to_rates in
    let to_frame_rates = none_before _ (flat_map luma_rule ss) to_lumas in
    let rate = at_first rate_rule es s e (none_behind _ (flat_map rate_rule ss) to_rates) in
    let buffer = at_first buffer_rule es s e (none_behind _ (flat_map buffer_rule ss) none) in
    let frame_rate = at_first frame_rate_rule es s e (none_behind _ (flat_map frame_rate_rule ss) to_frame_rates) in
    and_from (keeps (rate_rule s) && keeps (buffer_rule s)) (has_frame_rate s)
    (and_from (keeps (rate_rule s)) (keeps (buffer_rule s)) (ap keeps rate) (ap keeps buffer))
    (frame_rate_holds s frame_rate)

-- ---- pictures

once_by : (repeat progressive plain frame : Bool) (b : Breach) → judge (not (true && repeat && (progressive || not plain || not frame))) b ≡ [] → (progressive && (frame && repeat)) ≡ false
once_by repeat false plain frame b e = refl
once_by repeat true plain false b e = refl
once_by false true plain true b e = refl
once_by true true plain true b e = absurd cc

once_where : (low_delay : Bool) (all : List Numbered) (n : Numbered) → picture_breaches low_delay true all n ≡ [] → IsOnceAmong n
unfolding picture_breaches repeat_rule
once_where low_delay all n none =
    let e = n.picture.extension in
    let to_progressive = none_before _ (precision_rule n) none in
    let to_repeat = none_before _ (progressive_rule n) to_progressive in
    once_by e.repeat_first_field n.sequence.extension.progressive_sequence e.progressive_frame (is_frame e) (breach 13 n.number 1 0) (none_behind _ (repeat_rule true n) to_repeat)

all_once : (low_delay : Bool) (all ns : List Numbered) → flat_map (picture_breaches low_delay true all) ns ≡ [] → AllByRecursion IsOnceAmong ns
all_once low_delay all [] none = tt
all_once low_delay all (n ∷ ns) none =
    let here = picture_breaches low_delay true all n in
    let later = flat_map (picture_breaches low_delay true all) ns in
    (once_where low_delay all n (none_before here later none), all_once low_delay all ns (none_behind here later none))

-- ---- the whole

pub record Keeps (es : Events) : Type 0 where
  pub account : (s : Sequence) → first_in None es ≡ Some s → has_account s ≡ true
  pub once : AllByRecursion IsOnceAmong (all_numbered es)

pub keeps_where : (low_delay : Bool) (es : Events) → is_variable (all_numbered es) ≡ false → breaches low_delay es ≡ [] → Keeps es
unfolding breaches
keeps_where low_delay es steady none =
    let all = all_numbered es in
    let headers = sequence_breaches (sequences_in es) in
    let pictures = flat_map (picture_breaches low_delay (not (is_variable all)) all) all in
    record {
      account = λ s e. account_where es s e (none_before headers pictures none);
      once = all_once low_delay all all (subst (λ (v : Bool). flat_map (picture_breaches low_delay (not v) all) all ≡ []) steady (none_behind headers pictures none));
    }
