-- The ledgers of a book are ledgers, and its plans are good, from one picture to the next.
use Rattle.std.proofs.Common.{◌≡◌, ℕ, zero, suc, ◌+◌, ◌<◌, ◌≤◌, List, [], length, get_or, sym, ap, subst, ◌∙◌, arith, inl, inr}
use Rattle.std.proofs.lemmas.Bool.{cases_lt}
use Rattle.std.proofs.lemmas.List.{length-map, get_or-map}
use Rattle.std.proofs.lemmas.List.FromFn.{length-map-range_with_len}
use Rattle.m2v_set.specs.declared.settings.Settings.{Settings}
use Rattle.m2v_order.specs.declared.jobs.PictureJob.{PictureJob}
use Rattle.m2v_rate.specs.declared.values.Plan.{Plan}
use Rattle.m2v_rate.specs.Plans.{Entries, first_open, plan_of, begun, with_plan, with_size}
use Rattle.m2v_rate.specs.Seen.{Told, told}
use Rattle.m2v_rate.proofs.Keeps.{planned_steady, known_steady}
use Rattle.m2v_slice.specs.Books.{Book, CodedPicture, picture_at, size_of, work_of, ledger_with, next_picture, coded}
use Rattle.m2v_slice.specs.Conditions.{IsSteadyLedger, IsBook}
use Rattle.m2v_slice.proofs.Coded.{none, count, picture_is, picture_stays, next_plan}
use Rattle.m2v_slice.proofs.Steady.{IsPlan, plan_good, size_within, ledger_at, ledger_for_is, ledger_planned, ledger_known}

-- ---- a ledger's parts

pub ledger_settings : (b : Book) → IsBook b → (n p : ℕ) → (ledger_at b n p).settings ≡ b.settings
unfolding ledger_with
ledger_settings b h n p = ap (λ (l : Entries). l.settings) h.ledger.begun ∙ h.ledger.settings

pub ledger_kinds : (b : Book) → IsBook b → (n p : ℕ) → length (ledger_at b n p).kinds ≡ length b.pictures
unfolding ledger_with
ledger_kinds b h n p =
    ap (λ (l : Entries). length l.kinds) h.ledger.begun ∙ length-map b.pictures (λ (j : PictureJob). j.kind)

pub ledger_caps : (b : Book) (n p : ℕ) → length (ledger_at b n p).caps ≡ p
unfolding ledger_with
ledger_caps b n p = length-map (coded b p) (λ (x : CodedPicture). x.plan.cap) ∙ count b p

pub ledger_sizes : (b : Book) (n p : ℕ) → length (ledger_at b n p).sizes ≡ n
unfolding ledger_with
ledger_sizes b n p = length-map-range_with_len (size_of b (coded b p)) 0 n

pub ledger_cap : (b : Book) (n p q : ℕ) → q < p → get_or (ledger_at b n p).caps q 0 ≡ (picture_at (coded b p) q).plan.cap
unfolding ledger_with
ledger_cap b n p q lt =
    get_or-map (λ (x : CodedPicture). x.plan.cap) (coded b p) q none 0 (omega (arith, lt, count b p))

pub ledger_works : (b : Book) (n p : ℕ) → length (ledger_at b n p).works ≡ n
unfolding ledger_with
ledger_works b n p = length-map-range_with_len (work_of (coded b p)) 0 n

nothing : Told
nothing = record { sizes = []; works = []; quantisers = []; caps = []; targets = [] }

told_none : (l from : Entries) (kinds intervals activities : List ℕ) → l ≡ begun from kinds intervals activities → told l nothing ≡ l
unfolding nothing
told_none l from kinds intervals activities e = ap (λ (x : Entries). told x nothing) e ∙ sym e

pub ledger_none : (b : Book) → IsBook b → ledger_at b 0 0 ≡ b.ledger
unfolding ledger_with coded nothing
ledger_none b h = told_none b.ledger h.ledger.from _ _ _ h.ledger.begun

-- ---- from picture to picture

pub planned_on : (l : Entries) (p : ℕ) (x : Plan) → IsSteadyLedger l → p < length l.kinds → p ≡ length l.caps → p ≤ length l.sizes + 3 → x ≡ plan_of l p
    → IsSteadyLedger (with_plan l x)
planned_on l p x h group first known e =
    let same : x ≡ plan_of l (length l.caps) = e ∙ ap (plan_of l) first in
    record { few = h.few; removals = h.removals; steady = rw same (planned_steady l h.steady (omega arith) (omega arith)) }

pub known_on : (l : Entries) (p bits work : ℕ) → IsSteadyLedger l → p ≡ length l.sizes → p < length l.caps → bits ≤ get_or l.caps p 0 → IsSteadyLedger (with_size l bits work)
known_on l p bits work h first planned within =
    let here : get_or l.caps p 0 ≡ get_or l.caps (length l.sizes) 0 = ap (λ (k : ℕ). get_or l.caps k 0) first in
    record { few = h.few; removals = h.removals; steady = known_steady l bits work h.steady (omega arith) (omega (arith, here)) }

-- before picture p: the ledger that its plan is made of, and the plans so far
pub record Sound (b : Book) (p : ℕ) : Type 0 where
  pub ledger : IsSteadyLedger (ledger_at b (first_open p) p)
  pub plans : (q : ℕ) → q < p → IsPlan b.settings (picture_at (coded b p) q).plan

pub plan_of_next : (b : Book) (p : ℕ) → (next_picture b (coded b p)).plan ≡ plan_of (ledger_at b (first_open p) p) p
plan_of_next b p = next_plan b p ∙ ap (λ (l : Entries). plan_of l p) (ledger_for_is b p)

next_good : (b : Book) → IsBook b → (p : ℕ) → p < length b.pictures → IsSteadyLedger (ledger_at b (first_open p) p)
    → IsPlan b.settings (next_picture b (coded b p)).plan
next_good b h p lt l =
    let n = first_open p in
    let good = plan_good (ledger_at b n p) p l.steady (omega (arith, lt, ledger_kinds b h n p)) in
    subst (λ (s : Settings). IsPlan s (next_picture b (coded b p)).plan) (ledger_settings b h n p)
    (subst (IsPlan (ledger_at b n p).settings) (sym (plan_of_next b p)) good)

-- with the plan of picture p
pub planned : (b : Book) → IsBook b → (p : ℕ) → p < length b.pictures → IsSteadyLedger (ledger_at b (first_open p) p) → IsSteadyLedger (ledger_at b (first_open p) (p + 1))
planned b h p lt l =
    let n = first_open p in
    subst IsSteadyLedger (sym (ledger_planned b n p (omega arith)))
    (planned_on (ledger_at b n p) p (next_picture b (coded b p)).plan l (omega (arith, lt, ledger_kinds b h n p))
    (sym (ledger_caps b n p)) (omega (arith, ledger_sizes b n p)) (plan_of_next b p))

plans_more : (b : Book) → IsBook b → (p : ℕ) → p < length b.pictures → Sound b p → (q : ℕ) → q < p + 1 → IsPlan b.settings (picture_at (coded b (p + 1)) q).plan
plans_more b h p lt s q small = elim (cases_lt q p) [
  | inl below ↦ subst (λ (x : CodedPicture). IsPlan b.settings x.plan) (picture_stays b p (p + 1) q below small) (s.plans q below)
  | inr past ↦
      let e : q ≡ p = omega arith in
      subst (λ (i : ℕ). IsPlan b.settings (picture_at (coded b (p + 1)) i).plan) (sym e)
      (subst (λ (x : CodedPicture). IsPlan b.settings x.plan) (sym (picture_is b (p + 1) p (omega arith))) (next_good b h p lt s.ledger))
]

known_more : (b : Book) → IsBook b → (p : ℕ) → p < length b.pictures → Sound b p → 3 ≤ p → IsSteadyLedger (ledger_at b (first_open p + 1) (p + 1))
known_more b h p lt s three =
    let n = first_open p in
    let plan = plans_more b h p lt s n (omega arith) in
    let size = size_within b h (p + 1) n (omega arith) (omega arith) plan in
    let cap = ledger_cap b n (p + 1) n (omega arith) in
    subst IsSteadyLedger (sym (ledger_known b n (p + 1)))
    (known_on (ledger_at b n (p + 1)) n (size_of b (coded b (p + 1)) n) (work_of (coded b (p + 1)) n) (planned b h p lt s.ledger) (sym (ledger_sizes b n (p + 1)))
    (omega (arith, ledger_caps b n (p + 1))) (omega (arith, size, cap)))

next_ledger : (b : Book) → IsBook b → (p : ℕ) → p < length b.pictures → Sound b p → IsSteadyLedger (ledger_at b (first_open (p + 1)) (p + 1))
next_ledger b h p lt s = elim (cases_lt p 3) [
  | inl early ↦
      let e : first_open p ≡ first_open (p + 1) = omega arith in
      subst (λ (n : ℕ). IsSteadyLedger (ledger_at b n (p + 1))) e (planned b h p lt s.ledger)
  | inr three ↦
      let e : first_open p + 1 ≡ first_open (p + 1) = omega arith in
      subst (λ (n : ℕ). IsSteadyLedger (ledger_at b n (p + 1))) e (known_more b h p lt s three)
]

sound_next : (b : Book) → IsBook b → (p : ℕ) → p < length b.pictures → Sound b p → Sound b (p + 1)
sound_next b h p lt s = record { ledger = next_ledger b h p lt s; plans = plans_more b h p lt s }

pub sound : (b : Book) → IsBook b → (p : ℕ) → p ≤ length b.pictures → Sound b p
sound b h zero le = record {
  ledger = subst IsSteadyLedger (sym (ledger_none b h)) h.ledger.ledger;
  plans = λ q lt. absurd (omega arith);
}
sound b h (suc p) le =
    let e : p + 1 ≡ suc p = omega arith in
    subst (Sound b) e (sound_next b h p (omega arith) (sound b h p (omega arith)))

-- the plan of each picture is good
pub plan_is_good : (b : Book) → IsBook b → (n p : ℕ) → p < n → n ≤ length b.pictures → IsPlan b.settings (picture_at (coded b n) p).plan
plan_is_good b h n p lt le = (sound b h n le).plans p lt
