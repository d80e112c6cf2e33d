-- The ledger of a plan's job, of what its cache knows.
use Rattle.std.proofs.Common.{◌≡◌, ℕ, ◌+◌, ◌-◌, ◌*◌, ◌<◌, ◌≤◌, ◌^◌, length, sym, ap, subst, ◌∙◌, arith}
use Rattle.std.specs.Prelude.{slice_index}
use Rattle.m2v_set.proofs.Facts.{bounds}
use Rattle.m2v_order.specs.declared.jobs.PictureJob.{PictureJob}
use Rattle.m2v_rate.specs.declared.values.Plan.{Plan}
use Rattle.m2v_rate.specs.Plans.{Entries, first_open, plan_of, with_plan, with_size}
use Rattle.m2v_slice.specs.Headers.{header_bits}
use Rattle.m2v_slice.specs.Books.{Book, CodedPicture, job_at, picture_at, size_of, work_of, coded}
use Rattle.m2v_slice.specs.Cached.{Cached}
use Rattle.m2v_slice.specs.Conditions.{IsBook}
use Rattle.m2v_slice.specs.Works.{HasLearnedPlan}
use Rattle.m2v_slice.proofs.Coded.{picture_is}
use Rattle.m2v_slice.proofs.Groups.{passes_of}
use Rattle.m2v_slice.proofs.Steady.{ledger_at, size_within, work_within, ledger_planned, ledger_known}
use Rattle.m2v_slice.proofs.Sound.{ledger_settings, ledger_kinds, ledger_caps, ledger_sizes, ledger_cap, ledger_none, plan_of_next, plan_is_good}

pub first_ledger : (b : Book) → IsBook b → (p : ℕ) → p ≡ 0 → b.ledger ≡ ledger_at b (first_open p) p
first_ledger b h p e = subst (λ (i : ℕ). b.ledger ≡ ledger_at b (first_open i) i) (sym e) (sym (ledger_none b h))

module _ (b : Book) (h : IsBook b) (p : ℕ) (c : Cached) (known : HasLearnedPlan b p c) (lt : p < length b.pictures) where
  pub early_ledger : (l : Entries) → l ≡ c.ledger → 1 ≤ p → p < 4 → l ≡ ledger_at b (first_open p) p
  early_ledger l e some few =
      let s : first_open (p - 1) ≡ first_open p = omega arith in
      e ∙ known.ledger some ∙ ap (λ (n : ℕ). ledger_at b n p) s

  before : (l : Entries) → l ≡ c.ledger → 4 ≤ p → l ≡ ledger_at b (p - 4) p
  before l e four =
      let s : first_open (p - 1) ≡ p - 4 = omega arith in
      e ∙ known.ledger (omega arith) ∙ ap (λ (n : ℕ). ledger_at b n p) s

  -- what the ledger is asked for
  pub record MayKnow (l : Entries) (bits work : ℕ) : Type 0 where
    pub picture : p - 4 < length l.kinds
    pub first : p - 4 ≡ length l.sizes
    pub planned : p - 4 < length l.caps
    pub within : bits ≤ slice_index l.caps (p - 4)
    pub measured : work ≤ 31 * bits
    pub small : bits < 2 ^ 64
    pub after : with_size l bits work ≡ ledger_at b (first_open p) p

  size_is : (j : PictureJob) (bits : ℕ) → j ≡ job_at b (p - 4) → 4 ≤ p → bits ≡ header_bits j + c.bits → bits ≡ size_of b (coded b p) (p - 4)
  size_is j bits e four f =
      f ∙ ap (λ (x : PictureJob). header_bits x + c.bits) e ∙ ap (λ (n : ℕ). header_bits (job_at b (p - 4)) + n) (known.bits four)

  at_known : (bits work : ℕ) → 4 ≤ p → bits ≡ size_of b (coded b p) (p - 4) → work ≡ work_of (coded b p) (p - 4) → MayKnow (ledger_at b (p - 4) p) bits work
  at_known bits work four e f =
      let n = p - 4 in
      let good = plan_is_good b h p n (omega arith) (omega arith) in
      let size = size_within b h p n (omega arith) (omega arith) good in
      let least = work_within b h p n (omega arith) (omega arith) good in
      let most = ledger_cap b n p n (omega arith) in
      let s : n + 1 ≡ first_open p = omega arith in
      record {
        picture = omega (arith, ledger_kinds b h n p);
        first = sym (ledger_sizes b n p);
        planned = omega (arith, ledger_caps b n p);
        within = omega (arith, size, most, e);
        measured = omega (arith, least, e, f);
        small = omega (arith, size, e, good.most, (bounds b.settings (passes_of b h)).size.buffer);
        after = ap (λ (k : ℕ). with_size (ledger_at b n p) k work) e ∙ ap (with_size (ledger_at b n p) (size_of b (coded b p) n)) f ∙ sym (ledger_known b n p) ∙ ap (λ (k : ℕ). ledger_at b k p) s;
      }

  pub may_know : (l : Entries) (j : PictureJob) (bits work : ℕ) → l ≡ c.ledger → 4 ≤ p → j ≡ job_at b (p - 4) → bits ≡ header_bits j + c.bits → work ≡ c.work
      → MayKnow l bits work
  may_know l j bits work e four f g w =
      subst (λ (x : Entries). MayKnow x bits work) (sym (before l e four)) (at_known bits work four (size_is j bits f four g) (w ∙ known.work four))

module _ (b : Book) (h : IsBook b) (p : ℕ) (lt : p < length b.pictures) where
  -- what a plan is asked for, and the ledger with it
  pub record MayPlan (l : Entries) : Type 0 where
    pub settings : l.settings ≡ b.settings
    pub picture : p < length l.kinds
    pub first : p ≡ length l.caps
    pub known : p ≤ length l.sizes + 3
    pub plan : (x : Plan) → x ≡ plan_of l p → x ≡ (picture_at (coded b (p + 1)) p).plan
    pub after : (x : Plan) → x ≡ plan_of l p → with_plan l x ≡ ledger_at b (first_open p) (p + 1)

  at_planned : MayPlan (ledger_at b (first_open p) p)
  at_planned =
      let n = first_open p in
      record {
        settings = ledger_settings b h n p;
        picture = omega (arith, lt, ledger_kinds b h n p);
        first = sym (ledger_caps b n p);
        known = omega (arith, ledger_sizes b n p);
        plan = λ x e. e ∙ sym (plan_of_next b p) ∙ ap (λ (y : CodedPicture). y.plan) (sym (picture_is b (p + 1) p (omega arith)));
        after = λ x e. ap (with_plan (ledger_at b n p)) (e ∙ sym (plan_of_next b p)) ∙ sym (ledger_planned b n p (omega arith));
      }

  pub may_plan : (l : Entries) → l ≡ ledger_at b (first_open p) p → MayPlan l
  may_plan l e = subst MayPlan (sym e) at_planned
