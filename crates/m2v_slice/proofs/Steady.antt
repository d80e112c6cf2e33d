-- Each slice of a book can be coded within its cap, and each size lies within the cap of its plan.
use Rattle.std.proofs.Common.{◌≡◌, ℕ, zero, suc, ◌+◌, ◌*◌, ◌/◌, ◌%◌, ◌<◌, ◌≤◌, true, false, cond, List, [], ◌∷◌, ◌++◌, length, map, take, refl, sym, ap, subst, ◌∙◌, arith}
use Rattle.std.specs.Prelude.{nat_eq, nat_lt, sum_by, Bool}
use Rattle.std.specs.List.{range_with_len}
use Rattle.std.proofs.lemmas.Bool.{cond_both}
use Rattle.std.proofs.lemmas.List.{map-append}
use Rattle.std.proofs.lemmas.List.FromFn.{map-range_with_len_more, sum_by-map-range_with_len_more}
use Rattle.std.proofs.Math.Seq.{take-length}
use Rattle.m2v_plane.specs.declared.dims.Dims.{Dims}
use Rattle.m2v_plane.specs.declared.planes.Plane.TheVariants.{Y}
use Rattle.m2v_plane.specs.Sizes.{IsSize, lines_of}
use Rattle.m2v_pred.specs.Motion.{own_lines}
use Rattle.m2v_set.specs.declared.settings.Settings.{Settings}
use Rattle.m2v_set.specs.Numbers.{dims_of, buffer_bits, least_of, rows_by, slice_least, mb_width_of}
use Rattle.m2v_set.specs.Bounds.{Bounds}
use Rattle.m2v_set.proofs.Facts.{bounds}
use Rattle.m2v_order.specs.declared.jobs.PictureJob.{PictureJob}
use Rattle.m2v_rate.specs.declared.values.Plan.{Plan}
use Rattle.m2v_rate.specs.Plans.{Entries, first_open, plan_of, spare, slice_cap_of, with_plan, with_size}
use Rattle.m2v_rate.specs.Steady.{IsSteady}
use Rattle.m2v_rate.proofs.Caps.{slices_sum}
use Rattle.m2v_rate.proofs.Targets.{sum_more}
use Rattle.m2v_rate.proofs.Keeps.{cap_most}
use Rattle.m2v_rate.proofs.BothPlans.{plan_is}
use Rattle.m2v_choose.specs.Own.{IsOwn}
use Rattle.m2v_slice.specs.Slices.{CodedSlice, slice_of}
use Rattle.m2v_slice.specs.Laws.{IsSlice}
use Rattle.m2v_slice.proofs.Fits.{slice_fits}
use Rattle.m2v_slice.specs.Headers.{begins_group, context_of, extension_of, header_bits}
use Rattle.m2v_slice.specs.Books.{Book, CodedPicture, rows, job_at, picture_at, size_of, work_of, ledger_with, ledger_for, task_of, next_picture, coded}
use Rattle.m2v_slice.specs.Conditions.{IsBook}
use Rattle.m2v_slice.proofs.Coded.{count, picture_is, coded_more, picture_stays, slices_are}
use Rattle.m2v_slice.proofs.Groups.{size_is, structure_low, row_within, passes_of, picture_is_one, source_size}

-- ---- plans

-- what is known of a plan
pub record IsPlan (s : Settings) (x : Plan) : Type 0 where
  pub least : least_of s ≤ x.cap
  pub most : x.cap ≤ buffer_bits s
  pub bytes : x.cap % 8 ≡ 0
  pub q : (1 ≤ x.q) × (x.q ≤ 31)

pub plan_good : (l : Entries) (p : ℕ) → IsSteady l → p < length l.kinds → IsPlan l.settings (plan_of l p)
plan_good l p h lt =
    let is = plan_is l p h.begun lt in
    record {
      least = is.least;
      most = cap_most l p h.begun lt;
      bytes = is.bytes;
      q = is.code;
    }

-- ---- slices

own_context : (s : Settings) (job : PictureJob) → Bounds s → (1 ≤ job.kind) × (job.kind ≤ 3) → (1 ≤ job.structure) × (job.structure ≤ 3)
    → IsOwn (context_of s job)
unfolding context_of extension_of
own_context s job h kind structure = record {
  kind = kind;
  structure = structure;
  columns = (omega (arith, h.size.wide), omega (arith, h.size.width));
  f_code = refl;
  precision = refl;
  concealment = refl;
  scale = refl;
  table = refl;
  intra = refl;
  non_intra = refl;
}

least_enough : (s : Settings) (n : ℕ) → least_of s ≤ n → 416 ≤ n
unfolding least_of
least_enough s n le = omega arith

least_within : (s : Settings) (cap r : ℕ) → slice_least (mb_width_of s) ≤ slice_cap_of s cap r
unfolding slice_cap_of
least_within s cap r = omega arith

eight : (t : Bool) → cond t 8 0 % 8 ≡ 0
eight true = refl
eight false = refl

cap_bytes : (s : Settings) (most r : ℕ) → slice_cap_of s most r % 8 ≡ 0
unfolding slice_cap_of slice_least
cap_bytes s most r = omega (arith, eight (nat_lt r (spare s most / 8 % rows_by s.scan s.height)))

-- a slice of a picture can be coded with a plan that is good
pub task_is : (b : Book) → IsBook b → (done : List CodedPicture) (p : ℕ) (plan : Plan) (r : ℕ) → p < length b.pictures → r < rows b
    → IsPlan b.settings plan → IsSlice (task_of b done p plan r)
unfolding task_of context_of extension_of dims_of
task_is b h done p plan r lt small good =
    let known = bounds b.settings (passes_of b h) in
    let picture = picture_is_one b h p lt in
    let size = source_size b h p lt in
    record {
      own = own_context b.settings (job_at b p) known picture.kind (structure_low b.settings.scan (job_at b p).structure picture.structure);
      size = subst IsSize (sym size) (size_is b.settings known);
      columns = sym (ap (λ (d : Dims). d.mb_width) size);
      row = subst (λ (d : Dims). 16 * r + 16 ≤ lines_of d Y (own_lines (job_at b p).structure)) (sym size)
          (row_within b.settings.scan b.settings.height (job_at b p).structure r picture.structure small);
      q = good.q;
      search = known.choice.search;
      least = least_within b.settings plan.cap r;
      edge = cap_bytes b.settings plan.cap r;
    }

-- ---- sizes

sum_within : (f : ℕ → CodedSlice) (g : ℕ → ℕ) (n : ℕ) → ((r : ℕ) → r < n → length (f r).text ≤ g r)
    → sum_by (λ (x : CodedSlice). length x.text) (map f (range_with_len 0 n)) ≤ sum_by g (range_with_len 0 n)
sum_within f g zero each = omega arith
sum_within f g (suc n) each =
    let len = λ (x : CodedSlice). length x.text in
    let rec = sum_within f g n (λ r lt. each r (omega arith)) in
    let more = sum_by-map-range_with_len_more len f 0 n n (omega arith) in
    let caps = sum_more g 0 n in
    let here : g (0 + n) ≡ g n = ap g (omega arith) in
    let e : n + 1 ≡ suc n = omega arith in
    subst (λ (m : ℕ). sum_by len (map f (range_with_len 0 m)) ≤ sum_by g (range_with_len 0 m)) e
    (omega (arith, rec, more, caps, here, each n (omega arith)))

works_within : (f : ℕ → CodedSlice) (n : ℕ) → ((r : ℕ) → r < n → (f r).work ≤ 31 * length (f r).text)
    → sum_by (λ (x : CodedSlice). x.work) (map f (range_with_len 0 n)) ≤ 31 * sum_by (λ (x : CodedSlice). length x.text) (map f (range_with_len 0 n))
works_within f zero each = omega arith
works_within f (suc n) each =
    let len = λ (x : CodedSlice). length x.text in
    let work = λ (x : CodedSlice). x.work in
    let rec = works_within f n (λ r lt. each r (omega arith)) in
    let bits = sum_by-map-range_with_len_more len f 0 n n (omega arith) in
    let more = sum_by-map-range_with_len_more work f 0 n n (omega arith) in
    let e : n + 1 ≡ suc n = omega arith in
    subst (λ (m : ℕ). sum_by work (map f (range_with_len 0 m)) ≤ 31 * sum_by len (map f (range_with_len 0 m))) e
    (omega (arith, rec, bits, more, each n (omega arith)))

pub header_small : (job : PictureJob) → header_bits job ≤ 376
unfolding header_bits
header_small job = cond_both (begins_group job) _ _ (λ (n : ℕ). n ≤ 376) (λ e. omega arith)
    (λ e. cond_both (nat_eq job.kind 1) _ _ (λ (n : ℕ). n ≤ 376) (λ f. omega arith) (λ f. omega arith))

cap_of : (b : Book) (done : List CodedPicture) (p : ℕ) (plan : Plan) (r : ℕ) → (task_of b done p plan r).cap ≡ slice_cap_of b.settings plan.cap r
unfolding task_of
cap_of b done p plan r = refl

pub next_within : (b : Book) → IsBook b → (p : ℕ) → p < length b.pictures → IsPlan b.settings (next_picture b (coded b p)).plan
    → sum_by (λ (x : CodedSlice). length x.text) (next_picture b (coded b p)).slices + 416 ≤ (next_picture b (coded b p)).plan.cap
next_within b h p lt good =
    let x = next_picture b (coded b p) in
    let len = λ (x : CodedSlice). length x.text in
    let within = sum_within (λ r. slice_of (task_of b (coded b p) p x.plan r)) (λ r. slice_cap_of b.settings x.plan.cap r) (rows b)
    (λ r small. subst (λ (n : ℕ). length (slice_of (task_of b (coded b p) p x.plan r)).text ≤ n) (cap_of b (coded b p) p x.plan r)
    (slice_fits (task_of b (coded b p) p x.plan r) (task_is b h (coded b p) p x.plan r lt small good)).cap) in
    let same = ap (sum_by len) (slices_are b p) in
    let sum = slices_sum b.settings x.plan.cap (passes_of b h) good.least good.bytes in
    let enough : 416 ≤ x.plan.cap = least_enough b.settings x.plan.cap good.least in
    omega (arith, within, same, sum, enough)

-- the work of a picture is at most 31 times the bits of its slices
pub next_work : (b : Book) → IsBook b → (p : ℕ) → p < length b.pictures → IsPlan b.settings (next_picture b (coded b p)).plan
    → sum_by (λ (x : CodedSlice). x.work) (next_picture b (coded b p)).slices ≤ 31 * sum_by (λ (x : CodedSlice). length x.text) (next_picture b (coded b p)).slices
next_work b h p lt good =
    let x = next_picture b (coded b p) in
    subst (λ (xs : List CodedSlice). sum_by (λ (s : CodedSlice). s.work) xs ≤ 31 * sum_by (λ (s : CodedSlice). length s.text) xs) (sym (slices_are b p))
    (works_within (λ r. slice_of (task_of b (coded b p) p x.plan r)) (rows b)
    (λ r small. (slice_fits (task_of b (coded b p) p x.plan r) (task_is b h (coded b p) p x.plan r lt small good)).work))

pub work_within : (b : Book) → IsBook b → (n p : ℕ) → p < n → p < length b.pictures → IsPlan b.settings (picture_at (coded b n) p).plan
    → work_of (coded b n) p ≤ 31 * size_of b (coded b n) p
work_within b h n p below lt good =
    let is = picture_is b n p below in
    subst (λ (x : CodedPicture). sum_by (λ (s : CodedSlice). s.work) x.slices ≤ 31 * (header_bits (job_at b p) + sum_by (λ (s : CodedSlice). length s.text) x.slices)) (sym is)
    (omega (arith, next_work b h p lt (subst (λ (x : CodedPicture). IsPlan b.settings x.plan) is good)))

pub size_within : (b : Book) → IsBook b → (n p : ℕ) → p < n → p < length b.pictures → IsPlan b.settings (picture_at (coded b n) p).plan
    → size_of b (coded b n) p ≤ (picture_at (coded b n) p).plan.cap
size_within b h n p below lt good =
    let is = picture_is b n p below in
    subst (λ (x : CodedPicture). header_bits (job_at b p) + sum_by (λ (s : CodedSlice). length s.text) x.slices ≤ x.plan.cap) (sym is)
    (omega (arith, header_small (job_at b p), next_within b h p lt (subst (λ (x : CodedPicture). IsPlan b.settings x.plan) is good)))

-- ---- ledgers

-- the ledger with the sizes of the first n pictures, and the plans of the first p
abbrev pub ledger_at : Book → ℕ → ℕ → Entries
ledger_at b n p = ledger_with b (coded b p) n (coded b p)

pub ledger_for_is : (b : Book) (p : ℕ) → ledger_for b (coded b p) p ≡ ledger_at b (first_open p) p
ledger_for_is b p =
    let e : take p (coded b p) ≡ coded b p = ap (λ (k : ℕ). take k (coded b p)) (sym (count b p)) ∙ take-length (coded b p) in
    ap (ledger_with b (coded b p) (first_open p)) e

pub same_map : {A : Type 0} (f g : ℕ → A) (n : ℕ) → ((i : ℕ) → i < n → f i ≡ g i) → map f (range_with_len 0 n) ≡ map g (range_with_len 0 n)
same_map f g zero each = refl
same_map f g (suc n) each =
    let e : n + 1 ≡ suc n = omega arith in
    let rec = same_map f g n (λ i lt. each i (omega arith)) in
    subst (λ (m : ℕ). map f (range_with_len 0 m) ≡ map g (range_with_len 0 m)) e
    (map-range_with_len_more f 0 n n (omega arith) ∙ rw (rec, each n (omega arith)) (sym (map-range_with_len_more g 0 n n (omega arith))))

pub sizes_stay : (b : Book) (n p m : ℕ) → n ≤ p → n ≤ m → map (size_of b (coded b p)) (range_with_len 0 n) ≡ map (size_of b (coded b m)) (range_with_len 0 n)
sizes_stay b n p m le lm =
    same_map (size_of b (coded b p)) (size_of b (coded b m)) n
    (λ i lt. ap (λ (x : CodedPicture). header_bits (job_at b i) + sum_by (λ (s : CodedSlice). length s.text) x.slices) (picture_stays b p m i (omega arith) (omega arith)))

pub works_stay : (b : Book) (n p m : ℕ) → n ≤ p → n ≤ m → map (work_of (coded b p)) (range_with_len 0 n) ≡ map (work_of (coded b m)) (range_with_len 0 n)
works_stay b n p m le lm =
    same_map (work_of (coded b p)) (work_of (coded b m)) n
    (λ i lt. ap (λ (x : CodedPicture). sum_by (λ (s : CodedSlice). s.work) x.slices) (picture_stays b p m i (omega arith) (omega arith)))

plans_more : (b : Book) (p : ℕ) (f : CodedPicture → ℕ) → map f (coded b (p + 1)) ≡ map f (coded b p) ++ f (next_picture b (coded b p)) ∷ []
plans_more b p f = ap (map f) (coded_more b p) ∙ map-append f (coded b p) (next_picture b (coded b p) ∷ [])

-- a picture more is planned
pub ledger_planned : (b : Book) (n p : ℕ) → n ≤ p → ledger_at b n (p + 1) ≡ with_plan (ledger_at b n p) (next_picture b (coded b p)).plan
unfolding ledger_with
ledger_planned b n p le =
    rw (
      sizes_stay b n (p + 1) p (omega arith) le,
      works_stay b n (p + 1) p (omega arith) le,
      plans_more b p (λ (x : CodedPicture). x.plan.q),
      plans_more b p (λ (x : CodedPicture). x.plan.cap),
      plans_more b p (λ (x : CodedPicture). x.plan.target),
    ) refl

-- a size and a work more are known
pub ledger_known : (b : Book) (n p : ℕ) → ledger_at b (n + 1) p ≡ with_size (ledger_at b n p) (size_of b (coded b p) n) (work_of (coded b p) n)
unfolding ledger_with
ledger_known b n p =
    rw (
      map-range_with_len_more (size_of b (coded b p)) 0 n n (omega arith),
      map-range_with_len_more (work_of (coded b p)) 0 n n (omega arith),
    ) refl
