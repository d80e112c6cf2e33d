-- A slice of a picture, of what its cache knows.
use Rattle.std.proofs.Common.{◌≡◌, ℕ, ◌+◌, ◌^◌, ◌<◌, ◌≤◌, List, length, get_or, refl, sym, ap, subst, ◌∙◌, arith, inl, inr}
use Rattle.std.specs.Prelude.{nat_eq}
use Rattle.std.proofs.lemmas.Bool.{cases_eq, cond-true, eq-eqb, ne_eqb}
use Rattle.m2v_plane.specs.Samples.{Samples}
use Rattle.m2v_plane.specs.Fields.{no_samples}
use Rattle.m2v_set.specs.declared.settings.Settings.{Settings}
use Rattle.m2v_set.specs.Numbers.{dims_of, mb_width_of}
use Rattle.m2v_set.proofs.Facts.{bounds}
use Rattle.m2v_order.specs.declared.jobs.PictureJob.{PictureJob}
use Rattle.m2v_macroblock.specs.m2v_macro.declared.values.PictureContext.{PictureContext}
use Rattle.m2v_rate.specs.declared.values.Plan.{Plan}
use Rattle.m2v_rate.specs.Plans.{slice_cap_of}
use Rattle.m2v_slice.specs.Slices.{SliceTask, CodedSlice, slice_of, most_bits_of}
use Rattle.m2v_slice.specs.Laws.{IsSlice}
use Rattle.m2v_slice.specs.Steps.{HasReferences, row_place}
use Rattle.m2v_slice.proofs.Fits.{slice_fits}
use Rattle.m2v_slice.specs.Headers.{IsJob, context_of, extension_of}
use Rattle.m2v_slice.specs.Books.{Book, rows, job_at, coded, slice_at, slice_activities, forward_number, reference, task_of}
use Rattle.m2v_slice.specs.Cached.{Cached}
use Rattle.m2v_slice.specs.Conditions.{IsBook}
use Rattle.m2v_slice.specs.Windows.{Window, HoldsLine}
use Rattle.m2v_slice.specs.Works.{HasLearnedSlice}
use Rattle.m2v_slice.proofs.Coded.{slice_is}
use Rattle.m2v_slice.proofs.Groups.{passes_of, picture_is_one, structure_low, source_size}
use Rattle.m2v_slice.proofs.SliceCaps.{cap_small}
use Rattle.m2v_slice.proofs.Steady.{IsPlan, task_is}
use Rattle.m2v_slice.proofs.Sound.{plan_is_good}
use Rattle.m2v_slice.proofs.Near.{Refers, is_read}

pub is_job : (b : Book) → IsBook b → (p : ℕ) → p < length b.pictures → IsJob (job_at b p)
is_job b h p lt =
    let x = picture_is_one b h p lt in
    record {
      kind = x.kind;
      structure = structure_low b.settings.scan (job_at b p).structure x.structure;
      frame = omega (arith, x.frame, h.group.frames);
      display = x.display;
    }

forward_refers : (kind : ℕ) → Refers kind (forward_number kind)
forward_refers kind = elim (cases_eq kind 3) [
  | inl e ↦ inr (cond-true {A = ℕ} (nat_eq kind 3) 1 0 (eq-eqb kind 3 e), e)
  | inr n ↦ inl (other kind n)
]
  where
    other : (kind : ℕ) → (kind ≡ 3 → ⊥) → forward_number kind ≡ 0
    other kind n = rw (ne_eqb kind 3 n) refl

module _ (b : Book) (h : IsBook b) (p r : ℕ) (c : Cached) (known : HasLearnedSlice b p r c) (lt : p < length b.pictures) (small : r < rows b) where
  pub plan_known : IsPlan b.settings c.plan
  plan_known = subst (IsPlan b.settings) (sym known.plan) (plan_is_good b h (p + 1) p (omega arith) (omega arith))

  task : SliceTask
  task = task_of b (coded b p) p c.plan r

  is_task : IsSlice (task_of b (coded b p) p c.plan r)
  is_task = task_is b h (coded b p) p c.plan r lt small plan_known

  abbrev pub window_of : ℕ → Window
  window_of n = record { book = b; picture = p; number = n; row = r }

  -- what the code of a slice is asked for
  pub record MayCode (v w : Window) (t : SliceTask) : Type 0 where
    pub slice : IsSlice t
    pub references : HasReferences t.context.kind t.source.dims (row_place t.context r) (dims_of v.book.settings) (dims_of w.book.settings)
        (HoldsLine v.book v.picture v.number v.row) (HoldsLine w.book w.picture w.number w.row)
    pub most : t.cap < 2 ^ 24
    pub size : t.source.dims ≡ dims_of b.settings
    pub columns : (dims_of b.settings).mb_width ≡ t.context.columns
    pub value : slice_of t ≡ slice_at (coded b (p + 1)) p r

  slice_here : slice_of (task_of b (coded b p) p c.plan r) ≡ slice_at (coded b (p + 1)) p r
  slice_here =
      ap (λ (x : Plan). slice_of (task_of b (coded b p) p x r)) known.plan ∙ sym (slice_is b (p + 1) p r (omega arith) small)

  at_code : MayCode (window_of (forward_number (job_at b p).kind)) (window_of 0) (task_of b (coded b p) p c.plan r)
  unfolding task_of context_of extension_of dims_of
  at_code =
      let size = source_size b h p lt in
      record {
        slice = is_task;
        references = record {
          forward = λ n. is_read b h p (forward_number (job_at b p).kind) r lt small n (forward_refers (job_at b p).kind);
          forward_size = λ n. sym size;
          backward = λ e. is_read b h p 0 r lt small (λ f. omega (arith, e, f)) (inl refl);
          backward_size = λ e. sym size;
        };
        most = cap_small b.settings (bounds b.settings (passes_of b h)) c.plan.cap r plan_known.most;
        size = size;
        columns = refl;
        value = slice_here;
      }

  -- a slice of this row that is coded from these
  abbrev pub task_in_windows : Window → Window → Samples → PictureContext → ℕ → ℕ → ℕ → List ℕ → SliceTask
  task_in_windows v w source context q most search activities = record {
    source = source;
    forward = reference v.book (coded v.book v.picture) v.picture v.number;
    backward = reference w.book (coded w.book w.picture) w.picture w.number;
    context = context;
    row = r;
    q = q;
    cap = most;
    search = search;
    activities = activities;
  }

  -- of the same parts
  task_same : (v w : Window) (source : Samples) (context : PictureContext) (q most search : ℕ) (activities : List ℕ)
      → v ≡ window_of (forward_number (job_at b p).kind) → w ≡ window_of 0 → source ≡ get_or b.frames (job_at b p).frame no_samples
      → context ≡ context_of b.settings (job_at b p) → q ≡ c.plan.q → most ≡ slice_cap_of b.settings c.plan.cap r → search ≡ b.settings.search
      → activities ≡ slice_activities b p r
      → task_in_windows v w source context q most search activities ≡ task_of b (coded b p) p c.plan r
  unfolding task_of
  task_same v w source context q most search activities ev ew es ec eq em er ea = λ i. task_in_windows (ev i) (ew i) (es i) (ec i) (eq i) (em i) (er i) (ea i)

  pub may_code : (v w : Window) (source : Samples) (context : PictureContext) (q most search : ℕ) (activities : List ℕ) (s : Settings) (job : PictureJob)
      → v ≡ window_of (forward_number (job_at b p).kind) → w ≡ window_of 0 → source ≡ get_or b.frames (job_at b p).frame no_samples
      → s ≡ b.settings → job ≡ job_at b p → context ≡ context_of s job → q ≡ c.plan.q → most ≡ slice_cap_of s c.plan.cap r → search ≡ s.search
      → activities ≡ slice_activities b p r
      → MayCode v w (task_in_windows v w source context q most search activities)
  may_code v w source context q most search activities s job ev ew es et ej ec eq em er ea =
      let n = forward_number (job_at b p).kind in
      let same = task_same v w source context q most search activities ev ew es (ec ∙ ap (λ (t : Settings). context_of t job) et ∙ ap (context_of b.settings) ej) eq
      (em ∙ ap (λ (t : Settings). slice_cap_of t c.plan.cap r) et) (er ∙ ap (λ (t : Settings). t.search) et) ea in
      let here = task_in_windows v w source context q most search activities in
      subst (λ (x : Window). MayCode x w here) (sym ev)
      (subst (λ (x : Window). MayCode (window_of n) x here) (sym ew) (subst (MayCode (window_of n) (window_of 0)) (sym same) at_code))

  text_most : length (slice_of (task_of b (coded b p) p c.plan r)).text ≤ most_bits_of (mb_width_of b.settings)
  unfolding task_of context_of
  text_most = (slice_fits (task_of b (coded b p) p c.plan r) is_task).most

  pub slice_few : length (slice_at (coded b (p + 1)) p r).text ≤ most_bits_of (mb_width_of b.settings)
  slice_few = subst (λ (x : CodedSlice). length x.text ≤ most_bits_of (mb_width_of b.settings)) slice_here text_most
