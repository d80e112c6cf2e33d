use Rattle.std.proofs.Common.{◌<◌, ◌≤◌, ℕ, length, sym, ap, subst, ◌∙◌}
use Rattle.m2v_set.specs.declared.settings.Settings.{Settings}
use Rattle.m2v_set.specs.Numbers.{mb_width_of, rows_by}
use Rattle.m2v_order.specs.declared.jobs.PictureJob.{PictureJob}
use Rattle.m2v_rate.specs.declared.values.Plan.{Plan}
use Rattle.m2v_rate.specs.Plans.{slice_cap_of}
use Rattle.m2v_slice.specs.declared.cache.Learned.{Learned}
use Rattle.m2v_slice.specs.Slices.{CodedSlice, most_bits_of}
use Rattle.m2v_slice.specs.Laws.{AreSliceActivities}
use Rattle.m2v_slice.specs.Headers.{IsJob}
use Rattle.m2v_slice.specs.Books.{forward_number}
use Rattle.m2v_slice.specs.Windows.{Window}
use Rattle.m2v_slice.proofs.Steady.{IsPlan}
use Rattle.m2v_slice.proofs.Slices.{is_job, plan_known, may_code, slice_few}
use Rattle.m2v_slice.proofs.book.EncodeBook.code_picture_slice.Goals as goal

pub picture_context-context-requires : goal.picture_context-context-requires
picture_context-context-requires c = record {
  job = subst IsJob (sym c.job-job.ensures.value) (is_job c.args.self.now c.pictures-book.ensures.book c.args.p c.requires.picture);
}

pub slice_cap-requires : goal.slice_cap-requires
slice_cap-requires c =
    let good = plan_known c.args.self.now c.pictures-book.ensures.book c.args.p c.args.r c.args.cache.now c.requires.learned c.requires.picture c.requires.row in
    let same = subst (λ (s : Settings). IsPlan s c.learned.result.now.plan) (sym c.settings-settings.ensures.value)
    (subst (IsPlan c.args.self.now.settings) (sym (ap (λ (x : Learned). x.plan) c.learned.ensures.value)) good) in
    record {
      least = same.least;
      most = same.most;
      row = subst (λ (s : Settings). c.args.r < rows_by s.scan s.height) (sym c.settings-settings.ensures.value) c.requires.row;
    }

pub code_row_slice-requires : goal.code_row_slice-requires
code_row_slice-requires c =
    let b = c.args.self.now in
    let h = may_code b c.pictures-book.ensures.book c.args.p c.args.r c.args.cache.now c.requires.learned c.requires.picture c.requires.row
    c.for_slice-forward.result c.for_slice-backward.result c.source.result.now c.picture_context-context.result c.learned.result.now.plan.q c.slice_cap.result
    c.settings.result.now.search c.slice_activities.result.now c.settings-settings.result.now c.job-job.result.now
    (c.for_slice-forward.ensures.value ∙ ap (λ (n : ℕ). let w : Window = record { book = b; picture = c.args.p; number = n; row = c.args.r } in w)
    (c.forward_number.ensures.value ∙ ap (λ (j : PictureJob). forward_number j.kind) c.job-job.ensures.value))
    c.for_slice-backward.ensures.value c.source.ensures.value c.settings-settings.ensures.value c.job-job.ensures.value c.picture_context-context.ensures.value
    (ap (λ (x : Plan). x.q) (ap (λ (x : Learned). x.plan) c.learned.ensures.value))
    (c.slice_cap.ensures.value ∙ ap (λ (x : Plan). slice_cap_of c.settings-settings.result.now x.cap c.args.r) (ap (λ (x : Learned). x.plan) c.learned.ensures.value))
    (ap (λ (s : Settings). s.search) c.settings.ensures.value) c.slice_activities.ensures.value in
    record {
      slice = h.slice;
      activities = subst (λ (n : ℕ). AreSliceActivities n c.slice_activities.result.now) h.columns c.slice_activities.ensures.range;
      most = λ some. h.most;
      references = h.references;
      out = c.requires.size ∙ sym h.size;
    }

pub returns : goal.returns
returns c =
    let b = c.args.self.now in
    let h = may_code b c.pictures-book.ensures.book c.args.p c.args.r c.args.cache.now c.requires.learned c.requires.picture c.requires.row
    c.for_slice-forward.result c.for_slice-backward.result c.source.result.now c.picture_context-context.result c.learned.result.now.plan.q c.slice_cap.result
    c.settings.result.now.search c.slice_activities.result.now c.settings-settings.result.now c.job-job.result.now
    (c.for_slice-forward.ensures.value ∙ ap (λ (n : ℕ). let w : Window = record { book = b; picture = c.args.p; number = n; row = c.args.r } in w)
    (c.forward_number.ensures.value ∙ ap (λ (j : PictureJob). forward_number j.kind) c.job-job.ensures.value))
    c.for_slice-backward.ensures.value c.source.ensures.value c.settings-settings.ensures.value c.job-job.ensures.value c.picture_context-context.ensures.value
    (ap (λ (x : Plan). x.q) (ap (λ (x : Learned). x.plan) c.learned.ensures.value))
    (c.slice_cap.ensures.value ∙ ap (λ (x : Plan). slice_cap_of c.settings-settings.result.now x.cap c.args.r) (ap (λ (x : Learned). x.plan) c.learned.ensures.value))
    (ap (λ (s : Settings). s.search) c.settings.ensures.value) c.slice_activities.ensures.value in
    let value = c.code_row_slice.ensures.value ∙ h.value in
    record {
      value = value;
      few = subst (λ (x : CodedSlice). length x.text ≤ most_bits_of (mb_width_of b.settings)) (sym value)
          (slice_few b c.pictures-book.ensures.book c.args.p c.args.r c.args.cache.now c.requires.learned c.requires.picture c.requires.row);
    }
