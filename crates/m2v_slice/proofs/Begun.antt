-- The ledger with which a group begins, as it follows what is coded.
use Rattle.std.proofs.Common.{◌≡◌, ℕ, ◌+◌, ◌^◌, ◌<◌, ◌≤◌, List, [], ◌∷◌, length, map, Option, inl, inr, refl, sym, subst, ◌∙◌, arith}
use Rattle.std.specs.Prelude.{All}
use Rattle.std.proofs.lemmas.Bool.{cond_both}
use Rattle.std.proofs.lemmas.List.{length-map}
use Rattle.std.proofs.lemmas.List.Elements.{All-nil, All-cons}
use Rattle.m2v_plane.specs.Samples.{Samples}
use Rattle.m2v_set.specs.declared.settings.Settings.{Settings}
use Rattle.m2v_set.specs.Numbers.{IsInterval}
use Rattle.m2v_order.specs.declared.jobs.PictureJob.{PictureJob}
use Rattle.m2v_order.specs.Groups.{Group}
use Rattle.m2v_order.specs.Times.{intervals_of, anchor_after, interval_behind}
use Rattle.m2v_rate.specs.Plans.{Entries, begun}
use Rattle.m2v_rate.specs.Steady.{IsBegun}
use Rattle.m2v_rate.proofs.Lows.{held_least, held_most, removals_at, rate_at, buffer_at}
use Rattle.m2v_rate.proofs.Streams.{steady_none}
use Rattle.m2v_slice.specs.Books.{picture_activities}
use Rattle.m2v_slice.specs.Conditions.{IsSteadyLedger, IsBegunFor}

pub times_length : (s : Settings) (last : Option ℕ) (jobs : List PictureJob) → length (intervals_of s last jobs) ≡ length jobs
unfolding intervals_of
times_length s last [] = refl
times_length s last (job ∷ more) = omega (arith, times_length s (anchor_after last job) more)

behind_is : (s : Settings) (last : Option ℕ) (job : PictureJob) → IsInterval s (interval_behind s last job)
unfolding interval_behind
behind_is s last job = cond_both _ _ _ (IsInterval s) (λ e. inr refl) (λ e. inl refl)

times_are : (s : Settings) (last : Option ℕ) (jobs : List PictureJob) → All (IsInterval s) (intervals_of s last jobs)
unfolding intervals_of
times_are s last [] = All-nil (IsInterval s)
times_are s last (job ∷ more) =
    All-cons (IsInterval s) (interval_behind s last job) (intervals_of s (anchor_after last job) more) (behind_is s last job) (times_are s (anchor_after last job) more)

-- the ledger of the next group
pub begun_ledger : (s : Settings) (g : Group Samples) (from : Entries) → from.settings ≡ s → IsBegun from
    → from.account.removals + length from.kinds < 2 ^ 39 → length g.pictures ≤ 126
    → IsSteadyLedger (begun from (map (λ (j : PictureJob). j.kind) g.pictures) (intervals_of s g.before g.pictures) (picture_activities s g.frames g.pictures))
begun_ledger s g from settings h removals few =
    let n = length from.kinds in
    let times = intervals_of s g.before g.pictures in
    let count = length-map g.pictures (λ (j : PictureJob). j.kind) in
    record {
      few = omega (arith, few, count);
      removals = omega (arith, removals, removals_at from n);
      steady = steady_none _ (record {
        passes = h.passes;
        rate = rate_at from n h;
        buffer = buffer_at from n h;
        least = held_least from n h (omega arith);
        most = held_most from n h (omega arith);
        timed = times_length s g.before g.pictures ∙ sym count;
        times = subst (λ (t : Settings). All (IsInterval t) times) (sym settings) (times_are s g.before g.pictures);
      }) refl refl refl refl;
    }

pub begun_for : (s : Settings) (g : Group Samples) (from l : Entries) → from.settings ≡ s → IsBegun from
    → from.account.removals + length from.kinds < 2 ^ 39 → length g.pictures ≤ 126
    → l ≡ begun from (map (λ (j : PictureJob). j.kind) g.pictures) (intervals_of s g.before g.pictures) (picture_activities s g.frames g.pictures)
    → IsBegunFor s g l
begun_for s g from l settings h removals few is = record {
  from = from;
  settings = settings;
  begun = is;
  ledger = subst IsSteadyLedger (sym is) (begun_ledger s g from settings h removals few);
}
