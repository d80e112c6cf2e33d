-- What the account of the stream takes from its pictures: their delays, and the times between their removals.
use Rattle.std.proofs.Common.{◌≡◌, ℕ, ◌≤◌, false, true, List, [], ◌∷◌, ◌++◌, length, map, Some, None, refl, sym, ap, subst, ◌∙◌, arith}
use Rattle.std.specs.Prelude.{All}
use Rattle.std.specs.List.{flat_map}
use Rattle.std.proofs.lemmas.List.Elements.{All-nil, All-append, All-head, All-tail, All-weaker}
use Rattle.m2v_plane.specs.Samples.{Samples}
use Rattle.m2v_set.specs.declared.settings.Settings.{Settings}
use Rattle.m2v_set.specs.Rules.{Passes}
use Rattle.m2v_order.specs.declared.jobs.PictureJob.{PictureJob}
use Rattle.m2v_order.specs.Groups.{Group}
use Rattle.m2v_order.specs.Calls.{jobs_in}
use Rattle.m2v_order.specs.Times.{repeats_last, intervals_of}
use Rattle.m2v_order.specs.Whole.{IsGroupOf}
use Rattle.m2v_slice.specs.Headers.{begins_group}
use Rattle.m2v_model.specs.Pictures.{Events}
use Rattle.m2v_model.specs.Lawful.{all_numbered}
use Rattle.m2v_model.specs.Buffering.{intervals}
use Rattle.m2v_enc_stream.specs.Trees.{groups_of, tree_of}
use Rattle.m2v_enc_stream.proofs.Queues.{stream_some}
use Rattle.m2v_law_shown.specs.Own.{own_sequence, FitsScan}
use Rattle.m2v_law_shown.specs.Telling.{told_all}
use Rattle.m2v_law_shown.proofs.Jobs.{IsFit, group_fits}
use Rattle.m2v_law_shown.proofs.Begins.{group_begins}
use Rattle.m2v_law_shown.specs.Told.{Made, job_in, TellsJobs, numbers_of, TellsNumbers}
use Rattle.m2v_law_shown.proofs.Good.{are_groups}
use Rattle.m2v_law_shown.proofs.Streams.{stream_told}
use Rattle.m2v_law_shown.proofs.Times.{stream_times}
use Rattle.m2v_law_shown.proofs.TellsNumbers.{AreNumbers, numbers_are, own_sequences, own_delays, own_pictures}
use Rattle.m2v_law_shown.proofs.Intervals.{own_times}

-- ---- the jobs of a stream

abbrev AreGroups : Settings → List (Group Samples) → Type 0
AreGroups s gs = All (λ (g : Group Samples). IsGroupOf s g) gs

jobs_fit : (s : Settings) (gs : List (Group Samples)) → Passes s → AreGroups s gs → All (FitsScan s.scan) (jobs_in gs)
jobs_fit s [] passes are = All-nil (FitsScan s.scan)
jobs_fit s (g ∷ gs) passes are =
    let P = λ (g : Group Samples). IsGroupOf s g in
    All-append (FitsScan s.scan) g.pictures (jobs_in gs)
    (All-weaker (IsFit s) (FitsScan s.scan) (λ job fit. fit.fits) g.pictures (group_fits s g passes (All-head P g gs are)))
    (jobs_fit s gs passes (All-tail P g gs are))

-- the first of some jobs and their pictures begins a group
record Leads (made : List Made) : Type 0 where
  first : Made
  more : List Made
  is : made ≡ first ∷ more
  begins : begins_group first.0 ≡ true

leads_by : (made : List Made) (first : PictureJob) (more : List PictureJob) → map job_in made ≡ first ∷ more → begins_group first ≡ true → Leads made
leads_by [] first more e begins = absurd cc
leads_by (m ∷ made) first more e begins =
    let head : m.0 ≡ first = cc in
    record { first = m; more = made; is = refl; begins = ap begins_group head ∙ begins }

leads : (s : Settings) (gs : List (Group Samples)) (made : List Made) → Passes s → 1 ≤ length gs → AreGroups s gs → map job_in made ≡ jobs_in gs → Leads made
leads s [] made passes some are e = absurd (omega (arith, some))
leads s (g ∷ gs) made passes some are e =
    let begins = group_begins s g passes (All-head (λ (g : Group Samples). IsGroupOf s g) g gs are) in
    leads_by made begins.first (begins.more ++ jobs_in gs) (e ∙ ap (λ (js : List PictureJob). js ++ jobs_in gs) begins.is) begins.begins

-- ---- the pictures of a stream

-- they are numbered, as the pictures of jobs
record AreTold (s : Settings) (frames : List (List ℕ)) : Type 0 where
  tells : TellsJobs s frames
  first : (tree_of s frames).state.first ≡ Some (own_sequence s)
  numbers : AreNumbers s tells.made (numbers_of s frames)

are_told : (s : Settings) (frames : List (List ℕ)) → Passes s → 1 ≤ length frames → length frames ≤ 999999 → AreTold s frames
are_told s frames passes some few =
    let x = stream_told s frames passes some few in
    let t = x.jobs in
    let l = leads s (groups_of s frames) t.made passes (let lt = stream_some s frames some in omega (arith, lt)) (are_groups s frames passes) t.jobs in
    let numbers : AreNumbers s t.made (all_numbered (told_all s t.made)) =
    subst (λ (made : List Made). AreNumbers s made (all_numbered (told_all s made))) (sym l.is) (numbers_are s l.first l.more l.begins) in
    record {
      tells = t;
      first = x.first;
      numbers = subst (λ (es : Events). AreNumbers s t.made (all_numbered es)) (sym t.told) numbers;
    }

none_repeats : (s : Settings) → false ≡ repeats_last s None
unfolding repeats_last
none_repeats s = refl

pub tells_numbers : (s : Settings) (frames : List (List ℕ)) → Passes s → 1 ≤ length frames → length frames ≤ 999999 → TellsNumbers s frames
tells_numbers s frames passes some few =
    let x = are_told s frames passes some few in
    let made = x.tells.made in
    record {
      tells = x.tells;
      pictures = own_pictures s made (numbers_of s frames) x.numbers;
      first = x.first;
      sequences = own_sequences s made (numbers_of s frames) x.numbers;
      delays = own_delays s made (numbers_of s frames) x.numbers ∙ x.tells.delays;
    }

pub stream_intervals : (s : Settings) (frames : List (List ℕ)) → Passes s → 1 ≤ length frames → length frames ≤ 999999
    → intervals false s.rate_code false (numbers_of s frames) ≡ flat_map (λ (g : Group Samples). intervals_of s g.before g.pictures) (groups_of s frames)
stream_intervals s frames passes some few =
    let x = are_told s frames passes some few in
    let t = x.tells in
    let fit = subst (All (FitsScan s.scan)) (sym t.jobs) (jobs_fit s (groups_of s frames) passes (are_groups s frames passes)) in
    own_times s passes t.made (numbers_of s frames) None false (none_repeats s) x.numbers t.are fit
    ∙ ap (intervals_of s None) t.jobs
    ∙ sym (stream_times s frames passes)
