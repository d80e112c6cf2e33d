-- The times between the removals of the pictures that the stream tells are those of its jobs.
use Rattle.std.proofs.Common.{◌≡◌, ℕ, ◌%◌, Bool, true, false, not, ◌&&◌, ◌||◌, cond, List, [], ◌∷◌, map, Option, Some, None, refl, sym, ap, subst, ◌∙◌}
use Rattle.std.specs.Prelude.{All, nat_eq}
use Rattle.std.proofs.Math.Bool.{and-false}
use Rattle.std.proofs.lemmas.List.Elements.{All-head, All-tail}
use Rattle.m2v_set.specs.declared.settings.Settings.{Settings}
use Rattle.m2v_set.specs.declared.settings.Scan.{Scan}
use Rattle.m2v_set.specs.declared.settings.Scan.TheVariants.{Progressive, Frames, Fields}
use Rattle.m2v_set.specs.Numbers.{field_time, frame_time, film_time, picture_time, interval_of, longest_interval_of}
use Rattle.m2v_set.specs.Rules.{Passes, is_progressive}
use Rattle.m2v_set.proofs.Facts.{bounds}
use Rattle.m2v_order.specs.declared.jobs.PictureJob.{PictureJob}
use Rattle.m2v_order.specs.Times.{repeats, repeats_last, interval_behind, intervals_of}
use Rattle.m2v_slice.specs.Headers.{picture_of, extension_of, sequence_extension_of}
use Rattle.m2v_model.specs.Lawful.{Numbered}
use Rattle.m2v_model.specs.Buffering.{time_shown, intervals}
use Rattle.m2v_law_shown.specs.Own.{FitsScan, own_sequence, ends, IsPictureOf}
use Rattle.m2v_law_shown.specs.Telling.{IsMade}
use Rattle.m2v_law_shown.specs.Told.{Made, job_in}
use Rattle.m2v_law_shown.proofs.TellsNumbers.{AreNumbers}

-- whether pictures of a scan are frame pictures, and so end their frames
abbrev IsWhole : Scan → Bool → Bool → Type 0
IsWhole Progressive whole end = (whole ≡ true) × (end ≡ true)
IsWhole Frames whole end = (whole ≡ true) × (end ≡ true)
IsWhole Fields whole end = whole ≡ false

whole_is : (scan : Scan) (job : PictureJob) → FitsScan scan job → IsWhole scan (nat_eq job.structure 3) (ends job)
whole_is Progressive job fits = (ap (λ (n : ℕ). nat_eq n 3) fits, ap (λ (n : ℕ). nat_eq n 3 || nat_eq n 2) fits)
whole_is Frames job fits = (ap (λ (n : ℕ). nat_eq n 3) fits, ap (λ (n : ℕ). nat_eq n 3 || nat_eq n 2) fits)
whole_is Fields job fits = fits

-- the time behind a picture: b tells that it is B, r that it repeats, `before` that the last anchor does
abbrev time_by : Scan → ℕ → Bool → Bool → Bool → Bool → Bool → ℕ
time_by scan code whole b r before end =
    cond whole (time_shown (cond (not b && true) before (not (is_progressive scan) && (whole && r))) code) (cond (not b && end && before) (frame_time code) (field_time code))

-- whether the last anchor behind it repeats
abbrev after_by : Scan → Bool → Bool → Bool → Bool → Bool → Bool
after_by scan whole b r before end = cond (not b && end) (not (is_progressive scan) && (whole && r)) before

-- where none repeats
plain_time : (scan : Scan) (code : ℕ) (whole b end : Bool) (longest : ℕ) → IsWhole scan whole end → time_by scan code whole b false false end ≡ cond (cond b false false) longest (picture_time scan code)
unfolding is_progressive picture_time
plain_time Progressive code whole true end longest w = rw w.0 refl
plain_time Progressive code whole false end longest w = rw w.0 refl
plain_time Frames code whole true end longest w = rw w.0 refl
plain_time Frames code whole false end longest w = rw w.0 refl
plain_time Fields code whole true end longest w = rw w refl
plain_time Fields code whole false true longest w = rw w refl
plain_time Fields code whole false false longest w = rw w refl

plain_after : (scan : Scan) (whole b end : Bool) → after_by scan whole b false false end ≡ false
plain_after scan true true end = refl
plain_after scan true false false = refl
plain_after scan true false true = and-false (not (is_progressive scan))
plain_after scan false true end = refl
plain_after scan false false false = refl
plain_after scan false false true = and-false (not (is_progressive scan))

-- with pulldown, which frames have
film_time_is : (code : ℕ) (whole b r before end : Bool) → IsWhole Frames whole end
    → time_by Frames code whole b r before end ≡ cond (cond b r before) (film_time code) (picture_time Frames code)
unfolding is_progressive picture_time
film_time_is code whole true r before end w = rw w.0 refl
film_time_is code whole false r before end w = rw w.0 refl

film_after : (whole b r before end : Bool) → IsWhole Frames whole end → after_by Frames whole b r before end ≡ cond b before r
unfolding is_progressive
film_after whole true r before end w = refl
film_after whole false r before end w = rw (w.0, w.1) refl

-- ---- one picture

last_behind : (s : Settings) (last : Option ℕ) (b : Bool) (display : ℕ) → repeats_last s (cond b last (Some display)) ≡ cond b (repeats_last s last) (repeats s display)
unfolding repeats_last
last_behind s last true display = refl
last_behind s last false display = refl

none_repeats : (s : Settings) (display : ℕ) → s.pulldown ≡ false → repeats s display ≡ false
unfolding repeats
none_repeats s display off = ap (λ (t : Bool). t && nat_eq (display % 2) 0) off

none_last : (s : Settings) (last : Option ℕ) → s.pulldown ≡ false → repeats_last s last ≡ false
unfolding repeats_last
none_last s None off = refl
none_last s (Some display) off = none_repeats s display off

-- what is told of a picture behind others, of which the last anchor was one
record IsTimed (s : Settings) (last : Option ℕ) (job : PictureJob) (whole b end : Bool) : Type 0 where
  time : time_by s.scan s.rate_code whole b (repeats s job.display) (repeats_last s last) end
      ≡ cond (cond b (repeats s job.display) (repeats_last s last)) (longest_interval_of s) (interval_of s)
  after : after_by s.scan whole b (repeats s job.display) (repeats_last s last) end ≡ repeats_last s (cond b last (Some job.display))

longest_on : (s : Settings) → s.pulldown ≡ true → longest_interval_of s ≡ film_time s.rate_code
unfolding longest_interval_of
longest_on s on = ap (λ (t : Bool). cond t (film_time s.rate_code) (interval_of s)) on

module _ (s : Settings) (passes : Passes s) (last : Option ℕ) (job : PictureJob) (whole b end : Bool) (w : IsWhole s.scan whole end) where
  timed_off : s.pulldown ≡ false → IsTimed s last job whole b end
  timed_off off =
      let r = none_repeats s job.display off in
      let before = none_last s last off in
      record {
        time = (λ i. time_by s.scan s.rate_code whole b (r i) (before i) end)
            ∙ plain_time s.scan s.rate_code whole b end (longest_interval_of s) w
            ∙ sym (λ i. cond (cond b (r i) (before i)) (longest_interval_of s) (interval_of s));
        after = (λ i. after_by s.scan whole b (r i) (before i) end) ∙ plain_after s.scan whole b end ∙ sym (none_last s (cond b last (Some job.display)) off);
      }

  timed_on : s.pulldown ≡ true → IsTimed s last job whole b end
  timed_on on =
      let scan = (bounds s passes).pulldown.scan on in
      let r = repeats s job.display in
      let before = repeats_last s last in
      let v : IsWhole Frames whole end = subst (λ (x : Scan). IsWhole x whole end) scan w in
      record {
        time = ap (λ (x : Scan). time_by x s.rate_code whole b r before end) scan
            ∙ film_time_is s.rate_code whole b r before end v
            ∙ sym (λ i. cond (cond b r before) (longest_on s on i) (picture_time (scan i) s.rate_code));
        after = ap (λ (x : Scan). after_by x whole b r before end) scan ∙ film_after whole b r before end v ∙ sym (last_behind s last b job.display);
      }

  timed : IsTimed s last job whole b end
  timed = by_pulldown s.pulldown refl
    where
      by_pulldown : (t : Bool) → s.pulldown ≡ t → IsTimed s last job whole b end
      by_pulldown true e = timed_on e
      by_pulldown false e = timed_off e

-- ---- all pictures

own_time : (s : Settings) (before : Bool) (n : Numbered) (job : PictureJob) (ns : List Numbered) → n.sequence ≡ own_sequence s → IsPictureOf s job n.picture
    → intervals false s.rate_code before (n ∷ ns)
    ≡ time_by s.scan s.rate_code (nat_eq job.structure 3) (nat_eq job.kind 3) (repeats s job.display) before (ends job)
    ∷ intervals false s.rate_code (after_by s.scan (nat_eq job.structure 3) (nat_eq job.kind 3) (repeats s job.display) before (ends job)) ns
unfolding intervals picture_of extension_of sequence_extension_of
own_time s before n job ns sequence is = rw (sequence, is.info, is.extension, is.ends_frame) refl

times_cons : (s : Settings) (last : Option ℕ) (job : PictureJob) (jobs : List PictureJob)
    → intervals_of s last (job ∷ jobs) ≡ cond (cond (nat_eq job.kind 3) (repeats s job.display) (repeats_last s last)) (longest_interval_of s) (interval_of s) ∷ intervals_of s (cond (nat_eq job.kind 3) last (Some job.display)) jobs
unfolding intervals_of interval_behind
times_cons s last job jobs = refl

no_times : (s : Settings) (last : Option ℕ) (before : Bool) → intervals false s.rate_code before [] ≡ intervals_of s last []
unfolding intervals intervals_of
no_times s last before = refl

pub own_times : (s : Settings) → Passes s → (made : List Made) (ns : List Numbered) (last : Option ℕ) (before : Bool) → before ≡ repeats_last s last → AreNumbers s made ns
    → All (IsMade s) made → All (FitsScan s.scan) (map job_in made) → intervals false s.rate_code before ns ≡ intervals_of s last (map job_in made)
own_times s passes [] [] last before e are own fit = no_times s last before
own_times s passes [] (n ∷ ns) last before e are own fit = absurd are
own_times s passes (m ∷ made) [] last before e are own fit = absurd are
own_times s passes (m ∷ made) (n ∷ ns) last before e are own fit =
    let job = m.0 in
    let whole = nat_eq job.structure 3 in
    let b = nat_eq job.kind 3 in
    let is : IsPictureOf s job n.picture = subst (IsPictureOf s job) (sym are.0.1) (All-head (IsMade s) m made own) in
    let t = timed s passes last job whole b (ends job) (whole_is s.scan job (All-head (FitsScan s.scan) job (map job_in made) fit)) in
    let rest = own_times s passes made ns (cond b last (Some job.display)) (after_by s.scan whole b (repeats s job.display) (repeats_last s last) (ends job)) t.after are.1
    (All-tail (IsMade s) m made own) (All-tail (FitsScan s.scan) job (map job_in made) fit) in
    ap (λ (x : Bool). intervals false s.rate_code x (n ∷ ns)) e
    ∙ own_time s (repeats_last s last) n job ns are.0.0 is
    ∙ (λ i. t.time i ∷ rest i)
    ∙ sym (times_cons s last job (map job_in made))
