-- What the groups of a stream show and tell, and the whole stream.
use Rattle.std.proofs.Common.{◌≡◌, ℕ, zero, suc, ◌-◌, ◌≤◌, ◌⊎◌, inl, inr, Bool, true, false, cond, List, [], ◌∷◌, ◌++◌, length, map, filter, Option, Some, None, refl, sym, ap, subst, ◌∙◌, arith, append_assoc}
use Rattle.std.specs.Prelude.{nat_eq}
use Rattle.std.specs.List.{range_with_len}
use Rattle.std.proofs.lemmas.List.{append-nil, map-append}
use Rattle.std.proofs.lemmas.Simd.{map-map}
use Rattle.std.proofs.lemmas.List.Elements.{All-map, All-filter}
use Rattle.std.proofs.Math.Seq.{take-length}
use Rattle.m2v_plane.specs.Samples.{Samples}
use Rattle.m2v_plane.specs.Raw.{crop}
use Rattle.m2v_set.specs.declared.settings.Settings.{Settings}
use Rattle.m2v_set.specs.Rules.{Passes}
use Rattle.m2v_order.specs.declared.jobs.PictureJob.{PictureJob}
use Rattle.m2v_order.specs.Groups.{Group}
use Rattle.m2v_order.specs.Calls.{jobs_in}
use Rattle.m2v_slice.specs.Headers.{begins_group, sequence_extension_of}
use Rattle.m2v_slice.specs.Books.{Book, job_at}
use Rattle.m2v_enc_stream.specs.Streams.{Progress, at_start, book_of, group_coded, groups_coded, coded_all, Recon}
use Rattle.m2v_enc_stream.specs.Sent.{SentPicture, sent_at, group_sent, groups_sent}
use Rattle.m2v_model.specs.declared.state.FirstField.{FirstField}
use Rattle.m2v_model.specs.declared.state.State.{State}
use Rattle.m2v_model.specs.States.{at_first}
use Rattle.m2v_model.specs.Streams.{Part, ending, after}
use Rattle.m2v_model.specs.Pictures.{Store, Picture, no_frames, coded_picture, pictures_in, is_ending, typed, frames_in}
use Rattle.m2v_model.specs.Decoding as decoding
use Rattle.m2v_model.specs.Decoding.{is_dropped, low_delay_of}
use Rattle.m2v_model.proofs.EventLaws.{pictures_in-append}
use Rattle.m2v_enc_stream.specs.Trees.{sequence_by, group_parts, groups_parts, groups_of, tree_of}
use Rattle.m2v_enc_stream.specs.States.{state_with, waiting_behind, anchors_behind}
use Rattle.m2v_enc_stream.proofs.Turns.{none_behind, anchors_end}
use Rattle.m2v_enc_stream.proofs.Queues.{stream_some}
use Rattle.m2v_law_shown.specs.Showing.{ShowAll}
use Rattle.m2v_law_shown.specs.Stores.{frame_in}
use Rattle.m2v_law_shown.specs.Telling.{headers, told, told_all}
use Rattle.m2v_law_shown.specs.Told.{Made, job_in, picture_in, delay_in, TellsJobs}
use Rattle.m2v_law_shown.specs.Runs.{Tells, pending, settled, raw_in}
use Rattle.m2v_law_shown.proofs.Order.{shown_on}
use Rattle.m2v_law_shown.proofs.Mapped.{made_shown}
use Rattle.m2v_law_shown.proofs.Shapes.{waits}
use Rattle.m2v_law_shown.proofs.Runs.{goes_on, goes_one, tells_on, range_more}
use Rattle.m2v_enc_stream.proofs.TreeGroups.{IsBetween}
use Rattle.m2v_law_shown.proofs.Between.{begins_at, past_end}
use Rattle.m2v_law_shown.proofs.Steps.{raw_append, pictures_go}
use Rattle.m2v_law_shown.proofs.Groups.{group_shown, last_anchor_is}
use Rattle.m2v_law_shown.proofs.Good.{IsGood, AreGood, are_good}

-- ---- between groups

-- where a group begins: at first, or behind others, with the last anchor at hand
record Stands (s : Settings) (x : Progress) (st : State) (store : Store) : Type 0 where
  last : (settled st store).newer ≡ x.before
  state : ((x.before ≡ None) × (st ≡ at_first)) ⊎ IsBetween s st

free_by : (t : Bool) (f : FirstField) → cond t (Some f) None ≡ None → t ≡ false
free_by true f e = absurd cc
free_by false f e = refl

free_at : (b : Book) (n : ℕ) → waiting_behind b n ≡ None → waits b.pictures n ≡ false
unfolding waiting_behind
free_at b zero e = refl
free_at b (suc n) e = free_by (nat_eq (job_at b n).structure 1) (record { kind = (job_at b n).kind; structure = 1 }) e

-- ---- one group

abbrev delay_by : SentPicture → ℕ
delay_by x = x.delay

-- what parts of the stream show and tell: these jobs, with the delays of these pictures that are sent, and these frames
record Gone (s : Settings) (parts : List Part) (these : List PictureJob) (sent : List SentPicture)
    (out : List (List ℕ)) (st : State) (store : Store) : Type 0 where
  end : State
  left : Store
  made : List Made
  tells : Tells s st store parts end left made
  jobs : map job_in made ≡ these
  delays : map delay_in made ≡ map delay_by sent
  order : (before : Option (List ℕ)) → ShowAll before (raw_in made) out
  between : IsBetween s end

-- what a group shows
abbrev group_out : Settings → Progress → Group Samples → List (List ℕ)
group_out s x g = map (λ (k : ℕ). crop (frame_in (book_of s x g) k)) (range_with_len 0 (length g.frames))

record GroupGone (s : Settings) (x : Progress) (g : Group Samples) (ends : Bool) (sent : List SentPicture) (st : State) (store : Store) : Type 0 where
  gone : Gone s (group_parts s x g ends) g.pictures sent (group_out s x g) st store
  last : (settled gone.end gone.left).newer ≡ (group_coded s x g ends).before

group_gone : (s : Settings) (x : Progress) (g : Group Samples) (ends : Bool) (sent : List SentPicture) (st : State) (store : Store)
    → IsGood s x g → Stands s x st store
    → map delay_by (group_sent (book_of s x g) ends (length x.text) (length g.pictures)) ≡ map delay_by sent → GroupGone s x g ends sent st store
unfolding group_parts group_coded
group_gone s x g ends sent st store good stands same =
    let b = book_of s x g in
    let h = good.book in
    let n = length g.pictures in
    let begin = begins_at b h st stands.state in
    let u = pictures_go b h begin.before begin.counted st store begin.ready stands.last ends (length x.text) (good.small ends) n (omega arith) in
    let form = u.ready.plain (past_end b) in
    let anchors = anchors_end b h begin.before begin.counted in
    record {
      gone = record {
        end = u.end;
        left = u.store;
        made = u.made;
        tells = u.tells;
        jobs = u.jobs ∙ take-length g.pictures;
        delays = u.delays ∙ sym (map-map delay_by (sent_at b ends (length x.text) 0) (range_with_len 0 n)) ∙ same;
        order = λ before. subst (λ (raw : List (List ℕ × ℕ)). ShowAll before raw (group_out s x g)) (sym u.held.raw) (group_shown b h before);
        between = record {
          closed = form.0;
          anchors = anchors_behind begin.before b n;
          open_one = form.1.0;
          is = form.1.1 ∙ ap (λ (w : Option FirstField). state_with s form.0 (anchors_behind begin.before b n) w form.1.0) (none_behind b h);
          one = anchors.0;
          most = anchors.1;
        };
      };
      last = u.held.last ∙ last_anchor_is b h (free_at b n (none_behind b h));
    }

-- ---- groups

record GroupsGone (s : Settings) (x : Progress) (groups : List (Group Samples)) (st : State) (store : Store) : Type 0 where
  out : List (List ℕ)
  shown : (groups_coded s x groups).shown ≡ x.shown ++ out
  gone : Gone s (groups_parts s x groups) (jobs_in groups) (groups_sent s x groups) out st store

group_shown_is : (s : Settings) (x : Progress) (g : Group Samples) (ends : Bool) → (group_coded s x g ends).shown ≡ x.shown ++ group_out s x g
unfolding group_coded
group_shown_is s x g ends = refl

-- the delays of the last group's pictures: behind the last of them stands the end code
last_delays : (b : Book) (at n : ℕ) → 1 ≤ n
    → map delay_by (group_sent b true at n) ≡ map delay_by (group_sent b true at (n - 1) ++ sent_at b true at 32 (n - 1) ∷ [])
last_delays b at n some =
    let e : n ≡ suc (n - 1) = omega (arith, some) in
    let front = group_sent b true at (n - 1) in
    ap (λ (k : ℕ). map delay_by (group_sent b true at k)) e
    ∙ ap (map delay_by) (range_more (sent_at b true at 0) (n - 1))
    ∙ map-append delay_by front (sent_at b true at 0 (n - 1) ∷ [])
    ∙ sym (map-append delay_by front (sent_at b true at 32 (n - 1) ∷ []))

groups_gone : (s : Settings) (groups : List (Group Samples)) (x : Progress) (st : State) (store : Store)
    → 1 ≤ length groups → AreGood s x groups → Stands s x st store → GroupsGone s x groups st store
unfolding groups_parts groups_coded groups_sent
groups_gone s [] x st store some good stands = absurd (omega (arith, some))
groups_gone s (g ∷ []) x st store some good stands =
    let b = book_of s x g in
    let sent = group_sent b true (length x.text) (length g.pictures - 1) ++ sent_at b true (length x.text) 32 (length g.pictures - 1) ∷ [] in
    let one = group_gone s x g true sent st store good.0 stands (last_delays b (length x.text) (length g.pictures) good.0.book.group.picture) in
    record {
      out = group_out s x g;
      shown = group_shown_is s x g true;
      gone = subst (λ (jobs : List PictureJob). Gone s (group_parts s x g true) jobs sent (group_out s x g) st store) (sym (append-nil g.pictures)) one.gone;
    }
groups_gone s (g ∷ k ∷ more) x st store some good stands =
    let sent = group_sent (book_of s x g) false (length x.text) (length g.pictures) in
    let one = group_gone s x g false sent st store good.0 stands refl in
    let a = one.gone in
    let next = group_coded s x g false in
    let rest = groups_gone s (k ∷ more) next a.end a.left (omega arith) good.1 (record { last = one.last; state = inr a.between }) in
    let c = rest.gone in
    let out = group_out s x g in
    record {
      out = out ++ rest.out;
      shown = rest.shown ∙ ap (λ (ys : List (List ℕ)). ys ++ rest.out) (group_shown_is s x g false) ∙ append_assoc x.shown out rest.out;
      gone = record {
        end = c.end;
        left = c.left;
        made = a.made ++ c.made;
        tells = tells_on a.tells c.tells;
        jobs = map-append job_in a.made c.made ∙ (λ i. a.jobs i ++ c.jobs i);
        delays = map-append delay_in a.made c.made ∙ (λ i. a.delays i ++ c.delays i) ∙ sym (map-append delay_by sent (groups_sent s next (k ∷ more)));
        order = λ before.
            let first = a.order before in
            subst (λ (raw : List (List ℕ × ℕ)). ShowAll before raw (out ++ rest.out)) (sym (raw_append a.made c.made))
            (shown_on before (raw_in a.made) (raw_in c.made) out rest.out first (c.order first.behind));
        between = c.between;
      };
    }

-- ---- the stream

-- the first sequence header is the encoder's
first_is : (s : Settings) (st : State) → IsBetween s st → (after st ending).first ≡ Some (sequence_by s)
unfolding after
first_is s st x = ap (λ (z : State). (after z ending).first) x.is

-- it has no low_delay
pub no_delay : (s : Settings) → low_delay_of (Some (sequence_by s)) ≡ false
unfolding sequence_extension_of
no_delay s = refl

-- the pictures that are told of jobs
pictures_told : (s : Settings) (made : List Made) → pictures_in (told_all s made) ≡ map picture_in made
pictures_told s [] = refl
pictures_told s (m ∷ made) = pictures_in-append (told s m) (told_all s made) ∙ (λ i. by_begin (begins_group m.0) i ++ pictures_told s made i)
  where
    by_begin : (begins : Bool) → pictures_in (headers s m.0 begins ++ coded_picture m.1 ∷ []) ≡ m.1 ∷ []
    by_begin true = refl
    by_begin false = refl

-- what the stream tells and shows, and its first sequence header
pub record StreamTold (s : Settings) (frames : List (List ℕ)) : Type 0 where
  pub jobs : TellsJobs s frames
  pub first : (tree_of s frames).state.first ≡ Some (sequence_by s)
  pub shown : decoding.frames_of (tree_of s frames) ≡ Recon s frames

pub stream_told : (s : Settings) (frames : List (List ℕ)) → Passes s → 1 ≤ length frames → length frames ≤ 999999 → StreamTold s frames
unfolding coded_all
stream_told s frames passes some few =
    let x = at_start s in
    let groups = groups_of s frames in
    let lt = stream_some s frames some in
    let all = groups_gone s groups x at_first no_frames (omega (arith, lt)) (are_good s frames passes few) (record { last = refl; state = inl (refl, refl) }) in
    let gone = all.gone in
    let last = goes_one gone.end gone.left ending (after gone.end ending) (settled gone.end gone.left) (pending gone.end gone.left) refl refl refl in
    let whole = goes_on gone.tells.goes last in
    let told : decoding.events (tree_of s frames) ≡ told_all s gone.made = whole.events ∙ gone.tells.known in
    let first : (tree_of s frames).state.first ≡ Some (sequence_by s) = ap (λ (z : State). z.first) whole.state ∙ first_is s gone.end gone.between in
    let P = λ (p : Picture). p.dropped ≡ false in
    let ps = map picture_in gone.made in
    let kept = All-map (λ (f : Picture × ℕ). P f.0) typed (filter is_ending ps) (All-filter is_ending P ps (All-map P picture_in gone.made gone.tells.kept)) in
    record {
      jobs = record { made = gone.made; told = told; are = gone.tells.are; jobs = gone.jobs; delays = gone.delays };
      first = first;
      shown = (λ i. decoding.shown (low_delay_of (first i)) (pictures_in (told i)))
          ∙ (λ i. decoding.shown (no_delay s i) (pictures_told s gone.made i))
          ∙ made_shown (λ (p : Picture). crop p.frame) is_dropped (frames_in ps) all.out kept (gone.order None)
          ∙ sym all.shown;
    }

-- a decoder shows the reconstructions in display order
pub shown_is : (s : Settings) (frames : List (List ℕ)) → Passes s → 1 ≤ length frames → length frames ≤ 999999
    → decoding.frames_of (tree_of s frames) ≡ Recon s frames
shown_is s frames passes some few = (stream_told s frames passes some few).shown

pub tells_jobs : (s : Settings) (frames : List (List ℕ)) → Passes s → 1 ≤ length frames → length frames ≤ 999999 → TellsJobs s frames
tells_jobs s frames passes some few = (stream_told s frames passes some few).jobs
