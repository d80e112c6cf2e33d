-- The coded stream doesn't depend on the number of workers: neither do the plans, nor the pictures, nor the groups.
use Rattle.std.proofs.Common.{◌≡◌, ℕ, zero, suc, ◌+◌, ◌-◌, ◌/◌, ◌%◌, ◌++◌, ap₂, not, Bool, true, false, ◌&&◌, nat_eq, cond, if◌then◌else◌, List, [], ◌∷◌, map, length, take, drop, slice_index, Option, Some, None, refl, ap, ◌∙◌}
use mathlib.Core.Path.{fun_ext}
use Rattle.std.specs.List.{range_with_len, flat_map}
use Rattle.m2v_bits.specs.Bits.{packed, start_code}
use Rattle.m2v_set.specs.declared.settings.Settings.{Settings}
use Rattle.m2v_set.specs.Numbers.{dims_of, delay_of, least_of, longest_interval_of}
use Rattle.m2v_set.specs.Rules.{is_even}
use Rattle.m2v_plane.specs.Samples.{Samples}
use Rattle.m2v_plane.specs.Raw.{crop}
use Rattle.m2v_vbv.specs.Account.{State}
use Rattle.m2v_order.specs.declared.jobs.PictureJob.{PictureJob}
use Rattle.m2v_order.specs.Times.{intervals_of, interval_behind, repeats, repeats_last, is_top_first, anchor_after}
use Rattle.m2v_order.specs.Coding.{is_intra, is_anchor, anchors_between, in_order}
use Rattle.m2v_order.specs.Groups.{Queue, Group, is_due, intra_from, first_of, group_anchors, past_last, jobs_of, anchor_before, group_of, after_group}
use Rattle.m2v_rate.specs.declared.values.Plan.{Plan}
use Rattle.m2v_rate.specs.Plans.{Entries, account_at, low_behind, mean_behind, weights, incomes, pool, target_of, last_known, plan_by_weights, outlook_of, plan_by_source, plan_of, slice_cap_of, first_open, begun}
use Rattle.m2v_slice.specs.Slices.{CodedSlice, slice_of}
use Rattle.m2v_slice.specs.Headers.{context_of, extension_of, is_film, header_units, group_units, picture_units, sequence_of, sequence_extension_of, group_from, shown_number}
use Rattle.m2v_plane.specs.declared.planes.Plane.{Plane}
use Rattle.m2v_plane.specs.declared.planes.Lines.{Lines}
use Rattle.m2v_plane.specs.declared.planes.Lines.TheVariants.{Top, Bottom}
use Rattle.m2v_slice.specs.m2v_macroblock.Predictions.{View}
use Rattle.m2v_slice.specs.Books.{anchors_before, job_at, has_lines, picture_sample, reference, reference_picture, nth, forward_number, rows, Book, CodedPicture, coded, next_picture, slice_activities, picture_activities, task_of, ledger_for, ledger_with, ledger_behind}
use Rattle.m2v_enc_stream.specs.Streams.{Progress, frame_or, anchor_frame, picture_with, frame_by, pictures_text, picture_text, frame_of, group_coded, groups_coded, groups_from, coded_all, Coded, Recon, at_start, waiting, book_of, progress_behind, zeros_sum}

module _ (w : ℕ) where
  abbrev by : Settings → Settings
  by s = record s { workers = w }

  abbrev entries : Entries → Entries
  entries l = record l { settings = by l.settings }

  -- ---- plans

  accounts : (l : Entries) (j : ℕ) → account_at (entries l) j ≡ account_at l j
  unfolding account_at
  accounts l zero = refl
  accounts l (suc j) = rw (accounts l j) refl

  lows : (l : Entries) (f n : ℕ) → low_behind (entries l) f n ≡ low_behind l f n
  unfolding low_behind
  lows l f zero = ap (λ (a : State). a.held) (accounts l f)
  lows l f (suc n) = rw (lows l f n) refl

  means : (l : Entries) (f n : ℕ) → mean_behind (entries l) f n ≡ mean_behind l f n
  unfolding mean_behind
  means l f zero = ap (λ (a : State). a.held) (accounts l f)
  means l f (suc n) = rw (means l f n) refl

  targets : (l : Entries) (p : ℕ) → target_of (entries l) p ≡ target_of l p
  unfolding target_of pool weights incomes delay_of
  targets l p = rw (means l (first_open p) (p - first_open p)) refl

  lasts : (l : Entries) (kind n : ℕ) → last_known (entries l) kind n ≡ last_known l kind n
  unfolding last_known
  lasts l kind zero = refl
  lasts l kind (suc n) = rw (lasts l kind n) refl

  plans_by_weights : (l : Entries) (p : ℕ) → plan_by_weights (entries l) p ≡ plan_by_weights l p
  unfolding plan_by_weights least_of
  plans_by_weights l p = rw (targets l p, lows l (first_open p) (p - first_open p), lasts l (slice_index l.kinds p) (first_open p)) refl

  outlooks : (l : Entries) (p : ℕ) → outlook_of (entries l) p ≡ outlook_of l p
  unfolding delay_of
  outlooks l p =
      let f = first_open p in
      rw (means l f (p - f), lows l f (p - f), lasts l 1 f, lasts l 2 f, lasts l 3 f) refl

  plans_by_source : (l : Entries) (p : ℕ) → plan_by_source (entries l) p ≡ plan_by_source l p
  unfolding plan_by_source least_of
  plans_by_source l p = rw (outlooks l p, lows l (first_open p) (p - first_open p)) refl

  plans : (l : Entries) (p : ℕ) → plan_of (entries l) p ≡ plan_of l p
  unfolding plan_of
  plans l p = ap₂ (λ (x y : Plan). if is_even l.settings.planning then x else y) (plans_by_source l p) (plans_by_weights l p)

  -- ---- pictures

  abbrev book : Book → Book
  book b = record b { settings = by b.settings; ledger = entries b.ledger }

  sights : (b : Book) (done planned : List CodedPicture) (n : ℕ) → ledger_with (book b) done n planned ≡ entries (ledger_with b done n planned)
  unfolding ledger_with
  sights b done planned n = refl

  anchors : (b : Book) (lines : Lines) (p : ℕ) → anchors_before (book b) lines p ≡ anchors_before b lines p
  unfolding anchors_before
  anchors b lines zero = refl
  anchors b lines (suc p) =
      ap (λ (js : List ℕ). cond (not (nat_eq (job_at b p).kind 3) && has_lines (job_at b p).structure lines) (p ∷ []) [] ++ js) (anchors b lines p)

  samples : (b : Book) (done : List CodedPicture) (k : Option ℕ) (plane : Plane) (lines : Lines) (line column : ℕ) → picture_sample (book b) done k plane lines line column ≡ picture_sample b done k plane lines line column
  unfolding picture_sample
  samples b done None plane lines line column = refl
  samples b done (Some p) plane lines line column = refl

  references : (b : Book) (done : List CodedPicture) (p n : ℕ) → reference (book b) done p n ≡ reference b done p n
  unfolding reference
  references b done p n =
      fun_ext (λ plane. fun_ext (λ lines. fun_ext (λ line. fun_ext (λ column.
      samples b done (reference_picture (book b) p n lines) plane lines line column
      ∙ ap (λ (js : List ℕ). picture_sample b done (nth n js) plane lines line column) (anchors b lines p)))))

  tasks : (b : Book) (done : List CodedPicture) (p : ℕ) (plan : Plan) (r : ℕ) → task_of (book b) done p plan r ≡ task_of b done p plan r
  unfolding task_of slice_activities dims_of context_of extension_of is_film is_top_first repeats slice_cap_of least_of
  tasks b done p plan r =
      ap₂ (λ (f g : View). record (task_of b done p plan r) { forward = f; backward = g })
      (references b done p (forward_number (job_at b p).kind)) (references b done p 0)

  pictures : (b : Book) (done : List CodedPicture) → next_picture (book b) done ≡ next_picture b done
  unfolding next_picture ledger_with
  pictures b done =
      let p = length done in
      let plan = plan_of (ledger_for b done p) p in
      let same = plans (ledger_for b done p) p in
      ap₂ (λ (x : Plan) (cut : ℕ → CodedSlice). record { plan = x; slices = map cut (range_with_len 0 (rows b)) }) same
      (fun_ext (λ r. ap (λ (x : Plan). slice_of (task_of (book b) done p x r)) same ∙ ap slice_of (tasks b done p plan r)))

  all_pictures : (b : Book) (n : ℕ) → coded (book b) n ≡ coded b n
  unfolding coded
  all_pictures b zero = refl
  all_pictures b (suc n) =
      rw (all_pictures b n) (ap (λ (x : CodedPicture). coded b n ++ x ∷ []) (pictures b (coded b n)))

  -- ---- texts and frames

  texts : (b : Book) (done : List CodedPicture) (l : Entries) (ends : Bool) (at p : ℕ) → picture_text (book b) done (entries l) ends at p ≡ picture_text b done l ends at p
  unfolding picture_text header_units group_units picture_units sequence_of sequence_extension_of group_from shown_number extension_of is_film is_top_first repeats
  texts b done l ends at p = rw (accounts l p) refl

  all_texts : (b : Book) (done : List CodedPicture) (l : Entries) (ends : Bool) (at n : ℕ) → pictures_text (book b) done (entries l) ends at n ≡ pictures_text b done l ends at n
  unfolding pictures_text
  all_texts b done l ends at zero = refl
  all_texts b done l ends at (suc n) =
      rw (all_texts b done l ends at n)
      (ap (λ (t : List Bool). pictures_text b done l ends at n ++ t) (texts b done l ends (at + length (pictures_text b done l ends at n)) n))

  zeros : (l : Entries) (ends : Bool) (n : ℕ) → zeros_sum (entries l) ends n ≡ zeros_sum l ends n
  unfolding zeros_sum
  zeros l ends zero = refl
  zeros l ends (suc n) = rw (zeros l ends n, accounts l n) refl

  withs : (b : Book) (frame : ℕ) (lines : Lines) (n : ℕ) → picture_with (book b) frame lines n ≡ picture_with b frame lines n
  unfolding picture_with
  withs b frame lines zero = refl
  withs b frame lines (suc n) = rw (withs b frame lines n) refl

  frames : (b : Book) (done : List CodedPicture) (frame : ℕ) → frame_of (book b) done frame ≡ frame_of b done frame
  unfolding frame_of dims_of
  frames b done frame =
      ap (λ (at : Plane → ℕ → ℕ → ℕ). frame_by (dims_of b.settings) at)
      (fun_ext (λ plane. fun_ext (λ line. fun_ext (λ column. side plane line column (nat_eq (line % 2) 0)))))
    where
      side : (plane : Plane) (line column : ℕ) (even : Bool)
          → (if even then picture_sample (book b) done (picture_with (book b) frame Top (length done)) plane Top (line / 2) column
          else picture_sample (book b) done (picture_with (book b) frame Bottom (length done)) plane Bottom (line / 2) column)
          ≡ (if even then picture_sample b done (picture_with b frame Top (length done)) plane Top (line / 2) column
          else picture_sample b done (picture_with b frame Bottom (length done)) plane Bottom (line / 2) column)
      side plane line column true =
          samples b done (picture_with (book b) frame Top (length done)) plane Top (line / 2) column
          ∙ ap (λ (k : Option ℕ). picture_sample b done k plane Top (line / 2) column) (withs b frame Top (length done))
      side plane line column false =
          samples b done (picture_with (book b) frame Bottom (length done)) plane Bottom (line / 2) column
          ∙ ap (λ (k : Option ℕ). picture_sample b done k plane Bottom (line / 2) column) (withs b frame Bottom (length done))

  -- ---- groups

  times : (s : Settings) (last : Option ℕ) (jobs : List PictureJob) → intervals_of (by s) last jobs ≡ intervals_of s last jobs
  unfolding intervals_of interval_behind repeats repeats_last longest_interval_of
  times s last [] = refl
  times s last (job ∷ more) = ap (λ (us : List ℕ). interval_behind s last job ∷ us) (times s (anchor_after last job) more)

  openings : (l : Entries) (kinds intervals activities : List ℕ) → begun (entries l) kinds intervals activities ≡ entries (begun l kinds intervals activities)
  openings l kinds intervals activities =
      let n = length l.kinds in
      rw (accounts l n, lasts l 1 n, lasts l 2 n, lasts l 3 n) refl

  sources : (s : Settings) (frames : List Samples) (pictures : List PictureJob) → picture_activities (by s) frames pictures ≡ picture_activities s frames pictures
  unfolding picture_activities dims_of
  sources s frames pictures = refl

  abbrev progress : Progress → Progress
  progress x = record x { ledger = entries x.ledger }

  books : (s : Settings) (x : Progress) (g : Group Samples) → book_of (by s) (progress x) g ≡ book (book_of s x g)
  books s x g =
      let kinds = map (λ (j : PictureJob). j.kind) g.pictures in
      ap (λ (l : Entries). record { settings = by s; frames = g.frames; pictures = g.pictures; before = x.before; ledger = l })
      (ap₂ (begun (entries x.ledger) kinds) (times s g.before g.pictures) (sources s g.frames g.pictures)
      ∙ openings x.ledger kinds (intervals_of s g.before g.pictures) (picture_activities s g.frames g.pictures))

  kept : (before : Option Samples) (b : Book) (done : List CodedPicture) (k : Option ℕ) → frame_or before (book b) done k ≡ frame_or before b done k
  unfolding frame_or
  kept before b done None = refl
  kept before b done (Some k) = ap Some (frames b done k)

  groups_by_book : (x : Progress) (g : Group Samples) (ends : Bool) (b : Book) → progress_behind (progress x) g ends (book b) ≡ progress (progress_behind x g ends b)
  groups_by_book x g ends b =
      let n = length g.pictures in
      let done = coded b n in
      let l = ledger_behind b done in
      let at = anchor_frame None g.pictures in
      rw (all_pictures b n, sights b done done (length done), all_texts b done l ends (length x.text) n, zeros l ends n, kept x.before b done at)
      (ap (λ (cut : ℕ → List ℕ). record (progress (progress_behind x g ends b)) { shown = x.shown ++ map cut (range_with_len 0 (length g.frames)) })
      (fun_ext (λ k. ap crop (frames b done k))))

  groups : (s : Settings) (x : Progress) (g : Group Samples) (ends : Bool) → group_coded (by s) (progress x) g ends ≡ progress (group_coded s x g ends)
  unfolding group_coded
  groups s x g ends = ap (progress_behind (progress x) g ends) (books s x g) ∙ groups_by_book x g ends (book_of s x g)

  all_groups : (s : Settings) (x : Progress) (gs : List (Group Samples)) → groups_coded (by s) (progress x) gs ≡ progress (groups_coded s x gs)
  unfolding groups_coded
  all_groups s x [] = refl
  all_groups s x (g ∷ []) = groups s x g true
  all_groups s x (g ∷ h ∷ more) =
      ap (λ (y : Progress). groups_coded (by s) y (h ∷ more)) (groups s x g false) ∙ all_groups s (group_coded s x g false) (h ∷ more)

  abbrev queue : Queue Samples → Queue Samples
  queue q = record q { settings = by q.settings }

  dues : (q : Queue Samples) → is_due (queue q) ≡ is_due q
  unfolding is_due intra_from
  dues q = refl

  jobs : (s : Settings) (count first i : ℕ) → jobs_of (by s) count first i ≡ jobs_of s count first i
  unfolding is_intra is_anchor
  jobs s count first i = refl

  anchors_same : (s : Settings) (count from to : ℕ) → anchors_between (by s) count from to ≡ anchors_between s count from to
  unfolding is_anchor
  anchors_same s count from to = refl

  firsts : (q : Queue Samples) → group_anchors (queue q) ≡ group_anchors q
  unfolding intra_from is_anchor
  firsts q = refl

  handed : (q : Queue Samples) → group_of (queue q) ≡ group_of q
  unfolding group_of
  handed q =
      ap₂ (λ (anchors : List ℕ) (of : ℕ → List PictureJob). record {
        frames = take (past_last (first_of q) anchors - first_of q) q.frames;
        pictures = flat_map of (in_order (first_of q) anchors);
        before = anchor_before (first_of q);
      }) (firsts q) (fun_ext (λ i. jobs q.settings q.pushed (first_of q) i))

  left : (q : Queue Samples) → after_group (queue q) ≡ queue (after_group q)
  left q = ap (λ (anchors : List ℕ). record (queue q) { frames = drop (past_last (first_of q) anchors - first_of q) q.frames }) (firsts q)

  handed_all : (n : ℕ) (q : Queue Samples) → groups_from n (queue q) ≡ groups_from n q
  unfolding groups_from
  handed_all zero q = refl
  handed_all (suc n) q =
      rw (dues q, handed q, left q)
      (ap (λ (gs : List (Group Samples)). if is_due q then group_of q ∷ gs else []) (handed_all n (after_group q)))

  -- ---- the stream

  whole : (s : Settings) (frames : List (List ℕ)) → coded_all (by s) frames ≡ progress (coded_all s frames)
  unfolding coded_all dims_of delay_of
  whole s frames =
      ap (groups_coded (by s) (at_start (by s))) (handed_all (length frames) (waiting s frames true))
      ∙ all_groups s (at_start s) (groups_from (length frames) (waiting s frames true))

  pub coded_same : (s : Settings) (frames : List (List ℕ)) → Coded (by s) frames ≡ Coded s frames
  coded_same s frames = ap (λ (x : Progress). packed (x.text ++ start_code 0xB7)) (whole s frames)

  pub recon_same : (s : Settings) (frames : List (List ℕ)) → Recon (by s) frames ≡ Recon s frames
  recon_same s frames = ap (λ (x : Progress). x.shown) (whole s frames)
