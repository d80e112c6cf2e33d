-- A group is shown in display order.
use Rattle.std.proofs.Common.{◌≡◌, ℕ, zero, suc, ◌+◌, ◌-◌, ◌<◌, ◌≤◌, inl, inr, Bool, true, false, cond, List, [], ◌∷◌, ◌++◌, length, map, take, get_or, Option, Some, None, refl, sym, ap, subst, ◌∙◌, arith}
use Rattle.std.specs.Prelude.{nat_eq}
use Rattle.std.specs.List.{range_with_len, flat_map}
use Rattle.std.proofs.lemmas.Bool.{cases_Bool, eqb-true}
use Rattle.std.proofs.lemmas.List.{append-nil}
use Rattle.std.proofs.lemmas.Grind.{flat_map-append}
use Rattle.std.proofs.Math.Seq.{take-suc, take-length}
use Rattle.m2v_plane.specs.Samples.{Samples}
use Rattle.m2v_plane.specs.Raw.{crop}
use Rattle.m2v_set.specs.declared.settings.Settings.{Settings}
use Rattle.m2v_set.specs.declared.settings.Scan.{Scan}
use Rattle.m2v_set.specs.declared.settings.Scan.TheVariants.{Progressive, Frames, Fields}
use Rattle.m2v_set.specs.Rules.{Passes}
use Rattle.m2v_order.specs.declared.jobs.PictureJob.{PictureJob}
use Rattle.m2v_order.specs.Coding.{is_anchor, kind_of, frames_between, in_order, structures}
use Rattle.m2v_order.specs.Groups.{Queue, Group, first_of, group_anchors, group_of, jobs_of, past_last}
use Rattle.m2v_order.proofs.Queues.{grouped, due_is, turn_is, group_length}
use Rattle.m2v_order.proofs.Queues.{true_false}
use Rattle.m2v_slice.specs.Books.{Book, no_job, job_at, coded}
use Rattle.m2v_slice.specs.Conditions.{IsBook}
use Rattle.m2v_slice.proofs.Groups.{passes_of}
use Rattle.m2v_enc_stream.specs.Streams.{frame_or, anchor_frame}
use Rattle.m2v_law_shown.specs.Showing.{ShowAll}
use Rattle.m2v_law_shown.specs.Stores.{frame_in, newer_behind}
use Rattle.m2v_law_shown.specs.Runs.{raw_behind}
use Rattle.m2v_law_shown.proofs.Order.{run_shown}
use Rattle.m2v_law_shown.proofs.Coding.{b_is}
use Rattle.m2v_law_shown.proofs.Shapes.{waits, previous, Shape, shape_at}
use Rattle.m2v_law_shown.proofs.Views.{newer_kept, newer_ended, ends_is, b_ends_none, first_free}

-- ---- the raw frames that a group ends

raw_one : Book → PictureJob → List (List ℕ × ℕ)
raw_one b j = cond (nat_eq j.structure 1) [] ((crop (frame_in b j.frame), j.kind) ∷ [])

raw_take : (b : Book) (n : ℕ) → n ≤ length b.pictures → raw_behind b n ≡ flat_map (raw_one b) (take n b.pictures)
unfolding raw_behind raw_one
raw_take b zero le = refl
raw_take b (suc n) le =
    let job = get_or b.pictures n no_job in
    let more : take (suc n) b.pictures ≡ take n b.pictures ++ job ∷ [] = take-suc b.pictures n no_job (omega (arith, le)) in
    ap (λ (xs : List (List ℕ × ℕ)). xs ++ raw_one b job) (raw_take b n (omega (arith, le)))
    ∙ ap (λ (xs : List (List ℕ × ℕ)). flat_map (raw_one b) (take n b.pictures) ++ xs) (sym (append-nil (raw_one b job)))
    ∙ sym (flat_map-append (raw_one b) (take n b.pictures) (job ∷ []))
    ∙ sym (ap (flat_map (raw_one b)) more)

-- a frame by its display number, with its type
abbrev pub shown_frame : Book → Settings → ℕ → ℕ → ℕ → List ℕ × ℕ
shown_frame b s pushed first i = (crop (frame_in b (i - first)), kind_of s pushed i)

scan_raw : (b : Book) (scan : Scan) (frame display kind : ℕ)
    → flat_map (raw_one b) (map (λ structure. let j : PictureJob = record { frame = frame; display = display; kind = kind; structure = structure } in j) (structures scan)) ≡ (crop (frame_in b frame), kind) ∷ []
unfolding structures raw_one
scan_raw b Progressive frame display kind = refl
scan_raw b Frames frame display kind = refl
scan_raw b Fields frame display kind = refl

raw_jobs : (b : Book) (s : Settings) (pushed first i : ℕ) → flat_map (raw_one b) (jobs_of s pushed first i) ≡ shown_frame b s pushed first i ∷ []
raw_jobs b s pushed first i = scan_raw b s.scan (i - first) i (kind_of s pushed i)

raw_order : (b : Book) (s : Settings) (pushed first : ℕ) (xs : List ℕ) → flat_map (raw_one b) (flat_map (jobs_of s pushed first) xs) ≡ map (shown_frame b s pushed first) xs
raw_order b s pushed first [] = refl
raw_order b s pushed first (x ∷ xs) =
    flat_map-append (raw_one b) (jobs_of s pushed first x) (flat_map (jobs_of s pushed first) xs)
    ∙ (λ i. raw_jobs b s pushed first x i ++ raw_order b s pushed first xs i)

-- ---- numbers from one on, and from 0 on

shifted : {A : Type 0} (g : ℕ → A) (a k n : ℕ) → map (λ (i : ℕ). g (i - a)) (range_with_len (a + k) n) ≡ map g (range_with_len k n)
shifted g a k zero = refl
shifted g a k (suc n) =
    let here : a + k - a ≡ k = omega arith in
    let next : a + k + 1 ≡ a + (k + 1) = omega arith in
    (λ i. g (here i) ∷ map (λ (j : ℕ). g (j - a)) (range_with_len (next i) n))
    ∙ ap (λ ys. g k ∷ ys) (shifted g a (k + 1) n)

-- ---- a group

module _ (b : Book) (h : IsBook b) where
  abbrev queue : Queue Samples
  queue = h.group.queue

  queue_passes : Passes h.group.queue.settings
  queue_passes = subst Passes (sym h.group.settings) (passes_of b h)

  raw_is : raw_behind b (length b.pictures) ≡ map (shown_frame b queue.settings queue.pushed (first_of queue)) (in_order (first_of queue) (group_anchors queue))
  unfolding group_of
  raw_is =
      raw_take b (length b.pictures) (omega arith)
      ∙ ap (flat_map (raw_one b)) (take-length b.pictures)
      ∙ ap (λ (g : Group Samples). flat_map (raw_one b) g.pictures) h.group.is
      ∙ raw_order b queue.settings queue.pushed (first_of queue) (in_order (first_of queue) (group_anchors queue))

  count_is : past_last (first_of queue) (group_anchors queue) - first_of queue ≡ length b.frames
  unfolding group_of
  count_is =
      let turn = turn_is queue (grouped queue.settings queue_passes) h.group.sound (due_is queue h.group.due) in
      sym (ap (λ (g : Group Samples). length g.frames) h.group.is ∙ group_length queue h.group.sound turn)

  -- its frames are shown in display order, behind whatever anchor is held
  pub group_shown : (before : Option (List ℕ)) → ShowAll before (raw_behind b (length b.pictures)) (map (λ (k : ℕ). crop (frame_in b k)) (range_with_len 0 (length b.frames)))
  group_shown before =
      let first = first_of queue in
      let anchors = group_anchors queue in
      let f = shown_frame b queue.settings queue.pushed first in
      let g = λ (k : ℕ). crop (frame_in b k) in
      let none : first + 0 ≡ first = omega arith in
      let run = run_shown f (is_anchor queue.settings queue.pushed) first _ before (λ i. b_is queue.settings queue.pushed (grouped queue.settings queue_passes) i) in
      let out : map (λ (i : ℕ). (f i).0) (frames_between first (past_last first anchors)) ≡ map g (range_with_len 0 (length b.frames)) =
      ap (λ (n : ℕ). map (λ (i : ℕ). (f i).0) (range_with_len first n)) count_is
      ∙ ap (λ (a : ℕ). map (λ (i : ℕ). (f i).0) (range_with_len a (length b.frames))) (sym none)
      ∙ shifted g first 0 (length b.frames) in
      subst (λ (xs : List (List ℕ)). ShowAll before (raw_behind b (length b.pictures)) xs) out
      (subst (λ (ps : List (List ℕ × ℕ)). ShowAll before ps (map (λ (i : ℕ). (f i).0) (frames_between first (past_last first anchors)))) (sym raw_is) run)

-- ---- the last anchor of a group

-- the frame of the last anchor among the first n pictures
abbrev anchor_upto : Book → ℕ → Option ℕ
anchor_upto b n = anchor_frame None (take n b.pictures)

anchor_append : (last : Option ℕ) (xs : List PictureJob) (j : PictureJob) → anchor_frame last (xs ++ j ∷ []) ≡ cond (nat_eq j.kind 3) (anchor_frame last xs) (Some j.frame)
unfolding anchor_frame
anchor_append last [] j = refl
anchor_append last (x ∷ xs) j = anchor_append (cond (nat_eq x.kind 3) last (Some x.frame)) xs j

anchor_more : (b : Book) (n : ℕ) → n < length b.pictures → anchor_upto b (suc n) ≡ cond (nat_eq (job_at b n).kind 3) (anchor_upto b n) (Some (job_at b n).frame)
anchor_more b n lt = ap (anchor_frame None) (take-suc b.pictures n no_job lt) ∙ anchor_append None (take n b.pictures) (job_at b n)

abbrev LastIs : Book → ℕ → Type 0
LastIs b n = newer_behind b n ≡ frame_or b.before b (coded b (length b.pictures)) (anchor_upto b n)

none_yet : (b : Book) → LastIs b 0
unfolding newer_behind frame_or anchor_frame
none_yet b = refl

module _ (b : Book) (h : IsBook b) where
  abbrev by_frame : Option ℕ → Option Samples
  by_frame o = frame_or b.before b (coded b (length b.pictures)) o

  some_frame : (k : ℕ) → Some (frame_in b k) ≡ frame_or b.before b (coded b (length b.pictures)) (Some k)
  unfolding frame_or
  some_frame k = refl

  anchor_is : (n : ℕ) → n < length b.pictures → nat_eq (job_at b n).kind 3 ≡ false → (structure : ℕ) → (job_at b n).structure ≡ structure → nat_eq structure 1 ≡ false → LastIs b (suc n)
  anchor_is n lt k structure is other =
      newer_ended b None n (ends_is b n structure k is other) ∙ some_frame (job_at b n).frame
      ∙ ap by_frame (sym (anchor_more b n lt ∙ ap (λ (t : Bool). cond t (anchor_upto b n) (Some (job_at b n).frame)) k))

  b_is_kept : (n : ℕ) → n < length b.pictures → nat_eq (job_at b n).kind 3 ≡ true → newer_behind b n ≡ frame_or b.before b (coded b (length b.pictures)) (anchor_upto b n) → LastIs b (suc n)
  b_is_kept n lt k before =
      newer_kept b None n (b_ends_none b n k) ∙ before
      ∙ ap by_frame (sym (anchor_more b n lt ∙ ap (λ (t : Bool). cond t (anchor_upto b n) (Some (job_at b n).frame)) k))

  last_more : (n : ℕ) → n < length b.pictures → waits b.pictures (suc n) ≡ false → (waits b.pictures n ≡ false → LastIs b n)
      → (waits b.pictures n ≡ true → (job_at b n).structure ≡ 2 → nat_eq (job_at b n).kind 3 ≡ true → LastIs b n) → LastIs b (suc n)
  last_more n lt free v w = by_shape (shape_at b h n lt)
    where
      by_kind : (structure : ℕ) → (job_at b n).structure ≡ structure → nat_eq structure 1 ≡ false → (nat_eq (job_at b n).kind 3 ≡ true → LastIs b n) → LastIs b (suc n)
      by_kind structure is other before = elim (cases_Bool (nat_eq (job_at b n).kind 3)) [
        | inl k ↦ b_is_kept n lt k (before k)
        | inr k ↦ anchor_is n lt k structure is other
      ]

      by_shape : Shape b.pictures n → LastIs b (suc n)
      by_shape (inl s) = by_kind 3 s.1 refl (λ k. v s.0)
      by_shape (inr (inl s)) = absurd (true_false (nat_eq (job_at b n).structure 1) (ap (λ (m : ℕ). nat_eq m 1) s.1) free)
      by_shape (inr (inr s)) = by_kind 2 s.1.structure refl (w s.0 s.1.structure)

  last_at : (n : ℕ) → n ≤ length b.pictures → waits b.pictures n ≡ false → LastIs b n
  last_at zero le free = none_yet b
  last_at (suc zero) le free = last_more zero (omega (arith, le)) free (λ e. none_yet b) (λ e two k. absurd (true_false false e refl))
  last_at (suc (suc n)) le free =
      last_more (suc n) (omega (arith, le)) free (λ e. last_at (suc n) (omega (arith, le)) e)
      (λ e two k.
      let one = eqb-true (job_at b n).structure 1 e in
      let earlier = last_at n (omega (arith, le)) (first_free b n one (shape_at b h n (omega (arith, le)))) in
      first_kept n (omega (arith, le)) one (kind_before (suc n) two k (shape_at b h (suc n) (omega (arith, le)))) earlier)
    where
      kind_before : (m : ℕ) → (job_at b m).structure ≡ 2 → nat_eq (job_at b m).kind 3 ≡ true → Shape b.pictures m → nat_eq (previous b.pictures m).kind 3 ≡ true
      kind_before m two k (inl s) = let three = s.1 in absurd (omega (arith, two, three))
      kind_before m two k (inr (inl s)) = let single = s.1 in absurd (omega (arith, two, single))
      kind_before m two k (inr (inr s)) = ap (λ (i : ℕ). nat_eq i 3) s.1.kind ∙ k

      first_kept : (m : ℕ) → m < length b.pictures → (job_at b m).structure ≡ 1 → nat_eq (job_at b m).kind 3 ≡ true → LastIs b m → LastIs b (suc m)
      first_kept m small one k earlier = b_is_kept m small k earlier

  -- the anchor that is left is that of the group
  pub last_anchor_is : waits b.pictures (length b.pictures) ≡ false → newer_behind b (length b.pictures) ≡ frame_or b.before b (coded b (length b.pictures)) (anchor_frame None b.pictures)
  last_anchor_is free =
      last_at (length b.pictures) (omega arith) free ∙ ap (λ (xs : List PictureJob). frame_or b.before b (coded b (length b.pictures)) (anchor_frame None xs)) (take-length b.pictures)
