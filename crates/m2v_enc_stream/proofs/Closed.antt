-- The ledger behind a group is the closed ledger of its pictures, which are coded by its plans.
use Rattle.std.proofs.Common.{◌≡◌, ℕ, ◌+◌, ◌<◌, ◌≤◌, List, length, map, get_or, refl, sym, ap, subst, ◌∙◌, arith}
use Rattle.std.specs.Prelude.{slice_index, sum_by}
use Rattle.std.specs.List.{range_with_len}
use Rattle.std.proofs.lemmas.List.{length-map, get_or-map}
use Rattle.std.proofs.lemmas.List.FromFn.{fill_by_all, get_or-map-range_with_len, length-map-range_with_len}
use Rattle.m2v_set.specs.Numbers.{IsInterval}
use Rattle.m2v_order.specs.declared.jobs.PictureJob.{PictureJob}
use Rattle.m2v_rate.specs.declared.values.Plan.{Plan}
use Rattle.m2v_rate.specs.Plans.{Entries, first_open, plan_of, begun}
use Rattle.m2v_rate.specs.Seen.{Told, told, Agree, SeesSame}
use Rattle.m2v_rate.specs.Safety.{Picture, closed, IsCoded}
use Rattle.m2v_rate.proofs.Same.{plan_same}
use Rattle.m2v_slice.specs.Slices.{CodedSlice}
use Rattle.m2v_slice.specs.Headers.{header_bits}
use Rattle.m2v_slice.specs.Books.{Book, CodedPicture, no_job, job_at, coded, picture_at, size_of, work_of, told_with, ledger_with}
use Rattle.m2v_slice.specs.Conditions.{IsBook}
use Rattle.m2v_slice.proofs.Coded.{none, count, picture_is, picture_stays, plan_is}
use Rattle.m2v_slice.proofs.Steady.{IsPlan, header_small, next_within, ledger_at, ledger_for_is, sizes_stay, works_stay}
use Rattle.m2v_slice.proofs.Sound.{plan_is_good}
use Rattle.m2v_slice.proofs.Ledgers.{times_count}
use Rattle.m2v_slice.proofs.Activities.{activities_count}
use Rattle.m2v_enc_stream.specs.Removals.{coded_of, ledger_of, seen_at, seen_of}

-- ---- the pictures one by one

pub seen_length : (b : Book) → length (seen_of b) ≡ length b.pictures
seen_length b = length-map-range_with_len (seen_at b) 0 (length b.pictures)

pub seen_is : (b : Book) (p : ℕ) (d : Picture) → p < length b.pictures → get_or (seen_of b) p d ≡ seen_at b p
seen_is b p d lt = get_or-map-range_with_len (seen_at b) 0 (length b.pictures) p p d lt (omega arith)

-- a list is what the pictures tell of it, one by one
told_by : (b : Book) (f : Picture → ℕ) (xs : List ℕ) → length xs ≡ length b.pictures
    → ((p : ℕ) → p < length b.pictures → get_or xs p 0 ≡ f (seen_at b p)) → map f (seen_of b) ≡ xs
told_by b f xs long each =
    let n = length b.pictures in
    fill_by_all (λ p. f (seen_at b p)) (map f (seen_of b)) n 0 (length-map (seen_of b) f ∙ seen_length b)
    (λ p lt. get_or-map f (seen_of b) p (seen_at b p) 0 (omega (arith, lt, seen_length b)) ∙ ap f (seen_is b p (seen_at b p) lt))
    ∙ sym (fill_by_all (λ p. f (seen_at b p)) xs n 0 long each)

kinds_told : (b : Book) → map (λ (x : Picture). x.kind) (seen_of b) ≡ map (λ (j : PictureJob). j.kind) b.pictures
kinds_told b =
    told_by b (λ (x : Picture). x.kind) (map (λ (j : PictureJob). j.kind) b.pictures) (length-map b.pictures (λ (j : PictureJob). j.kind))
    (λ p lt. get_or-map (λ (j : PictureJob). j.kind) b.pictures p no_job 0 lt)

intervals_told : (b : Book) → IsBook b → map (λ (x : Picture). x.interval) (seen_of b) ≡ b.ledger.intervals
intervals_told b h = told_by b (λ (x : Picture). x.interval) b.ledger.intervals (times_count b h) (λ p lt. refl)

activities_told : (b : Book) → IsBook b → map (λ (x : Picture). x.activity) (seen_of b) ≡ b.ledger.activities
activities_told b h = told_by b (λ (x : Picture). x.activity) b.ledger.activities (activities_count b h) (λ p lt. refl)

-- what is told of each picture, by its place
each_told : (b : Book) (f : Picture → ℕ) (g : ℕ → ℕ) → ((p : ℕ) → g p ≡ f (seen_at b p)) → map f (seen_of b) ≡ map g (range_with_len 0 (length (coded_of b)))
each_told b f g each =
    let n = length b.pictures in
    told_by b f (map g (range_with_len 0 (length (coded_of b))))
    (length-map-range_with_len g 0 (length (coded_of b)) ∙ count b n)
    (λ p lt. get_or-map-range_with_len g 0 (length (coded_of b)) p p 0 (omega (arith, lt, count b n)) (omega arith) ∙ each p)

sizes_told : (b : Book) → map (λ (x : Picture). x.size) (seen_of b) ≡ map (size_of b (coded_of b)) (range_with_len 0 (length (coded_of b)))
sizes_told b = each_told b (λ (x : Picture). x.size) (size_of b (coded_of b)) (λ p. refl)

works_told : (b : Book) → map (λ (x : Picture). x.work) (seen_of b) ≡ map (work_of (coded_of b)) (range_with_len 0 (length (coded_of b)))
works_told b = each_told b (λ (x : Picture). x.work) (work_of (coded_of b)) (λ p. refl)

plans_told : (b : Book) (f : Plan → ℕ) → map (λ (x : Picture). f x.plan) (seen_of b) ≡ map (λ (x : CodedPicture). f x.plan) (coded_of b)
plans_told b f =
    let n = length b.pictures in
    told_by b (λ (x : Picture). f x.plan) (map (λ (x : CodedPicture). f x.plan) (coded_of b))
    (length-map (coded_of b) (λ (x : CodedPicture). f x.plan) ∙ count b n)
    (λ p lt. get_or-map (λ (x : CodedPicture). f x.plan) (coded_of b) p none 0 (omega (arith, lt, count b n)))

-- ---- the closed ledger

-- the ledger with which the group begins, as the book has it
begun_same : (l : Entries) (k t a k' t' a' : List ℕ) → k ≡ k' → t ≡ t' → a ≡ a' → begun l k t a ≡ begun l k' t' a'
begun_same l k t a k' t' a' ek et ea = rw (ek, et, ea) refl

pub begun_is : (b : Book) (h : IsBook b)
    → begun h.ledger.from (map (λ (x : Picture). x.kind) (seen_of b)) (map (λ (x : Picture). x.interval) (seen_of b)) (map (λ (x : Picture). x.activity) (seen_of b)) ≡ b.ledger
begun_is b h =
    begun_same h.ledger.from _ _ _ _ _ _ (kinds_told b)
    (intervals_told b h ∙ ap (λ (l : Entries). l.intervals) h.ledger.begun) (activities_told b h ∙ ap (λ (l : Entries). l.activities) h.ledger.begun)
    ∙ sym h.ledger.begun

-- what is told of the pictures of a book
abbrev told_of : Book → Told
told_of b = record {
  sizes = map (λ (x : Picture). x.size) (seen_of b);
  works = map (λ (x : Picture). x.work) (seen_of b);
  quantisers = map (λ (x : Picture). x.plan.q) (seen_of b);
  caps = map (λ (x : Picture). x.plan.cap) (seen_of b);
  targets = map (λ (x : Picture). x.plan.target) (seen_of b);
}

told_same : (b : Book) → told_of b ≡ told_with b (coded_of b) (length (coded_of b)) (coded_of b)
told_same b =
    rw (sizes_told b, works_told b, plans_told b (λ (x : Plan). x.q), plans_told b (λ (x : Plan). x.cap), plans_told b (λ (x : Plan). x.target)) refl

pub closed_is : (b : Book) (h : IsBook b) → closed h.ledger.from (seen_of b) ≡ ledger_of b
unfolding ledger_with
closed_is b h = ap (λ (l : Entries). told l (told_of b)) (begun_is b h) ∙ ap (told b.ledger) (told_same b)

-- ---- plans

plans_agree : (b : Book) (p : ℕ) (f : Plan → ℕ) → p < length b.pictures
    → Agree p (map (λ (x : CodedPicture). f x.plan) (coded b p)) (map (λ (x : CodedPicture). f x.plan) (coded_of b))
plans_agree b p f lt = λ j less.
    let n = length b.pictures in
    get_or-map (λ (x : CodedPicture). f x.plan) (coded b p) j none 0 (omega (arith, less, count b p))
    ∙ ap (λ (x : CodedPicture). f x.plan) (picture_stays b p n j less (omega (arith, less, lt)))
    ∙ sym (get_or-map (λ (x : CodedPicture). f x.plan) (coded_of b) j none 0 (omega (arith, less, lt, count b n)))

-- a list by place that stays as more pictures are coded
places_agree : (b : Book) (p : ℕ) (f g : ℕ → ℕ) → p < length b.pictures
    → map f (range_with_len 0 (first_open p)) ≡ map g (range_with_len 0 (first_open p))
    → Agree (first_open p) (map f (range_with_len 0 (first_open p))) (map g (range_with_len 0 (length (coded_of b))))
places_agree b p f g lt stay = λ j less.
    let n = length b.pictures in
    let k = first_open p in
    ap (λ (xs : List ℕ). get_or xs j 0) stay
    ∙ get_or-map-range_with_len g 0 k j j 0 less (omega arith)
    ∙ sym (get_or-map-range_with_len g 0 (length (coded_of b)) j j 0 (omega (arith, less, lt, count b n)) (omega arith))

sees_same : (b : Book) (p : ℕ) → p < length b.pictures
    → SeesSame p (told_with b (coded b p) (first_open p) (coded b p)) (told_with b (coded_of b) (length (coded_of b)) (coded_of b))
sees_same b p lt =
    let n = length b.pictures in
    let k = first_open p in
    record {
      sizes = places_agree b p (size_of b (coded b p)) (size_of b (coded_of b)) lt (sizes_stay b k p n (omega arith) (omega (arith, lt)));
      works = places_agree b p (work_of (coded b p)) (work_of (coded_of b)) lt (works_stay b k p n (omega arith) (omega (arith, lt)));
      quantisers = plans_agree b p (λ (x : Plan). x.q) lt;
      caps = plans_agree b p (λ (x : Plan). x.cap) lt;
      targets = plans_agree b p (λ (x : Plan). x.target) lt;
    }

-- a plan reads no more than it knew
plan_closed : (b : Book) (p : ℕ) → p < length b.pictures → plan_of (ledger_at b (first_open p) p) p ≡ plan_of (ledger_of b) p
unfolding ledger_with
plan_closed b p lt = plan_same b.ledger _ _ p (sees_same b p lt)

plan_kept : (b : Book) (p : ℕ) → p < length b.pictures → (picture_at (coded_of b) p).plan ≡ plan_of (ledger_of b) p
plan_kept b p lt =
    plan_is b (length b.pictures) p lt ∙ ap (λ (l : Entries). plan_of l p) (ledger_for_is b p) ∙ plan_closed b p lt

-- ---- a group is coded by its plans

-- a picture leaves 40 bits of its cap
size_room : (b : Book) → IsBook b → (p : ℕ) → p < length b.pictures → size_of b (coded_of b) p + 40 ≤ (picture_at (coded_of b) p).plan.cap
size_room b h p lt =
    let n = length b.pictures in
    let is = picture_is b n p lt in
    let good = plan_is_good b h n p lt (omega arith) in
    subst (λ (x : CodedPicture). header_bits (job_at b p) + sum_by (λ (s : CodedSlice). length s.text) x.slices + 40 ≤ x.plan.cap) (sym is)
    (omega (arith, header_small (job_at b p), next_within b h p lt (subst (λ (x : CodedPicture). IsPlan b.settings x.plan) is good)))

pub is_coded : (b : Book) (h : IsBook b) → IsCoded h.ledger.from (seen_of b)
is_coded b h = record {
  some = omega (arith, seen_length b, h.group.picture);
  times = λ p d lt.
      let less : p < length b.pictures = omega (arith, lt, seen_length b) in
      subst (λ (x : Picture). IsInterval h.ledger.from.settings x.interval) (sym (seen_is b p d less)) (time_is p less);
  plans = λ p d lt.
      let less : p < length b.pictures = omega (arith, lt, seen_length b) in
      ap (λ (x : Picture). x.plan) (seen_is b p d less) ∙ plan_kept b p less ∙ ap (λ (l : Entries). plan_of l p) (sym (closed_is b h));
  sizes = λ p d lt.
      let less : p < length b.pictures = omega (arith, lt, seen_length b) in
      subst (λ (x : Picture). x.size + 32 ≤ x.plan.cap) (sym (seen_is b p d less)) (omega (arith, size_room b h p less));
}
  where
    time_is : (p : ℕ) → p < length b.pictures → IsInterval h.ledger.from.settings (slice_index b.ledger.intervals p)
    time_is p lt =
        let same : b.ledger.settings ≡ h.ledger.from.settings = ap (λ (l : Entries). l.settings) h.ledger.begun in
        subst (λ s. IsInterval s (slice_index b.ledger.intervals p)) same
        (h.ledger.ledger.steady.begun.times p 0 (omega (arith, lt, times_count b h)))
