-- Each frame of a group has its lines in one picture alone.
use Rattle.std.proofs.Common.{◌≡◌, ℕ, zero, suc, ◌+◌, ◌-◌, ◌<◌, ◌≤◌, inl, inr, Bool, true, false, cond, List, [], ◌∷◌, ◌++◌, length, map, get_or, Option, Some, refl, sym, ap, subst, ◌∙◌, arith, eq-eqb}
use Rattle.std.specs.Prelude.{nat_eq, ◌&&◌, filter, All}
use Rattle.std.specs.List.{range_with_len, flat_map}
use Rattle.std.proofs.lemmas.Bool.{cond-true, cases_lt, and_from, eqb-true}
use Rattle.std.proofs.lemmas.List.Elements.{All-nil, All-cons, All-append, All-weaker, All-head, All-tail}
use Rattle.m2v_plane.specs.declared.planes.Lines.{Lines}
use Rattle.m2v_plane.specs.declared.planes.Lines.TheVariants.{Top, Bottom}
use Rattle.m2v_plane.specs.Samples.{Samples}
use Rattle.m2v_set.specs.declared.settings.Settings.{Settings}
use Rattle.m2v_set.specs.declared.settings.Scan.{Scan}
use Rattle.m2v_set.specs.declared.settings.Scan.TheVariants.{Progressive, Frames, Fields}
use Rattle.m2v_order.specs.declared.jobs.PictureJob.{PictureJob}
use Rattle.m2v_order.specs.Coding.{is_anchor, kind_of, frames_between, in_order, structures}
use Rattle.m2v_order.specs.Groups.{Queue, Group, first_of, group_anchors, group_of, jobs_of}
use Rattle.m2v_order.proofs.Anchors.{Between, range_within}
use Rattle.m2v_order.proofs.Pictures.{all_flat, all_jobs}
use Rattle.m2v_slice.specs.Books.{Book, job_at, no_job, has_lines}
use Rattle.m2v_slice.specs.Conditions.{IsBook}
use Rattle.m2v_enc_stream.specs.Streams.{picture_with}

-- ---- numbers, none of which stands twice

-- numbers from one on, none twice
Distinct : ℕ → List ℕ → Type 0
Distinct low [] = Unit {0}
Distinct low (x ∷ xs) = ((low ≤ x) × All (λ (y : ℕ). x ≡ y → ⊥) xs) × Distinct low xs

lower : (low high : ℕ) (xs : List ℕ) → low ≤ high → Distinct high xs → Distinct low xs
unfolding Distinct
lower low high [] le d = tt
lower low high (x ∷ xs) le d = let h = d.0.0 in ((omega (arith, le, h), d.0.1), lower low high xs le d.1)

at_least : (low : ℕ) (xs : List ℕ) → Distinct low xs → All (λ (y : ℕ). low ≤ y) xs
unfolding Distinct
at_least low [] d = All-nil (λ (y : ℕ). low ≤ y)
at_least low (x ∷ xs) d = All-cons (λ (y : ℕ). low ≤ y) x xs d.0.0 (at_least low xs d.1)

range_distinct : (n from low : ℕ) → low ≤ from → Distinct low (range_with_len from n)
unfolding Distinct
range_distinct zero from low le = tt
range_distinct (suc n) from low le = (
  (le, All-weaker (Between (from + 1) (from + 1 + n)) (λ (y : ℕ). from ≡ y → ⊥) (λ y h e. let l = h.0 in omega (arith, l, e)) (range_with_len (from + 1) n) (range_within (from + 1) n)),
  range_distinct n (from + 1) low (omega (arith, le)),
)

joined : (low mid : ℕ) (xs ys : List ℕ) → low ≤ mid → Distinct low xs → All (λ (x : ℕ). x < mid) xs → Distinct mid ys → Distinct low (xs ++ ys)
unfolding Distinct
joined low mid [] ys le d below e = lower low mid ys le e
joined low mid (x ∷ xs) ys le d below e =
    let small : x < mid = All-head (λ (y : ℕ). y < mid) x xs below in (
      (d.0.0, All-append (λ (y : ℕ). x ≡ y → ⊥) xs ys d.0.1 (All-weaker (λ (y : ℕ). mid ≤ y) (λ (y : ℕ). x ≡ y → ⊥) (λ y h same. omega (arith, h, same, small)) ys (at_least mid ys e))),
      joined low mid xs ys le d.1 (All-tail (λ (y : ℕ). y < mid) x xs below) e,
    )

-- numbers that rise, from one on
unfoldable pub Ascends : ℕ → List ℕ → Type 0
Ascends from [] = Unit {0}
Ascends from (a ∷ more) = (from ≤ a) × Ascends (a + 1) more

ascends_lower : (from to : ℕ) (xs : List ℕ) → from ≤ to → Ascends to xs → Ascends from xs
unfolding Ascends
ascends_lower from to [] le up = tt
ascends_lower from to (a ∷ more) le up = let h = up.0 in (omega (arith, le, h), up.1)

by_filter : (p : ℕ → Bool) (from : ℕ) (xs : List ℕ) (t : Bool) → Ascends (from + 1) (filter p xs) → p from ≡ t → Ascends from (cond t (from ∷ filter p xs) (filter p xs))
unfolding Ascends
by_filter p from xs true up e = (omega arith, up)
by_filter p from xs false up e = ascends_lower from (from + 1) (filter p xs) (omega arith) up

pub ascends : (p : ℕ → Bool) (n from : ℕ) → Ascends from (filter p (range_with_len from n))
unfolding Ascends
ascends p zero from = tt
ascends p (suc n) from = by_filter p from (range_with_len (from + 1) n) (p from) (ascends p n (from + 1)) refl

-- coding order names no frame twice
order_distinct : (from : ℕ) (anchors : List ℕ) → Ascends from anchors → Distinct from (in_order from anchors)
unfolding in_order Ascends Distinct
order_distinct from [] up = tt
order_distinct from (a ∷ more) up =
    let low = up.0 in
    let between = frames_between from a in
    let rest = in_order (a + 1) more in
    let later : Distinct (a + 1) rest = order_distinct (a + 1) more up.1 in
    let inside = range_within from (a - from) in (
      (
        low,
        All-append (λ (y : ℕ). a ≡ y → ⊥) between rest
            (All-weaker (Between from (from + (a - from))) (λ (y : ℕ). a ≡ y → ⊥) (λ y h e. let less = h.1 in omega (arith, less, e, low)) between inside)
            (All-weaker (λ (y : ℕ). a + 1 ≤ y) (λ (y : ℕ). a ≡ y → ⊥) (λ y h e. omega (arith, h, e)) rest (at_least (a + 1) rest later)),
      ),
      joined from (a + 1) between rest (omega (arith, low)) (range_distinct (a - from) from from (omega arith))
          (All-weaker (Between from (from + (a - from))) (λ (x : ℕ). x < a + 1) (λ x h. let less = h.1 in omega (arith, less, low)) between inside) later,
    )

-- ---- pictures, none of which has another's lines

-- the top lines or the bottom lines
abbrev pub lines_by : Bool → Lines
lines_by top = cond top Top Bottom

-- two pictures aren't of one frame and of the same lines
Apart : PictureJob → PictureJob → Type 0
Apart i j = (top : Bool) → i.frame ≡ j.frame → has_lines i.structure (lines_by top) ≡ true → has_lines j.structure (lines_by top) ≡ true → ⊥

AllApart : List PictureJob → Type 0
AllApart [] = Unit {0}
AllApart (i ∷ more) = All (Apart i) more × AllApart more

apart_append : (xs ys : List PictureJob) → AllApart xs → AllApart ys → All (λ (i : PictureJob). All (Apart i) ys) xs → AllApart (xs ++ ys)
unfolding AllApart
apart_append [] ys a b cross = b
apart_append (x ∷ xs) ys a b cross =
    let P = λ (i : PictureJob). All (Apart i) ys in
    (All-append (Apart x) xs ys a.0 (All-head P x xs cross), apart_append xs ys a.1 b (All-tail P x xs cross))

-- the two fields of a frame have other lines
fields_apart : (top : Bool) → has_lines 1 (lines_by top) ≡ true → has_lines 2 (lines_by top) ≡ true → ⊥
unfolding has_lines
fields_apart true a b = absurd cc
fields_apart false a b = absurd cc

own_apart : (scan : Scan) (f : ℕ → PictureJob) → ((n : ℕ) → (f n).structure ≡ n) → AllApart (map f (structures scan))
unfolding structures AllApart Apart
own_apart Progressive f is = (All-nil (Apart (f 3)), tt)
own_apart Frames f is = (All-nil (Apart (f 3)), tt)
own_apart Fields f is = (
  All-cons (Apart (f 1)) (f 2) []
      (λ top e a b. fields_apart top (ap (λ (n : ℕ). has_lines n (lines_by top)) (sym (is 1)) ∙ a) (ap (λ (n : ℕ). has_lines n (lines_by top)) (sym (is 2)) ∙ b))
      (All-nil (Apart (f 1))),
  (All-nil (Apart (f 2)), tt),
)

module _ (s : Settings) (pushed first : ℕ) where
  abbrev jobs : ℕ → List PictureJob
  jobs = jobs_of s pushed first

  other_apart : (x y structure : ℕ) → first ≤ x → first ≤ y → (x ≡ y → ⊥)
      → (i : PictureJob) → i.frame ≡ x - first → All (Apart i) (jobs_of s pushed first y)
  unfolding Apart
  other_apart x y structure lx ly other i frame =
      all_jobs (Apart i) s pushed first y (λ n top e a b. other (omega (arith, lx, ly, frame, e)))

  jobs_apart : (xs : List ℕ) → Distinct first xs → AllApart (flat_map (jobs_of s pushed first) xs)
  unfolding Distinct AllApart
  jobs_apart [] d = tt
  jobs_apart (x ∷ xs) d =
      let job = λ (structure : ℕ). let j : PictureJob = record { frame = x - first; display = x; kind = kind_of s pushed x; structure = structure } in j in
      let more = flat_map (jobs_of s pushed first) xs in
      let both = All-and xs d.0.1 (at_least first xs d.1) in
      apart_append (jobs_of s pushed first x) more (own_apart s.scan job (λ n. refl)) (jobs_apart xs d.1)
      (all_jobs (λ (i : PictureJob). All (Apart i) more) s pushed first x
      (λ structure. all_flat (λ (y : ℕ). (x ≡ y → ⊥) × (first ≤ y)) (Apart (job structure)) (jobs_of s pushed first) xs both
      (λ y h. other_apart x y structure d.0.0 h.1 h.0 (job structure) refl)))
    where
      All-and : {x : ℕ} (ys : List ℕ) → All (λ (y : ℕ). x ≡ y → ⊥) ys → All (λ (y : ℕ). first ≤ y) ys → All (λ (y : ℕ). (x ≡ y → ⊥) × (first ≤ y)) ys
      All-and {x = x} ys a b = λ i e lt. (a i e lt, b i e lt)

group_apart : (q : Queue Samples) → AllApart (group_of q).pictures
unfolding group_of
group_apart q =
    jobs_apart q.settings q.pushed (first_of q) (in_order (first_of q) (group_anchors q))
    (order_distinct (first_of q) (group_anchors q) (ascends (is_anchor q.settings q.pushed) _ (first_of q)))

-- two of them, by their places
places_apart : (js : List PictureJob) (p q : ℕ) → AllApart js → p < q → q < length js → Apart (get_or js p no_job) (get_or js q no_job)
unfolding AllApart
places_apart [] p q a lt small = absurd (omega (arith, small))
places_apart (j ∷ js) zero (suc q) a lt small = a.0 q no_job (omega (arith, small))
places_apart (j ∷ js) (suc p) (suc q) a lt small = places_apart js p q a.1 (omega (arith, lt)) (omega (arith, small))
places_apart (j ∷ js) p zero a lt small = absurd (omega (arith, lt))

book_apart : (b : Book) → IsBook b → AllApart b.pictures
book_apart b h = subst (λ (g : Group Samples). AllApart g.pictures) (sym h.group.is) (group_apart h.group.queue)

apart_of : (i j : PictureJob) → Apart i j → (top : Bool) → i.frame ≡ j.frame → has_lines i.structure (lines_by top) ≡ true → has_lines j.structure (lines_by top) ≡ true → ⊥
unfolding Apart
apart_of i j a = a

-- the picture that has these lines of its frame is that one
pub only_one : (b : Book) → IsBook b → (p : ℕ) (top : Bool) → has_lines (job_at b p).structure (lines_by top) ≡ true → (n : ℕ) → p < n → n ≤ length b.pictures
    → picture_with b (job_at b p).frame (lines_by top) n ≡ Some p
unfolding picture_with
only_one b h p top has zero lt le = absurd (omega (arith, lt))
only_one b h p top has (suc n) lt le =
    let k = (job_at b p).frame in
    let lines = lines_by top in
    elim (cases_lt p n) [
      | inl below ↦
          no_later (nat_eq (job_at b n).frame k) (has_lines (job_at b n).structure lines) (Some n) (picture_with b k lines n)
          (λ e g. apart n below (omega (arith, le)) (eqb-true (job_at b n).frame k e) g)
          ∙ only_one b h p top has n below (omega (arith, le))
      | inr last ↦
          let e : p ≡ n = omega (arith, lt, last) in
          let here : (nat_eq (job_at b n).frame k && has_lines (job_at b n).structure lines) ≡ true =
          and_from (nat_eq (job_at b n).frame k) (has_lines (job_at b n).structure lines)
          (eq-eqb (job_at b n).frame k (ap (λ (i : ℕ). (job_at b i).frame) (sym e)))
          (ap (λ (i : ℕ). has_lines (job_at b i).structure lines) (sym e) ∙ has) in
          cond-true (nat_eq (job_at b n).frame k && has_lines (job_at b n).structure lines) (Some n) (picture_with b k lines n) here ∙ ap Some (sym e)
    ]
  where
    no_later : (a g : Bool) (x y : Option ℕ) → (a ≡ true → g ≡ true → ⊥) → cond (a && g) x y ≡ y
    no_later true true x y none = absurd (none refl refl)
    no_later true false x y none = refl
    no_later false g x y none = refl

    apart : (n : ℕ) → p < n → suc n ≤ length b.pictures → (job_at b n).frame ≡ (job_at b p).frame → has_lines (job_at b n).structure (lines_by top) ≡ true → ⊥
    apart n below small e g = apart_of (job_at b p) (job_at b n) (places_apart b.pictures p n (book_apart b h) below (omega (arith, small))) top (sym e) has g
