-- Look-ups among the pictures of a book.
use Rattle.std.proofs.Common.{◌≡◌, ℕ, suc, ◌+◌, ◌<◌, [], ◌∷◌, ◌++◌, length, map, get_or, refl, sym, ap, ◌∙◌, arith}
use Rattle.std.specs.List.{range_with_len}
use Rattle.std.proofs.lemmas.List.FromFn.{get_or-map-range_with_len, length-map-range_with_len}
use Rattle.m2v_plane.specs.Fields.{no_samples}
use Rattle.m2v_rate.specs.Plans.{plan_of}
use Rattle.m2v_core.proofs.Made.{AreMade, made_count, made_is}
use Rattle.m2v_slice.specs.Slices.{CodedSlice, slice_of}
use Rattle.m2v_slice.specs.Books.{Book, CodedPicture, rows, no_plan, picture_at, slice_at, ledger_for, task_of, next_picture, coded}

-- no picture
abbrev pub none : CodedPicture
none = record { plan = no_plan; slices = [] }

abbrev pub no_slice : CodedSlice
no_slice = record { text = []; row = no_samples; work = 0 }

coded_made : (b : Book) → AreMade (next_picture b) (coded b)
unfolding coded
coded_made b = record { none = refl; more = λ n. refl }

pub count : (b : Book) (n : ℕ) → length (coded b n) ≡ n
count b = made_count (coded_made b)

-- each picture is made of those before it
pub picture_is : (b : Book) (n p : ℕ) → p < n → picture_at (coded b n) p ≡ next_picture b (coded b p)
picture_is b = made_is (coded_made b) none

pub coded_more : (b : Book) (n : ℕ) → coded b (n + 1) ≡ coded b n ++ next_picture b (coded b n) ∷ []
coded_more b n = ap (coded b) (let e : n + 1 ≡ suc n = omega arith in e) ∙ (coded_made b).more n

-- a picture stays as it is when others are coded behind it
pub picture_stays : (b : Book) (n m p : ℕ) → p < n → p < m → picture_at (coded b n) p ≡ picture_at (coded b m) p
picture_stays b n m p ln lm = picture_is b n p ln ∙ sym (picture_is b m p lm)

pub slice_stays : (b : Book) (n m p r : ℕ) → p < n → p < m → slice_at (coded b n) p r ≡ slice_at (coded b m) p r
slice_stays b n m p r ln lm = ap (λ (x : CodedPicture). get_or x.slices r no_slice) (picture_stays b n m p ln lm)

-- ---- the next picture

pub next_plan : (b : Book) (p : ℕ) → (next_picture b (coded b p)).plan ≡ plan_of (ledger_for b (coded b p) p) p
unfolding next_picture
next_plan b p = ap (λ (i : ℕ). plan_of (ledger_for b (coded b p) i) i) (count b p)

pub next_slice : (b : Book) (p r : ℕ) → r < rows b
    → get_or (next_picture b (coded b p)).slices r no_slice ≡ slice_of (task_of b (coded b p) p (next_picture b (coded b p)).plan r)
unfolding next_picture
next_slice b p r lt =
    get_or-map-range_with_len (λ i. slice_of (task_of b (coded b p) (length (coded b p)) (plan_of (ledger_for b (coded b p) (length (coded b p))) (length (coded b p))) i)) 0 (rows b) r r no_slice lt (omega arith)
    ∙ ap (λ (i : ℕ). slice_of (task_of b (coded b p) i (plan_of (ledger_for b (coded b p) (length (coded b p))) (length (coded b p))) r)) (count b p)

pub slices_count : (b : Book) (p : ℕ) → length (next_picture b (coded b p)).slices ≡ rows b
unfolding next_picture
slices_count b p = length-map-range_with_len (λ i. slice_of (task_of b (coded b p) (length (coded b p)) (plan_of (ledger_for b (coded b p) (length (coded b p))) (length (coded b p))) i)) 0 (rows b)

pub slices_are : (b : Book) (p : ℕ)
    → (next_picture b (coded b p)).slices ≡ map (λ r. slice_of (task_of b (coded b p) p (next_picture b (coded b p)).plan r)) (range_with_len 0 (rows b))
unfolding next_picture
slices_are b p =
    ap (λ (i : ℕ). map (λ r. slice_of (task_of b (coded b p) i (plan_of (ledger_for b (coded b p) (length (coded b p))) (length (coded b p))) r)) (range_with_len 0 (rows b)))
    (count b p)

-- the plan and a slice of a picture that is coded
pub plan_is : (b : Book) (n p : ℕ) → p < n → (picture_at (coded b n) p).plan ≡ plan_of (ledger_for b (coded b p) p) p
plan_is b n p lt = ap (λ (x : CodedPicture). x.plan) (picture_is b n p lt) ∙ next_plan b p

pub slice_is : (b : Book) (n p r : ℕ) → p < n → r < rows b
    → slice_at (coded b n) p r ≡ slice_of (task_of b (coded b p) p (picture_at (coded b n) p).plan r)
slice_is b n p r lt small =
    ap (λ (x : CodedPicture). get_or x.slices r no_slice) (picture_is b n p lt)
    ∙ next_slice b p r small
    ∙ ap (λ (x : CodedPicture). slice_of (task_of b (coded b p) p x.plan r)) (sym (picture_is b n p lt))
