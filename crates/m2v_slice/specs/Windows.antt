-- The rows of reference pictures that a slice's cache holds, and the lines that a view of them holds.
use Rattle.std.specs.Prelude.{ℕ, ◌≡◌, ◌+◌, ◌-◌, ◌*◌, ◌/◌, ◌<◌, ◌≤◌, min, nat_eq, nat_lt, cond, if◌then◌else◌, List, [], ◌∷◌, map, length, slice_index, slice_index_or, Option, Some, None, IsSome}
use Rattle.std.specs.List.{flat_map, range_with_len}
use Rattle.m2v_plane.specs.declared.planes.Plane.{Plane}
use Rattle.m2v_plane.specs.declared.planes.Lines.{Lines}
use Rattle.m2v_plane.specs.declared.planes.Lines.TheVariants.{Whole, Top, Bottom}
use Rattle.m2v_plane.specs.Sizes.{side, lines_of}
use Rattle.m2v_plane.specs.Samples.{Samples}
use Rattle.m2v_set.specs.Numbers.{dims_of}
use Rattle.m2v_slice.specs.Books.{Book, rows, job_at, line_in, coded, slice_at, in_group, plan_job, slice_job, near_rows, reference_picture, reference_pictures}

-- the pictures that reference n of a picture stands in
abbrev pub references_of : Book → ℕ → ℕ → List (Option ℕ)
references_of b p n =
    if nat_eq (job_at b p).structure 3
    then reference_picture b p n Whole ∷ []
    else reference_picture b p n Top ∷ reference_picture b p n Bottom ∷ []

-- the pictures of the group that a picture refers to
abbrev pub needed : Book → ℕ → List ℕ
needed b p = flat_map in_group (reference_pictures b p)

-- the first of the rows before, at and after a row, and how many there are
abbrev pub first_near : ℕ → ℕ
first_near r = r - 1

abbrev pub count_near : Book → ℕ → ℕ
count_near b r = min (r + 2) (rows b) - (r - 1)

-- the needs of a plan, and of a slice
abbrev pub plan_needs : Book → ℕ → List ℕ
plan_needs b p =
    cond (nat_eq p 0) [] (plan_job b (p - 1) ∷ cond (nat_lt p 4) [] (map (slice_job b (p - 4)) (range_with_len 0 (rows b))))

abbrev pub slice_needs : Book → ℕ → ℕ → List ℕ
slice_needs b p r = plan_job b p ∷ flat_map (λ k. map (slice_job b k) (near_rows b r)) (needed b p)

-- rows in a cache are the near rows of these pictures, one picture behind another
pub record AreNearRows (b : Book) (p r : ℕ) (cached : List Samples) : Type 0 where
  pub room : length (needed b p) * count_near b r ≤ length cached
  pub row : (i x : ℕ) (d : Samples) → i < length (needed b p) → x < count_near b r
      → slice_index_or cached (i * count_near b r + x) d
      ≡ (slice_at (coded b p) (slice_index (needed b p) i) (first_near r + x)).row

-- a picture is one of these
pub record IsAmong (q : ℕ) (pictures : List ℕ) : Type 0 where
  pub place : ℕ
  pub below : place < length pictures
  pub there : slice_index pictures place ≡ q

-- a row is near another one, and exists
pub record IsNear (b : Book) (r row : ℕ) : Type 0 where
  pub least : first_near r ≤ row
  pub most : row < first_near r + count_near b r

-- the lines that are held of a picture: the near rows of one that is needed, and of the anchor before the group all
unfoldable pub HoldsOf : Book → ℕ → ℕ → Option ℕ → Plane → Lines → ℕ → Type 0
HoldsOf b p r None plane lines line = IsSome b.before
HoldsOf b p r (Some q) plane lines line =
    IsAmong q (needed b p) × IsNear b r (line_in (job_at b q).structure lines line / side plane)

-- the lines of reference n that are held for slice r of picture p
abbrev pub HoldsLine : Book → ℕ → ℕ → ℕ → Plane → Lines → ℕ → Type 0
HoldsLine b p n r plane lines line =
    (line < lines_of (dims_of b.settings) plane lines)
    × HoldsOf b p r (reference_picture b p n lines) plane lines line

-- what contracts see of a window on a reference: the book, the picture, the number of the reference, and the row of the slice
pub record Window : Type 0 where
  pub book : Book
  pub picture : ℕ
  pub number : ℕ
  pub row : ℕ
