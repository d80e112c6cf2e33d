-- Where the lines of a reference stand: what a window of a reference is made of.
use Rattle.std.specs.Prelude.{ℕ, ◌≡◌, ◌+◌, ◌-◌, ◌*◌, ◌/◌, ◌<◌, ◌≤◌, Bool, nat_eq, length, slice_index, Option, Some, None}
use Rattle.m2v_plane.specs.declared.planes.Plane.{Plane}
use Rattle.m2v_plane.specs.declared.planes.Lines.TheVariants.{Whole, Top, Bottom}
use Rattle.m2v_plane.specs.Sizes.{side}
use Rattle.m2v_slice.specs.declared.window.Stand.{Stand}
use Rattle.m2v_slice.specs.declared.window.Stand.TheVariants.{Before, Cached, Absent}
use Rattle.m2v_slice.specs.Books.{Book, rows, job_at, reference_picture}
use Rattle.m2v_slice.specs.Cached as cached
use Rattle.m2v_slice.specs.Conditions.{IsBook}
use Rattle.m2v_slice.specs.Jobs.{FitsCache}
use Rattle.m2v_slice.specs.Windows.{needed, first_near, count_near, IsAmong, AreNearRows}

-- the lines of picture q stand in a cache from a place on
pub record StandsAt (b : Book) (p r q place : ℕ) (whole : Bool) : Type 0 where
  pub number : ℕ
  pub below : number < length (needed b p)
  pub there : slice_index (needed b p) number ≡ q
  pub place_is : place ≡ number * count_near b r
  pub whole_is : whole ≡ nat_eq (job_at b q).structure 3

-- lines that were found in a picture, or in none of the group, stand where it is said
unfoldable pub StandsFor : Book → ℕ → ℕ → Option ℕ → Stand → Type 0
StandsFor b p r None Before = Unit {0}
StandsFor b p r None (Cached place whole) = ⊥
StandsFor b p r None Absent = ⊥
StandsFor b p r (Some q) Before = ⊥
StandsFor b p r (Some q) (Cached place whole) = StandsAt b p r q place whole
StandsFor b p r (Some q) Absent = IsAmong q (needed b p) → ⊥

-- a window on reference n of slice r of picture p
pub record IsWindow (b : Book) (c : cached.Cached) (p n r first : ℕ) (whole top bottom : Stand) : Type 0 where
  pub book : IsBook b
  pub picture : p < length b.pictures
  pub row : r < rows b
  pub first_is : first ≡ first_near r
  pub rows : AreNearRows b p r c.rows
  pub fits : FitsCache b c
  pub whole_stands : StandsFor b p r (reference_picture b p n Whole) whole
  pub top_stands : StandsFor b p r (reference_picture b p n Top) top
  pub bottom_stands : StandsFor b p r (reference_picture b p n Bottom) bottom

-- a line of a picture is in one of the rows from a place on
pub record IsHeldLine (c : cached.Cached) (place first : ℕ) (plane : Plane) (line : ℕ) : Type 0 where
  pub least : first ≤ line / side plane
  pub most : place + (line / side plane - first) < length c.rows
  pub few : length c.rows ≤ 12
