-- What a cache knows once the needs of a job are learned.
use Rattle.std.specs.Prelude.{ℕ, ◌≡◌, ◌+◌, ◌-◌, ◌≤◌, length, sum_by}
use Rattle.m2v_rate.specs.Plans.{first_open}
use Rattle.m2v_slice.specs.Slices.{CodedSlice}
use Rattle.m2v_slice.specs.Books.{Book, coded, picture_at, work_of, ledger_with}
use Rattle.m2v_slice.specs.Cached.{Cached}
use Rattle.m2v_slice.specs.Jobs.{FitsCache}
use Rattle.m2v_slice.specs.Windows.{AreNearRows}

-- for the plan of picture p: the ledger with the plan before it, and the bits and the work of the slices of the picture four before
pub record HasLearnedPlan (b : Book) (p : ℕ) (c : Cached) : Type 0 where
  pub ledger : 1 ≤ p → c.ledger ≡ ledger_with b (coded b p) (first_open (p - 1)) (coded b p)
  pub bits : 4 ≤ p → c.bits ≡ sum_by (λ (x : CodedSlice). length x.text) (picture_at (coded b p) (p - 4)).slices
  pub work : 4 ≤ p → c.work ≡ work_of (coded b p) (p - 4)

-- for slice r of picture p: the plan of the picture, and the near rows of the pictures that it refers to
pub record HasLearnedSlice (b : Book) (p r : ℕ) (c : Cached) : Type 0 where
  pub plan : c.plan ≡ (picture_at (coded b (p + 1)) p).plan
  pub rows : AreNearRows b p r c.rows
  pub fits : FitsCache b c
