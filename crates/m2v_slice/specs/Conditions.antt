-- What a book is made of, and what holds of each book.
use Rattle.std.specs.Prelude.{ℕ, ◌≡◌, ◌≤◌, ◌<◌, ◌^◌, All, map, length, Option, IfSome, is_some}
use Rattle.m2v_plane.specs.Samples.{Samples}
use Rattle.m2v_set.specs.declared.settings.Settings.{Settings}
use Rattle.m2v_set.specs.Numbers.{dims_of}
use Rattle.m2v_order.specs.declared.jobs.PictureJob.{PictureJob}
use Rattle.m2v_order.specs.Groups.{Group}
use Rattle.m2v_order.specs.Times.{intervals_of}
use Rattle.m2v_order.specs.Whole.{IsGroupOf}
use Rattle.m2v_rate.specs.Plans.{Entries, begun}
use Rattle.m2v_rate.specs.Steady.{IsSteady}
use Rattle.m2v_slice.specs.Books.{Book, picture_activities}

-- what holds of a ledger whatever was measured: it is steady, has room for its group, and the account can go on. Samples of a
-- book are any numbers, so no more is known of its activities
pub record IsSteadyLedger (l : Entries) : Type 0 where
  pub few : length l.kinds ≤ 126
  pub removals : l.account.removals < 2 ^ 39
  pub steady : IsSteady l

-- the ledger of some stream with these settings begins this group, of which nothing is known or planned
pub record IsBegunFor (s : Settings) (g : Group Samples) (l : Entries) : Type 0 where
  pub from : Entries
  pub settings : from.settings ≡ s
  pub begun : l ≡ begun from (map (λ (j : PictureJob). j.kind) g.pictures) (intervals_of s g.before g.pictures)
      (picture_activities s g.frames g.pictures)
  pub ledger : IsSteadyLedger l

-- a book is that of a group of its settings, with frames of their size; the anchor before the group is there exactly where
-- one was coded before
pub record IsBook (b : Book) : Type 0 where
  -- the display number of that anchor
  pub last : Option ℕ
  pub group : IsGroupOf b.settings (record { frames = b.frames; pictures = b.pictures; before = last })
  pub sizes : All (λ (f : Samples). f.dims ≡ dims_of b.settings) b.frames
  pub before : is_some b.before ≡ is_some last
  pub size : IfSome b.before (λ f. f.dims ≡ dims_of b.settings)
  pub ledger : IsBegunFor b.settings (record { frames = b.frames; pictures = b.pictures; before = last }) b.ledger
