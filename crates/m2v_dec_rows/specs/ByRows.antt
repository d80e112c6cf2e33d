-- A picture read row by row and one read slice by slice: both find the same.
use Rattle.std.specs.Prelude.{◌≡◌, ℕ, ◌<◌, ◌≤◌, nat_eq, if◌then◌else◌, [], ◌∷◌, Option, Some, None, Ok, Err}
use Rattle.m2v_model.specs.declared.fault.FaultKind.TheVariants.{MissingMacroblocks}
use Rattle.m2v_model.specs.declared.setup.SliceSetup.{SliceSetup}
use Rattle.m2v_dec_rows.specs.Rows.{Slices, Placed, Read, slices_read, first_of, row_fault}

-- slices in order, as the rules on headers have them: none stands in a row above that of the slice before it, or past the
-- picture's last row
abbrev pub AreOrdered : ℕ → ℕ → Slices → Type 0
AreOrdered low rows [] = Unit {0}
AreOrdered low rows (u ∷ us) = (low ≤ u.row) × (u.row < rows) × AreOrdered u.row rows us

-- all slices of a picture, one behind another
abbrev pub picture_read : SliceSetup → Slices → Read
picture_read s us = slices_read s (Ok ([], 0)) us

-- at the end of the picture, at a place, no macroblock is missing
abbrev pub closed_by : SliceSetup → ℕ → ℕ → Read → Option Placed
closed_by s rows end (Ok x) = if nat_eq x.1 (first_of s rows) then None else Some (MissingMacroblocks, end)
closed_by s rows end (Err f) = Some f

-- the first fault of a picture's slices
unfoldable pub picture_fault : SliceSetup → ℕ → Slices → ℕ → Option Placed
picture_fault s rows us end = closed_by s rows end (picture_read s us)

-- the picture has no fault where none of its rows has one, and else that of its first row with one
pub record ByRows (s : SliceSetup) (rows : ℕ) (us : Slices) (end : ℕ) : Type 0 where
  pub whole : ((r : ℕ) → r < rows → row_fault s r us (Some end) ≡ None) → picture_fault s rows us end ≡ None
  pub first : (r : ℕ) (f : Placed) → r < rows → ((q : ℕ) → q < r → row_fault s q us (Some end) ≡ None) → row_fault s r us (Some end) ≡ Some f → picture_fault s rows us end ≡ Some f
