-- A picture read row by row: each macroblock row by itself, in any order.
use Rattle.std.specs.Prelude.{ℕ, ◌+◌, ◌-◌, ◌*◌, Bool, nat_eq, nat_lt, if◌then◌else◌, List, [], ◌∷◌, ◌++◌, filter, Option, Some, None, Result, Ok, Err}
use Rattle.m2v_plane.specs.Samples.{Samples}
use Rattle.m2v_model.specs.declared.fault.FaultKind.{FaultKind}
use Rattle.m2v_model.specs.declared.fault.FaultKind.TheVariants.{MissingMacroblocks}
use Rattle.m2v_model.specs.declared.setup.SliceSetup.{SliceSetup}
use Rattle.m2v_model.specs.Units.{body}
use Rattle.m2v_model.specs.Slices.{Slice, slice_at, slice_start}
use Rattle.m2v_model.specs.Samples.{References, Put, all_painted}

-- a slice that wasn't read: its row, its unit, and the byte of the input behind it
pub record Unread : Type 0 where
  pub row : ℕ
  pub unit : List ℕ
  pub end : ℕ

abbrev pub Slices : Type 0
Slices = List Unread

-- a fault and its place, in bits from the input's first byte
abbrev pub Placed : Type 0
Placed = FaultKind × ℕ

-- ---- reading slices

-- what is read of a unit, the place of a fault counted from the input's first byte
abbrev pub placed_by : ℕ → Result (Slice × List Bool) (FaultKind × ℕ) → Result Slice Placed
placed_by end (Ok x) = Ok x.0
placed_by end (Err f) = Err (f.0, 8 * end - f.1)

-- a slice, where so many macroblocks of the picture are covered
unfoldable pub slice_read : SliceSetup → ℕ → Unread → Result Slice Placed
slice_read s covered u = placed_by u.end ((slice_at s covered u.row).read (body u.unit))

-- a slice that was read: its row, and how many macroblocks of the picture are covered before it
pub record Begun : Type 0 where
  pub row : ℕ
  pub before : ℕ
  pub slice : Slice

-- slices that were read, and how many macroblocks of the picture are covered behind them
abbrev pub Read : Type 0
Read = Result (List Begun × ℕ) Placed

abbrev pub and_slice : List Begun → ℕ → ℕ → Result Slice Placed → Read
and_slice xs row before (Ok x) = Ok (xs ++ record { row = row; before = before; slice = x } ∷ [], x.covered)
and_slice xs row before (Err f) = Err f

-- with one slice more
abbrev pub then_slice : SliceSetup → Read → Unread → Read
then_slice s (Ok x) u = and_slice x.0 u.row x.1 (slice_read s x.1 u)
then_slice s (Err f) u = Err f

-- with slices one behind another, up to the first fault
unfoldable pub slices_read : SliceSetup → Read → Slices → Read
slices_read s now [] = now
slices_read s now (u ∷ us) = slices_read s (then_slice s now u) us

-- ---- rows

-- the slices of a row, and those of the rows below it
abbrev pub is_of : ℕ → Unread → Bool
is_of row u = nat_eq u.row row

abbrev pub is_below : ℕ → Unread → Bool
is_below row u = nat_lt row u.row

abbrev pub own : ℕ → Slices → Slices
own row us = filter (is_of row) us

abbrev pub below : ℕ → Slices → Slices
below row us = filter (is_below row) us

-- the address of a row's first macroblock: macroblocks are counted in raster order
abbrev pub first_of : SliceSetup → ℕ → ℕ
first_of s row = row * s.context.columns

-- the slices of a row, read as if the rows above it were covered
abbrev pub row_read : SliceSetup → ℕ → Slices → Read
row_read s row us = slices_read s (Ok ([], first_of s row)) (own row us)

-- the fault of a slice alone
abbrev pub fault_in : Result Slice Placed → Option Placed
fault_in (Ok x) = None
fault_in (Err f) = Some f

-- what is said of macroblocks that are missing: by the next slice, or else at the picture's end, where that is reached
abbrev pub missing : SliceSetup → ℕ → Slices → Option ℕ → Option Placed
missing s covered [] None = None
missing s covered [] (Some end) = Some (MissingMacroblocks, end)
missing s covered (u ∷ us) end = fault_in (slice_read s covered u)

-- that, where the row isn't covered
abbrev pub covering : SliceSetup → ℕ → Slices → Option ℕ → Read → Option Placed
covering s row later end (Ok x) = if nat_eq x.1 (first_of s (row + 1)) then None else missing s x.1 later end
covering s row later end (Err f) = Some f

-- The first fault of a row: that of its slices, or of their coverage of it. `end` is the place where the picture ends,
-- in bits from the input's first byte, where that is reached.
unfoldable pub row_fault : SliceSetup → ℕ → Slices → Option ℕ → Option Placed
row_fault s row us end = covering s row (below row us) end (row_read s row us)

-- ---- samples

-- a slice painted
abbrev pub begun_painted : Put → SliceSetup → References → Samples → Begun → Samples
begun_painted put s refs now x =
    all_painted put s refs (slice_start s.context x.row x.before x.slice.info.quantiser) x.slice.macroblocks now

-- slices painted one behind another
unfoldable pub slices_painted : Put → SliceSetup → References → Samples → List Begun → Samples
slices_painted put s refs now [] = now
slices_painted put s refs now (x ∷ xs) = slices_painted put s refs (begun_painted put s refs now x) xs
