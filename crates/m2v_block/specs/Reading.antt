-- What the readers of a block's parts ask for, and what they leave.
use Rattle.std.specs.Prelude.{◌≡◌, ℕ, ◌<◌, ◌≤◌, Bool, true, List, All, IfOk, IfSome, IsNone, Option, Result, Ok, slice_index_or, ℤ, pos}
use Rattle.m2v_bits.specs.Bits.{Unread}
use Rattle.m2v_bits.specs.Syntax.{Gives}
use Rattle.m2v_quant.specs.Kinds.{IsLevel}
use Rattle.m2v_quant.specs.Sparse.{IsClearFrom}
use Rattle.m2v_block.specs.declared.fault.BlockFault.{BlockFault}
use Rattle.m2v_block.specs.Blocks.{IsDc, dc_at, pair_at, pairs_at, GivesScan, GivesEnd}

-- the DC level of an intra block was read
pub record ReadsDc (luma : Bool) (precision : ℕ) (predictor : ℤ) (old new : Unread) (result : Result ℤ BlockFault) : Type 0 where
  pub exact : Gives result new.rest ((dc_at luma precision predictor).read old.rest)
  pub text : new.text ≡ old.text
  pub range : IfOk result (λ v. IsDc precision v)

-- n places are filled, and what stands from there on is 0
pub record IsFilled (n : ℕ) (at : List ℤ) : Type 0 where
  pub most : n ≤ 64
  pub clear : IsClearFrom n at
  pub levels : All IsLevel at

-- how many places are filled behind a pair, and that what stood before it stays
pub record LeavesPair (n : ℕ) (before after : List ℤ) (result : Result (Bool × ℕ) BlockFault) : Type 0 where
  pub within : IfOk result (λ x. (n ≤ x.1) × (x.1 ≤ 64))
  pub clear : IfOk result (λ x. IsClearFrom x.1 after)
  pub more : IfOk result (λ x. x.0 ≡ true → 0 < x.1)
  pub dc : 0 < n → slice_index_or after 0 (pos 0) ≡ slice_index_or before 0 (pos 0)
  pub levels : All IsLevel after

-- a pair, or the end of the block, was read behind n places
pub record ReadsPair (one : Bool) (n : ℕ) (before after : List ℤ) (old new : Unread) (result : Result (Bool × ℕ) BlockFault) : Type 0 where
  pub exact : GivesScan result after new.rest ((pair_at one (record { filled = n; levels = before })).read old.rest)
  pub text : new.text ≡ old.text
  pub left : LeavesPair n before after result

-- a pair was read by one look behind n places, or nothing
pub record LooksPair (one : Bool) (n : ℕ) (before after : List ℤ) (old new : Unread) (result : Option ℕ) : Type 0 where
  pub read : IfSome result (λ next. (pair_at one (record { filled = n; levels = before })).read old.rest ≡ Ok ((true, record { filled = next; levels = after }), new.rest))
  pub here : IsNone result → new ≡ old
  pub text : new.text ≡ old.text
  pub within : IfSome result (λ next. (n < next) × (next ≤ 64))
  pub clear : IfSome result (λ next. IsClearFrom next after)
  pub dc : 0 < n → slice_index_or after 0 (pos 0) ≡ slice_index_or before 0 (pos 0)
  pub levels : All IsLevel after

-- the pairs up to the end of the block were read behind n places
pub record ReadsPairs (one : Bool) (n : ℕ) (before after : List ℤ) (old new : Unread) (result : Result (Unit {0}) BlockFault) : Type 0 where
  pub exact : GivesEnd result after new.rest ((pairs_at one (record { filled = n; levels = before })).read old.rest)
  pub text : new.text ≡ old.text
  pub levels : All IsLevel after
  pub dc : 0 < n → slice_index_or after 0 (pos 0) ≡ slice_index_or before 0 (pos 0)
