-- Slices (clause 6.2.4): a header, and macroblocks until the rest of the unit is zero; macroblocks with their blocks
-- (clauses 6.2.5 and 6.2.6).
use Rattle.std.specs.Prelude.{ℕ, zero, suc, ◌+◌, ◌-◌, ◌*◌, Bool, not, nat_lt, List, [], ◌∷◌, ◌++◌, length, filter, replicate, ℤ, pos, ◌+ℤ◌, nat_abs}
use Rattle.m2v_bits.specs.Syntax.{done, here, rule, choose, renamed, repeated, ◌>>=◌}
use Rattle.m2v_bits.specs.Leaves.{zero_at}
use Rattle.m2v_macroblock.specs.m2v_head.declared.slice.SliceInfo.{SliceInfo}
use Rattle.m2v_macroblock.specs.m2v_head.Headers as head
use Rattle.m2v_macroblock.specs.m2v_block.Blocks.{block_at}
use Rattle.m2v_macroblock.specs.m2v_macro.declared.values.MacroSyntax.{MacroSyntax}
use Rattle.m2v_macroblock.specs.m2v_macro.declared.values.SliceState.{SliceState}
use Rattle.m2v_macroblock.specs.m2v_macro.declared.values.PictureContext.{PictureContext}
use Rattle.m2v_macroblock.specs.m2v_macro.Macros.{increment_at, macro_at}
use Rattle.m2v_macroblock.specs.m2v_macro.States.{after, at_start}
use Rattle.m2v_macroblock.specs.m2v_recon.Macro.{is_coded}
use Rattle.m2v_macroblock.specs.Macroblocks.{Macroblock, kind_for, predictor, after_macroblock}
use Rattle.m2v_model.specs.declared.fault.FaultKind.TheVariants.{Truncated, SliceOrder, VectorOutside, MissingReference}
use Rattle.m2v_model.specs.declared.setup.SliceSetup.{SliceSetup}
use Rattle.m2v_model.specs.Faults.{InUnit, bits_left, of_head, of_block, of_macro}
use Rattle.m2v_model.specs.Looking.{looking}
use Rattle.m2v_model.specs.Modes.{all_inside, references_decoded}

-- ---- blocks

-- a block of a macroblock: its levels in scan order, all 0 where it isn't coded
unfoldable pub block_in : PictureContext → MacroSyntax → SliceState → ℕ → List (List ℤ) → InUnit (List ℤ)
block_in c m st block levels =
    choose (is_coded m.pattern block)
    (renamed of_block (block_at (kind_for c m.kind.intra (nat_lt block 4) st.quantiser) c.extension.intra_vlc_format (predictor st.dc levels block)))
    (done (replicate 64 (pos 0)))

-- so many blocks, from one on
unfoldable pub blocks_from : PictureContext → MacroSyntax → SliceState → ℕ → ℕ → List (List ℤ) → InUnit (List (List ℤ))
blocks_from c m st block zero levels = done levels
blocks_from c m st block (suc n) levels = do
  own ← block_in c m st block levels
  blocks_from c m st (block + 1) n (levels ++ own ∷ [])

-- ---- macroblocks

-- a macroblock, whose elements up to the pattern leave the state in which its blocks are read; what it and those skipped
-- before it are predicted from is looked at before its blocks, and placed at its first escape or its increment
unfoldable pub macroblock_at : SliceSetup → SliceState → InUnit Macroblock
macroblock_at s st = do
  start ← bits_left
  m ← renamed of_macro (macro_at s.context st)
  inside ← rule (all_inside s st m) VectorOutside start
  decoded ← rule (references_decoded s st m) MissingReference start
  levels ← blocks_from s.context m (after s.context st m) 0 6 []
  done (record { syntax = m; levels = levels })

-- the state, the macroblocks so far, and how many bits each of them has, from its first escape or its increment to the
-- end of its last block
pub record Row : Type 0 where
  pub state : SliceState
  pub macroblocks : List Macroblock
  pub bits : List ℕ

-- a row with a macroblock of so many bits more
abbrev pub with_next : PictureContext → Row → Macroblock → ℕ → Row
with_next c r x bits = record {
  state = after_macroblock c r.state x;
  macroblocks = r.macroblocks ++ x ∷ [];
  bits = r.bits ++ bits ∷ [];
}

-- macroblocks follow until the rest of the unit is zero
unfoldable pub macroblock_round : SliceSetup → Row → InUnit (Bool × Row)
macroblock_round s r = do
  start ← bits_left
  x ← macroblock_at s r.state
  end ← bits_left
  over ← zero_at
  done (not over, with_next s.context r x (start - end))

unfoldable pub macroblocks_at : SliceSetup → Row → InUnit Row
macroblocks_at s r = repeated length Truncated (macroblock_round s) r

-- ---- slices

pub record Slice : Type 0 where
  pub info : SliceInfo
  pub macroblocks : List Macroblock
  -- how many bits each of them has
  pub bits : List ℕ
  -- the address behind the last macroblock
  pub covered : ℕ

-- the bits of a macroblock of which the verifier allows two in a row alone
abbrev pub is_large : ℕ → Bool
is_large bits = nat_lt 4608 bits

-- how many large macroblocks a slice has
abbrev pub large_in : Slice → ℕ
large_in x = length (filter is_large x.bits)

-- the state at the start of a slice of a row
unfoldable pub slice_start : PictureContext → ℕ → ℕ → ℕ → SliceState
slice_start c row covered quantiser = at_start c row quantiser covered

-- a slice doesn't begin before the next uncovered macroblock
abbrev pub begins_late : ℕ → ℕ → ℕ → Bool
begins_late first increment covered = nat_lt covered (first + increment)

-- the place of the unit in whose bits we are: its start code is 32 bits before them
unfoldable pub unit_place : InUnit ℕ
unit_place = here (λ t. length t + 32)

-- a slice of a row, without its start code, where so many macroblocks of the picture were covered; that it doesn't begin
-- too early is looked at behind its first increment, with its escapes, and placed at the unit
unfoldable pub slice_at : SliceSetup → ℕ → ℕ → InUnit Slice
slice_at s covered row = do
  unit ← unit_place
  info ← renamed of_head head.slice_at
  increment ← looking (renamed of_macro increment_at)
  late ← rule (begins_late (row * s.context.columns) increment covered) SliceOrder unit
  x ← macroblocks_at s (record { state = slice_start s.context row covered info.quantiser; macroblocks = []; bits = [] })
  done (record { info = info; macroblocks = x.macroblocks; bits = x.bits; covered = nat_abs (x.state.address +ℤ pos 1) })
