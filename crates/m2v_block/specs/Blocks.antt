-- The syntax of a block (clauses 6.2.6 and 7.2 of ISO/IEC 13818-2): its elements in reading order, each rule where it is looked at.
use Rattle.std.specs.Prelude.{◌≡◌, ◌≤◌, ℕ, ◌+◌, ◌-◌, ◌^◌, Bool, true, false, cond, ◌&&◌, not, nat_lt, nat_le, nat_eq, Result, Ok, Err, List, ◌∷◌, length, drop, slice_index_or, slice_set, replicate, if◌then◌else◌, ℤ, pos, ◌+ℤ◌, ◌-ℤ◌, ◌≤ℤ◌, ◌<ℤ◌, int_lt, int_le}
use Rattle.m2v_bits.specs.Syntax.{done, rule, choose, repeated, ◌>>=◌}
use Rattle.m2v_bits.specs.Leaves.{bits_at}
use Rattle.m2v_bits.specs.Bits.{number, ahead}
use Rattle.m2v_bits.specs.Elements.{BitSyntax, left_at}
use Rattle.m2v_vlc.specs.declared.values.Coefficient.{Coefficient}
use Rattle.m2v_vlc.specs.declared.values.Coefficient.TheVariants.{End, Escape, Pair}
use Rattle.m2v_vlc.specs.Tables.{dc_luma, dc_chroma}
use Rattle.m2v_vlc.specs.Coefficients.{coefficient_zero, coefficient_one, first_zero}
use Rattle.m2v_quant.specs.declared.kind.BlockKind.{BlockKind}
use Rattle.m2v_block.specs.declared.fault.BlockFault.{BlockFault}
use Rattle.m2v_block.specs.declared.fault.BlockFault.TheVariants.{Overrun, ForbiddenLevel, DcRange}
use Rattle.m2v_block.specs.Faults.{cut, coded}

-- ---- the DC level of an intra block

-- the difference that a size and so many bits mean (clause 7.2.1)
unfoldable pub difference : ℕ → ℕ → ℤ
difference size bits =
    if nat_eq size 0 then pos 0
    else if nat_le (2 ^ (size - 1)) bits then pos bits
    else pos (bits + 1) -ℤ pos (2 ^ size)

-- a DC level, of 8 bits and the precision (clause 7.2.1)
abbrev pub IsDc : ℕ → ℤ → Type 0
IsDc precision z = (pos 0 ≤ℤ z) × (z <ℤ pos (2 ^ (8 + precision)))

unfoldable pub is_dc : ℕ → ℤ → Bool
is_dc precision z = int_le (pos 0) z && int_lt z (pos (2 ^ (8 + precision)))

unfoldable pub size_at : Bool → BitSyntax BlockFault ℕ
size_at luma = choose luma (coded dc_luma) (coded dc_chroma)

unfoldable pub dc_at : Bool → ℕ → ℤ → BitSyntax BlockFault ℤ
dc_at luma precision predictor = do
  start ← left_at
  size ← size_at luma
  bits ← bits_at cut size
  fits ← rule (is_dc precision (predictor +ℤ difference size bits)) DcRange start
  done (predictor +ℤ difference size bits)

-- ---- runs and levels

-- how many places of the scan are filled, and the levels so far, in scan order
pub record Scan : Type 0 where
  pub filled : ℕ
  pub levels : List ℤ

-- a run of zeros and a level behind it
unfoldable pub placed : ℕ → ℕ → ℤ → Scan → BitSyntax BlockFault (Bool × Scan)
placed start run level s = do
  fits ← rule (nat_lt (s.filled + run) 64) Overrun start
  done (true, record { filled = s.filled + run + 1; levels = slice_set s.levels (s.filled + run) level })

-- the level behind an escape, twelve bits of two's complement (clause 7.2.2.3)
unfoldable pub escaped : ℕ → ℤ
escaped n = if nat_lt n 2048 then pos n else pos n -ℤ pos 4096

unfoldable pub is_allowed : ℕ → Bool
is_allowed n = not (nat_eq n 0) && not (nat_eq n 2048)

-- the end of the block, an escaped pair, or a pair
unfoldable pub coefficient_at : ℕ → Scan → Coefficient → BitSyntax BlockFault (Bool × Scan)
coefficient_at start s End = done (false, s)
coefficient_at start s Escape = do
  run ← bits_at cut 6
  at ← left_at
  level ← bits_at cut 12
  allowed ← rule (is_allowed level) ForbiddenLevel at
  placed start run (escaped level) s
coefficient_at start s (Pair run level) = placed start run level s

-- table B.15, or B.14; the first coefficient of a block that is not intra goes by B.14 for first coefficients
unfoldable pub code_from : Bool → Bool → BitSyntax BlockFault Coefficient
code_from first one = choose first (coded first_zero) (choose one (coded coefficient_one) (coded coefficient_zero))

unfoldable pub pair_at : Bool → Scan → BitSyntax BlockFault (Bool × Scan)
pair_at one s = do
  start ← left_at
  c ← code_from (nat_eq s.filled 0) one
  coefficient_at start s c

unfoldable pub pairs_at : Bool → Scan → BitSyntax BlockFault Scan
pairs_at one s = repeated length cut (pair_at one) s

-- ---- blocks

-- the scan as the pairs begin
unfoldable pub opened : Bool → ℤ → Scan
opened intra dc = record { filled = cond intra 1 0; levels = dc ∷ replicate 63 (pos 0) }

unfoldable pub first_at : BlockKind → ℤ → BitSyntax BlockFault ℤ
first_at kind predictor = choose kind.intra (dc_at kind.luma kind.precision predictor) (done (pos 0))

-- the 64 levels in scan order; intra blocks go by table B.15 where intra_vlc_format is 1, all others by table B.14
unfoldable pub block_at : BlockKind → Bool → ℤ → BitSyntax BlockFault (List ℤ)
block_at kind table_one predictor = do
  dc ← first_at kind predictor
  scan ← pairs_at (kind.intra && table_one) (opened kind.intra dc)
  done scan.levels

-- the predictor behind a block
abbrev pub predictor_after : BlockKind → ℤ → List ℤ → ℤ
predictor_after kind predictor levels = cond kind.intra (slice_index_or levels 0 (pos 0)) predictor

-- ---- what readers answer

-- the scan behind a pair, or the fault, with the reader at its place
abbrev pub GivesScan : Result (Bool × ℕ) BlockFault → List ℤ → List Bool → Result ((Bool × Scan) × List Bool) (BlockFault × ℕ) → Type 0
GivesScan (Ok x) levels rest read = read ≡ Ok ((x.0, record { filled = x.1; levels = levels }), rest)
GivesScan (Err e) levels rest read = read ≡ Err (e, length rest)

-- the levels that stand there, or the fault, with the reader at its place
abbrev pub GivesLevels : Result (Unit {0}) BlockFault → List ℤ → List Bool → Result (List ℤ × List Bool) (BlockFault × ℕ) → Type 0
GivesLevels (Ok _) levels rest read = read ≡ Ok (levels, rest)
GivesLevels (Err e) levels rest read = read ≡ Err (e, length rest)

-- the scan where the pairs end, or the fault, with the reader at its place
abbrev pub GivesEnd : Result (Unit {0}) BlockFault → List ℤ → List Bool → Result (Scan × List Bool) (BlockFault × ℕ) → Type 0
GivesEnd (Ok _) levels rest read = (p : ℕ) × (read ≡ Ok (record { filled = p; levels = levels }, rest))
GivesEnd (Err e) levels rest read = read ≡ Err (e, length rest)

-- the end of the block stands at the head of the bits, and has n of them
pub record EndsBy (one : Bool) (s : Scan) (bs : List Bool) (n : ℕ) : Type 0 where
  pub enough : n ≤ length bs
  pub reads : (pair_at one s).read bs ≡ Ok ((false, s), drop n bs)

-- 32 bits were looked at, and of them so many used since then
pub record Looked (look used : ℕ) (rest : List Bool) : Type 0 where
  pub from : List Bool
  pub bits : look ≡ number (ahead 32 from)
  pub here : rest ≡ drop used from
