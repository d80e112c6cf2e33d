-- What the readers of a slice answer: what reading gives, and the samples of the tree.
use Rattle.std.specs.Prelude.{◌≡◌, ◌⊎◌, ℕ, ◌-◌, ℤ, Bool, true, false, not, List, [], ◌∷◌, ◌++◌, length, filter, Result, Ok, Err}
use Rattle.m2v_bits.specs.Bits.{all_zero}
use Rattle.m2v_plane.specs.declared.planes.Plane.{Plane}
use Rattle.m2v_plane.specs.Samples.{Samples}
use Rattle.m2v_pred.specs.declared.mode.MbPlace.{MbPlace}
use Rattle.m2v_quant.specs.declared.kind.Levels.{Levels}
use Rattle.m2v_recon.specs.Steps.{levels_of}
use Rattle.m2v_macro.specs.declared.values.MacroSyntax.{MacroSyntax}
use Rattle.m2v_macro.specs.declared.values.SliceState.{SliceState}
use Rattle.m2v_macro.specs.Reading.{kept}
use Rattle.m2v_macroblock.specs.Macroblocks.{Macroblock, macroblock_of, after_macroblock}
use Rattle.m2v_macroblock.specs.Predictions.{View}
use Rattle.m2v_model.specs.declared.fault.FaultKind.{FaultKind}
use Rattle.m2v_model.specs.declared.fault.FaultKind.TheVariants.{VectorOutside, MissingReference}
use Rattle.m2v_model.specs.declared.setup.SliceSetup.{SliceSetup}
use Rattle.m2v_model.specs.Modes.{all_inside, references_decoded}
use Rattle.m2v_model.specs.Samples.{References, Put, painted, all_painted}
use Rattle.m2v_model.specs.Slices.{Row, Slice, macroblock_at, macroblocks_at, slice_start, slice_at, is_large, large_in}
use Rattle.m2v_model.specs.declared.stop.Stop.{Stop}
use Rattle.m2v_dec_picture.specs.declared.macroblocks.Round.{Round}
use Rattle.m2v_dec_picture.specs.declared.slices.SliceEnd.{SliceEnd}

-- ---- levels

-- an increment as the program keeps it
abbrev pub TellsSum : Result ℕ Stop → Result (ℕ × List Bool) (FaultKind × ℕ) → Type 0
TellsSum (Ok x) read = (n : ℕ) × (rest : List Bool) × (x ≡ kept n) × (read ≡ Ok (n, rest))
TellsSum (Err e) read = read ≡ Err (e.kind, e.left)

-- the levels of a block
abbrev pub TellsLevels : Result (Unit {0}) Stop → List ℤ → List Bool → Result (List ℤ × List Bool) (FaultKind × ℕ) → Type 0
TellsLevels (Ok _) levels rest read = read ≡ Ok (levels, rest)
TellsLevels (Err e) levels rest read = read ≡ Err (e.kind, e.left)

-- the levels of one of a macroblock's blocks, behind those before it
abbrev pub TellsBlock : Result (Unit {0}) Stop → List (List ℤ) → List (List ℤ) → List Bool → Result (List ℤ × List Bool) (FaultKind × ℕ) → Type 0
TellsBlock (Ok _) before now rest read = (own : List ℤ) × (read ≡ Ok (own, rest)) × (now ≡ before ++ own ∷ [])
TellsBlock (Err e) before now rest read = read ≡ Err (e.kind, e.left)

-- the levels of a macroblock's blocks
abbrev pub TellsBlocks : Result (Unit {0}) Stop → List Levels → List Bool → Result (List (List ℤ) × List Bool) (FaultKind × ℕ) → Type 0
TellsBlocks (Ok _) levels rest read = read ≡ Ok (levels_of levels, rest)
TellsBlocks (Err e) levels rest read = read ≡ Err (e.kind, e.left)

-- ---- macroblocks

-- what is put changes nothing
abbrev pub PutsNothing : Put → Type 0
PutsNothing put = (at : MbPlace) (new : Plane → ℕ → ℕ → ℕ) (now : Samples) → put at new now ≡ now

-- the rule on what a macroblock and those skipped before it are predicted from that is broken: that they read inside
-- their references comes first
abbrev pub Breaks : SliceSetup → SliceState → MacroSyntax → ℕ → Stop → Type 0
Breaks s st m left e =
    ((all_inside s st m ≡ false) × (e ≡ record { kind = VectorOutside; left = left }))
    ⊎ ((all_inside s st m ≡ true) × (references_decoded s st m ≡ false) × (e ≡ record { kind = MissingReference; left = left }))

-- a macroblock's elements
abbrev pub TellsElements : Result (Unit {0}) Stop → MacroSyntax → List Bool → Result (MacroSyntax × List Bool) (FaultKind × ℕ) → Type 0
TellsElements (Ok _) m rest read = read ≡ Ok (m, rest)
TellsElements (Err e) m rest read = read ≡ Err (e.kind, e.left)

-- a macroblock and the levels of its blocks
abbrev pub TellsMacroblock : Result (Unit {0}) Stop → MacroSyntax → List Levels → List Bool → Result (Macroblock × List Bool) (FaultKind × ℕ) → Type 0
TellsMacroblock (Ok _) m levels rest read = read ≡ Ok (macroblock_of m levels, rest)
TellsMacroblock (Err e) m levels rest read = read ≡ Err (e.kind, e.left)

-- what a picture is predicted from, as the views show it
abbrev pub seen_by : View → View → References
seen_by forward backward = record { forward = forward; backward = backward }

-- One macroblock was read and put, with those skipped before it: whether another follows, whether it is large, and the
-- state.
abbrev pub TellsRound : Put → SliceSetup → References → SliceState → List Bool → Samples → Result Round Stop → SliceState → List Bool → Samples → Type 0
TellsRound put s refs st old before (Ok r) z new now =
    (x : Macroblock) × ((macroblock_at s st).read old ≡ Ok (x, new)) × (not (all_zero new) ≡ r.more) × (is_large (length old - length new) ≡ r.large)
    × (z ≡ after_macroblock s.context st x) × (now ≡ painted put s refs st x before)
TellsRound put s refs st old before (Err e) z new now = (macroblock_at s st).read old ≡ Err (e.kind, e.left)

-- ---- slices

-- the macroblocks of a slice: the state behind the last one, and how many are large
abbrev pub TellsRow : Put → SliceSetup → References → SliceState → List Bool → Samples → Result (SliceState × ℕ) Stop → List Bool → Samples → Type 0
TellsRow put s refs st old before (Ok z) new now =
    (r : Row) × ((macroblocks_at s (record { state = st; macroblocks = []; bits = [] })).read old ≡ Ok (r, new)) × (z.0 ≡ r.state)
    × (z.1 ≡ length (filter is_large r.bits)) × (now ≡ all_painted put s refs st r.macroblocks before)
TellsRow put s refs st old before (Err e) new now = (macroblocks_at s (record { state = st; macroblocks = []; bits = [] })).read old ≡ Err (e.kind, e.left)

-- a slice of a row: the address behind its last macroblock, how many of them are large, and its samples
abbrev pub TellsSlice : Put → SliceSetup → References → ℕ → ℕ → List Bool → Samples → Result SliceEnd Stop → List Bool → Samples → Type 0
TellsSlice put s refs covered row old before (Ok end) new now =
    (x : Slice) × ((slice_at s covered row).read old ≡ Ok (x, new)) × (end.covered ≡ x.covered) × (end.large ≡ large_in x)
    × (now ≡ all_painted put s refs (slice_start s.context row covered x.info.quantiser) x.macroblocks before)
TellsSlice put s refs covered row old before (Err e) new now = (slice_at s covered row).read old ≡ Err (e.kind, e.left)

-- a slice of a row was read: the address behind its last macroblock, and how many of them are large; or the fault and its
-- place
abbrev pub PassesSlice : SliceSetup → ℕ → ℕ → List Bool → Result SliceEnd Stop → List Bool → Type 0
PassesSlice s covered row old (Ok end) new = (x : Slice) × ((slice_at s covered row).read old ≡ Ok (x, new)) × (end.covered ≡ x.covered) × (end.large ≡ large_in x)
PassesSlice s covered row old (Err e) new = (slice_at s covered row).read old ≡ Err (e.kind, e.left)
