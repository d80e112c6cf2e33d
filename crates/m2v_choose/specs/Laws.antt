-- What the laws of choices say.
use Rattle.std.specs.Prelude.{◌≡◌, ◌≤◌, true, if◌then◌else◌, ◌∷◌, filter, All}
use Rattle.m2v_quant.specs.Kinds.{IsLevel}
use Rattle.m2v_macro.specs.declared.values.SliceState.{SliceState}
use Rattle.m2v_macro.specs.declared.values.PictureContext.{PictureContext}
use Rattle.m2v_macro.specs.Conditions.{IsMacro}
use Rattle.m2v_macroblock.specs.Macroblocks.{Macroblock}
use Rattle.m2v_macroblock.specs.Conditions.{AreBlocks}
use Rattle.m2v_macroblock.specs.Modes.{mode_of, skipped_mode}
use Rattle.m2v_pred.specs.Inside.{is_inside}
use Rattle.m2v_search.specs.Least.{IsFirstLeast}
use Rattle.m2v_choose.specs.Decisions.{Decision, Candidate, place_of}
use Rattle.m2v_choose.specs.Candidates.{hold, others}
use Rattle.m2v_choose.specs.Choice.{bits_taken, most_bits, score, fits, candidates, choice_of}

-- the choice is the first of least score
pub record IsFirstOfLeast (d : Decision) : Type 0 where
  -- of hold and of the others that fit
  pub all : IsFirstLeast (score d) (hold d ∷ filter (fits d) (others d)) (choice_of d)
  -- of all candidates that fit, where hold does
  pub fitting : fits d (hold d) ≡ true → IsFirstLeast (score d) (filter (fits d) (candidates d)) (choice_of d)
  -- so hold is taken only where none that fits is better
  pub held : choice_of d ≡ hold d → All (λ x. score d (hold d) ≤ score d x) (filter (fits d) (others d))

-- a candidate is short enough
pub record Fits (d : Decision) (x : Candidate) : Type 0 where
  pub most : bits_taken d x ≤ most_bits
  pub room : bits_taken d x ≤ d.limits.room

-- a macroblock can be written: its elements can stand there, and its coded blocks have levels that blocks of their kind can have
pub record IsWritable (c : PictureContext) (st : SliceState) (x : Macroblock) : Type 0 where
  pub macro : IsMacro c st x.syntax
  pub blocks : AreBlocks c st x
  pub levels : All (All IsLevel) x.levels

-- the prediction of a candidate reads nothing outside its references
abbrev pub StaysInside : Decision → Candidate → Type 0
StaysInside d x = is_inside (if x.skip then skipped_mode d.context d.state else mode_of d.context x.macroblock.syntax) (place_of d) d.dims ≡ true
