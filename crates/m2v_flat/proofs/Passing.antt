-- What follows for settings that passed the flat profile's part of the test.
use Rattle.std.proofs.Common.{ℕ, ◌*◌, ◌≤◌, sym, ◌∙◌, ap, arith}
use Rattle.std.proofs.lemmas.Bool.{leb-true}
use Rattle.m2v_plane.specs.declared.dims.Dims.{Dims}
use Rattle.m2v_set.specs.declared.settings.Scan.TheVariants.{Progressive}
use Rattle.m2v_set.specs.declared.settings.Level.TheVariants.{Main}
use Rattle.m2v_set.specs.Numbers.{limits_of, frame_time}
use Rattle.m2v_set.specs.Rules.{is_progressive, quantiser_rules, FlatPasses}
use Rattle.m2v_set.proofs.Judged.{flat_in_turn}
use Rattle.m2v_set.proofs.Facts.{and_then-first, and_then-next, all_hold, in_frame}
use Rattle.m2v_flat.specs.declared.settings.FlatSettings.{FlatSettings}
use Rattle.m2v_flat.specs.Answers.{HasPassed}

-- the bounds of main level, and those of the quantiser
pub record InBounds (width height code quantiser : ℕ) : Type 0 where
  pub width_least : 2 ≤ width
  pub width_most : width ≤ 720
  pub height_least : 2 ≤ height
  pub height_most : height ≤ 576
  pub code_least : 1 ≤ code
  pub code_most : code ≤ 5
  pub luma : 720000 * width * height ≤ 10368000 * frame_time code
  pub quantiser_least : 1 ≤ quantiser
  pub quantiser_most : quantiser ≤ 31

pub in_bounds : (width height code quantiser : ℕ) → FlatPasses width height code quantiser → InBounds width height code quantiser
unfolding quantiser_rules limits_of is_progressive
in_bounds width height code quantiser passes =
    let parts = sym (flat_in_turn width height code quantiser) ∙ passes in
    let f = in_frame (limits_of Main) Progressive width height code (and_then-first _ _ parts) in
    let q = all_hold (quantiser_rules quantiser) (and_then-next _ _ parts) in
    record {
      width_least = f.wide;
      width_most = f.width;
      height_least = f.tall;
      height_most = f.height;
      code_least = f.code;
      code_most = f.codes;
      luma = f.luma;
      quantiser_least = leb-true _ _ q.0;
      quantiser_most = leb-true _ _ q.1.0;
    }

-- the macroblocks of settings that passed
pub record IsSmall (s : FlatSettings) : Type 0 where
  pub bounds : InBounds s.dims.width s.dims.height s.rate_code s.quantiser
  pub rows : s.dims.mb_rows ≤ 36
  pub columns : s.dims.mb_width ≤ 45

pub is_small : (s : FlatSettings) → HasPassed s → IsSmall s
is_small s h =
    let bounds = in_bounds s.dims.width s.dims.height s.rate_code s.quantiser h.passes in
    let rows = ap (λ (d : Dims). d.mb_rows) h.dims in
    let columns = ap (λ (d : Dims). d.mb_width) h.dims in
    record {
      bounds = bounds;
      rows = omega (arith, rows, bounds.height_most);
      columns = omega (arith, columns, bounds.width_most);
    }
