-- The rules on what predictions read: it lies inside the reference, and it was decoded (clauses 7.6.2 and 7.6.3.8).
use Rattle.std.specs.Prelude.{ℕ, ◌+◌, Bool, false, ◌&&◌, ◌||◌, not, nat_eq, List, slice_index_or}
use Rattle.std.specs.List.{list_all, range_with_len}
use Rattle.m2v_order.specs.m2v_plane.Fields.{lines_there}
use Rattle.m2v_macroblock.specs.m2v_pred.declared.mode.Mode.{Mode}
use Rattle.m2v_macroblock.specs.m2v_pred.Motion.{parts_of, lines_read, other_field, own_field, is_dual}
use Rattle.m2v_macroblock.specs.m2v_pred.Patches.{part_count}
use Rattle.m2v_macroblock.specs.m2v_pred.Inside.{is_inside}
use Rattle.m2v_macroblock.specs.m2v_macro.declared.values.MacroSyntax.{MacroSyntax}
use Rattle.m2v_macroblock.specs.m2v_macro.declared.values.SliceState.{SliceState}
use Rattle.m2v_macroblock.specs.Modes.{place_of, address_of, skipped_before, first_skipped, skipped_mode, mode_of}
use Rattle.m2v_model.specs.declared.setup.SliceSetup.{SliceSetup}

-- what a part of a macroblock reads in a direction was decoded, where the top field and the bottom field of the reference
-- were or weren't; dual prime reads the field of the other parity too
unfoldable pub part_decoded : Bool → Bool → Mode → ℕ → ℕ → ℕ → Bool
part_decoded top bottom mode direction structure part =
    lines_there top bottom (lines_read mode.form mode direction structure part)
    && (not (is_dual mode.form) || lines_there top bottom (other_field (own_field structure part)))

unfoldable pub direction_decoded : Bool → Bool → Mode → ℕ → ℕ → Bool
direction_decoded top bottom mode direction structure =
    part_decoded top bottom mode direction structure 0
    && (nat_eq (part_count (parts_of mode.form structure)) 1 || part_decoded top bottom mode direction structure 1)

-- the fields that a macroblock is predicted from were decoded
unfoldable pub is_decoded : List Bool → ℕ → Mode → Bool
is_decoded references structure mode =
    (not mode.forward || direction_decoded (slice_index_or references 0 false) (slice_index_or references 1 false) mode 0 structure)
    && (not mode.backward || direction_decoded (slice_index_or references 2 false) (slice_index_or references 3 false) mode 1 structure)

-- the predictions of a macroblock and of those skipped before it read inside their references
unfoldable pub all_inside : SliceSetup → SliceState → MacroSyntax → Bool
all_inside s st m =
    list_all (λ k. is_inside (skipped_mode s.context st) (place_of s.context (first_skipped st + k)) s.dims) (range_with_len 0 (skipped_before st m))
    && is_inside (mode_of s.context m) (place_of s.context (address_of st m)) s.dims

-- and what they read was decoded
unfoldable pub references_decoded : SliceSetup → SliceState → MacroSyntax → Bool
references_decoded s st m =
    (nat_eq (skipped_before st m) 0 || is_decoded s.references s.context.extension.structure (skipped_mode s.context st))
    && is_decoded s.references s.context.extension.structure (mode_of s.context m)
