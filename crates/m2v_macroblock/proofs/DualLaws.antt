-- The vectors of dual prime are small enough for their opposite ones.
use Rattle.std.proofs.Common.{◌≡◌, ℕ, ◌≤◌, pos, negsuc, ℤ, refl, sym, subst, ◌∙◌, arith, inl, inr}
use Rattle.std.specs.Prelude.{◌||◌, slice_index_or}
use Rattle.std.proofs.lemmas.Int.{ints, to_z-of_z}
use mir.Syntax.{w8, w32}
use mir.Val.{SFits, to_z, of_z}
use Rattle.std.proofs.lemmas.Bool.{cases_Bool}
use Rattle.m2v_macro.specs.m2v_vector.Vectors.{scale, IsVector, opposite}
use Rattle.m2v_macro.proofs.m2v_vector.Ranges.{powers}
use Rattle.m2v_macro.specs.declared.values.MacroSyntax.{MacroSyntax}
use Rattle.m2v_macro.specs.declared.values.SliceState.{SliceState}
use Rattle.m2v_macro.specs.declared.values.PictureContext.{PictureContext}
use Rattle.m2v_macro.specs.declared.values.Selected.{Selected}
use Rattle.m2v_macro.specs.Vectors.{shape_of, no_vector}
use Rattle.m2v_macro.specs.Macros.{is_concealed}
use Rattle.m2v_macro.specs.Conditions.{IsContext, IsMacro, IsDm, forward_of}
use Rattle.m2v_macro.proofs.Ready.{used_forward}
use Rattle.m2v_macroblock.specs.Conditions.{IsComponent, IsDual}

component_in : (f_code : ℕ) (v : ℤ) → f_code ≤ 9 → IsVector (scale f_code) v → IsComponent v
component_in f_code v most h = let f = powers f_code most in (omega (arith, ints, h.0, h.1, f.1), omega (arith, ints, h.0, h.1, f.1))

-- a vector and its dmvector
record IsSmall (s : Selected) : Type 0 where
  across : IsComponent (slice_index_or s.vector 0 (pos 0))
  down : IsComponent (slice_index_or s.vector 1 (pos 0))
  dm_across : IsDm (slice_index_or s.dmvector 0 (pos 0))
  dm_down : IsDm (slice_index_or s.dmvector 1 (pos 0))

none_small : IsSmall no_vector
none_small = record {
  across = (omega (arith, ints), omega (arith, ints));
  down = (omega (arith, ints), omega (arith, ints));
  dm_across = (omega (arith, ints), omega (arith, ints));
  dm_down = (omega (arith, ints), omega (arith, ints));
}

first_small : (c : PictureContext) (st : SliceState) (m : MacroSyntax) → IsContext c → IsMacro c st m → m.form ≡ 3 → IsSmall (forward_of m).first
unfolding shape_of
first_small c st m k h dual = elim (cases_Bool (m.kind.forward || is_concealed c m.kind)) [
  | inl told ↦
      let s = k.forward (used_forward c m.kind h.kind told) in
      let f = h.forward.first told in
      let d = f.dm (rw dual refl) in
      record {
        across = component_in _ _ s.horizontal.1 f.vector.horizontal;
        down = component_in _ _ s.vertical.1 f.vector.vertical;
        dm_across = d.0;
        dm_down = d.1;
      }
  | inr none ↦ subst (λ (s : Selected). IsSmall s) (sym (h.forward.none none).0) none_small
]

pub dual_is : (c : PictureContext) (st : SliceState) (m : MacroSyntax) → IsContext c → IsMacro c st m → m.form ≡ 3 → IsDual m
dual_is c st m k h dual =
    let s = first_small c st m k h dual in
    record { across = s.across; down = s.down; dm_across = s.dm_across; dm_down = s.dm_down }

dm_fits : (d : ℤ) → IsDm d → SFits w8 d
dm_fits (pos n) h = record { sfits = omega (arith, ints, h.0, h.1) }
dm_fits (negsuc n) h = record { sfits = omega (arith, ints, h.0, h.1) }

-- an opposite component, of numbers as they are handed on
pub opposite_passed : (v d factor correction r : ℤ) → SFits w32 v → SFits w32 d → SFits w32 factor → SFits w32 correction → IsDm d
    → r ≡ opposite (to_z w32 (of_z w32 v)) (to_z w8 (of_z w8 (to_z w32 (of_z w32 d)))) (to_z w32 (of_z w32 factor)) (to_z w32 (of_z w32 correction)) → r ≡ opposite v d factor correction
opposite_passed v d factor correction r fv fd ff fc dm e =
    e ∙ rw (to_z-of_z w32 v fv, to_z-of_z w32 d fd, to_z-of_z w8 d (dm_fits d dm), to_z-of_z w32 factor ff, to_z-of_z w32 correction fc) refl
