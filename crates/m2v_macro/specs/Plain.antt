-- Macroblocks of which one vector of each direction is left as it is.
use Rattle.std.specs.Prelude.{ℕ, Bool, false, cond, ◌&&◌, not, nat_eq, if◌then◌else◌, List, ℤ}
use Rattle.m2v_vector.specs.declared.predictors.Pmv.{Pmv}
use Rattle.m2v_vector.specs.Predictors.{pair_of, left_by}
use Rattle.m2v_macro.specs.declared.values.MacroSyntax.{MacroSyntax}
use Rattle.m2v_macro.specs.declared.values.PictureContext.{PictureContext}
use Rattle.m2v_macro.specs.States.{is_field}

-- it is predicted forward, and has one vector of each direction, of the picture's own lines
abbrev pub is_plain : PictureContext → MacroSyntax → Bool
is_plain c m = not m.kind.intra && (m.kind.forward && nat_eq m.form (cond (is_field c) 1 2))

-- the entry that it leaves of a direction that it has or hasn't
abbrev pub plain_entry : MacroSyntax → Bool → Pmv → ℕ → ℕ → List ℤ
plain_entry m told p entry direction = if told then left_by false (pair_of m.vectors 0 direction) else pair_of p.at entry direction
