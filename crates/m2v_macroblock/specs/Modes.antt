-- How macroblocks are predicted (clauses 7.6.2 to 7.6.6), and where they lie.
use Rattle.std.specs.Prelude.{ℕ, ◌-◌, ◌/◌, ◌%◌, Bool, true, false, ◌||◌, cond, nat_eq, if◌then◌else◌, List, [], ◌∷◌, slice_index_or, ℤ, pos, neg_ℤ, nat_abs}
use Rattle.m2v_macro.specs.m2v_vector.Vectors.{opposite}
use Rattle.m2v_macro.specs.m2v_vector.Predictors.{number_of, zero, zeros}
use Rattle.m2v_macro.specs.declared.values.MacroSyntax.{MacroSyntax}
use Rattle.m2v_macro.specs.declared.values.SliceState.{SliceState}
use Rattle.m2v_macro.specs.declared.values.PictureContext.{PictureContext}
use Rattle.m2v_macro.specs.States.{is_field, address, skips}
use Rattle.m2v_recon.specs.m2v_pred.declared.mode.Form.{Form}
use Rattle.m2v_recon.specs.m2v_pred.declared.mode.Form.TheVariants.{Frame, Field, Half, Dual}
use Rattle.m2v_recon.specs.m2v_pred.declared.mode.Mode.{Mode}
use Rattle.m2v_recon.specs.m2v_pred.declared.mode.MbPlace.{MbPlace}
use Rattle.m2v_recon.specs.m2v_pred.Motion.{no_motion}

-- ---- places

-- the place of an address: addresses count macroblocks in raster order, from 0
abbrev pub place_of : PictureContext → ℕ → MbPlace
place_of c at = record { row = at / c.columns; column = at % c.columns; structure = c.extension.structure }

-- the address of a macroblock
abbrev pub address_of : SliceState → MacroSyntax → ℕ
address_of st m = nat_abs (address st m.increment)

-- how many macroblocks are skipped before it, and the address of the first of them
abbrev pub skipped_before : SliceState → MacroSyntax → ℕ
skipped_before st m = if skips st m.increment then m.increment - 1 else 0

abbrev pub first_skipped : SliceState → ℕ
first_skipped st = nat_abs (address st 1)

-- ---- modes

-- the form of a motion type, in a field picture or a frame picture (tables 6-17 and 6-18)
unfoldable pub form_of : Bool → ℕ → Form
form_of field_picture form =
    if nat_eq form 3 then Dual
    else if field_picture then (if nat_eq form 2 then Half else Field)
    else if nat_eq form 1 then Field else Frame

-- the reference fields of a prediction from the field of the same parity, for all vectors
abbrev pub own_parity : PictureContext → List (List Bool)
own_parity c = let own = nat_eq c.extension.structure 2 in (own ∷ own ∷ []) ∷ (own ∷ own ∷ []) ∷ []

-- a prediction without motion type: frame prediction in a frame picture, from the field of the same parity in a field
-- picture
unfoldable pub without_motion_type : PictureContext → Bool → Bool → List (List (List ℤ)) → Mode
without_motion_type c forward backward vectors = record {
  form = if is_field c then Field else Frame;
  forward = forward;
  backward = backward;
  vectors = vectors;
  bottom = own_parity c;
  opposite = zeros ∷ zeros ∷ [];
}

-- forward, by vector 0: a P macroblock without forward motion, and a skipped one (clauses 7.6.3.5 and 7.6.6)
abbrev pub zero_motion : PictureContext → Mode
zero_motion c = without_motion_type c true false zero.at

-- a skipped macroblock in a B picture keeps the directions of the one before, and goes by entry 0 of the predictors
-- (clause 7.6.6)
unfoldable pub skipped_mode : PictureContext → SliceState → Mode
skipped_mode c st = if nat_eq c.kind 3 then without_motion_type c st.forward st.backward st.pmv.at else zero_motion c

-- the opposite vector of dual prime: the factor stands for the distance of the fields, the vertical correction for that
-- of their lines (clause 7.6.3.6, tables 7-11 and 7-12)
abbrev pub opposite_of : MacroSyntax → ℤ → ℤ → List ℤ
opposite_of m factor correction =
    opposite (number_of m.vectors 0 0 0) (slice_index_or m.dmvector 0 (pos 0)) factor (pos 0)
    ∷ opposite (number_of m.vectors 0 0 1) (slice_index_or m.dmvector 1 (pos 0)) factor correction ∷ []

-- in a field picture the one vector, from a field distance of 1; in a frame picture that of the top lines and that of
-- the bottom lines: the field of the other parity lies 1 or 3 fields away, by which field comes first
unfoldable pub opposite_parity_vectors : PictureContext → MacroSyntax → List (List ℤ)
opposite_parity_vectors c m =
    if is_field c
    then opposite_of m (pos 1) (cond (nat_eq c.extension.structure 1) (neg_ℤ (pos 1)) (pos 1)) ∷ zeros ∷ []
    else opposite_of m (cond c.extension.top_field_first (pos 1) (pos 3)) (neg_ℤ (pos 1))
    ∷ opposite_of m (cond c.extension.top_field_first (pos 3) (pos 1)) (pos 1) ∷ []

-- a macroblock with a direction: by its motion type, its vectors and their reference fields; only dual prime has
-- opposite vectors
unfoldable pub told_mode : PictureContext → MacroSyntax → Mode
told_mode c m = record {
  form = form_of (is_field c) m.form;
  forward = m.kind.forward;
  backward = m.kind.backward;
  vectors = m.vectors;
  bottom = m.bottom;
  opposite = if nat_eq m.form 3 then opposite_parity_vectors c m else zeros ∷ zeros ∷ [];
}

-- a macroblock that isn't skipped: an intra one is predicted by nothing, one without a direction by vector 0
unfoldable pub mode_of : PictureContext → MacroSyntax → Mode
mode_of c m = if m.kind.intra then no_motion else if m.kind.forward || m.kind.backward then told_mode c m else zero_motion c
