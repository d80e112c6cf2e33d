-- What macroblocks leave to the next one: addresses, skipped macroblocks, predictors, the quantiser.
use Rattle.std.specs.Prelude.{ℕ, ◌+◌, ◌-◌, ◌*◌, ◌%◌, ◌^◌, Bool, true, false, ◌&&◌, ◌||◌, not, nat_lt, nat_eq, List, replicate, if◌then◌else◌, ℤ, pos, ◌+ℤ◌, ◌-ℤ◌, int_le, unsigned_abs}
use Rattle.m2v_vector.specs.declared.predictors.Pmv.{Pmv}
use Rattle.m2v_vector.specs.declared.predictors.Motion.{Motion}
use Rattle.m2v_vector.specs.Predictors.{zero, predictors_after}
use Rattle.m2v_macro.specs.declared.values.MacroSyntax.{MacroSyntax}
use Rattle.m2v_macro.specs.declared.values.SliceState.{SliceState}
use Rattle.m2v_macro.specs.declared.values.PictureContext.{PictureContext}

-- the picture is a field
abbrev pub is_field : PictureContext → Bool
is_field c = not (nat_eq c.extension.structure 3)

-- ---- addresses (clause 6.3.17)

-- the address before, and the increment
abbrev pub address : SliceState → ℕ → ℤ
address st increment = st.address +ℤ pos increment

-- its column in the row: the first increment of a slice counts from the last macroblock of the row above
unfoldable pub column : PictureContext → SliceState → ℕ → ℕ
column c st increment = if st.first then increment - 1 else unsigned_abs st.address % c.columns + increment

-- the slice doesn't begin past the next uncovered macroblock
unfoldable pub not_past : SliceState → ℕ → Bool
not_past st increment = not st.first || int_le (address st increment) (pos st.next)

-- the macroblock lies in the row, and the slice doesn't begin before the next uncovered macroblock
unfoldable pub in_order : PictureContext → SliceState → ℕ → Bool
in_order c st increment = nat_lt (column c st increment) c.columns && (not st.first || int_le (pos st.next) (address st increment))

-- macroblocks are skipped before it; at a slice's start none are
unfoldable pub skips : SliceState → ℕ → Bool
skips st increment = not st.first && not (nat_eq increment 1)

-- an I picture skips none, and a B picture none behind an intra one (clause 7.6.6)
unfoldable pub may_skip : PictureContext → SliceState → ℕ → Bool
may_skip c st increment = not (skips st increment) || (nat_eq c.kind 2 || (nat_eq c.kind 3 && not st.intra))

-- ---- predictors

-- what skipped macroblocks do to the predictors of vectors: they are not intra and have no vectors
abbrev pub skipped : PictureContext → Motion
skipped c = record {
  field_picture = is_field c;
  kind = c.kind;
  intra = false;
  concealment = c.extension.concealment;
  forward = false;
  backward = false;
  form = 0;
  vectors = zero.at;
}

-- what a macroblock does to them
abbrev pub motion : PictureContext → MacroSyntax → Motion
motion c m = record {
  field_picture = is_field c;
  kind = c.kind;
  intra = m.kind.intra;
  concealment = c.extension.concealment;
  forward = m.kind.forward;
  backward = m.kind.backward;
  form = m.form;
  vectors = m.vectors;
}

-- the predictors of vectors that a macroblock goes by: those behind the macroblocks skipped before it
unfoldable pub pmv_before : PictureContext → SliceState → ℕ → Pmv
pmv_before c st increment = if skips st increment then predictors_after (skipped c) st.pmv else st.pmv

-- the DC predictors as they are reset (clause 7.2.1)
unfoldable pub dc_reset : PictureContext → List ℤ
dc_reset c = replicate 3 (pos (2 ^ (7 + c.extension.dc_precision)))

-- the DC predictors that an intra macroblock's blocks go by: at a skipped macroblock and at one that isn't intra they
-- are reset
unfoldable pub dc_behind : PictureContext → SliceState → MacroSyntax → List ℤ
dc_behind c st m = if m.kind.intra && not (skips st m.increment) then st.dc else dc_reset c

-- ---- states

-- the state at the start of a slice in a row, counted from 0, with the slice header's quantiser code and the next
-- uncovered macroblock
unfoldable pub at_start : PictureContext → ℕ → ℕ → ℕ → SliceState
at_start c row quantiser next = record {
  quantiser = quantiser;
  dc = dc_reset c;
  pmv = zero;
  forward = false;
  backward = false;
  intra = false;
  first = true;
  address = pos (row * c.columns) -ℤ pos 1;
  next = next;
}

-- the state behind a macroblock, but for what its blocks do to the DC predictors
unfoldable pub after : PictureContext → SliceState → MacroSyntax → SliceState
after c st m = record {
  quantiser = if m.kind.quant then m.quantiser else st.quantiser;
  dc = dc_behind c st m;
  pmv = predictors_after (motion c m) (pmv_before c st m.increment);
  forward = m.kind.forward;
  backward = m.kind.backward;
  intra = m.kind.intra;
  first = false;
  address = address st m.increment;
  next = st.next;
}
