-- What holds of the pictures that this encoder writes, and of the states in their slices.
use Rattle.std.specs.Prelude.{ℕ, ◌≡◌, ◌≤◌, Bool, true, false, cond, ◌||◌, nat_eq, List, [], ◌∷◌, ℤ, pos, neg_ℤ, ◌≤ℤ◌}
use Rattle.m2v_quant.specs.Matrices.{default_matrix}
use Rattle.m2v_vector.specs.Predictors.{number_of}
use Rattle.m2v_macro.specs.declared.values.SliceState.{SliceState}
use Rattle.m2v_macro.specs.declared.values.PictureContext.{PictureContext}
use Rattle.m2v_choose.specs.declared.values.Limits.{Limits}

-- the f_codes of a direction: 2 where vectors of it occur, which reach 31 half samples, and 15 where none does (clause
-- 6.3.10)
abbrev pub own_f_codes : Bool → List ℕ
own_f_codes occur = cond occur 2 15 ∷ cond occur 2 15 ∷ []

-- the headers are those of this encoder: 8 bits of DC, no concealment vectors, the linear quantiser scale, table B.14 in all
-- blocks, and the default matrices
pub record IsOwn (c : PictureContext) : Type 0 where
  pub kind : (1 ≤ c.kind) × (c.kind ≤ 3)
  pub structure : (1 ≤ c.extension.structure) × (c.extension.structure ≤ 3)
  pub columns : (1 ≤ c.columns) × (c.columns ≤ 120)
  pub f_code : c.extension.f_code ≡ own_f_codes (nat_eq c.kind 2 || nat_eq c.kind 3) ∷ own_f_codes (nat_eq c.kind 3) ∷ []
  pub precision : c.extension.dc_precision ≡ 0
  pub concealment : c.extension.concealment ≡ false
  pub scale : c.extension.q_scale_type ≡ false
  pub table : c.extension.intra_vlc_format ≡ false
  pub intra : c.intra ≡ default_matrix true
  pub non_intra : c.non_intra ≡ default_matrix false

-- predictors of vectors that a search of at most 15 samples leaves: a field vector of a frame counts twice, but reaches half
-- as far
abbrev pub AreNear : List (List (List ℤ)) → Type 0
AreNear at =
    (entry direction component : ℕ) → (neg_ℤ (pos 31) ≤ℤ number_of at entry direction component) × (number_of at entry direction component ≤ℤ pos 31)

-- a quantiser code (clause 6.3.17)
abbrev pub IsCode : ℕ → Type 0
IsCode q = (1 ≤ q) × (q ≤ 31)

-- a state in a slice of this encoder
pub record IsOwnState (st : SliceState) : Type 0 where
  pub predictors : AreNear st.pmv.at
  pub quantiser : IsCode st.quantiser

-- limits of this encoder
pub record AreLimits (limits : Limits) : Type 0 where
  pub q : IsCode limits.q
  pub search : limits.search ≤ 15
