-- Worked values: texts of held macroblocks, bit by bit, and where a macroblock may be skipped.
use Rattle.std.specs.Prelude.{ℕ, ◌≡◌, ◌+◌, Bool, true, false, nat_eq, ◌||◌, List, [], ◌∷◌, length, None, pos, neg_ℤ}
use Rattle.m2v_bits.specs.Bits.{bits_of}
use Rattle.m2v_quant.specs.Matrices.{default_matrix}
use Rattle.m2v_vector.specs.declared.predictors.Pmv.{Pmv}
use Rattle.m2v_vector.specs.Predictors.{zero}
use Rattle.m2v_macro.specs.declared.values.SliceState.{SliceState}
use Rattle.m2v_macro.specs.declared.values.PictureContext.{PictureContext}
use Rattle.m2v_macro.specs.States.{at_start}
use Rattle.m2v_macroblock.specs.Texts.{macroblock_text}
use Rattle.m2v_choose.specs.Decisions.{Decision}
use Rattle.m2v_choose.specs.Candidates.{hold, may_skip}
use Rattle.m2v_choose.specs.Own.{own_f_codes}

-- a picture of so many macroblock columns: its type, its structure, and frame_pred_frame_dct
unfoldable pub picture : ℕ → ℕ → Bool → ℕ → PictureContext
picture kind structure frame_pred_frame_dct columns = record {
  kind = kind;
  second = nat_eq structure 2;
  columns = columns;
  extension = record {
    f_code = own_f_codes (nat_eq kind 2 || nat_eq kind 3) ∷ own_f_codes (nat_eq kind 3) ∷ [];
    dc_precision = 0;
    structure = structure;
    top_field_first = false;
    frame_pred_frame_dct = frame_pred_frame_dct;
    concealment = false;
    q_scale_type = false;
    intra_vlc_format = false;
    alternate_scan = false;
    repeat_first_field = false;
    chroma_420_type = frame_pred_frame_dct;
    progressive_frame = frame_pred_frame_dct;
    composite = None;
  };
  intra = default_matrix true;
  non_intra = default_matrix false;
}

-- behind the slice's first macroblock, with predictors of vectors
unfoldable pub behind_first : PictureContext → Pmv → SliceState
behind_first c pmv = record (at_start c 0 8 0) { pmv = pmv; first = false; address = pos 0 }

-- the decision of a macroblock of the first row
unfoldable pub decision : PictureContext → SliceState → ℕ → Decision
decision c st column = record {
  dims = record { width = 720; height = 16; mb_width = 45; mb_rows = 1 };
  source = [];
  forward = λ plane lines line c. 0;
  backward = λ plane lines line c. 0;
  context = c;
  state = st;
  limits = record { q = 8; search = 15; room = 4608; first = nat_eq column 0; last = nat_eq (column + 1) c.columns; column = column; row = 0 };
}

-- hold at the start of a slice
abbrev pub held_first : PictureContext → List Bool
held_first c = macroblock_text c (at_start c 0 8 0) (hold (decision c (at_start c 0 8 0) 0)).macroblock

-- hold in a later column, where all macroblocks between are skipped
abbrev pub held_later : PictureContext → Pmv → ℕ → List Bool
held_later c pmv column = macroblock_text c (behind_first c pmv) (hold (decision c (behind_first c pmv) column)).macroblock

-- the predictors that a vector far to the left and up leaves
abbrev pub far : Pmv
far = record {
  at =
      ((neg_ℤ (pos 31) ∷ neg_ℤ (pos 31) ∷ []) ∷ (pos 0 ∷ pos 0 ∷ []) ∷ [])
      ∷ ((neg_ℤ (pos 31) ∷ neg_ℤ (pos 31) ∷ []) ∷ (pos 0 ∷ pos 0 ∷ []) ∷ []) ∷ [];
}

pub record WorkedRows : Type 0 where
  -- 1, 1, four times 100 10, twice 00 10
  pub intra : held_first (picture 1 3 true 1) ≡ bits_of 30 0x394A5222
  -- 1, 001, 1 1
  pub forward : held_first (picture 2 3 true 1) ≡ bits_of 6 0x27
  -- an escape and 11, 001, 1 1
  pub gap : held_later (picture 2 3 true 45) zero 44 ≡ bits_of 24 0x010147
  -- 1, 010, motion type 01, the bottom field, 1 1
  pub field : held_first (picture 3 2 false 1) ≡ bits_of 9 0x14F
  -- all of the 31 bits
  pub most_intra : length (held_first (picture 1 3 false 1)) ≡ 31
  pub most_forward : length (held_later (picture 2 1 false 45) far 1) ≡ 31
  -- a macroblock in the middle of a slice of a P picture may be skipped, the first one and the last one may not
  pub skip : may_skip (decision (picture 2 3 true 45) (behind_first (picture 2 3 true 45) zero) 1) ≡ true
  pub first : may_skip (decision (picture 2 3 true 45) (at_start (picture 2 3 true 45) 0 8 0) 0) ≡ false
  pub last : may_skip (decision (picture 2 3 true 45) (behind_first (picture 2 3 true 45) zero) 44) ≡ false
  -- nor one of an I picture
  pub none : may_skip (decision (picture 1 3 true 45) (behind_first (picture 1 3 true 45) zero) 1) ≡ false
