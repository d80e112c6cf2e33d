-- What the laws of macroblocks say.
use Rattle.std.specs.Prelude.{ℕ, ◌*◌, ℤ, pos, neg_ℤ}
use Rattle.m2v_bits.specs.Syntax.{Spells}
use Rattle.m2v_vector.specs.Vectors.{scale}
use Rattle.m2v_macro.specs.Vectors.{component_at}
use Rattle.m2v_macro.specs.Texts.{difference_text}

-- one component of a vector is spelled by the differences 16 f and -16 f alike
pub record TwoTexts (f_code : ℕ) (predictor : ℤ) : Type 0 where
  pub vector : ℤ
  pub high : Spells (component_at f_code predictor) vector (difference_text f_code (pos (16 * scale f_code)))
  pub low : Spells (component_at f_code predictor) vector (difference_text f_code (neg_ℤ (pos (16 * scale f_code))))
