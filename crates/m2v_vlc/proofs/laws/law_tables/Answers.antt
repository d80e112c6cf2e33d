use Rattle.m2v_vlc.specs.Coefficients.{same_coefficient, first_zero}
use Rattle.m2v_vlc.proofs.ValueLaws.{number_reflexive, increment_reflexive, signed_reflexive, type_reflexive}
use Rattle.m2v_vlc.proofs.Places.{coefficient_reflexive}
use Rattle.m2v_vlc.proofs.Increments.{increment_checked}
use Rattle.m2v_vlc.proofs.MbTypes.{type_i_checked, type_p_checked, type_b_checked}
use Rattle.m2v_vlc.proofs.Patterns.{pattern_checked}
use Rattle.m2v_vlc.proofs.Motions.{motion_checked, dmv_checked}
use Rattle.m2v_vlc.proofs.Sizes.{dc_luma_checked, dc_chroma_checked}
use Rattle.m2v_vlc.proofs.Coefficients.{zero_pointed, one_pointed}
use Rattle.m2v_vlc.proofs.Firsts.{first_zero_free, first_zero_single}
use Rattle.m2v_vlc.proofs.TableLaws.{prefix_table, prefix_of}
use Rattle.m2v_vlc.proofs.laws.law_tables.Goals as goal

pub returns : goal.returns
returns c = record {
  increment = prefix_of increment_checked increment_reflexive;
  type_i = prefix_of type_i_checked type_reflexive;
  type_p = prefix_of type_p_checked type_reflexive;
  type_b = prefix_of type_b_checked type_reflexive;
  pattern = prefix_of pattern_checked number_reflexive;
  motion = prefix_of motion_checked signed_reflexive;
  dmv = prefix_of dmv_checked signed_reflexive;
  dc_luma = prefix_of dc_luma_checked number_reflexive;
  dc_chroma = prefix_of dc_chroma_checked number_reflexive;
  coefficient_zero = prefix_of zero_pointed.checked coefficient_reflexive;
  first_zero = prefix_table same_coefficient first_zero coefficient_reflexive first_zero_single first_zero_free;
  coefficient_one = prefix_of one_pointed.checked coefficient_reflexive;
}
