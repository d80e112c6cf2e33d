use Rattle.m2v_bits.proofs.Outputs.{gains_on}
use Rattle.m2v_macro.specs.Texts.{modes_text}
use Rattle.m2v_macro.proofs.write.put_modes.Goals as goal

pub returns : goal.returns
unfolding modes_text
returns g c = gains_on c.put_step.ensures (gains_on c.put_kind.ensures (gains_on c.put_form.ensures (gains_on c.put_dct.ensures c.put_quantiser.ensures)))
