-- What slices are read by, where the headers were read.
use Rattle.std.proofs.Common.{arith}
use Rattle.m2v_plane.specs.Sizes.{IsSize}
use Rattle.m2v_model.specs.m2v_macro.Conditions.{is_used}
use Rattle.m2v_model.specs.m2v_macroblock.Conditions.{IsPicture}
use Rattle.m2v_model.specs.declared.state.Sequence.{Sequence}
use Rattle.m2v_model.specs.declared.state.Open.{Open}
use Rattle.m2v_model.specs.declared.state.State.{State}
use Rattle.m2v_model.specs.States.{dims_of, slice_setup}
use Rattle.m2v_dec_unit.specs.declared.header.Header.TheVariants.{Picture}
use Rattle.m2v_dec_unit.specs.Among.{HeaderFits, AreMatrices}

pub context_is : (st : State) (s : Sequence) (p : Open) → AreMatrices st → IsSize (dims_of s) → HeaderFits (Picture p.info p.extension) → IsPicture (slice_setup st s p).context
unfolding slice_setup is_used
context_is st s p matrices size fits = record {
  context = record {
    kind = fits.0.kind;
    structure = fits.1.fits.structure;
    columns = (omega (arith, size.wide), omega (arith, size.width));
    precision = omega (arith, fits.1.fits.dc_precision);
    forward = fits.1.forward;
    backward = fits.1.backward;
  };
  intra = matrices.0;
  non_intra = matrices.1;
}
