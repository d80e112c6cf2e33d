use Rattle.std.proofs.Common.{List, ℕ, subst}
use Rattle.m2v_mend.specs.Kept.{IsUpToZeros}
use Rattle.m2v_mend.proofs.LimitLaws.{fits_is}
use Rattle.m2v_mend.proofs.limits.fits.Goals as goal

pub returns : goal.returns
returns c = fits_is c.args.piece.now c.requires c.up_to_zeros.result (subst (λ (l : List ℕ). IsUpToZeros l c.up_to_zeros.result) c.deref.ensures.value c.up_to_zeros.ensures)
