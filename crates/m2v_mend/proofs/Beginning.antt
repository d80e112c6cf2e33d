-- A strand without a byte.
use Rattle.std.proofs.Common.{inl, Bool, [], None, refl, sym, subst}
use Rattle.std.proofs.Math.Bool.{or-true}
use Rattle.m2v_model.specs.Units.{Units}
use Rattle.m2v_law_seam.specs.Strands.{all_stand}
use Rattle.m2v_law_seam.proofs.Placing.{no_units}
use Rattle.m2v_decode.specs.Decoding as decoding
use Rattle.m2v_decode.proofs.Following.{follows_none}
use Rattle.m2v_decode.proofs.Showing.{shows_none}
use Rattle.m2v_mend.specs.Strand.{nothing_of, HasCome, IsAt}

come_none : (opening : Bool) → HasCome [] [] decoding.at_start (nothing_of opening)
unfolding all_stand
come_none opening = record { has = (refl, refl); anchors = refl; stands = refl; shows = λ low agree. shows_none low None []; shown = refl }

pub nothing_is : (opening : Bool) → IsAt (nothing_of opening) []
nothing_is opening = record {
  decoder = decoding.at_start;
  follows = follows_none;
  events = [];
  come = subst (λ (us : Units). HasCome us [] decoding.at_start (nothing_of opening)) (sym no_units) (come_none opening);
  can = inl refl;
  paired = refl;
  rule = or-true opening;
  length_is = refl;
}
