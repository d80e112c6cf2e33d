use Rattle.std.proofs.Common.{ℕ, ◌≡◌, length, List, []}
use Rattle.std.specs.Prelude.{filter}
use Rattle.m2v_pred.specs.declared.mode.MbPlace.{MbPlace}
use Rattle.m2v_macroblock.specs.Macroblocks.{Macroblock}
use Rattle.m2v_model.specs.Slices.{macroblocks_at, is_large}
use Rattle.m2v_dec_picture.specs.Conditions.{IsState, AreSliceKinds, AreFew}
use Rattle.m2v_dec_picture.specs.Reads.{seen_by}
use Rattle.m2v_dec_picture.proofs.RowLaws.{Left}
use Rattle.m2v_dec_picture.proofs.macroblocks.macroblocks.Given as goal

abbrev pub invariant-loop-r : goal.invariant-loop-r
invariant-loop-r g l = record {
  macroblocks : (xs : List Macroblock) × (bs : List ℕ)
      × ((macroblocks_at l.basis.setup.now (record { state = l.state; macroblocks = xs; bits = bs })).read l.input.rest ≡ (macroblocks_at l.basis.setup.now (record { state = l.fn.first; macroblocks = []; bits = [] })).read l.fn.input.rest)
      × Left g.T.Target.placed l.basis.setup.now (seen_by (g.V.RefView.at l.basis.forward.now) (g.V.RefView.at l.basis.backward.now)) l.fn.first (g.T.Target.samples l.fn.out) xs l.state (g.T.Target.samples l.out)
      × (l.large ≡ length (filter is_large bs));
  state : IsState l.basis.setup.now.context l.row l.state;
  kinds : AreSliceKinds l.basis.setup.now.context l.kinds;
  few : AreFew l.fn.first.next l.state l.large;
  text : l.input.text ≡ l.fn.input.text;
  takes : (p : MbPlace) → g.T.Target.Takes l.fn.out p → g.T.Target.Takes l.out p;
}

abbrev pub decreases-loop-r : goal.decreases-loop-r
decreases-loop-r g l = length l.input.rest
