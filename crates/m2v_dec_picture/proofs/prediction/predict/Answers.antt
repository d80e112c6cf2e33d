use Rattle.std.proofs.Common.{subst, sym, false, ◌||◌, not}
use Rattle.std.specs.Prelude.{slice_index_or}
use Rattle.std.proofs.lemmas.Bool.{and_parts}
use Rattle.m2v_pred.specs.Vectors.{IsInside}
use Rattle.m2v_model.specs.Modes.{is_decoded, direction_decoded}
use Rattle.m2v_dec_picture.proofs.Held.{held_read, has_direction, read_size}
use Rattle.m2v_pred.proofs.Tested.{inside_is}
use Rattle.m2v_dec_picture.proofs.prediction.predict.Goals as goal

pub predict_in-requires-clause-inside : goal.predict_in-requires-clause-inside
predict_in-requires-clause-inside g c =
    let s = c.args.basis.now.setup.now in
    let size = read_size c.args.mode.now s.dims (g.V.RefView.size c.args.basis.now.forward.now) (g.V.RefView.size c.args.basis.now.backward.now) c.requires.references.0.size_is c.requires.references.1.size_is in
    subst (IsInside c.args.mode.now c.args.at) (sym size) (inside_is c.args.mode.now c.args.at s.dims c.requires.can.inside)

pub predict_in-requires-clause-forward : goal.predict_in-requires-clause-forward
unfolding is_decoded
predict_in-requires-clause-forward g c = λ has.
    let s = c.args.basis.now.setup.now in
    let mode = c.args.mode.now in
    let at = c.args.at in
    let top = slice_index_or s.references 0 false in
    let bottom = slice_index_or s.references 1 false in
    let f = direction_decoded top bottom mode 0 at.structure in
    let b = direction_decoded (slice_index_or s.references 2 false) (slice_index_or s.references 3 false) mode 1 at.structure in
    let p = and_parts (not mode.forward || f) (not mode.backward || b) c.requires.can.decoded in
    held_read s (g.V.RefView.size c.args.basis.now.forward.now) (g.V.RefView.Holds c.args.basis.now.forward.now) top bottom mode 0 at c.requires.references.0
    ((inside_is mode at s.dims c.requires.can.inside).forward has) (has_direction mode.forward f has p.0)

pub predict_in-requires-clause-backward : goal.predict_in-requires-clause-backward
unfolding is_decoded
predict_in-requires-clause-backward g c = λ has.
    let s = c.args.basis.now.setup.now in
    let mode = c.args.mode.now in
    let at = c.args.at in
    let top = slice_index_or s.references 2 false in
    let bottom = slice_index_or s.references 3 false in
    let f = direction_decoded (slice_index_or s.references 0 false) (slice_index_or s.references 1 false) mode 0 at.structure in
    let b = direction_decoded top bottom mode 1 at.structure in
    let p = and_parts (not mode.forward || f) (not mode.backward || b) c.requires.can.decoded in
    held_read s (g.V.RefView.size c.args.basis.now.backward.now) (g.V.RefView.Holds c.args.basis.now.backward.now) top bottom mode 1 at c.requires.references.1
    ((inside_is mode at s.dims c.requires.can.inside).backward has) (has_direction mode.backward b has p.1)
