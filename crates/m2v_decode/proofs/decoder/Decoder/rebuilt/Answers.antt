use Rattle.std.proofs.Common.{false}
use Rattle.std.proofs.lemmas.Bool.{both_ways}
use Rattle.m2v_decode.proofs.OnwardLaws.{can_take, sound_behind, none_behind, onward}
use Rattle.m2v_decode.proofs.decoder.Decoder.rebuilt.Goals as goal

pub take_in-requires-clause-can : goal.take_in-requires-clause-can
take_in-requires-clause-can g c =
    let told = rw (← c.self.view_is) at c.requires.told in
    let going = rw (← c.self.view_is) at c.requires.going in
    let sound = c.self.invariant.going going in
    can_take c.self.inside.course c.args.piece.now c.args.opened.now c.args.after.now sound.0 sound.1 c.requires.one told.0 told.1 told.2 c.requires.opened c.requires.read

pub invariant_of-self-2 : goal.invariant_of-self-2
invariant_of-self-2 g c =
    let told = rw (← c.self.view_is) at c.requires.told in
    let going = rw (← c.self.view_is) at c.requires.going in
    let sound = c.self.invariant.going going in
    let old = c.self.inside.course in
    let p = c.args.piece.now in
    let o = c.args.opened.now in
    let after = c.args.after.now in
    record {
      going = λ still. (
        sound_behind old p o after sound.0 sound.1 c.requires.one told.0 told.1 told.2 c.requires.opened c.requires.read _ c.take_in.new.self c.in_ok-take_in.ensures,
        none_behind old p o after sound.0 sound.1 c.requires.one told.0 told.1 told.2 c.requires.opened c.requires.read _ c.take_in.new.self c.in_ok-take_in.ensures,
      );
      skimming = λ on. absurd (both_ways _ going (c.self.invariant.skimming on).0);
    }

pub returns-clause-ok : goal.returns-clause-ok
returns-clause-ok g c =
    let told = rw (← c.self.view_is) at c.requires.told in
    let going = rw (← c.self.view_is) at c.requires.going in
    let before = rw (← c.self.view_is) at c.requires.before in
    let rows = rw (← c.self.view_is) at c.requires.rows in
    let sound = c.self.invariant.going going in
    let old = c.self.inside.course in
    let p = c.args.piece.now in
    let o = c.args.opened.now in
    rw (← c.self.view_is) (rw before
    (onward old p o c.args.after.now sound.0 sound.1 c.requires.one told.0 told.1 told.2 c.requires.opened c.requires.read (g.R.PictureRows.samples c.args.rows.now) c.requires.whole rows
    c.take_in.new.self false c.self.inside.failed c.self.inside.skims c.self.inside.skims c.in_ok-take_in.ensures))
