use Rattle.std.proofs.Common.{rules, ◌≡◌, ◌<◌, length, subst, IsTrue}
use Rattle.m2v_dec_batch.specs.Batches.{IsBatch}
use Rattle.m2v_dec_batch.specs.Filled.{Follows}
use Rattle.m2v_dec_batch.proofs.Appending.{taken, room_by, size_by, follows_by, fields_from}
use Rattle.m2v_dec_batch.proofs.filling.Filling.fits.Goals as goal

pub returns-clause-batch : goal.returns-clause-batch
returns-clause-batch c =
    let b = c.args.self.now in
    let batch : IsBatch c.args.self.now = c.has_place.ensures.batch in
    let few : length c.args.self.now.pictures < 16 = search rules in
    let size : c.args.opened.now.dims ≡ c.args.self.now.dims = search rules in
    let follows : Follows c.args.self.now c.header_of-header.result = search rules in
    λ t p opened.
    taken b p c.args.opened.now c.header_of-header.result c.reading_of.result c.at_hand.result batch few size c.header_of-header.ensures.value c.reading_of.ensures.value
    c.at_hand.ensures.value follows (c.has_fields.ensures.fields.0 t) opened

pub returns-clause-every : goal.returns-clause-every
returns-clause-every c = λ p h.
    c.has_fields.ensures.fields.1
    (fields_from c.args.self.now p c.args.opened.now c.header_of-header.result c.reading_of.result c.at_hand.result c.header_of-header.ensures.value c.reading_of.ensures.value c.at_hand.ensures.value h)

pub returns-then-not-has_place-clause-every : goal.returns-then-not-has_place-clause-every
returns-then-not-has_place-clause-every c = λ p h.
    subst IsTrue c.if-not-has_place.true (c.has_place.ensures.every (room_by c.args.self.now p c.args.opened.now h) (size_by c.args.self.now p c.args.opened.now h))

pub returns-then-not-follows-clause-every : goal.returns-then-not-follows-clause-every
returns-then-not-follows-clause-every c = λ p h.
    subst IsTrue c.if-not-follows.true
    (c.follows.ensures.follows.1 (follows_by c.args.self.now p c.args.opened.now c.header_of-header.result c.header_of-header.ensures.value h))
