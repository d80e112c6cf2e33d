use Rattle.std.proofs.Common.{◌∙◌, ap}
use Rattle.m2v_dec_batch.specs.Batches.{headers}
use Rattle.m2v_dec_batch.specs.Works.{frame_found}
use Rattle.m2v_dec_batch.proofs.FoundFrames.{places_exist, place_by, found_size, decoded_by, value_by}
use Rattle.m2v_dec_batch.proofs.book.DecodeBook.read_job.Goals as goal

pub frame-older-requires : goal.frame-older-requires
frame-older-requires c =
    let hs = headers c.args.self.now in
    record { place = place_by hs _ _ c.before-anchors.ensures.value.older (places_exist hs c.picture_of_job-p.result c.picture_of_job-p.ensures.picture).0 }

pub frame-newer-requires : goal.frame-newer-requires
frame-newer-requires c =
    let hs = headers c.args.self.now in
    record { place = place_by hs _ _ c.before-anchors.ensures.value.newer (places_exist hs c.picture_of_job-p.result c.picture_of_job-p.ensures.picture).1 }

pub frame-first-requires : goal.frame-first-requires
frame-first-requires c =
    let hs = headers c.args.self.now in
    record { place = place_by hs _ _ c.first_field.ensures.value (places_exist hs c.picture_of_job-p.result c.picture_of_job-p.ensures.picture).2 }

pub read_by-requires-clause-older : goal.read_by-requires-clause-older
read_by-requires-clause-older c = found_size c.args.self.now c.args.cache.now _ c.frame-older.result.now c.pictures-batch.ensures.batch
    (place_by (headers c.args.self.now) _ _ c.before-anchors.ensures.value.older (places_exist (headers c.args.self.now) c.picture_of_job-p.result c.picture_of_job-p.ensures.picture).0) c.requires.learned.fits c.frame-older.ensures.value

pub read_by-requires-clause-newer : goal.read_by-requires-clause-newer
read_by-requires-clause-newer c = found_size c.args.self.now c.args.cache.now _ c.frame-newer.result.now c.pictures-batch.ensures.batch
    (place_by (headers c.args.self.now) _ _ c.before-anchors.ensures.value.newer (places_exist (headers c.args.self.now) c.picture_of_job-p.result c.picture_of_job-p.ensures.picture).1) c.requires.learned.fits c.frame-newer.ensures.value

pub read_by-requires-clause-first : goal.read_by-requires-clause-first
read_by-requires-clause-first c = found_size c.args.self.now c.args.cache.now _ c.frame-first.result.now c.pictures-batch.ensures.batch
    (place_by (headers c.args.self.now) _ _ c.first_field.ensures.value (places_exist (headers c.args.self.now) c.picture_of_job-p.result c.picture_of_job-p.ensures.picture).2) c.requires.learned.fits c.frame-first.ensures.value

pub read_by-requires-clause-decoded : goal.read_by-requires-clause-decoded
read_by-requires-clause-decoded c =
    let b = c.args.self.now in
    let found = frame_found b c.args.cache.now in
    decoded_by b c.args.j c.picture_of_job-p.result c.args.cache.now c.frame-older.result.now c.frame-newer.result.now c.frame-first.result.now c.picture_of_job-p.ensures.value c.picture_of_job-p.ensures.picture
    c.pictures-batch.ensures.batch c.requires.learned c.requires.ready (c.frame-older.ensures.value ∙ ap found c.before-anchors.ensures.value.older) (c.frame-newer.ensures.value ∙ ap found c.before-anchors.ensures.value.newer)
    (c.frame-first.ensures.value ∙ ap found c.first_field.ensures.value)

pub returns : goal.returns
returns c =
    let b = c.args.self.now in
    let found = frame_found b c.args.cache.now in
    record {
      value = value_by b c.args.j c.picture_of_job-p.result c.row_of_job.result c.args.cache.now c.frame-older.result.now c.frame-newer.result.now c.frame-first.result.now c.read_by.result c.picture_of_job-p.ensures.value
          c.picture_of_job-p.ensures.picture c.row_of_job.ensures.value c.pictures-batch.ensures.batch c.requires.learned c.requires.ready
          (c.frame-older.ensures.value ∙ ap found c.before-anchors.ensures.value.older) (c.frame-newer.ensures.value ∙ ap found c.before-anchors.ensures.value.newer)
          (c.frame-first.ensures.value ∙ ap found c.first_field.ensures.value) c.read_by.ensures.value;
    }
